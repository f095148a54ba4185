use Rattle.a68_base.specs.declared.refusal.Rule.TheVariants.{N2}
use Rattle.a68_words.specs.Classes.{BreaksAt}
use Rattle.a68_words.proofs.Judging.{undefined_is}
use Rattle.a68_words.proofs.Marking.{first_more}
use Rattle.a68_words.proofs.definitions.Definitions.undefined.Goals as goal

pub loop-i-preserved : goal.loop-i-preserved
loop-i-preserved c =
    let o = c.args.self.now in
    rw c.first-found.ensures (first_more (λ i. BreaksAt o.roles o.names i N2) c.loop-i.i c.loop-i.found c.is_undefined.result c.loop-i.invariant
    (undefined_is o.roles o.names c.loop-i.i c.known.result c.is_undefined.result c.known.ensures c.is_undefined.ensures))
