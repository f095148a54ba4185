use Rattle.a68_base.specs.declared.refusal.Rule.TheVariants.{S4}
use Rattle.a68_words.specs.Classes.{BreaksAt}
use Rattle.a68_words.proofs.Judging.{differs_is}
use Rattle.a68_words.proofs.Marking.{first_more}
use Rattle.a68_words.proofs.definitions.Definitions.differs.Goals as goal

pub loop-i-preserved : goal.loop-i-preserved
loop-i-preserved c =
    let o = c.args.self.now in
    rw c.first-found.ensures (first_more (λ i. BreaksAt o.roles o.names i S4) c.loop-i.i c.loop-i.found c.differs.result c.loop-i.invariant
    (differs_is o.roles o.names c.loop-i.i c.known.result c.differs.result c.known.ensures c.differs.ensures))
