use Rattle.std.proofs.Common.{◌∙◌, sym, arith}
use Rattle.std.proofs.lemmas.Bool.{false≢true}
use Rattle.a68_declarers.proofs.Least.{least_found, least_passed, least_all}
use Rattle.a68_declarers.proofs.There.{declarer_there}
use Rattle.a68_declarers.specs.Words.{IsUndefinedWord}
use Rattle.a68_declarers.proofs.words.undefined_word.Goals as goal
use Rattle.a68_declarers.proofs.words.undefined_word.Goals.{then-is_undefined, else-is_undefined}

pub loop-id-preserved : goal.loop-id-preserved
loop-id-preserved c =
    let tree = c.args.tree.now in
    elim c.if-is_undefined.branch [
      | then-is_undefined w ↦ rw (w.found-is, w.sooner-found.ensures) (least_found tree (IsUndefinedWord tree) c.loop-id.id c.loop-id.found c.loop-id.invariant (c.is_undefined.ensures.0 w.if-is_undefined.true))
      | else-is_undefined w ↦ rw w.found-is (least_passed tree (IsUndefinedWord tree) c.loop-id.id c.loop-id.found c.loop-id.invariant (λ p. false≢true (sym w.if-is_undefined.false ∙ c.is_undefined.ensures.1 p)))
    ]

pub returns : goal.returns
returns c =
    let tree = c.args.tree.now in
    least_all tree (IsUndefinedWord tree) c.loop-id.id c.loop-id.found c.loop-id.invariant (λ x p. let l = declarer_there tree x p.declarer in omega arith)
