use Rattle.std.proofs.Common.{◌∙◌, sym, arith}
use Rattle.std.proofs.lemmas.Bool.{false≢true}
use Rattle.a68_declare.specs.Broken.{IsWrongUnion}
use Rattle.a68_declarers.proofs.Least.{least_found, least_passed, least_all}
use Rattle.a68_declarers.proofs.There.{declarer_there}
use Rattle.a68_declarers.specs.Numbers.{number_at}
use Rattle.a68_declare.proofs.unions.wrong_union.Goals as goal
use Rattle.a68_declare.proofs.unions.wrong_union.Goals.{then-wrong, else-wrong}

pub loop-id-preserved : goal.loop-id-preserved
loop-id-preserved c =
    let tree = c.args.tree.now in
    let P = IsWrongUnion tree c.args.modes.now (number_at c.args.numbers.now) in
    elim c.if-wrong.branch [
      | then-wrong w ↦ rw (w.found-is, w.sooner-found.ensures) (least_found tree P c.loop-id.id c.loop-id.found c.loop-id.invariant (c.in_ok-wrong.ensures.0 w.if-wrong.true))
      | else-wrong w ↦ rw w.found-is (least_passed tree P c.loop-id.id c.loop-id.found c.loop-id.invariant (λ p. false≢true (sym w.if-wrong.false ∙ c.in_ok-wrong.ensures.1 p)))
    ]

pub returns : goal.returns
returns c =
    let tree = c.args.tree.now in
    least_all tree (IsWrongUnion tree c.args.modes.now (number_at c.args.numbers.now)) c.loop-id.id c.loop-id.found c.loop-id.invariant (λ x p. let l = declarer_there tree x p.declarer in omega arith)
