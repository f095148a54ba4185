use Rattle.std.proofs.Common.{◌∙◌, sym, arith}
use Rattle.std.proofs.lemmas.Bool.{false≢true}
use Rattle.a68_declare.proofs.Judging.{definition_there}
use Rattle.a68_declare.specs.Broken.{IsIllFormed}
use Rattle.a68_declarers.proofs.Least.{least_found, least_passed, least_all}
use Rattle.a68_declarers.specs.Numbers.{number_at}
use Rattle.a68_declare.proofs.formed.ill_definition.Goals as goal
use Rattle.a68_declare.proofs.formed.ill_definition.Goals.{then-ill, else-ill}

pub loop-id-preserved : goal.loop-id-preserved
loop-id-preserved c =
    let tree = c.args.tree.now in
    let P = IsIllFormed tree c.args.modes.now (number_at c.args.numbers.now) in
    elim c.if-ill.branch [
      | then-ill w ↦ rw (w.found-is, w.sooner-found.ensures) (least_found tree P c.loop-id.id c.loop-id.found c.loop-id.invariant (c.in_ok-ill.ensures.0 w.if-ill.true))
      | else-ill w ↦ rw w.found-is (least_passed tree P c.loop-id.id c.loop-id.found c.loop-id.invariant (λ p. false≢true (sym w.if-ill.false ∙ c.in_ok-ill.ensures.1 p)))
    ]

pub returns : goal.returns
returns c =
    let tree = c.args.tree.now in
    least_all tree (IsIllFormed tree c.args.modes.now (number_at c.args.numbers.now)) c.loop-id.id c.loop-id.found c.loop-id.invariant (λ x p. let l = definition_there tree x p.is_definition in omega arith)
