use Rattle.std.proofs.Common.{◌∙◌, sym, arith}
use Rattle.std.proofs.lemmas.Bool.{false≢true}
use Rattle.a68_declarers.proofs.Least.{least_found, least_passed, least_all, outer_found, outer_passed, outer_all}
use Rattle.a68_declarers.proofs.There.{declarer_there}
use Rattle.a68_declarers.specs.Bounds.{HasWrongBounds}
use Rattle.a68_declarers.proofs.bounds.wrong_bounds.Goals as goal
use Rattle.a68_declarers.proofs.bounds.wrong_bounds.Goals.{then-has_wrong_bounds, else-has_wrong_bounds}

pub loop-id-preserved : goal.loop-id-preserved
loop-id-preserved c =
    let tree = c.args.tree.now in
    let least = c.loop-id.invariant.least in
    let first = c.loop-id.invariant.first in
    elim c.if-has_wrong_bounds.branch [
      | then-has_wrong_bounds w ↦ rw (w.found-is, w.sooner-found.ensures) (record {
        least = least_found tree (HasWrongBounds tree) c.loop-id.id c.loop-id.found least (c.has_wrong_bounds.ensures.0 w.if-has_wrong_bounds.true);
        first = outer_found tree (HasWrongBounds tree) c.loop-id.id c.loop-id.found least first;
      })
      | else-has_wrong_bounds w ↦ rw w.found-is (record {
        least = least_passed tree (HasWrongBounds tree) c.loop-id.id c.loop-id.found least (λ p. false≢true (sym w.if-has_wrong_bounds.false ∙ c.has_wrong_bounds.ensures.1 p));
        first = outer_passed tree (HasWrongBounds tree) c.loop-id.id c.loop-id.found first (λ p. false≢true (sym w.if-has_wrong_bounds.false ∙ c.has_wrong_bounds.ensures.1 p));
      })
    ]

pub returns-clause-least : goal.returns-clause-least
returns-clause-least c =
    let tree = c.args.tree.now in
    least_all tree (HasWrongBounds tree) c.loop-id.id c.loop-id.found c.loop-id.invariant.least (λ x p. let l = declarer_there tree x p.declarer in omega arith)

pub returns-clause-first : goal.returns-clause-first
returns-clause-first c =
    let tree = c.args.tree.now in
    outer_all tree (HasWrongBounds tree) c.loop-id.id c.loop-id.found c.loop-id.invariant.first (λ x p. let l = declarer_there tree x p.declarer in omega arith)
