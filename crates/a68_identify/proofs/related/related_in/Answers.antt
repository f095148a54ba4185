use Rattle.std.proofs.Common.{◌≡◌, ◌<◌, length, arith, sym, ◌∙◌, subst}
use Rattle.std.proofs.lemmas.Bool.{false≢true}
use Rattle.a68_identify.proofs.Preceding.{least_late, least_not_late}
use Rattle.a68_identify.specs.Operators.{IsRelatedIn}
use Rattle.a68_ranges.proofs.Taking.{read}
use Rattle.a68_ranges.specs.Indexed.{IsLeast}
use Rattle.a68_identify.proofs.related.related_in.Goals as goal
use Rattle.a68_identify.proofs.related.related_in.Goals.{then-branch, else-branch}

pub loop-place-preserved : goal.loop-place-preserved
loop-place-preserved c =
    let tree = c.args.tree.now in
    let list = c.args.list.now in
    let i = c.loop-place.place in
    let lt : i < length list = omega arith in
    let is = read list i 0 lt in
    elim c.if-branch.branch [
      | then-branch w ↦ rw (w.found-is, w.earlier-found.ensures)
          (least_late tree c.args.modes.now c.args.of.now.of list i _ is c.loop-place.found c.loop-place.invariant (c.in_ok-is_late.ensures.0 w.if-branch.true))
      | else-branch w ↦ rw w.found-is
          (least_not_late tree c.args.modes.now c.args.of.now.of list i _ is c.loop-place.found c.loop-place.invariant (λ h. false≢true (sym w.if-branch.false ∙ c.in_ok-is_late.ensures.1 h)))
    ]

pub returns : goal.returns
returns c =
    let all : c.loop-place.place ≡ length c.args.list.now = omega arith in
    subst (λ n. IsLeast c.args.tree.now (IsRelatedIn c.args.tree.now c.args.modes.now c.args.of.now.of c.args.list.now n) c.loop-place.found) all c.loop-place.invariant
