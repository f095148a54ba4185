use Rattle.std.proofs.Common.{◌≡◌, ℕ, List, length, arith, subst}
use Rattle.a68_identify.proofs.Preceding.{least_range, least_pair}
use Rattle.a68_identify.specs.Operators.{IsRelatedIn}
use Rattle.a68_ranges.specs.Indexed.{IsLeast}
use Rattle.a68_identify.proofs.related.related_among.Goals as goal

pub loop-range-preserved : goal.loop-range-preserved
loop-range-preserved c =
    let tree = c.args.tree.now in
    let modes = c.args.modes.now in
    let of = c.args.of.now.of in
    let found = c.in_ok-related_in.field-0 in
    rw c.earlier-found.ensures
    (least_range tree modes of c.loop-range.range c.loop-range.found found c.loop-range.invariant
    (subst (λ (list : List ℕ). IsLeast tree (IsRelatedIn tree modes of list (length list)) found) c.declared_by-list.ensures c.in_ok-related_in.ensures))

pub returns : goal.returns
returns c =
    let all : c.loop-range.range ≡ length c.args.tree.now.nodes = omega arith in
    least_pair c.args.tree.now c.args.modes.now c.args.of.now.of c.loop-range.range c.loop-range.found all c.loop-range.invariant
