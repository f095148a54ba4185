use Rattle.std.proofs.Common.{◌+◌, ◌*◌, ◌≤◌, length, get_or, arith, rules, pos, w64}
use Rattle.std.proofs.lemmas.Int.{to_z-of_z}
use Rattle.a68_layout.proofs.Pairing.{pairs-more, pairs-end}
use Rattle.a68_layout.proofs.plans.pairs.Goals as goal

pub loop-i-preserved : goal.loop-i-preserved
loop-i-preserved c =
    let lower = get_or c.args.bounds.now (2 * c.loop-i.i) (pos 0) in
    let upper = get_or c.args.bounds.now (2 * c.loop-i.i + 1) (pos 0) in
    pairs-more c.args.bounds.now c.loop-i.i (pos 0) c.loop-i.pairs.items _ _ _ (omega arith) (to_z-of_z w64 lower (search rules)) (to_z-of_z w64 upper (search rules))
    c.in_ok-push.ensures.items c.loop-i.invariant

pub returns : goal.returns
returns c =
    let past : length c.args.bounds.now ≤ 2 * c.loop-i.i + 1 = omega arith in
    pairs-end c.args.bounds.now (2 * c.loop-i.i) c.loop-i.pairs.items past c.loop-i.invariant
