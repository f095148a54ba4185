use Rattle.std.proofs.Common.{◌≤◌, refl, arith, below_more}
use Rattle.a68_partition.specs.Rounds.{Touches}
use Rattle.a68_partition.proofs.Splitting.{whole_touch, same_answer, other_answer}
use Rattle.a68_partition.proofs.split.touched_alike.Goals as goal

pub loop-place-preserved : goal.loop-place-preserved
loop-place-preserved c = below_more _ _ c.loop-place.invariant
    (same_answer (Touches c.args.unions c.args.classes.now c.args.by c.args.one.now c.loop-place.place) (Touches c.args.unions c.args.classes.now c.args.by c.args.other.now c.loop-place.place)
    c.touches.result c.touches-in-loop-place.result c.touches.ensures c.touches-in-loop-place.ensures c.if-touches.false)

pub returns : goal.returns
returns c =
    let m : c.end_of.result ≤ c.loop-place.place = omega arith in
    let n : c.end_of-2.result ≤ c.loop-place.place = omega arith in
    (λ t. whole_touch c.args.unions c.args.classes.now c.args.by c.args.one.now c.args.other.now c.end_of.result c.end_of-2.result c.loop-place.place c.end_of.ensures c.end_of-2.ensures m n c.loop-place.invariant, λ s. refl)

pub returns-then-touches : goal.returns-then-touches
returns-then-touches c = (
  λ t. absurd (cc),
  λ s.
      absurd (other_answer (Touches c.args.unions c.args.classes.now c.args.by c.args.one.now c.loop-place.place) (Touches c.args.unions c.args.classes.now c.args.by c.args.other.now c.loop-place.place)
      c.touches.result c.touches-in-loop-place.result c.touches.ensures c.touches-in-loop-place.ensures c.if-touches.true (s.0 c.loop-place.place) (s.1 c.loop-place.place)),
)
