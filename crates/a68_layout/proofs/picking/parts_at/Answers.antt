use Rattle.a68_layout.proofs.Picks.{no_part, one_part}
use Rattle.a68_layout.proofs.picking.parts_at.Goals as goal

pub returns-then-place-parts-clause-fault : goal.returns-then-place-parts-clause-fault
returns-then-place-parts-clause-fault c =
    λ kind e.
    let none = no_part c.args.parts.now c.args.places.now c.loop-place.place-index c.loop-place.picked.items c.loop-place-test.true c.if-place-parts.true c.loop-place.invariant in
    (cc, none)

pub loop-place-preserved : goal.loop-place-preserved
loop-place-preserved c =
    one_part c.args.parts.now c.args.places.now c.loop-place.place-index c.loop-place.picked.items c.push.new.self.items c.in_ok-part.part c.loop-place-test.true c.if-place-parts.false
    (rw c.in_ok-part.ensures c.index-parts-place.is) c.in_ok-push.ensures.items c.loop-place.invariant
