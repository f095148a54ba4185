use Rattle.std.proofs.Common.{◌≡◌, ◌<◌, ◌-◌, suc, length, drop, subst, arith}
use Rattle.a68_frames.proofs.Outlooking.{holds_none, holds_more}
use Rattle.a68_frames.specs.Frames.{with_slots}
use Rattle.a68_frames.specs.Outlooks.{HoldsAll}
use Rattle.a68_frames.proofs.outlook.put_slots.Goals as goal

pub places-init : goal.places-init
places-init c = record { within = omega arith; holds = holds_none c.args.tree.now c.args.maps.now c.args.outer c.args.list.now c.args.number c.requires }

pub put_slot-requires : goal.put_slot-requires
put_slot-requires c = c.places.invariant.holds.is

pub places-preserved : goal.places-preserved
places-preserved c =
    let tree = c.args.tree.now in
    let list = c.args.list.now in
    let place = c.places.place - 1 in
    let within = c.places.invariant.within in
    let one : c.places.place ≡ suc place = omega arith in
    let low : place < length list = omega (arith, within, one) in
    let holds = subst (λ p. HoldsAll c.args.maps.now c.places.maps c.args.outer (with_slots tree (drop p list)) c.args.number c.places.map) one c.places.invariant.holds in
    record {
      within = omega (arith, within);
      holds = holds_more tree c.args.maps.now c.places.maps c.put_slot.new.maps c.args.outer c.places.map c.in_ok-next.next list place c.args.number low holds c.in_ok-next.ensures;
    }

pub returns : goal.returns
returns c = let none : c.places.place ≡ 0 = omega arith in rw none at c.places.invariant.holds
