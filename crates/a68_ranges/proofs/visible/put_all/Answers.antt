use Rattle.std.proofs.Common.{◌≡◌, ◌<◌, ◌-◌, suc, length, drop, subst, arith}
use Rattle.a68_ranges.proofs.Seeing.{over_none, over_more}
use Rattle.a68_ranges.specs.Tables.{first_named}
use Rattle.a68_ranges.specs.Visible.{IsOver}
use Rattle.a68_ranges.proofs.visible.put_all.Goals as goal

pub places-init : goal.places-init
places-init c = record { within = omega arith; over = over_none c.args.tree.now c.args.sort c.args.maps.now c.args.outer c.args.list.now c.requires }

pub put_one-requires : goal.put_one-requires
put_one-requires c = c.places.invariant.over.is

pub places-preserved : goal.places-preserved
places-preserved c =
    let tree = c.args.tree.now in
    let sort = c.args.sort in
    let list = c.args.list.now in
    let place = c.places.place - 1 in
    let within = c.places.invariant.within in
    let one : c.places.place ≡ suc place = omega arith in
    let low : place < length list = omega (arith, within, one) in
    let over = subst (λ p. IsOver c.args.maps.now c.places.maps c.args.outer c.places.map (λ name. first_named tree sort name (drop p list))) one c.places.invariant.over in
    record {
      within = omega (arith, within);
      over = over_more tree sort c.args.maps.now c.places.maps c.put_one.new.maps c.args.outer c.places.map c.in_ok-next.next list place low over c.in_ok-next.ensures;
    }

pub returns : goal.returns
returns c = let none : c.places.place ≡ 0 = omega arith in rw none at c.places.invariant.over
