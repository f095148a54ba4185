use Rattle.std.proofs.Common.{◌≡◌, ◌∙◌, ◌<◌, Some, length, ap, sym, subst, arith}
use Rattle.std.proofs.lemmas.Bool.Decides.{nat_tests}
use Rattle.std.proofs.lemmas.Option.{slice_get-get_or}
use Rattle.std.specs.Prelude.{slice_get}
use Rattle.a68_world.specs.Resting.{RestsOne}
use Rattle.a68_world.specs.declared.seat.Seat.{Seat}
use Rattle.a68_world.specs.declared.seat.Seat.TheVariants as seat
use Rattle.a68_world.proofs.RestingOn.{more_none, more_one}
use Rattle.a68_world.proofs.resting.rest_at.Goals as goal

pub returns-in_default : goal.returns-in_default
returns-in_default c = more_none c.args.rests.now c.args.seats.now c.args.store.now

pub returns : goal.returns
returns c =
    let strand = c.in-Some-Home.strand in
    let x = c.in-Some-Home.field-0.now in
    let within : c.args.k < length c.args.seats.now = grind (arith, nat_tests, c.in-Some-Home.ensures.lookup) in
    let there : slice_get c.args.seats.now c.args.k ≡ Some (seat.Home strand) =
    slice_get-get_or c.args.seats.now c.args.k x within ∙ ap (λ (z : Seat). Some z) (sym c.in-Some-Home.ensures.lookup.1 ∙ c.in-Some-Home.field-0-is) in
    let one : RestsOne strand.about.ask c.args.store.now c.args.k c.args.rests.now c.rest_shown.new.rests =
    subst (λ a. RestsOne a c.args.store.now c.args.k c.args.rests.now c.rest_shown.new.rests) c.ask.ensures c.rest_shown.ensures in
    more_one c.args.rests.now c.rest_shown.new.rests c.args.seats.now c.args.store.now c.args.k strand there one
