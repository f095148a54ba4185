use Rattle.std.proofs.Common.{◌∙◌, ap, ◌++◌, ◌∷◌, []}
use Rattle.a68_world.specs.declared.seat.Seat.TheVariants as seat
use Rattle.a68_world.proofs.calls.first_seats.Goals as goal

pub returns : goal.returns
returns c = (
  c.in_ok-strand.strand,
  c.in_ok-push.ensures.items ∙ ap (λ l. l ++ seat.Home c.in_ok-strand.strand ∷ []) c.new-seats.ensures.items,
  c.in_ok-strand.ensures.settled,
  c.in_ok-strand.ensures.number,
  c.in_ok-strand.ensures.room,
)
