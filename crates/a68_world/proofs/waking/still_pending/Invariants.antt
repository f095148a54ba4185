use Rattle.std.proofs.Common.{◌≡◌, ◌+◌, ◌-◌, true}
use Rattle.a68_world.specs.Seats.{all_closed_at}
use Rattle.a68_world.proofs.waking.still_pending.Given as goal

abbrev pub invariant-loop-i : goal.invariant-loop-i
invariant-loop-i l = all_closed_at l.seats (l.first + (l.pending - l.i)) l.i ≡ true
