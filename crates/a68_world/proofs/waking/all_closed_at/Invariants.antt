use Rattle.std.proofs.Common.{◌≡◌, ◌+◌, ◌-◌, ◌≤◌, true, length}
use Rattle.a68_world.specs.Seats.{all_closed_at}
use Rattle.a68_world.proofs.waking.all_closed_at.Given as goal

abbrev pub invariant-loop-i : goal.invariant-loop-i
invariant-loop-i l = (all_closed_at l.seats (l.first + (l.count - l.i)) l.i ≡ true) × (l.count ≤ length l.seats)
