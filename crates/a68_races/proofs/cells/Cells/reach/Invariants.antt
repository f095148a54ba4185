use Rattle.std.proofs.Common.{◌≡◌, ◌-◌, ℕ}
use Rattle.a68_races.specs.Cells.{lasts_at}
use Rattle.a68_races.proofs.cells.Cells.reach.Given as goal

abbrev pub invariant-loop-alloc : goal.invariant-loop-alloc
invariant-loop-alloc l = (cell : ℕ) → lasts_at l.self-inside.items.items cell ≡ lasts_at l.initial.self-inside.items.items cell

abbrev pub decreases-loop-alloc : goal.decreases-loop-alloc
decreases-loop-alloc l = l.count - l.self-inside.items.len
