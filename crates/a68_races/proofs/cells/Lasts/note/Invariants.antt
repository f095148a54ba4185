use Rattle.std.proofs.Common.{◌≡◌}
use Rattle.a68_races.proofs.cells.Lasts.note.Given as goal

abbrev pub invariant-loop-at : goal.invariant-loop-at
invariant-loop-at l = l.self-inside.items.items ≡ l.initial.self-inside.items.items
