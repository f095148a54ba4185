use Rattle.std.proofs.Common.{◌≡◌, ◌*◌, ◌++◌, drop}
use Rattle.a68_layout.specs.Rooms.{pairs_of}
use Rattle.a68_layout.proofs.plans.pairs.Given as goal

abbrev pub invariant-loop-i : goal.invariant-loop-i
invariant-loop-i l = l.pairs.items ++ pairs_of (drop (2 * l.i) l.bounds) ≡ pairs_of l.bounds
