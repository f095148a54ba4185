use Rattle.std.proofs.Common.{ℕ, ◌≤◌, take, slice_index_or}
use Rattle.a68_heights.proofs.reach.highest.Given as goal

abbrev pub invariant-loop-top : goal.invariant-loop-top
invariant-loop-top l = (at : ℕ) → slice_index_or (take l.top-index l.tops) at 0 ≤ l.highest
