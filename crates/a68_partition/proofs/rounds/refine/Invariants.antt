use Rattle.std.proofs.Common.{◌≡◌, ◌<◌, ◌≤◌, ℕ, length, get_or, ◌*◌, ◌-◌}
use Rattle.a68_partition.proofs.Measure.{total}
use Rattle.a68_partition.specs.Rounds.{AlikeIn}
use Rattle.a68_partition.proofs.rounds.refine.Given as goal

abbrev pub invariant-loop-classes : goal.invariant-loop-classes
invariant-loop-classes l = record {
  long : length l.classes.items ≡ length l.rows;
  low : (k : ℕ) → k < length l.rows → get_or l.classes.items k 0 ≤ k;
  made : (a b : ℕ) → a < length l.rows → b < length l.rows → get_or l.classes.items a 0 ≡ get_or l.classes.items b 0 → get_or l.heads a 0 ≡ get_or l.heads b 0;
  coarse : (depth : ℕ) × ((a b : ℕ) → a < length l.rows → b < length l.rows → AlikeIn l.heads l.rows depth a b → get_or l.classes.items a 0 ≡ get_or l.classes.items b 0);
}

abbrev pub decreases-loop-classes : goal.decreases-loop-classes
decreases-loop-classes l = length l.rows * length l.rows - total l.classes.items
