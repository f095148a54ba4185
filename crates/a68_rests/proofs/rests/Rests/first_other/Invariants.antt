use Rattle.std.proofs.Common.{◌≡◌, ◌<◌, ◌≤◌, ℕ, true, false}
use Rattle.std.specs.Prelude.{slice_index_or}
use Rattle.a68_marks.specs.Marked.{is_marked}
use Rattle.a68_rests.specs.Waiting.{has}
use Rattle.a68_rests.proofs.rests.Rests.first_other.Given as goal

abbrev pub invariant-loop-i : goal.invariant-loop-i
invariant-loop-i l = record {
  from_on : l.from ≤ l.n;
  within : l.n ≤ l.to;
  listed : (k : ℕ) → l.from ≤ k → k < l.n → is_marked l.self-inside.listed k ≡ true;
  shut : (j k : ℕ) → j < l.i → l.from ≤ k → k < l.n → has l.self-inside.held (slice_index_or l.self-inside.opened.items j 0) k ≡ false;
}
