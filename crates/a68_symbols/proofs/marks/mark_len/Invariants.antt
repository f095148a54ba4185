use Rattle.std.proofs.Common.{ℕ, length, ◌≡◌, ◌≤◌, ◌<◌, true, take}
use Rattle.a68_symbols.specs.Marks as marks
use Rattle.a68_symbols.proofs.marks.mark_len.Given as goal

abbrev pub invariant-loop-n : goal.invariant-loop-n
invariant-loop-n l = record {
  high : l.n ≤ length l.text;
  longest : (m : ℕ) → l.n < m → m ≤ length l.text → marks.is_mark (take m l.text) ≡ true → ⊥;
}

abbrev pub decreases-loop-n : goal.decreases-loop-n
decreases-loop-n l = l.n
