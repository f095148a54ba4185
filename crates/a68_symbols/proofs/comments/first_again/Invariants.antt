use Rattle.std.proofs.Common.{ℕ, length, ◌-◌, ◌≡◌, ◌≤◌, ◌<◌, false, slice_index, ◌⊎◌}
use Rattle.a68_symbols.specs.Bytes.{in_word}
use Rattle.a68_symbols.specs.Forms.{StandsAgain}
use Rattle.a68_symbols.proofs.comments.first_again.Given as goal

abbrev pub invariant-loop-at : goal.invariant-loop-at
invariant-loop-at l = record {
  low : l.width ≤ l.at;
  high : l.at ≤ length l.text;
  border : (l.at ≡ length l.text) ⊎ (in_word (slice_index l.text l.at) ≡ false) ⊎ (in_word (slice_index l.text (l.at - 1)) ≡ false);
  none : (a : ℕ) → l.width ≤ a → a < l.at → StandsAgain l.text l.width a → ⊥;
}

abbrev pub decreases-loop-at : goal.decreases-loop-at
decreases-loop-at l = length l.text - l.at
