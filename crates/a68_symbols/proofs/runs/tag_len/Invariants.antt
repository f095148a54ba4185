use Rattle.std.proofs.Common.{ℕ, length, ◌-◌, ◌≡◌, ◌≤◌, ◌<◌, true, false, slice_index, ◌⊎◌}
use Rattle.a68_symbols.specs.Bytes as bytes
use Rattle.a68_symbols.specs.Forms.{Each}
use Rattle.a68_symbols.proofs.runs.tag_len.Given as goal

abbrev pub invariant-loop-n : goal.invariant-loop-n
invariant-loop-n l = record {
  low : 1 ≤ l.end;
  mid : l.end ≤ l.n;
  high : l.n ≤ length l.text;
  run : Each bytes.in_tag l.text 1 l.n;
  last : (l.end ≡ 1) ⊎ (bytes.ends_tag (slice_index l.text (l.end - 1)) ≡ true);
  none : (k : ℕ) → l.end ≤ k → k < l.n → bytes.ends_tag (slice_index l.text k) ≡ false;
}

abbrev pub decreases-loop-n : goal.decreases-loop-n
decreases-loop-n l = length l.text - l.n
