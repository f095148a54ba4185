use Rattle.std.proofs.Common.{ℕ, List, length, ◌-◌, ◌≤◌, take, drop}
use Rattle.a68_denote.specs.Strings.{StandFor}
use Rattle.a68_symbols.proofs.strings.items_end.Given as goal

abbrev pub invariant-loop-n : goal.invariant-loop-n
invariant-loop-n l = record {
  low : 1 ≤ l.n;
  high : l.n ≤ length l.text;
  items : (bytes : List ℕ) × StandFor (take (l.n - 1) (drop 1 l.text)) bytes;
}

abbrev pub decreases-loop-n : goal.decreases-loop-n
decreases-loop-n l = length l.text - l.n
