use Rattle.std.proofs.Common.{◌≡◌, ◌<◌, ℕ, length, get_or}
use Rattle.a68_equiv.proofs.formed.numbers.Given as goal

abbrev pub invariant-loop-id : goal.invariant-loop-id
invariant-loop-id l = record {
  long : length l.ids.items ≡ l.id;
  each : (k : ℕ) → k < l.id → get_or l.ids.items k 0 ≡ k;
}
