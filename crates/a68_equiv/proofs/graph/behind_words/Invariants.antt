use Rattle.std.proofs.Common.{◌≡◌, ◌<◌, ℕ, length, get_or}
use Rattle.a68_equiv.specs.Unfolding.{behind}
use Rattle.a68_equiv.proofs.graph.behind_words.Given as goal

abbrev pub invariant-loop-id : goal.invariant-loop-id
invariant-loop-id l = record {
  long : length l.heads.items ≡ l.id;
  each : (m : ℕ) → m < l.id → get_or l.heads.items m 0 ≡ behind l.modes (length l.modes) m;
  there : (m : ℕ) → m < l.id → get_or l.heads.items m 0 < length l.modes;
}
