use Rattle.std.proofs.Common.{ℕ, ◌<◌, get_or}
use Rattle.a68_words.proofs.definitions.count_of.Given as goal

abbrev pub invariant-loop-name : goal.invariant-loop-name
invariant-loop-name l = (k : ℕ) → k < l.name-index → get_or l.names k 0 < l.count
