use Rattle.std.proofs.Common.{List, ℕ, drop}
use Rattle.a68_denote.specs.Strings.{StandFor}
use Rattle.a68_denote.proofs.Items.{SoFar}
use Rattle.a68_denote.proofs.strings.string_of.Given as goal

abbrev pub invariant-loop-byte : goal.invariant-loop-byte
invariant-loop-byte l = (bytes : List ℕ) → StandFor l.byte-items bytes → SoFar l.is_second l.items.items (drop l.byte-index l.byte-items) bytes
