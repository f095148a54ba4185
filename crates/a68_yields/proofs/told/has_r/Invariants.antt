use Rattle.std.proofs.Common.{◌≡◌, drop}
use Rattle.a68_yields.specs.Yields.{has_r}
use Rattle.a68_yields.proofs.told.has_r.Given as goal

abbrev pub invariant-loop-byte : goal.invariant-loop-byte
invariant-loop-byte l = has_r (drop l.byte-index l.spelling) ≡ has_r l.spelling
