-- Inner: the headline does not rest on this file.
-- Laws of the definitions, in other words than theirs.
use Rattle.std.specs.Prelude.{◌≡◌, ◌<◌, ◌≤◌, ℕ, ℤ, pos, ◌+ℤ◌, ◌*ℤ◌, ◌≤ℤ◌, ◌<ℤ◌}
use Rattle.std.specs.Int.{bit_at}
use Rattle.a68_ops.specs.Integers.{abs_of}

-- the rest of an integer by a divisor: what is left of it where a multiple of the divisor is taken away, at least 0 and
-- below the divisor's size
pub record IsRest (dividend divisor rest : ℤ) : Type 0 where
  pub quotient : ℤ
  pub taken : (quotient *ℤ divisor) +ℤ rest ≡ dividend
  pub least : pos 0 ≤ℤ rest
  pub below : rest <ℤ abs_of divisor

-- each place that is set in the one is set in the other
abbrev pub BitsAreWithin : (a b : ℕ) → Type 0
BitsAreWithin a b = (i : ℕ) → i < 64 → bit_at a i ≤ bit_at b i
