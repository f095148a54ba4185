-- The LONG INT that two words stand for.
use Rattle.std.specs.Prelude.{ℤ, pos, ◌+ℤ◌, ◌*ℤ◌, ◌^◌, unsigned_abs}
use Rattle.std.specs.Int.{int_div_euclid, int_rem_euclid}
use Rattle.a68_values.specs.declared.plain.Long.{Long}

-- the number: the high word counts 2 to the power 64
abbrev pub number_of : Long → ℤ
number_of l = (l.high *ℤ pos (2 ^ 64)) +ℤ pos l.low

-- the words of a number: how often 2 to the power 64 goes into it, and what is left, which is not negative
abbrev pub long_of : ℤ → Long
long_of z = record { high = int_div_euclid z (pos (2 ^ 64)); low = unsigned_abs (int_rem_euclid z (pos (2 ^ 64))) }
