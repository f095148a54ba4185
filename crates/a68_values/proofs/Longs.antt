-- A number and the words of a LONG INT.
use Rattle.std.proofs.Common.{◌≡◌, ℤ, pos, negsuc, ◌^◌, ◌<◌, arith}
use Rattle.std.proofs.lemmas.Int.{ints}
use Rattle.a68_values.specs.declared.plain.Long.{Long}
use Rattle.a68_values.specs.Longs.{number_of, long_of}

-- the words of a number are those of this number
pub number_of-long_of : (z : ℤ) → number_of (long_of z) ≡ z
number_of-long_of (pos n) = omega (arith, ints)
number_of-long_of (negsuc n) = omega (arith, ints)
