-- Integers that are an INT.
use Rattle.std.proofs.Common.{◌≡◌, ◌+◌, ◌^◌, ◌-◌, ℤ, pos, negsuc, ◌<ℤ◌, ◌≤ℤ◌, true, false, arith}
use Rattle.std.proofs.lemmas.Bool.{lt-ltb, le-ltb}
use Rattle.std.proofs.lemmas.Int.{ints}
use Rattle.a68_ops.specs.Yields.{is_int}

pub is_int-inside : (z : ℤ) → negsuc (2 ^ 63 - 1) <ℤ z → z <ℤ pos (2 ^ 63) → is_int z ≡ true
is_int-inside (pos n) low high = lt-ltb n (2 ^ 63) (omega (arith, ints))
is_int-inside (negsuc n) low high = lt-ltb (n + 1) (2 ^ 63) (omega (arith, ints))

pub is_int-below : (z : ℤ) → z ≤ℤ negsuc (2 ^ 63 - 1) → is_int z ≡ false
is_int-below (pos n) low = absurd (omega (arith, ints))
is_int-below (negsuc n) low = le-ltb (n + 1) (2 ^ 63) (omega (arith, ints))

pub is_int-above : (z : ℤ) → pos (2 ^ 63) ≤ℤ z → is_int z ≡ false
is_int-above (pos n) high = le-ltb n (2 ^ 63) (omega (arith, ints))
is_int-above (negsuc n) high = absurd (omega (arith, ints))
