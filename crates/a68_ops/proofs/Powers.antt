-- Powers with great exponents, of which the range of INT or of LONG INT holds but those of -1, 0 and 1.
use Rattle.std.proofs.Common.{◌≡◌, ℕ, zero, suc, ◌%◌, ◌^◌, ◌<◌, ◌≤◌, ℤ, pos, negsuc, neg_ℤ, Bool, true, false, cond, ◌==◌, Err, refl, sym, ap, ◌∙◌, lit<, arith, rules}
use Rattle.std.proofs.Math.Nat.{pow-le-pow_left, pow-le-pow_right}
use Rattle.std.specs.Int.{int_pow}
use Rattle.a68_values.specs.declared.act.FaultKind.TheVariants as fault
use Rattle.a68_ops.specs.Yields.{PlainYield, int, long}

-- from 2 on a power passes the range
grows : (bits a n : ℕ) → 2 ≤ a → bits ≤ n → 2 ^ bits ≤ a ^ n
grows bits a n two high = omega (arith, pow-le-pow_right {n = 2} (lit< tt) high, pow-le-pow_left two n)

one_to : (n : ℕ) → 1 ^ n ≡ 1
one_to zero = refl
one_to (suc n) = search (rules, one_to n)

zero_to : (n : ℕ) → 0 < n → 0 ^ n ≡ 0
zero_to zero h = absurd (omega arith)
zero_to (suc n) h = grind arith

-- integers from 2 to the power of so many bits on, and those below as many, are no values
record IsBounded (yield : ℤ → PlainYield) (bits : ℕ) : Type 0 where
  some : 0 < bits
  above : (m : ℕ) → 2 ^ bits ≤ m → yield (pos m) ≡ Err fault.Overflow
  below : (m : ℕ) → 2 ^ bits ≤ m → yield (neg_ℤ (pos m)) ≡ Err fault.Overflow

module _ (yield : ℤ → PlainYield) (bits : ℕ) (is : IsBounded yield bits) where
  signed_above : (even : Bool) (m : ℕ) → 2 ^ bits ≤ m → yield (cond even (pos m) (neg_ℤ (pos m))) ≡ Err fault.Overflow
  signed_above true m h = is.above m h
  signed_above false m h = is.below m h

  same : (a : ℤ) (n m : ℕ) → bits ≤ n → bits ≤ m → n % 2 ≡ m % 2 → yield (int_pow a n) ≡ yield (int_pow a m)
  same (pos zero) n m hn hm e = let some = is.some in ap (λ k. yield (pos k)) (zero_to n (omega arith) ∙ sym (zero_to m (omega arith)))
  same (pos (suc zero)) n m hn hm e = ap (λ k. yield (pos k)) (one_to n ∙ sym (one_to m))
  same (pos (suc (suc k))) n m hn hm e =
      is.above (suc (suc k) ^ n) (grows bits (suc (suc k)) n (omega arith) hn) ∙ sym (is.above (suc (suc k) ^ m) (grows bits (suc (suc k)) m (omega arith) hm))
  same (negsuc zero) n m hn hm e = rw (one_to n, one_to m, e) refl
  same (negsuc (suc k)) n m hn hm e =
      signed_above (n % 2 == 0) (suc (suc k) ^ n) (grows bits (suc (suc k)) n (omega arith) hn)
      ∙ sym (signed_above (m % 2 == 0) (suc (suc k) ^ m) (grows bits (suc (suc k)) m (omega arith) hm))

above_int : (m : ℕ) → 2 ^ 64 ≤ m → int (pos m) ≡ Err fault.Overflow
above_int m h = grind arith

below_int : (m : ℕ) → 2 ^ 64 ≤ m → int (neg_ℤ (pos m)) ≡ Err fault.Overflow
below_int zero h = absurd (omega arith)
below_int (suc m) h = grind arith

above_long : (m : ℕ) → 2 ^ 128 ≤ m → long (pos m) ≡ Err fault.Overflow
above_long m h = grind arith

below_long : (m : ℕ) → 2 ^ 128 ≤ m → long (neg_ℤ (pos m)) ≡ Err fault.Overflow
below_long zero h = absurd (omega arith)
below_long (suc m) h = grind arith

pub same_power : (a : ℤ) (n m : ℕ) → 64 ≤ n → 64 ≤ m → n % 2 ≡ m % 2 → int (int_pow a n) ≡ int (int_pow a m)
same_power a n m hn hm e = same int 64 (record { some = lit< tt; above = above_int; below = below_int }) a n m hn hm e

pub same_long_power : (a : ℤ) (n m : ℕ) → 128 ≤ n → 128 ≤ m → n % 2 ≡ m % 2 → long (int_pow a n) ≡ long (int_pow a m)
same_long_power a n m hn hm e = same long 128 (record { some = lit< tt; above = above_long; below = below_long }) a n m hn hm e
