-- Which part a number chooses.
use Rattle.std.proofs.Common.{◌≡◌, ◌<◌, ◌≤◌, ◌-◌, ℕ, zero, suc, ℤ, pos, true, false, refl, arith}
use Rattle.std.proofs.Math.IntN.{nat_abs}
use Rattle.std.proofs.lemmas.Bool.{lt-ltb, le-ltb}
use Rattle.std.proofs.lemmas.Int.{to_z-of_z, ints}
use Rattle.std.specs.Int.{FitsUnsignedBits}
use Rattle.std.specs.Prelude.{Ok, negsuc, nat_lt}
use Rattle.std.specs.declared.result.Result.{Result}
use Rattle.a68_acts.specs.Operations.{case_of}
use Rattle.a68_values.specs.Content.{plain}
use Rattle.a68_values.specs.declared.act.FaultKind.{FaultKind}
use Rattle.a68_values.specs.declared.plain.Plain.TheVariants as value
use mir.Syntax.{w64}
use mir.Val.{SFits, to_z, of_z}

-- a number that is among the parts
among : (n k : ℕ) (z : ℤ) → FitsUnsignedBits 64 z → k ≡ nat_abs z → 1 ≤ k → k ≤ n → ◌≡◌ {A = Result ℕ FaultKind} (Ok (k - 1)) (case_of n (plain (value.Int z)))
unfolding case_of
among n k (pos zero) fits is some few = absurd (omega arith)
among n k (pos (suc i)) fits is some few =
    let less : nat_lt i n ≡ true = lt-ltb i n (omega arith) in
    let same : k - 1 ≡ i = omega arith in
    rw (less, same) refl
among n k (negsuc i) fits is some few = absurd fits

-- one that is above them
above : (n k : ℕ) (z : ℤ) → FitsUnsignedBits 64 z → k ≡ nat_abs z → n < k → ◌≡◌ {A = Result ℕ FaultKind} (Ok n) (case_of n (plain (value.Int z)))
unfolding case_of
above n k (pos zero) fits is more = absurd (omega arith)
above n k (pos (suc i)) fits is more = let most : nat_lt i n ≡ false = le-ltb i n (omega arith) in rw most refl
above n k (negsuc i) fits is more = absurd fits

-- 0, and what is below it
none : (n k : ℕ) (z : ℤ) → FitsUnsignedBits 64 z → k ≡ nat_abs z → k < 1 → ◌≡◌ {A = Result ℕ FaultKind} (Ok n) (case_of n (plain (value.Int z)))
unfolding case_of
none n k (pos zero) fits is few = refl
none n k (pos (suc i)) fits is few = absurd (omega arith)
none n k (negsuc i) fits is few = absurd fits

below : (n : ℕ) (z : ℤ) → SFits w64 z → (FitsUnsignedBits 64 z → ⊥) → ◌≡◌ {A = Result ℕ FaultKind} (Ok n) (case_of n (plain (value.Int z)))
unfolding case_of
below n (pos m) s not = absurd (not (omega (arith, ints)))
below n (negsuc i) s not = refl

module _ (n : ℕ) (z : ℤ) (s : SFits w64 z) where
  pub among_these : (k : ℕ) → FitsUnsignedBits 64 (to_z w64 (of_z w64 z)) × (k ≡ nat_abs (to_z w64 (of_z w64 z))) → 1 ≤ k → k ≤ n → ◌≡◌ {A = Result ℕ FaultKind} (Ok (k - 1)) (case_of n (plain (value.Int z)))
  among_these k h = let g : FitsUnsignedBits 64 z × (k ≡ nat_abs z) = rw (to_z-of_z w64 z s) at h in among n k z g.0 g.1

  pub above_these : (k : ℕ) → FitsUnsignedBits 64 (to_z w64 (of_z w64 z)) × (k ≡ nat_abs (to_z w64 (of_z w64 z))) → n < k → ◌≡◌ {A = Result ℕ FaultKind} (Ok n) (case_of n (plain (value.Int z)))
  above_these k h = let g : FitsUnsignedBits 64 z × (k ≡ nat_abs z) = rw (to_z-of_z w64 z s) at h in above n k z g.0 g.1

  pub none_of_these : (k : ℕ) → FitsUnsignedBits 64 (to_z w64 (of_z w64 z)) × (k ≡ nat_abs (to_z w64 (of_z w64 z))) → k < 1 → ◌≡◌ {A = Result ℕ FaultKind} (Ok n) (case_of n (plain (value.Int z)))
  none_of_these k h = let g : FitsUnsignedBits 64 z × (k ≡ nat_abs z) = rw (to_z-of_z w64 z s) at h in none n k z g.0 g.1

  pub below_these : (FitsUnsignedBits 64 (to_z w64 (of_z w64 z)) → ⊥) → ◌≡◌ {A = Result ℕ FaultKind} (Ok n) (case_of n (plain (value.Int z)))
  below_these h = let g : FitsUnsignedBits 64 z → ⊥ = rw (to_z-of_z w64 z s) at h in below n z s g
