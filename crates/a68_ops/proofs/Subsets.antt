-- `<=` on BITS is told by places.
use Rattle.std.proofs.Common.{◌≡◌, ◌↔◌, ⊎_elim, ℕ, ◌^◌, ◌<◌, ◌≤◌, max, bit_or, ap, arith}
use Rattle.std.proofs.lemmas.Bool.{cases_lt}
use Rattle.std.proofs.lemmas.Nat.Bits.{bit_at_or, bit_at_above, same_from_bits}
use Rattle.std.specs.Int.{bit_at}
use Rattle.a68_ops.specs.Laws.{BitsAreWithin}

within_from_or : (a b : ℕ) → bit_or a b ≡ b → BitsAreWithin a b
within_from_or a b e i h =
    let o : bit_at (bit_or a b) i ≡ max (bit_at a i) (bit_at b i) = bit_at_or a b i in
    let s : bit_at (bit_or a b) i ≡ bit_at b i = ap (λ n. bit_at n i) e in
    omega arith

or_from_within : (a b : ℕ) → a < 2 ^ 64 → BitsAreWithin a b → bit_or a b ≡ b
or_from_within a b small h = same_from_bits (bit_or a b) b (λ i. ⊎_elim
    (λ below. let o : bit_at (bit_or a b) i ≡ max (bit_at a i) (bit_at b i) = bit_at_or a b i in let w : bit_at a i ≤ bit_at b i = h i below in omega arith)
    (λ above. let o : bit_at (bit_or a b) i ≡ max (bit_at a i) (bit_at b i) = bit_at_or a b i in let z : bit_at a i ≡ 0 = bit_at_above a 64 i small above in omega arith)
    (cases_lt i 64))

pub or_is_within : (a b : ℕ) → a < 2 ^ 64 → (bit_or a b ≡ b) ↔ BitsAreWithin a b
or_is_within a b small = (within_from_or a b, or_from_within a b small)
