-- Modes and their numbers.
use Rattle.std.proofs.Common.{◌≡◌, ◌<◌, ◌*◌, ◌%◌, ℕ, zero, suc, Bool, true, false, refl, ap, ◌∙◌, arith, nat_eq}
use Rattle.a68_equiv.specs.declared.mode.Mode.{Mode}
use Rattle.a68_equiv.specs.Graph.{bit, number_of, mode_of}

pub same_mode : (a b : Mode) → a.id ≡ b.id → a.fixed ≡ b.fixed → a ≡ b
same_mode a b e f = ap (λ (n : ℕ). let m : Mode = record { id = n; fixed = a.fixed } in m) e ∙ ap (λ (t : Bool). let m : Mode = record { id = b.id; fixed = t } in m) f

bits : (r : ℕ) → r < 2 → bit (nat_eq r 1) ≡ r
bits zero h = refl
bits (suc zero) h = refl
bits (suc (suc r)) h = absurd (omega arith)

pub bit_back : (b : Bool) → nat_eq (bit b) 1 ≡ b
bit_back true = refl
bit_back false = refl

pub bit_low : (b : Bool) → bit b < 2
bit_low true = omega arith
bit_low false = omega arith

pub number_mode : (i : ℕ) → number_of (mode_of i) ≡ i
number_mode i = let b = bits (i % 2) (omega arith) in omega arith

pub mode_number : (m : Mode) → mode_of (number_of m) ≡ m
mode_number m =
    let low = bit_low m.fixed in
    let rest : number_of m % 2 ≡ bit m.fixed = omega arith in
    same_mode (mode_of (number_of m)) m (omega arith) (ap (λ (r : ℕ). nat_eq r 1) rest ∙ bit_back m.fixed)

pub number_below : (n : ℕ) (m : Mode) → m.id < n → number_of m < 2 * n
number_below n m h = let low = bit_low m.fixed in omega arith

pub mode_below : (n i : ℕ) → i < 2 * n → (mode_of i).id < n
mode_below n i h = omega arith
