-- Keys of two numbers.
use Rattle.std.proofs.Common.{◌≡◌, ℕ, ◌⊎◌, Bool, true, false, nat_eq, refl, sym, ⊎_elim, inl, inr}
use Rattle.std.specs.Prelude.{◌&&◌}
use Rattle.std.proofs.lemmas.Bool.Decides.{eqb_tells}

both_no : (a b : Bool) → (a ≡ false) ⊎ (b ≡ false) → (a && b) ≡ false
both_no true b h = ⊎_elim (λ e. absurd (cc)) (λ e. e) h
both_no false b h = refl

-- two keys that differ in one number are not equal
pub apart : (r n range name : ℕ) → ((r ≡ range) × (n ≡ name) → ⊥) → (nat_eq range r && nat_eq name n) ≡ false
apart r n range name h =
    both_no (nat_eq range r) (nat_eq name n)
    (⊎_elim (λ a. ⊎_elim (λ b. absurd (h (sym a.1, sym b.1))) (λ b. inr b.0) (eqb_tells name n)) (λ a. inl a.0) (eqb_tells range r))
