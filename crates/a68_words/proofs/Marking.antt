-- One symbol more that has a property or not.
use Rattle.std.proofs.Common.{◌≡◌, ℕ, ◌+◌, ◌<◌, Bool, true, false, List, [], ◌∷◌, ◌++◌, Option, None, Some, length, get_or, refl, arith, below_more}
use Rattle.std.specs.Prelude.{◌↔◌}
use Rattle.std.proofs.lemmas.List.{get_or_append_left}
use Rattle.std.proofs.Math.Seq.{get_or-append_seam}
use Rattle.std.proofs.Math.ListN.{length-append}
use Rattle.a68_words.specs.Steps.{AreFlags, IsFirstSymbol, first}

pub mark_more : (P : ℕ → Type 0) (n : ℕ) (flags more : List Bool) (b : Bool) → AreFlags P n flags → (b ≡ true) ↔ P n → more ≡ flags ++ b ∷ []
    → AreFlags P (n + 1) more
mark_more P n flags more b mark here e = rw e (record {
  whole = omega (arith, length-append flags (b ∷ []), mark.whole);
  each = below_more (λ (k : ℕ). (get_or (flags ++ b ∷ []) k false ≡ true) ↔ P k) n
      (λ k h. let lt : k < length flags = omega (arith, mark.whole) in rw (get_or_append_left flags (b ∷ []) false k lt) (mark.each k h))
      (rw (← mark.whole) (rw (get_or-append_seam flags b [] false) (rw mark.whole here)));
})

-- the first symbol that has a property, one symbol on
pub first_more : (P : ℕ → Type 0) (n : ℕ) (found : Option ℕ) (b : Bool) → IsFirstSymbol P n found → (b ≡ true) ↔ P n → IsFirstSymbol P (n + 1) (first found b n)
first_more P n (Some k) b p here = (omega (arith, p.0), p.1, p.2)
first_more P n None true p here = (omega arith, here.0 refl, p)
first_more P n None false p here = below_more (λ (k : ℕ). P k → ⊥) n p (λ q. absurd (cc (here.1 q)))
