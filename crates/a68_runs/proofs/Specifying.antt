-- Specifications and their parts, two by two.
use Rattle.std.proofs.Common.{◌≡◌, ◌<◌, ◌≤◌, ◌+◌, ⊎_elim, ℕ, zero, suc, Bool, true, false, nat_eq, List, [], ◌∷◌, length, drop, get_or, refl, sym, ap, arith}
use Rattle.std.proofs.lemmas.Bool.{cases_lt, eqb-false, eqb-true}
use Rattle.std.proofs.lemmas.List.{drop_all}
use Rattle.std.specs.Prelude.{◌&&◌}
use Rattle.a68_annot.specs.declared.annotated.Annotated.{Annotated}
use Rattle.a68_elab.specs.Runs.{is_outcome, outcome, specs_run}

-- the next two
pub specs_step : (a : Annotated) (wanted : Bool) (ids : List ℕ) (at : ℕ) (b : Bool) → at + 1 < length ids → is_outcome wanted (outcome a (get_or ids (at + 1) 0)) ≡ b
    → specs_run a wanted (drop at ids) ≡ (b && specs_run a wanted (drop (at + 2) ids))
specs_step a wanted [] at b less is = absurd (omega arith)
specs_step a wanted (s ∷ []) at b less is = absurd (omega arith)
specs_step a wanted (s ∷ (part ∷ ids)) zero b less is = ap (λ (t : Bool). t && specs_run a wanted ids) is
specs_step a wanted (x ∷ (y ∷ ids)) (suc at) b less is =
    let one : suc at + 1 ≡ suc (at + 1) = omega arith in
    let two : suc at + 2 ≡ suc (at + 2) = omega arith in
    rw two (specs_step a wanted (y ∷ ids) at b (omega arith) (rw one at is))

half : (a : Annotated) (wanted : Bool) (ids : List ℕ) (at : ℕ) → at + 1 ≡ length ids → specs_run a wanted (drop at ids) ≡ false
half a wanted [] at e = absurd (omega arith)
half a wanted (s ∷ []) zero e = refl
half a wanted (s ∷ (part ∷ ids)) zero e = absurd (omega arith)
half a wanted (x ∷ ids) (suc at) e = half a wanted ids at (omega arith)

-- none is left, or half of two
pub specs_end : (a : Annotated) (wanted : Bool) (ids : List ℕ) (at : ℕ) → at ≤ length ids → length ids ≤ at + 1 → (b : Bool) → nat_eq at (length ids) ≡ b → b ≡ specs_run a wanted (drop at ids)
specs_end a wanted ids at le ge true e = let all : at ≡ length ids = eqb-true at (length ids) e in sym (ap (λ (l : List ℕ). specs_run a wanted l) (drop_all at ids (omega arith)))
specs_end a wanted ids at le ge false e =
    let other : at ≡ length ids → ⊥ = eqb-false at (length ids) e in sym (half a wanted ids at (one_more at (length ids) le ge other))
  where
    one_more : (m n : ℕ) → m ≤ n → n ≤ m + 1 → (m ≡ n → ⊥) → m + 1 ≡ n
    one_more m n l g o = ⊎_elim (λ lt. omega arith) (λ same. absurd (o (omega arith))) (cases_lt m n)
