-- The items of a string or character denotation.
use Rattle.std.proofs.Common.{◌≡◌, ◌+◌, ◌-◌, ◌<◌, ◌≤◌, ℕ, zero, suc, Bool, true, false, List, [], ◌∷◌, ◌++◌, length, drop, get_or, refl, sym, ◌∙◌, ap, arith, append_assoc, append-nil}
use Rattle.std.proofs.lemmas.List.{length-drop}
use Rattle.std.specs.Prelude.{nat_eq, if◌then◌else◌}
use Rattle.a68_elab.specs.Constants.{items_in}

-- the item at a place, and those behind it
step : (text : List ℕ) (at : ℕ) → 1 < length text - at
    → items_in (drop at text) ≡ get_or text at 0 ∷ (if nat_eq (get_or text at 0) 34 then items_in (drop (at + 2) text) else items_in (drop (at + 1) text))
step [] at p = absurd (omega arith)
step (a ∷ []) zero p = absurd (omega arith)
step (a ∷ (b ∷ text)) zero p = refl
step (a ∷ text) (suc at) p =
    let two : suc at + 2 ≡ suc (at + 2) = omega arith in
    let one : suc at + 1 ≡ suc (at + 1) = omega arith in
    rw (two, one) (step text at (omega arith))

few : (items : List ℕ) → length items ≤ 1 → items_in items ≡ []
few [] p = refl
few (b ∷ []) p = refl
few (a ∷ (b ∷ items)) p = absurd (omega arith)

-- behind the last item there is none
pub ended : (text read : List ℕ) (at : ℕ) → read ++ items_in (drop at text) ≡ items_in text → length text - at ≤ 1 → read ≡ items_in text
ended text read at e p =
    let none : items_in (drop at text) ≡ [] = few (drop at text) (let l = length-drop at text in omega (arith, p)) in
    sym (append-nil read) ∙ ap (λ (l : List ℕ). read ++ l) (sym none) ∙ e

module _ (text read : List ℕ) (at : ℕ) (so_far : read ++ items_in (drop at text) ≡ items_in text) (more : 1 < length text - at) where
  abbrev item : ℕ
  item = get_or text at 0

  abbrev chosen : Bool → List ℕ
  chosen b = if b then items_in (drop (at + 2) text) else items_in (drop (at + 1) text)

  read_on : (b : Bool) → nat_eq item 34 ≡ b → (read ++ item ∷ []) ++ chosen b ≡ items_in text
  read_on b e = append_assoc read (item ∷ []) (chosen b) ∙ ap (λ (c : Bool). read ++ (item ∷ chosen c)) (sym e) ∙ ap (λ (l : List ℕ). read ++ l) (sym (step text at more)) ∙ so_far

  pub past_quote : nat_eq item 34 ≡ true → (read ++ item ∷ []) ++ items_in (drop (at + 2) text) ≡ items_in text
  past_quote e = read_on true e

  pub past_byte : nat_eq item 34 ≡ false → (read ++ item ∷ []) ++ items_in (drop (at + 1) text) ≡ items_in text
  past_byte e = read_on false e
