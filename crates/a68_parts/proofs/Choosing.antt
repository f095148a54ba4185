-- The parts that a number chooses among.
use Rattle.std.proofs.Common.{◌≡◌, ◌∙◌, ◌<◌, ◌-◌, ℕ, zero, suc, Bool, true, false, List, [], ◌∷◌, length, get_or, refl, sym, ap, arith, None, Some, take}
use Rattle.std.specs.Prelude.{if◌then◌else◌}
use Rattle.a68_annot.specs.declared.annotated.Annotated.{Annotated}
use Rattle.a68_elab.specs.Made as made
use Rattle.a68_elab.specs.Made.{before_out, is_out, kind_at, out_of}
use Rattle.a68_tree.specs.Trees.{AllBetween}

-- the last one, and whether it is Out
abbrev last_of : List ℕ → ℕ
last_of ids = get_or ids (length ids - 1) 0

module _ (a : Annotated) where
  last_more : (x y : ℕ) (ids : List ℕ) → last_of (x ∷ (y ∷ ids)) ≡ last_of (y ∷ ids)
  last_more x y ids =
      let e : length (x ∷ (y ∷ ids)) - 1 ≡ suc (length (y ∷ ids) - 1) = omega arith in ap (λ (n : ℕ). get_or (x ∷ (y ∷ ids)) n 0) e

  pub out_is : (ids : List ℕ) → 0 < length ids → out_of a ids ≡ (if is_out (kind_at a (get_or ids (length ids - 1) 0)) then Some (get_or ids (length ids - 1) 0) else None)
  out_is [] some = absurd (omega arith)
  out_is (x ∷ []) some = refl
  out_is (x ∷ (y ∷ ids)) some = out_is (y ∷ ids) (omega arith) ∙ ap (λ (n : ℕ). if is_out (kind_at a n) then Some n else None) (sym (last_more x y ids))

  one_out : (b : Bool) (x o : ℕ) → (if b then Some x else None) ≡ Some o → [] ≡ (if b then [] else x ∷ [])
  one_out true x o e = refl
  one_out false x o e = absurd (cc)

  one_none : (b : Bool) (x : ℕ) → (if b then Some x else None) ≡ None → x ∷ [] ≡ (if b then [] else x ∷ [])
  one_none true x e = absurd (cc)
  one_none false x e = refl

  pub before_some : (ids : List ℕ) (o : ℕ) → out_of a ids ≡ Some o → take (length ids - 1) ids ≡ before_out a ids
  before_some [] o e = absurd (cc)
  before_some (x ∷ []) o e = one_out (is_out (kind_at a x)) x o e
  before_some (x ∷ (y ∷ ids)) o e =
      let n : length (x ∷ (y ∷ ids)) - 1 ≡ suc (length (y ∷ ids) - 1) = omega arith in
      ap (λ (k : ℕ). take k (x ∷ (y ∷ ids))) n ∙ ap (λ (l : List ℕ). x ∷ l) (before_some (y ∷ ids) o e)

  pub before_none : (ids : List ℕ) → out_of a ids ≡ None → ids ≡ before_out a ids
  before_none [] e = refl
  before_none (x ∷ []) e = one_none (is_out (kind_at a x)) x e
  before_none (x ∷ (y ∷ ids)) e = ap (λ (l : List ℕ). x ∷ l) (before_none (y ∷ ids) e)

pub between_take : (id end n : ℕ) (ids : List ℕ) → AllBetween id end ids → AllBetween id end (take n ids)
between_take id end zero ids all = tt
between_take id end (suc n) [] all = tt
between_take id end (suc n) (x ∷ ids) all = (all.0, all.1, between_take id end n ids all.2)

-- ---- the last part

pub last-id-is : (ids : List ℕ) → 0 < length ids → made.last_id ids ≡ get_or ids (length ids - 1) 0
last-id-is [] some = absurd (omega arith)
last-id-is (x ∷ []) some = refl
last-id-is (x ∷ (y ∷ ids)) some =
    let e : length (x ∷ (y ∷ ids)) - 1 ≡ suc (length (y ∷ ids) - 1) = omega arith in
    last-id-is (y ∷ ids) (omega arith) ∙ sym (ap (λ n. get_or (x ∷ (y ∷ ids)) n 0) e)
