-- Shapes that are no structures.
use Rattle.std.proofs.Common.{◌≡◌, ◌≤◌, ◌+◌, ℕ, zero, suc, List, length, refl, ap, sym, ◌∙◌, min, arith}
use Rattle.std.proofs.lemmas.List.{get_or_past}
use Rattle.a68_modes.specs.Nodes.{shape_at}
use Rattle.a68_modes.specs.declared.shape.Shape.{Shape}
use Rattle.a68_modes.specs.declared.shape.Shape.TheVariants.{Struct, Same, Blank}
use Rattle.a68_layout.specs.Widths.{most_cells, width_by, width_within}

pub no-shape : (modes : List Shape) (m : ℕ) → length modes ≤ m → shape_at modes m ≡ Blank
no-shape modes m past = get_or_past modes m Blank past

pub width-past : (n : ℕ) (modes : List Shape) (m : ℕ) → length modes ≤ m → width_within n modes m ≡ 1
width-past zero modes m past = refl
width-past (suc n) modes m past = ap (width_by (width_within n modes)) (no-shape modes m past)

width_by-other : (f : ℕ → ℕ) (s : Shape) → ((x : List (ℕ × ℕ)) → s ≡ Struct x → ⊥) → ((x : ℕ) → s ≡ Same x → ⊥) → width_by f s ≡ 1
width_by-other f (Struct fields) a b = absurd (a fields refl)
width_by-other f (Same m) a b = absurd (b m refl)
width_by-other f _ a b = refl

pub width-other : (n : ℕ) (modes : List Shape) (m : ℕ) (s : Shape) → s ≡ shape_at modes m → ((x : List (ℕ × ℕ)) → s ≡ Struct x → ⊥)
    → ((x : ℕ) → s ≡ Same x → ⊥) → width_within n modes m ≡ 1
width-other zero modes m s e a b = refl
width-other (suc n) modes m s e a b = ap (width_by (width_within n modes)) (sym e) ∙ width_by-other (width_within n modes) s a b

-- one more is counted
pub one-past : (n : ℕ) (modes : List Shape) (m counted : ℕ) → counted ≤ most_cells → length modes ≤ m → counted + 1 ≡ min (most_cells + 1) (counted + width_within n modes m)
one-past n modes m counted few past = rw (width-past n modes m past) (omega arith)

pub one-other : (n : ℕ) (modes : List Shape) (m counted : ℕ) (s : Shape) → counted ≤ most_cells → s ≡ shape_at modes m → ((x : List (ℕ × ℕ)) → s ≡ Struct x → ⊥)
    → ((x : ℕ) → s ≡ Same x → ⊥) → counted + 1 ≡ min (most_cells + 1) (counted + width_within n modes m)
one-other n modes m counted s few e a b = rw (width-other n modes m s e a b) (omega arith)
