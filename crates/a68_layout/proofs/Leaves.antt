-- Shapes that are no rows, no structures and no mode words, and what a mode is at its shape.
use Rattle.std.proofs.Common.{◌≡◌, ℕ, zero, suc, ◌+◌, ◌-◌, ◌≤◌, min, Bool, List, length, refl, arith}
use Rattle.a68_modes.specs.Nodes.{shape_at}
use Rattle.a68_modes.specs.declared.shape.Shape.{Shape}
use Rattle.a68_modes.specs.declared.shape.Shape.TheVariants.{Rows, Struct, Same}
use Rattle.a68_layout.specs.Rooms.{needs_by, needs_within}
use Rattle.a68_layout.proofs.Shaping.{no-shape}

abbrev pub IsLeaf : Shape → Type 0
IsLeaf (Rows dims flex m) = ⊥
IsLeaf (Struct fields) = ⊥
IsLeaf (Same m) = ⊥
IsLeaf _ = Unit {0}

leaf-by : (s : Shape) → ((d : ℕ) (f : Bool) (m : ℕ) → s ≡ Rows d f m → ⊥) → ((x : List (ℕ × ℕ)) → s ≡ Struct x → ⊥) → ((x : ℕ) → s ≡ Same x → ⊥) → IsLeaf s
leaf-by (Rows dims flex m) a b c = a dims flex m refl
leaf-by (Struct fields) a b c = b fields refl
leaf-by (Same m) a b c = c m refl
leaf-by _ a b c = tt

pub leaf : (modes : List Shape) (m : ℕ) (s : Shape) → s ≡ shape_at modes m → ((d : ℕ) (f : Bool) (k : ℕ) → s ≡ Rows d f k → ⊥)
    → ((x : List (ℕ × ℕ)) → s ≡ Struct x → ⊥) → ((x : ℕ) → s ≡ Same x → ⊥) → IsLeaf (shape_at modes m)
leaf modes m s e a b c = rw (← e) (leaf-by s a b c)

pub leaf-past : (modes : List Shape) (m : ℕ) → length modes ≤ m → IsLeaf (shape_at modes m)
leaf-past modes m past = rw (no-shape modes m past) tt

-- ---- how many bounds

needs-by_leaf : (f : ℕ → ℕ) (s : Shape) → IsLeaf s → needs_by f s ≡ 0
needs-by_leaf f (Rows dims flex m) is = absurd is
needs-by_leaf f (Struct fields) is = absurd is
needs-by_leaf f (Same m) is = absurd is
needs-by_leaf f _ is = refl

pub needs-leaf : (most n : ℕ) (modes : List Shape) (m : ℕ) → IsLeaf (shape_at modes m) → 0 ≡ min most (needs_within n modes m)
needs-leaf most zero modes m is = omega arith
needs-leaf most (suc n) modes m is = rw (needs-by_leaf (needs_within n modes) (shape_at modes m) is) (omega arith)

pub needs-row : (n : ℕ) (modes : List Shape) (m dims : ℕ) (flex : Bool) (k : ℕ) → (n ≡ 0 → ⊥) → Rows dims flex k ≡ shape_at modes m
    → needs_within n modes m ≡ dims + needs_within (n - 1) modes k
needs-row zero modes m dims flex k some e = absurd (some refl)
needs-row (suc n) modes m dims flex k some e =
    let one : suc n - 1 ≡ n = omega arith in
    rw (one, ← e) refl
