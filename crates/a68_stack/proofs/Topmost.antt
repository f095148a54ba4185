-- The items that stand topmost, of which the topmost one is the last.
use Rattle.std.proofs.Common.{◌≡◌, ℕ, ◌+◌, ◌-◌, ◌≤◌, ◌∙◌, List, [], ◌∷◌, length, get_or, ap, sym, refl, arith}
use Rattle.std.specs.Prelude.{reverse}
use Rattle.std.proofs.lemmas.List.{get_or-reverse, length-reverse}
use Rattle.a68_stack.specs.declared.stack.Item.{Item}

-- an item that is told by its place from the end
turned : (items : List Item) (k n : ℕ) (i : Item) → n ≡ length items - 1 - k → k + 1 ≤ length items → i ≡ get_or items n i → get_or (reverse items) k i ≡ i
turned items k n i at all is = get_or-reverse items k i (omega (arith, all)) ∙ ap (λ m. get_or items m i) (sym at) ∙ sym is

two_of : (items : List Item) (i j : Item) → 2 ≤ length items → get_or items 0 i ≡ i → get_or items 1 j ≡ j → (rest : List Item) × (items ≡ i ∷ j ∷ rest)
two_of [] i j all is below = absurd (omega (arith, all))
two_of (x ∷ []) i j all is below = absurd (omega (arith, all))
two_of (x ∷ y ∷ rest) i j all is below = (rest, rw (is, below) refl)

three_of : (items : List Item) (i j k : Item) → 3 ≤ length items → get_or items 0 i ≡ i → get_or items 1 j ≡ j → get_or items 2 k ≡ k
    → (rest : List Item) × (items ≡ i ∷ j ∷ k ∷ rest)
three_of [] i j k all is below lowest = absurd (omega (arith, all))
three_of (x ∷ []) i j k all is below lowest = absurd (omega (arith, all))
three_of (x ∷ y ∷ []) i j k all is below lowest = absurd (omega (arith, all))
three_of (x ∷ y ∷ z ∷ rest) i j k all is below lowest = (rest, rw (is, below, lowest) refl)

-- the two items at the end
pub two_on_top : (items : List Item) (i j : Item) → 2 ≤ length items → i ≡ get_or items (length items - 1) i → j ≡ get_or items (length items - 2) j
    → (rest : List Item) × (reverse items ≡ i ∷ j ∷ rest)
two_on_top items i j all is below =
    two_of (reverse items) i j (omega (arith, all, length-reverse items)) (turned items 0 (length items - 1) i (omega arith) (omega (arith, all)) is)
    (turned items 1 (length items - 2) j (omega arith) (omega (arith, all)) below)

-- the three items at the end
pub three_on_top : (items : List Item) (i j k : Item) → 3 ≤ length items → i ≡ get_or items (length items - 1) i → j ≡ get_or items (length items - 2) j
    → k ≡ get_or items (length items - 3) k → (rest : List Item) × (reverse items ≡ i ∷ j ∷ k ∷ rest)
three_on_top items i j k all is below lowest =
    three_of (reverse items) i j k (omega (arith, all, length-reverse items)) (turned items 0 (length items - 1) i (omega arith) (omega (arith, all)) is)
    (turned items 1 (length items - 2) j (omega arith) (omega (arith, all)) below) (turned items 2 (length items - 3) k (omega arith) (omega (arith, all)) lowest)

-- two items that are told by others
pub two_are : (i j a b : Item) (rest : List Item) → i ≡ a → j ≡ b → i ∷ j ∷ rest ≡ a ∷ b ∷ rest
two_are i j a b rest x y = rw (x, y) refl

pub three_are : (i j k a b c : Item) (rest : List Item) → i ≡ a → j ≡ b → k ≡ c → i ∷ j ∷ k ∷ rest ≡ a ∷ b ∷ c ∷ rest
three_are i j k a b c rest x y z = rw (x, y, z) refl
