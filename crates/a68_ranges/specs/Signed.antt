-- Inner: the headline does not rest on this file.
-- Operator definitions by range and sign, as they are added (own).
use Rattle.std.specs.Prelude.{◌≡◌, ◌<◌, ◌≤◌, ℕ, Bool, true, false, List, [], ◌∷◌, ◌++◌}
use Rattle.a68_ranges.specs.Nodes.{name_at}
use Rattle.a68_ranges.specs.Tables.{at_sign, operators_in}
use Rattle.a68_tree.specs.Trees.{Built}

-- the node is the last of its sign in the range, and nothing else changes
abbrev pub IsAdded : (old new : List ((ℕ × ℕ) × List ℕ)) → (range sign id : ℕ) → Type 0
IsAdded old new range sign id =
    (at_sign new range sign ≡ at_sign old range sign ++ id ∷ [])
    × ((r n : ℕ) → ((r ≡ range) × (n ≡ sign) → ⊥) → at_sign new r n ≡ at_sign old r n)

-- a node that a range declares is added, where it counts
abbrev pub IsOneAdded : Built → (old new : List ((ℕ × ℕ) × List ℕ)) → (range id : ℕ) → (counts : Bool) → Type 0
IsOneAdded tree old new range id false = new ≡ old
IsOneAdded tree old new range id true = IsAdded old new range (name_at tree id) id

-- the operator definitions of the ranges before one, and no others
abbrev pub AreOperatorsBefore : Built → List ((ℕ × ℕ) × List ℕ) → (count : ℕ) → Type 0
AreOperatorsBefore tree entries count =
    ((range sign : ℕ) → range < count → at_sign entries range sign ≡ operators_in tree range sign)
    × ((range sign : ℕ) → count ≤ range → at_sign entries range sign ≡ [])
