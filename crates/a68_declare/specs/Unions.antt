-- Inner: the headline does not rest on this file.
-- Modes that lead to others among some.
use Rattle.std.specs.Prelude.{◌≡◌, ℕ, Bool, not, ◌&&◌, List, map, nat_eq}
use Rattle.std.specs.List.{Contains, list_any}
use Rattle.a68_equiv.specs.declared.mode.Mode.{Mode}
use Rattle.a68_equiv.specs.Classes.{class_of}
use Rattle.a68_equiv.specs.Related.{as_it_stands, LeadsMeekly}
use Rattle.a68_equiv.specs.Unfolding.{Equivalent}
use Rattle.a68_modes.specs.declared.shape.Shape.{Shape}

-- the classes of these modes, as they stand
abbrev pub classes_at : (classes members : List ℕ) → List ℕ
classes_at classes members = map (λ m. class_of classes (as_it_stands m)) members

-- a set has the classes of these modes and no others
abbrev pub HasClasses : (classes members set : List ℕ) → Type 0
HasClasses classes members set = (class : ℕ) → list_any (nat_eq class) set ≡ list_any (nat_eq class) (classes_at classes members)

-- the class of a mode is another one than that, and in the set
abbrev pub has_other : (classes set : List ℕ) → (own : ℕ) → Mode → Bool
has_other classes set own m = not (nat_eq (class_of classes m) own) && list_any (nat_eq (class_of classes m)) set

-- a mode leads meekly to one of these that is not equivalent to that one
abbrev pub LeadsAway : List Shape → (members : List ℕ) → (one : ℕ) → Mode → Type 0
LeadsAway nodes members one m = (y : ℕ) × Contains members y × (Equivalent nodes (as_it_stands one) (as_it_stands y) → ⊥) × LeadsMeekly nodes m (as_it_stands y)
