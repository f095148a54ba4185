-- Inner: the headline does not rest on this file.
-- Modes that lead firmly to no union.
use Rattle.std.specs.Prelude.{◌≡◌, ◌<◌, ℕ, Bool, true, false, nat_eq, List, [], ◌∷◌, length, slice_get, Option, Some}
use Rattle.std.specs.List.{Contains, list_any}
use Rattle.a68_coerce.specs.Paths.{FirmTo, No}
use Rattle.a68_coerce.specs.declared.goal.CoercionGoal.TheVariants as goal
use Rattle.a68_coerce.specs.declared.leaf.Leaf.{Leaf}
use Rattle.a68_coerce.specs.declared.leaf.Leaf.TheVariants as leaf
use Rattle.a68_equiv.specs.Classes.{class_of}
use Rattle.a68_equiv.specs.declared.mode.Mode.{Mode}
use Rattle.a68_equiv.specs.Related.{Meek, as_it_stands}
use Rattle.a68_equiv.specs.Unfolding.{Equivalent, is_union, leads_within, unfolded}
use Rattle.a68_identify.specs.declared.apart.Met.{Met}
use Rattle.a68_modes.specs.Nodes.{shape_at}
use Rattle.a68_modes.specs.declared.coercion.Coercion.{Coercion}
use Rattle.a68_modes.specs.declared.shape.Shape.{Shape}

-- none of these modes is a mode word or a union
abbrev pub AreBare : List Shape → List ℕ → Type 0
AreBare nodes members = (x : ℕ) → Contains members x → leads_within (shape_at nodes x) ≡ false

-- the one mode does not lead firmly to the other
abbrev pub NeverFirm : List Shape → (from to : ℕ) → Type 0
NeverFirm nodes from to = No (FirmTo nodes (as_it_stands from) (goal.Mode (as_it_stands to)))

-- ---- what an operand meets

-- a mode is there, its class is in a set, and it is no union, if none is said to be met
pub record IsKnown (nodes : List Shape) (classes set : List ℕ) (union : Bool) (k : Mode) : Type 0 where
  pub there : k.id < length nodes
  pub class : list_any (nat_eq (class_of classes k)) set ≡ true
  pub plain : union ≡ false → is_union (unfolded nodes k.id) ≡ false

-- so is each mode to which a mode leads meekly
abbrev pub KnowsAll : List Shape → (classes set : List ℕ) → (union : Bool) → Mode → Type 0
KnowsAll nodes classes set union m = (path : List Coercion) (k : Mode) → Meek nodes m path k → IsKnown nodes classes set union k

-- where the mode of an operand is told, the operand is a unit alone that has it, and all that it leads to is known
abbrev pub IsMet : List Shape → (classes : List ℕ) → (leaves : List Leaf) → (of : Option ℕ) → (set : List ℕ) → (union : Bool) → Type 0
IsMet nodes classes leaves of set union = (mode : ℕ) → of ≡ Some mode → (leaves ≡ leaf.Mode mode ∷ []) × KnowsAll nodes classes set union (as_it_stands mode)

-- of each operand
pub record AreMet (nodes : List Shape) (classes : List ℕ) (operands : List (List Leaf)) (mets : List Met) : Type 0 where
  pub long : length mets ≡ length operands
  pub each : (i : ℕ) (leaves : List Leaf) (met : Met) → slice_get operands i ≡ Some leaves → slice_get mets i ≡ Some met → IsMet nodes classes leaves met.of met.classes.keys met.union
