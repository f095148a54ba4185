-- Inner: the headline does not rest on this file.
-- What holds of all paths, and what one node more leaves as it was.
use Rattle.std.specs.Prelude.{◌≡◌, ◌<◌, ◌↔◌, ℕ, List, Option, length, false}
use Rattle.std.specs.List.{All}
use Rattle.a68_coerce.specs.declared.form.ModeForm.{ModeForm}
use Rattle.a68_coerce.specs.declared.leaf.Balanced.{Balanced}
use Rattle.a68_coerce.specs.declared.leaf.Leaf.{Leaf}
use Rattle.a68_coerce.specs.Balanced.{IsBalanced, IsFormed, IsSided}
use Rattle.a68_coerce.specs.Below.{IsLeafBelow}
use Rattle.a68_equiv.specs.Classes.{IsNodeOf}
use Rattle.a68_equiv.specs.declared.mode.Mode.{Mode}
use Rattle.a68_coerce.specs.Paths.{Leads}
use Rattle.a68_equiv.specs.Related.{as_it_stands, without_flex}
use Rattle.a68_equiv.specs.Unfolding.{Equivalent, IsMember, leads_within}
use Rattle.a68_equiv.specs.Ways.{AreWellFormed}
use Rattle.a68_modes.specs.Nodes.{ShapeIsWithin, HoldsNodes}
use Rattle.a68_modes.specs.declared.coercion.Coercion.{Coercion}
use Rattle.a68_modes.specs.declared.coercion.Sort.{Sort}
use Rattle.a68_modes.specs.declared.shape.Shape.{Shape}

-- of each sort one path leads from one mode to another
abbrev pub PathsAreOne : Type 0
PathsAreOne = (nodes : List Shape) → HoldsNodes nodes → AreWellFormed nodes → (sort : Sort) (from to : Mode) (p q : List Coercion) → from.id < length nodes → Leads nodes sort from to p → Leads nodes sort from to q → p ≡ q

-- the members of unions have no FLEX down to the next REF or PROC
abbrev pub MembersHaveNoFlex : List Shape → Type 0
MembersHaveNoFlex nodes = (m x : ℕ) → m < length nodes → IsMember nodes m x → Equivalent nodes (without_flex x) (as_it_stands x)

-- the same paths lead between the modes of the shorter list
abbrev pub KeepPaths : (nodes after : List Shape) → Type 0
KeepPaths nodes after = (sort : Sort) (from to : Mode) (path : List Coercion) → from.id < length nodes → to.id < length nodes → Leads nodes sort from to path ↔ Leads after sort from to path

-- the same leaf is balanced, where the mode is known, where its form is, and on a side of an identity relation
abbrev pub KeepBalances : (nodes after : List Shape) → Type 0
KeepBalances nodes after = (sort : Sort) (to : Mode) (leaves : List Leaf) (found : Option ℕ) → to.id < length nodes → All (IsLeafBelow (length nodes)) leaves → IsBalanced nodes sort to leaves found ↔ IsBalanced after sort to leaves found

abbrev pub KeepForms : (nodes after : List Shape) → Type 0
KeepForms nodes after = (sort : Sort) (form : ModeForm) (leaves : List Leaf) (found : Option Balanced) → All (IsLeafBelow (length nodes)) leaves → IsFormed nodes sort form leaves found ↔ IsFormed after sort form leaves found

abbrev pub KeepSides : (nodes after : List Shape) → Type 0
KeepSides nodes after = (soft strong : List Leaf) (found : Option Balanced) → All (IsLeafBelow (length nodes)) soft → All (IsLeafBelow (length nodes)) strong → IsSided nodes soft strong found ↔ IsSided after soft strong found

-- interning a mode changes none of these between the modes that were there, where the members of unions have no FLEX
abbrev pub InterningKeeps : (Kept : (nodes after : List Shape) → Type 0) → Type 0
InterningKeeps Kept = (nodes after : List Shape) (shape : Shape) (id : ℕ) → HoldsNodes nodes → AreWellFormed nodes → ShapeIsWithin (length nodes) shape → MembersHaveNoFlex nodes → IsNodeOf nodes after shape id → Kept nodes after

-- and where the shape is no union and no mode word, they have none as before
abbrev pub InterningKeepsMembers : Type 0
InterningKeepsMembers = (nodes after : List Shape) (shape : Shape) (id : ℕ) → HoldsNodes nodes → AreWellFormed nodes → ShapeIsWithin (length nodes) shape → MembersHaveNoFlex nodes → IsNodeOf nodes after shape id → leads_within shape ≡ false → MembersHaveNoFlex after
