-- The units that no coercion leads to what is asked of them (Report, 3.2.1, 5.2.3, 5.2.4 and 6.1).
use Rattle.std.specs.Prelude.{◌≡◌, ℕ, List, Option, Some, None, Bool, true, false, if◌then◌else◌}
use Rattle.a68_coerce.specs.Paths.{CanLead}
use Rattle.a68_coerce.specs.declared.leaf.Leaf.{Leaf}
use Rattle.a68_coerce.specs.declared.leaf.Leaf.TheVariants as leaf
use Rattle.a68_equiv.specs.Related.{as_it_stands}
use Rattle.a68_modes.specs.Nodes.{shape_at}
use Rattle.a68_modes.specs.declared.coercion.Sort.TheVariants as by
use Rattle.a68_modes.specs.declared.shape.Shape.{Shape}
use Rattle.a68_modes.specs.declared.shape.Shape.TheVariants.{Void, Ref, Rows, Struct}
use Rattle.a68_positions.specs.declared.position.Position.{Position}
use Rattle.a68_positions.specs.declared.position.Position.TheVariants as position
use Rattle.a68_refusals.specs.declared.rule.NodeRule.TheVariants.{C1, C2}
use Rattle.a68_refusals.specs.declared.unit.Misfit.{Misfit}
use Rattle.a68_tree.specs.declared.kind.NodeKind.{NodeKind}
use Rattle.a68_tree.specs.declared.kind.NodeKind.TheVariants as kind
use Rattle.a68_yields.specs.Yields.{is_unknown}
use Rattle.a68_yields.specs.declared.yielding.Yielding.{Yielding}
use Rattle.a68_yields.specs.declared.yielding.Yielding.TheVariants as yields

-- what chooses among its parts, as a choice does, and a serial clause with EXIT; what is asked of it is asked of these
abbrev pub is_choice : Yielding → Bool
is_choice yields.Choice = true
is_choice _ = false

-- clauses hand what is asked on to their parts; all other units are coerced themselves
abbrev pub hands_on : NodeKind → Bool
hands_on kind.Closed = true
hands_on kind.Serial = true
hands_on kind.Out = true
hands_on kind.Conditional = true
hands_on kind.Case = true
hands_on kind.Conformity = true
hands_on _ = false

-- what may stand in strong positions only: a skip and a jump for every mode, NIL for a name, a vacuum for a row, a collateral clause for nothing, a row or a
-- structure
abbrev pub suits_strongly : NodeKind → Shape → Bool
suits_strongly kind.Skip shape = true
suits_strongly kind.GoTo shape = true
suits_strongly kind.Nil (Ref m) = true
suits_strongly kind.Vacuum (Rows dims flex of) = true
suits_strongly kind.Collateral Void = true
suits_strongly kind.Collateral (Rows dims flex of) = true
suits_strongly kind.Collateral (Struct fields) = true
suits_strongly _ shape = false

-- a unit of that kind does not lead strongly to a mode
abbrev pub LeafLeadsNot : List Shape → (m : ℕ) → NodeKind → Leaf → Type 0
LeafLeadsNot nodes m k (leaf.Mode from) = CanLead nodes by.Strong (as_it_stands from) (as_it_stands m) → ⊥
LeafLeadsNot nodes m k leaf.StrongOnly = suits_strongly k (shape_at nodes m) ≡ false

-- what a node of that kind yields does not
abbrev pub LeadsNot : List Shape → (m : ℕ) → NodeKind → Yielding → Type 0
LeadsNot nodes m k (yields.Unit l) = LeafLeadsNot nodes m k l
LeadsNot nodes m k y = ⊥

-- the node that is to tell of it is the one that sets the goal, or none for the program
pub data IsGoalMisfit (nodes : List Shape) (m : ℕ) (setter : Option ℕ) (k : NodeKind) (y : Yielding) : Option Misfit → Type 0 where
  hands_on_it : {found : Option Misfit} → hands_on k ≡ true → found ≡ None → IsGoalMisfit nodes m setter k y found
  suits : {found : Option Misfit} → hands_on k ≡ false → (LeadsNot nodes m k y → ⊥) → found ≡ None → IsGoalMisfit nodes m setter k y found
  misfits : {found : Option Misfit} → hands_on k ≡ false → LeadsNot nodes m k y → found ≡ Some (record { by = setter; rule = C1 }) → IsGoalMisfit nodes m setter k y found

-- Where nothing is found for what is asked, the unit itself tells of it, or what chooses.
abbrev pub unasked : (n : ℕ) → NodeKind → Yielding → Option Misfit
unasked n k y =
    if is_choice y then Some (record { by = Some n; rule = C2 }) else (if hands_on k then None else Some (record { by = Some n; rule = C1 }))

abbrev pub unfound : (n : ℕ) → NodeKind → Yielding → Option Misfit
unfound n k y = if is_unknown y then None else unasked n k y

-- the rule of coercion that a node breaks, and which node tells of it
abbrev pub IsMisfit : List Shape → (n : ℕ) → NodeKind → Yielding → Position → Option Misfit → Type 0
IsMisfit nodes n k y (position.Goal m setter) found = IsGoalMisfit nodes m setter k y found
IsMisfit nodes n k y (position.Asks by_sort None) found = found ≡ unfound n k y
IsMisfit nodes n k y _ found = found ≡ None
