-- What is found for the parts of which something is asked (Report, 3.2.1, 5.2.2, 5.4.2).
use Rattle.std.specs.Prelude.{◌≡◌, ◌⊎◌, ℕ, List, [], ◌∷◌, Option, Some, None}
use Rattle.a68_coerce.specs.Balanced.{IsBalanced, IsFormed, IsSided}
use Rattle.a68_coerce.specs.declared.leaf.Balanced.{Balanced}
use Rattle.a68_coerce.specs.declared.leaf.Leaf.{Leaf}
use Rattle.a68_declare.specs.Outcome.{ByNode}
use Rattle.a68_equiv.specs.Related.{as_it_stands}
use Rattle.a68_identify.specs.Identified.{IsOperator}
use Rattle.a68_identify.specs.declared.identified.Identified.{Identified}
use Rattle.a68_mode_table.specs.Growing.{IsNode}
use Rattle.a68_modes.specs.declared.coercion.Sort.{Sort}
use Rattle.a68_modes.specs.declared.shape.Shape.{Shape}
use Rattle.a68_ranges.specs.Nodes.{name_at}
use Rattle.a68_tree.specs.Trees.{Built}
use Rattle.a68_yields.specs.Leaves.{HasLeaves, HasNoLeaves}
use Rattle.a68_yields.specs.declared.sought.Sought.{Sought}
use Rattle.a68_yields.specs.declared.sought.Sought.TheVariants as sought
use Rattle.a68_yields.specs.declared.sought.Expectation.{Expectation}
use Rattle.a68_yields.specs.declared.sought.Expectation.TheVariants as want
use Rattle.a68_yields.specs.declared.yielding.Finding.{Finding}
use Rattle.a68_yields.specs.declared.yielding.Finding.TheVariants as finding
use Rattle.a68_yields.specs.declared.yielding.Yielding.{Yielding}

-- the mode that these leaves are balanced to, where a mode or a form is wanted
abbrev pub IsModeFound : List Shape → Sort → Expectation → List Leaf → Option ℕ → Type 0
IsModeFound nodes sort (want.Mode m) leaves (Some x) = (x ≡ m) × (i : ℕ) × IsBalanced nodes sort (as_it_stands m) leaves (Some i)
IsModeFound nodes sort (want.Mode m) leaves None = IsBalanced nodes sort (as_it_stands m) leaves None
IsModeFound nodes sort (want.ModeForm f) leaves (Some x) = (b : Balanced) × IsFormed nodes sort f leaves (Some b) × IsNode nodes b.mode x
IsModeFound nodes sort (want.ModeForm f) leaves None = IsFormed nodes sort f leaves None

-- the name of an identity relation: first one that the left side leads to softly, else one that the right side does
abbrev pub IsNameFound : List Shape → (left right : List Leaf) → Option ℕ → Type 0
IsNameFound nodes left right (Some x) =
    (b : Balanced) × IsNode nodes b.mode x × (IsSided nodes left right (Some b) ⊎ (IsSided nodes left right None × IsSided nodes right left (Some b)))
IsNameFound nodes left right None = IsSided nodes left right None × IsSided nodes right left None

-- the operator of a formula for these operands
abbrev pub IsOperatorFound : Built → List Shape → ByNode → (n : ℕ) → List (List Leaf) → Option Identified → Type 0
IsOperatorFound tree nodes of n operands (Some found) = IsOperator tree nodes of n (name_at tree n) operands found
IsOperatorFound tree nodes of n operands None = (found : Identified) → IsOperator tree nodes of n (name_at tree n) operands found → ⊥

-- what is found at a node for what is looked for there
pub data IsFound (tree : Built) (nodes : List Shape) (of : ByNode) (ys : List Yielding) (n : ℕ) : Sought → Finding → Type 0 where
  for_nothing : IsFound tree nodes of ys n sought.Nothing finding.Nothing
  for_part : {sort : Sort} {w : Expectation} {p : ℕ} {found : Option ℕ} (leaves : List Leaf) → HasLeaves tree ys p leaves → IsModeFound nodes sort w leaves found
      → IsFound tree nodes of ys n (sought.Part sort w p) (finding.Mode found)
  for_unknown_part : {sort : Sort} {w : Expectation} {p : ℕ} → HasNoLeaves tree ys p → IsFound tree nodes of ys n (sought.Part sort w p) (finding.Mode None)
  for_sides : {l r : ℕ} {found : Option ℕ} (left right : List Leaf) → HasLeaves tree ys l left → HasLeaves tree ys r right → IsNameFound nodes left right found
      → IsFound tree nodes of ys n (sought.Sides l r) (finding.Mode found)
  for_unknown_sides : {l r : ℕ} → HasNoLeaves tree ys l ⊎ HasNoLeaves tree ys r → IsFound tree nodes of ys n (sought.Sides l r) (finding.Mode None)
  for_operand : {o : ℕ} {found : Option Identified} (leaves : List Leaf) → HasLeaves tree ys o leaves → IsOperatorFound tree nodes of n (leaves ∷ []) found
      → IsFound tree nodes of ys n (sought.Monadic o) (finding.Operator found)
  for_unknown_operand : {o : ℕ} → HasNoLeaves tree ys o → IsFound tree nodes of ys n (sought.Monadic o) (finding.Operator None)
  for_operands : {l r : ℕ} {found : Option Identified} (left right : List Leaf) → HasLeaves tree ys l left → HasLeaves tree ys r right
      → IsOperatorFound tree nodes of n (left ∷ right ∷ []) found → IsFound tree nodes of ys n (sought.Dyadic l r) (finding.Operator found)
  for_unknown_operands : {l r : ℕ} → HasNoLeaves tree ys l ⊎ HasNoLeaves tree ys r → IsFound tree nodes of ys n (sought.Dyadic l r) (finding.Operator None)
