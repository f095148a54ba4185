-- The operator of a formula (Report, 7.2.1 and 10.2.3; which of several is taken is own).
use Rattle.std.specs.Prelude.{◌≡◌, ◌≢◌, ◌<◌, ℕ, suc, List, [], ◌∷◌, length, slice_get, Option, Some, None, true}
use Rattle.std.specs.List.{Contains}
use Rattle.a68_coerce.specs.Balanced.{BalancesAt, IsFormed}
use Rattle.a68_coerce.specs.declared.form.ModeForm.TheVariants as form
use Rattle.a68_coerce.specs.declared.leaf.Balanced.{Balanced}
use Rattle.a68_coerce.specs.declared.leaf.Leaf.{Leaf}
use Rattle.a68_declare.specs.Outcome.{ByNode}
use Rattle.a68_equiv.specs.Related.{as_it_stands}
use Rattle.a68_identify.specs.Operators.{defines_sign, operand_modes}
use Rattle.a68_identify.specs.Pairs.{Pairwise}
use Rattle.a68_identify.specs.declared.identified.Identified.{Identified}
use Rattle.a68_identify.specs.declared.identified.Identified.TheVariants.{Declared, Standard}
use Rattle.a68_modes.specs.declared.coercion.Sort.TheVariants as by
use Rattle.a68_modes.specs.declared.shape.Shape.{Shape}
use Rattle.a68_signs.specs.Signs.{candidates}
use Rattle.a68_signs.specs.declared.signs.Operator.{Operator}
use Rattle.a68_ranges.specs.Definitions.{declared_in}
use Rattle.a68_ranges.specs.Surroundings.{Lies}
use Rattle.a68_tree.specs.Trees.{Built}
use Rattle.a68_modes.specs.declared.standard.TheConstants.{STANDARD}

-- The operand fits a parameter: it is balanced firmly to its mode. Where the parameter stands for every row, the operand is
-- balanced weakly to a row or the name of one. (A parameter's mode 0 is never VOID: an operand of that mode fits none.)
pub data OperandFits (nodes : List Shape) (leaves : List Leaf) : (parameter : ℕ) → Type 0 where
  firmly : {parameter : ℕ} (i : ℕ) → parameter ≢ 0 → BalancesAt nodes by.Firm (as_it_stands parameter) leaves i → OperandFits nodes leaves parameter
  any_row : {parameter : ℕ} (b : Balanced) → parameter ≡ 0 → IsFormed nodes by.Weak form.Row leaves (Some b) → OperandFits nodes leaves parameter

-- as many operands as parameters, and each fits its own
abbrev pub AllFit : List Shape → (operands : List (List Leaf)) → (parameters : List ℕ) → Type 0
AllFit nodes operands parameters = Pairwise (OperandFits nodes) operands parameters

-- the operands fit the parameters of an operator definition of the sign
pub record DefinitionFits (tree : Built) (nodes : List Shape) (of : ByNode) (sign : ℕ) (operands : List (List Leaf)) (definition : ℕ) : Type 0 where
  pub sign_is : defines_sign tree sign definition ≡ true
  pub fit : AllFit nodes operands (operand_modes tree of definition)

-- the parameters of a standard operator for so many operands
abbrev pub standard_parameters : Operator → (operands : ℕ) → List ℕ
standard_parameters o (suc (suc n)) = o.left ∷ o.right ∷ []
standard_parameters o n = o.right ∷ []

-- the operands fit those of a standard operator
abbrev pub StandardFits : List Shape → List (List Leaf) → Operator → Type 0
StandardFits nodes operands o = AllFit nodes operands (standard_parameters o (length operands))

-- the first of these for which that holds
pub data FirstThatHolds {A : Type 0} (Holds : A → Type 0) : List A → A → Type 0 where
  first_here : {x : A} {xs : List A} → Holds x → FirstThatHolds Holds (x ∷ xs) x
  first_later : {x y : A} {xs : List A} → (Holds x → ⊥) → FirstThatHolds Holds xs y → FirstThatHolds Holds (x ∷ xs) y

abbrev pub NoneHolds : {A : Type 0} → (Holds : A → Type 0) → List A → Type 0
NoneHolds Holds xs = (x : _) → Contains xs x → Holds x → ⊥

-- the first that fits in the innermost of these ranges that has one
pub data Own (tree : Built) (nodes : List Shape) (of : ByNode) (sign : ℕ) (operands : List (List Leaf)) : List ℕ → ℕ → Type 0 where
  own_here : {range definition : ℕ} {more : List ℕ} → FirstThatHolds (DefinitionFits tree nodes of sign operands) (declared_in tree range) definition
      → Own tree nodes of sign operands (range ∷ more) definition
  own_further : {range definition : ℕ} {more : List ℕ} → NoneHolds (DefinitionFits tree nodes of sign operands) (declared_in tree range)
      → Own tree nodes of sign operands more definition → Own tree nodes of sign operands (range ∷ more) definition

-- The operator of a formula at a node: an operator that the text defines in a range about it, else one of the standard environ.
pub data IsOperator (tree : Built) (nodes : List Shape) (of : ByNode) (at sign : ℕ) (operands : List (List Leaf)) : Identified → Type 0 where
  by_text : {definition : ℕ} (ranges : List ℕ) → Lies tree at ranges → Own tree nodes of sign operands ranges definition
      → IsOperator tree nodes of at sign operands (Declared definition)
  by_standard : {o : Operator} (ranges spelling : List ℕ) → Lies tree at ranges → ((d : ℕ) → Own tree nodes of sign operands ranges d → ⊥)
      → slice_get tree.spellings sign ≡ Some spelling → FirstThatHolds (StandardFits nodes operands) (candidates spelling (length operands)) o
      → IsOperator tree nodes of at sign operands (Standard o)

-- ---- what is looked for, found or not

-- the first of a list, if any
abbrev pub IsFirstThatHolds : {A : Type 0} → (Holds : A → Type 0) → List A → Option A → Type 0
IsFirstThatHolds Holds xs (Some x) = FirstThatHolds Holds xs x
IsFirstThatHolds Holds xs None = NoneHolds Holds xs

-- the definition in these ranges, if any
abbrev pub IsOwn : Built → List Shape → ByNode → (sign : ℕ) → List (List Leaf) → (ranges : List ℕ) → Option ℕ → Type 0
IsOwn tree nodes of sign operands ranges (Some d) = Own tree nodes of sign operands ranges d
IsOwn tree nodes of sign operands ranges None = (d : ℕ) → Own tree nodes of sign operands ranges d → ⊥

-- the parameters and the result of a standard operator are standard modes
abbrev pub IsLow : Operator → Type 0
IsLow o = (o.left < STANDARD) × (o.right < STANDARD) × (o.result < STANDARD)
