-- What is looked for is there.
use Rattle.std.proofs.Common.{◌<◌, ◌∷◌, [], ℕ, List, Bool, true, false, Option, None, Some, if◌then◌else◌, arith}
use Rattle.a68_modes.specs.declared.coercion.Sort.{Sort}
use Rattle.a68_modes.specs.declared.coercion.Sort.TheVariants as by
use Rattle.a68_tree.specs.Trees.{Built}
use Rattle.a68_tree.specs.declared.kind.NodeKind.{NodeKind}
use Rattle.a68_tree.specs.declared.kind.NodeKind.TheVariants as kind
use Rattle.a68_yields.specs.Below.{IsSoughtBelow, IsExpectationBelow}
use Rattle.a68_yields.specs.Sought.{asks_by, is_subscript, of_call, of_first, operands, sides, sought_by}
use Rattle.a68_yields.specs.declared.sought.Expectation.{Expectation}
use Rattle.a68_yields.specs.declared.sought.Expectation.TheVariants as want

module _ (n : ℕ) (some : 2 < n) where
  AskedBelow : Option (Sort × Expectation) → Type 0
  AskedBelow None = Unit {0}
  AskedBelow (Some asked) = IsExpectationBelow n asked.1

  asks_below : (k : NodeKind) → AskedBelow (asks_by k)
  unfolding AskedBelow
  asks_below kind.Conditional = some
  asks_below kind.While = some
  asks_below kind.Case = omega arith
  asks_below kind.From = omega arith
  asks_below kind.By = omega arith
  asks_below kind.To = omega arith
  asks_below kind.Lower = omega arith
  asks_below kind.Upper = omega arith
  asks_below kind.At = omega arith
  asks_below _ = tt

  first_below : (parts : List ℕ) (asked : Option (Sort × Expectation)) → AskedBelow asked → IsSoughtBelow n (of_first parts asked)
  unfolding AskedBelow
  first_below [] asked below = tt
  first_below (p ∷ ps) None below = tt
  first_below (p ∷ ps) (Some asked) below = below

  index_below : (parts : List ℕ) (is : Bool) → IsSoughtBelow n (if is then of_first parts (Some (by.Meek, want.Mode 1)) else Rattle.a68_yields.specs.declared.sought.Sought.TheVariants.Nothing)
  unfolding AskedBelow
  index_below parts true = first_below parts (Some (by.Meek, want.Mode 1)) (let one : 1 < n = omega arith in one)
  index_below parts false = tt

  sides_below : (parts : List ℕ) → IsSoughtBelow n (sides parts)
  sides_below [] = tt
  sides_below (l ∷ []) = tt
  sides_below (l ∷ r ∷ []) = tt
  sides_below (l ∷ r ∷ x ∷ xs) = tt

  operands_below : (parts : List ℕ) → IsSoughtBelow n (operands parts)
  operands_below [] = tt
  operands_below (l ∷ []) = tt
  operands_below (l ∷ r ∷ []) = tt
  operands_below (l ∷ r ∷ x ∷ xs) = tt

  call_below : (called : Option ℕ) (parts : List ℕ) → IsSoughtBelow n (of_call called parts)
  call_below (Some place) parts = tt
  call_below None parts = first_below parts (asks_by kind.Call) (asks_below kind.Call)

  pub sought_below : (tree : Built) (called : Option ℕ) (k : NodeKind) (parts : List ℕ) → IsSoughtBelow n (sought_by tree called k parts)
  sought_below tree called kind.Identity parts = sides_below parts
  sought_below tree called kind.Monadic parts = operands_below parts
  sought_below tree called kind.Dyadic parts = operands_below parts
  sought_below tree called kind.Call parts = call_below called parts
  sought_below tree called kind.Index parts = index_below parts (is_subscript tree parts)
  sought_below tree called k parts = first_below parts (asks_by k) (asks_below k)
