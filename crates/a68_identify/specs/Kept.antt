-- Inner: the headline does not rest on this file.
-- What one mode more leaves as it was.
use Rattle.std.specs.Prelude.{◌↔◌, ℕ, List, length}
use Rattle.std.specs.List.{All}
use Rattle.a68_coerce.specs.Below.{IsLeafBelow}
use Rattle.a68_coerce.specs.declared.leaf.Leaf.{Leaf}
use Rattle.a68_declare.specs.Outcome.{ByNode}
use Rattle.a68_identify.specs.Identified.{IsOperator}
use Rattle.a68_identify.specs.Operators.{NumbersAreThere}
use Rattle.a68_identify.specs.declared.identified.Identified.{Identified}
use Rattle.a68_modes.specs.declared.shape.Shape.{Shape}
use Rattle.a68_tree.specs.Trees.{Built}

-- a formula whose operands yield modes of the shorter list has the same operator over the longer one
abbrev pub KeepOperators : (nodes after : List Shape) → Type 0
KeepOperators nodes after =
    (tree : Built) (of : ByNode) (at sign : ℕ) (operands : List (List Leaf)) (found : Identified) → NumbersAreThere tree nodes of → All (All (IsLeafBelow (length nodes))) operands
    → IsOperator tree nodes of at sign operands found ↔ IsOperator tree after of at sign operands found
