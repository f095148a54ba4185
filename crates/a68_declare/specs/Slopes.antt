-- Inner: the headline does not rest on this file.
-- Graphs whose nodes have heights, to which no step leads upwards.
use Rattle.std.specs.Prelude.{◌<◌, ℕ, Bool, List, IsTrue, length, nat_le, nat_lt, slice_index_or}
use Rattle.std.specs.List.{list_all}
use Rattle.a68_declare.specs.declared.slopes.Slope.{Slope}
use Rattle.a68_equiv.specs.Ways.{StepsStayInside, row}

-- the height of a node, 0 where none is told
abbrev pub height : List ℕ → ℕ → ℕ
height heights node = slice_index_or heights node 0

-- no step leads to a higher node
abbrev pub NoneRises : List (List ℕ) → List ℕ → Type 0
NoneRises graph heights = (a : ℕ) → a < length graph → IsTrue (list_all (λ b. nat_le (height heights b) (height heights a)) (row graph a))

-- each step from a node leads to a lower one
abbrev pub all_fall : List (List ℕ) → List ℕ → ℕ → Bool
all_fall graph heights a = list_all (λ b. nat_lt (height heights b) (height heights a)) (row graph a)

-- a graph in which each step stays, and with these heights none rises
pub record IsSlope (s : Slope) : Type 0 where
  pub closed : StepsStayInside s.rows.items
  pub gentle : NoneRises s.rows.items s.heights.items
