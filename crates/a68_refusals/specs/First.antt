-- The rule that a tree breaks first, of those that its nodes break (own).
use Rattle.std.specs.Prelude.{◌≡◌, ◌<◌, ◌≤◌, ℕ, List, length, Option, Some, None}
use Rattle.a68_modes.specs.declared.shape.Shape.{Shape}
use Rattle.a68_positions.specs.Given.{finding_at, position_at}
use Rattle.a68_positions.specs.declared.position.Position.{Position}
use Rattle.a68_ranges.specs.Nodes.{kind_at, place_at}
use Rattle.a68_refusals.specs.Order.{IsFirstOf, told_by}
use Rattle.a68_refusals.specs.Rules.{own_rule, place_of}
use Rattle.a68_refusals.specs.Units.{IsMisfit}
use Rattle.a68_refusals.specs.declared.rule.NodeRule.{NodeRule}
use Rattle.a68_refusals.specs.declared.turn.Broken.{Broken}
use Rattle.a68_refusals.specs.declared.unit.Misfit.{Misfit}
use Rattle.a68_tree.specs.Trees.{Built}
use Rattle.a68_yields.specs.Leaves.{yield_at}
use Rattle.a68_yields.specs.declared.yielding.Finding.{Finding}
use Rattle.a68_yields.specs.declared.yielding.Yielding.{Yielding}

-- what is known of a tree once it is known what is asked of each node
pub record Asked : Type 0 where
  pub tree : Built
  pub tags : List (Option ℕ)
  pub defined : List ℕ
  pub nodes : List Shape
  pub ys : List Yielding
  pub fs : List Finding
  pub ps : List Position

-- a rule that a node breaks by itself
abbrev pub own_at : Asked → (n : ℕ) → Option NodeRule
own_at a n = own_rule a.tree a.tags a.defined a.nodes a.ys n (finding_at a.fs n) (position_at a.ps n) (kind_at a.tree n)

-- that of the unit, which does not lead to what is asked of it
abbrev pub IsMisfitAt : Asked → (n : ℕ) → Option Misfit → Type 0
IsMisfitAt a n found = IsMisfit a.nodes n (kind_at a.tree n) (yield_at a.ys n) (position_at a.ps n) found

abbrev pub told_own : Built → (n : ℕ) → Option NodeRule → Option Broken
told_own tree n None = None
told_own tree n (Some rule) = Some (told_by tree (Some n) rule (place_of tree n rule))

abbrev pub told_misfit : Built → (n : ℕ) → Option Misfit → Option Broken
told_misfit tree n None = None
told_misfit tree n (Some m) = Some (told_by tree m.by m.rule (place_at tree n))

-- what a node breaks
pub data Breaks (a : Asked) (n : ℕ) (b : Broken) : Type 0 where
  itself : told_own a.tree n (own_at a n) ≡ Some b → Breaks a n b
  coerced : (m : Option Misfit) → IsMisfitAt a n m → told_misfit a.tree n m ≡ Some b → Breaks a n b

-- what one of so many nodes breaks
abbrev pub IsBroken : Asked → (count : ℕ) → Broken → Type 0
IsBroken a count b = (n : ℕ) × (n < count) × Breaks a n b

-- what one of the nodes from that one on breaks
abbrev pub IsBrokenFrom : Asked → (from : ℕ) → Broken → Type 0
IsBrokenFrom a from b = (n : ℕ) × (from ≤ n) × (n < length a.tree.nodes) × Breaks a n b

-- the first of these, or none
abbrev pub IsFirstRefused : Asked → Option Broken → Type 0
IsFirstRefused a found = IsFirstOf (IsBroken a (length a.tree.nodes)) found
