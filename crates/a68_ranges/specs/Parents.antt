-- Inner: the headline does not rest on this file.
-- The parents of nodes, as they are found node by node (own).
use Rattle.std.specs.Prelude.{◌≡◌, ◌<◌, ◌≤◌, ◌⊎◌, ℕ, List, length, slice_get, Option, Some, None}
use Rattle.a68_ranges.specs.Nodes.{IsPartAt}
use Rattle.a68_ranges.specs.declared.nests.Parent.{Parent}
use Rattle.a68_tree.specs.Trees.{Built}

-- of the nodes before one, the parent of p: the one with the greatest number, and there the first place
abbrev pub IsParentBefore : Built → (count p : ℕ) → Option Parent → Type 0
IsParentBefore tree count p None = (n k : ℕ) → n < count → IsPartAt tree n k p → ⊥
IsParentBefore tree count p (Some parent) =
    (parent.node < count) × (parent.node < p) × IsPartAt tree parent.node parent.place p
    × ((n k : ℕ) → n < count → IsPartAt tree n k p → (n < parent.node) ⊎ ((n ≡ parent.node) × (parent.place ≤ k)))

-- the parents of all nodes, by the nodes before one
pub record AreParentsBefore (tree : Built) (count : ℕ) (parents : List (Option Parent)) : Type 0 where
  pub long : length parents ≡ length tree.nodes
  pub each : (p : ℕ) (parent : Option Parent) → slice_get parents p ≡ Some parent → IsParentBefore tree count p parent

-- p has its old parent, where it is none of the parts from a place on; else this node, at the first such place
pub data IsParentAmong (parts : List ℕ) (node from p : ℕ) (old : Option (Option Parent)) : Option (Option Parent) → Type 0 where
  other : ((k : ℕ) → from ≤ k → slice_get parts k ≡ Some p → ⊥) → IsParentAmong parts node from p old old
  part : (place : ℕ) → from ≤ place → slice_get parts place ≡ Some p → ((k : ℕ) → from ≤ k → slice_get parts k ≡ Some p → place ≤ k)
      → IsParentAmong parts node from p old (Some (Some (record { node = node; place = place })))

-- the parents, with this node as that of its parts from a place on
pub record HaveParts (parts : List ℕ) (node from : ℕ) (old new : List (Option Parent)) : Type 0 where
  pub long : length new ≡ length old
  pub each : (p : ℕ) → IsParentAmong parts node from p (slice_get old p) (slice_get new p)
