-- What is asked of each node of a tree (Report, 6.1.1).
use Rattle.std.specs.Prelude.{◌≡◌, ◌+◌, ℕ, suc, List, [], ◌∷◌, length, replicate, slice_set, None}
use Rattle.a68_modes.specs.declared.shape.Shape.{Shape}
use Rattle.a68_positions.specs.Aside.{IsSetAside, aside_by}
use Rattle.a68_positions.specs.Given.{finding_at, given, position_at}
use Rattle.a68_positions.specs.declared.asker.Asker.{Asker}
use Rattle.a68_positions.specs.declared.position.Position.{Position}
use Rattle.a68_positions.specs.declared.position.Position.TheVariants as position
use Rattle.a68_ranges.specs.Nodes.{kind_at, parts_at}
use Rattle.a68_yields.specs.Yields.{Known}
use Rattle.a68_yields.specs.declared.yielding.Finding.{Finding}
use Rattle.a68_yields.specs.declared.yielding.Yielding.{Yielding}

-- the program is asked to yield nothing, strongly; of the other nodes nothing is asked yet
abbrev pub at_start : (nodes : ℕ) → List Position
at_start n = slice_set (replicate n position.Nowhere) 0 (position.Goal 0 None)

-- the positions with those of a node's parts, from this place on
abbrev pub with_parts : Known → List Shape → Asker → (place : ℕ) → List ℕ → List Position → List Position
with_parts k nodes a place [] ps = ps
with_parts k nodes a place (p ∷ parts) ps = with_parts k nodes a (place + 1) parts (slice_set ps p (given k nodes a place p (kind_at k.tree a.node)))

-- a node, what is asked of it, what is found of its parts, and the mode that it has set aside
abbrev pub asker_at : List Finding → List Position → (n aside : ℕ) → Asker
asker_at fs ps n aside = record { node = n; own = position_at ps n; found = finding_at fs n; aside = aside }

-- The positions that are known once so many nodes have been looked at, and all modes then, which began as `start`. Nodes are looked at from the
-- first to the last, so that a node comes before its parts.
pub data ArePositionsFrom (k : Known) (ys : List Yielding) (fs : List Finding) (start : List Shape) : (count : ℕ) → (nodes : List Shape) → List Position → Type 0 where
  none_yet : {count : ℕ} {nodes : List Shape} {ps : List Position} → count ≡ 0 → nodes ≡ start → ps ≡ at_start (length k.tree.nodes) → ArePositionsFrom k ys fs start count nodes ps
  one_more : {count : ℕ} {nodes : List Shape} {ps : List Position} (n m : ℕ) (before : List Shape) (those : List Position) → ArePositionsFrom k ys fs start n before those
      → IsSetAside k before ys (aside_by k before n (position_at those n) (finding_at fs n) (kind_at k.tree n)) nodes m
      → ps ≡ with_parts k nodes (asker_at fs those n m) 0 (parts_at k.tree n) those → count ≡ suc n → ArePositionsFrom k ys fs start count nodes ps

-- those of all nodes
abbrev pub ArePositions : Known → List Yielding → List Finding → (start nodes : List Shape) → List Position → Type 0
ArePositions k ys fs start nodes ps = ArePositionsFrom k ys fs start (length k.tree.nodes) nodes ps
