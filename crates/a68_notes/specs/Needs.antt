-- Inner: the headline does not rest on this file.
-- The needs of routine texts, as they are found (own).
use Rattle.std.specs.Prelude.{◌≡◌, ◌<◌, ℕ, List, length, slice_get, Option, Some, None}
use Rattle.a68_frames.specs.Needs.{IsNeed, UsesSlotAt, UsesTag}
use Rattle.a68_frames.specs.Tables.{AreLowered, TextUsesSlotAt}
use Rattle.a68_notes.specs.Notes.{applied_operator}
use Rattle.a68_positions.specs.Given.{finding_at}
use Rattle.a68_ranges.specs.Nodes.{kind_at}
use Rattle.a68_refusals.specs.First.{Asked}
use Rattle.a68_tree.specs.Trees.{Built}
use Rattle.a68_tree.specs.declared.kind.NodeKind.TheVariants as kind

-- a routine text uses a frame from outside, by a tag, or by the operator of one of so many formulas
pub data TextUsesBefore (a : Asked) (count text hops : ℕ) : Type 0 where
  by_tag : UsesTag a.tree text hops → TextUsesBefore a count text hops
  by_operator : (at definition : ℕ) → at < count → applied_operator (finding_at a.fs at) (kind_at a.tree at) ≡ Some definition
      → UsesSlotAt a.tree at definition text hops → TextUsesBefore a count text hops

-- of so many nodes the needs, right for those that are routine texts
pub record AreNeeds (tree : Built) (Used : (text hops : ℕ) → Type 0) (count : ℕ) (needs : List (Option ℕ)) : Type 0 where
  pub long : length needs ≡ count
  pub each : (text : ℕ) (need : Option ℕ) → slice_get needs text ≡ Some need → kind_at tree text ≡ kind.RoutineText → IsNeed (Used text) need

-- the needs are lowered to what is used of a definition at a node, where it applies one
abbrev pub AreLoweredBy : Built → (at : ℕ) → (definition : Option ℕ) → (old new : List (Option ℕ)) → Type 0
AreLoweredBy tree at None old new = new ≡ old
AreLoweredBy tree at (Some d) old new = AreLowered (TextUsesSlotAt tree at d) old new
