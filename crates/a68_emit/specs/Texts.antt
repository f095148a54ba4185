-- Inner: the headline does not rest on this file.
-- The numbers of routine texts and of units of parallel clauses, by the bytes at which these begin.
use Rattle.std.specs.Prelude.{◌≡◌, ◌<◌, ℕ, zero, suc, List, [], ◌∷◌, ◌++◌, length, drop, map, None, Some, slice_index_or}
use Rattle.std.specs.declared.option.Option.{Option}
use Rattle.a68_annot.specs.declared.annotated.Annotated.{Annotated}
use Rattle.a68_elab.specs.Made.{beginning_at, behind_all, or_other, text_among, text_number, unit_among, unit_number}
use Rattle.a68_elab.specs.Programs.{apart_before, body_of, parallel_unit_of}
use Rattle.a68_elab.specs.Trees.{Apart, routine_text, parallel_unit}
use Rattle.a68_emit.specs.declared.entered.Entered.{Entered}
use Rattle.a68_emit.specs.declared.entered.Entered.TheVariants as entered
use Rattle.a68_emit.specs.declared.entered.UnitNode.{UnitNode}

-- ---- what stands apart

abbrev pub pair_of : UnitNode → ℕ × ℕ
pair_of u = (u.place, u.id)

abbrev pub apart_of : Annotated → Entered → Apart
apart_of a (entered.Text id) = routine_text (body_of a id)
apart_of a (entered.Unit u) = parallel_unit (parallel_unit_of a (pair_of u))

-- the node of which it is made
abbrev pub node_of : Entered → ℕ
node_of (entered.Text id) = id
node_of (entered.Unit u) = u.id

-- each of these is made of one of so many nodes
abbrev pub AreInside : (nodes : ℕ) → List Entered → Type 0
AreInside nodes [] = Unit {0}
AreInside nodes (x ∷ xs) = (node_of x < nodes) × AreInside nodes xs

-- the numbers that a function gives for those before this one
abbrev pub up_to : (ℕ → ℕ) → ℕ → List ℕ
up_to f zero = []
up_to f (suc n) = up_to f n ++ f n ∷ []

-- all that stands apart, in order, and at each byte how many routine texts begin before it, and how many units
pub record AreNumbered (a : Annotated) (apart : List Entered) (texts units : List ℕ) : Type 0 where
  pub are : map (apart_of a) apart ≡ apart_before a (behind_all a.tree.nodes)
  pub inside : AreInside (length a.tree.nodes) apart
  pub texts_by_byte : texts ≡ up_to (text_number a) (behind_all a.tree.nodes)
  pub units_by_byte : units ≡ up_to (unit_number a) (behind_all a.tree.nodes)

-- ---- the first that begins at a byte

abbrev pub listed : Option ℕ → List ℕ
listed None = []
listed (Some id) = id ∷ []

abbrev pub listed_unit : Option UnitNode → List (ℕ × ℕ)
listed_unit None = []
listed_unit (Some u) = pair_of u ∷ []

-- what is kept of them
abbrev pub entered_text : Option ℕ → List Entered
entered_text None = []
entered_text (Some id) = entered.Text id ∷ []

abbrev pub entered_unit : Option UnitNode → List Entered
entered_unit None = []
entered_unit (Some u) = entered.Unit u ∷ []

-- the table has, at each byte, the first routine text from one node on that begins there
pub record AreFirsts (a : Annotated) (from : ℕ) (table : List (Option ℕ)) : Type 0 where
  pub long : length table ≡ behind_all a.tree.nodes
  pub each : (byte : ℕ) → byte < length table → listed (slice_index_or table byte None) ≡ text_among byte from (drop from a.tree.nodes)

-- a unit is one of so many nodes
abbrev pub IsInside : (nodes : ℕ) → Option UnitNode → Type 0
IsInside nodes None = Unit {0}
IsInside nodes (Some u) = u.id < nodes

-- The table has, at each byte, the first unit that begins there: of these units of a parallel clause that begins at a place,
-- and of those from one node on.
pub record AreFirstUnits (a : Annotated) (place : ℕ) (units : List ℕ) (from : ℕ) (table : List (Option UnitNode)) : Type 0 where
  pub long : length table ≡ behind_all a.tree.nodes
  pub each : (byte : ℕ) → byte < length table
      → listed_unit (slice_index_or table byte None) ≡ or_other (map (λ id. (place, id)) (beginning_at a byte units)) (unit_among a byte (drop from a.tree.nodes))
  pub inside : (byte : ℕ) → byte < length table → IsInside (length a.tree.nodes) (slice_index_or table byte None)
