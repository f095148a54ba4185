-- What each node of a tree may yield, by what its parts may yield, whatever is asked of it (Report, 3.2.1, 3.3, 3.4, 5.2 to 5.5, 8).
use Rattle.std.specs.Prelude.{◌≡◌, ◌||◌, ◌+◌, ◌-◌, ℕ, suc, List, [], ◌∷◌, codes, length, nat_eq, nat_lt, replicate, slice_index_or, slice_set, Option, Some, None, Bool, true, false, if◌then◌else◌}
use Rattle.std.specs.Str.{bytes_eq}
use Rattle.a68_modes.specs.declared.standard.TheConstants as standard
use Rattle.a68_ranges.specs.declared.tags.TheConstants as tags
use Rattle.a68_coerce.specs.declared.leaf.Leaf.TheVariants as leaf
use Rattle.a68_declare.specs.Outcome.{ByNode}
use Rattle.a68_definitions.specs.Defined.{part_from_end, part_number}
use Rattle.a68_definitions.specs.Tags.{called_by, is_label_at}
use Rattle.a68_identify.specs.declared.identified.Identified.{Identified}
use Rattle.a68_identify.specs.declared.identified.Identified.TheVariants.{Declared, Standard}
use Rattle.a68_modes.specs.Nodes.{shape_at}
use Rattle.a68_modes.specs.declared.shape.Shape.{Shape}
use Rattle.a68_ranges.specs.Nodes.{kind_at, name_at, parts_at, spelling_at}
use Rattle.a68_tree.specs.Trees.{Built}
use Rattle.a68_tree.specs.declared.kind.NodeKind.{NodeKind}
use Rattle.a68_tree.specs.declared.kind.NodeKind.TheVariants as kind
use Rattle.a68_yields.specs.Found.{IsFound}
use Rattle.a68_yields.specs.Leaves.{choices, endings, has_exit, yield_at}
use Rattle.a68_yields.specs.Parts.{IsModeOfPart, field_mode, fields_of, routine_result, rowed, structured}
use Rattle.a68_yields.specs.Sought.{is_subscript, sought_at}
use Rattle.a68_yields.specs.declared.yielding.Finding.{Finding}
use Rattle.a68_yields.specs.declared.yielding.Finding.TheVariants as finding
use Rattle.a68_yields.specs.declared.parts.Rowed.{Rowed}
use Rattle.a68_yields.specs.declared.parts.Structured.{Structured}
use Rattle.a68_yields.specs.declared.told.Told.{Told}
use Rattle.a68_yields.specs.declared.told.Told.TheVariants as tell
use Rattle.a68_yields.specs.declared.yielding.Yielding.{Yielding}
use Rattle.a68_yields.specs.declared.yielding.Yielding.TheVariants as yields

-- what is known of a tree before its yields are looked for: the definitions of its tags, the modes of its declarers, and those of its definitions
pub record Known : Type 0 where
  pub tree : Built
  pub tags : List (Option ℕ)
  pub of : ByNode
  pub defined : List ℕ

abbrev pub unknown : Told
unknown = tell.Yields yields.Unknown

abbrev pub a_unit : (mode : ℕ) → Told
a_unit m = tell.Yields (yields.Unit (leaf.Mode m))

abbrev pub strong_only : Told
strong_only = tell.Yields (yields.Unit leaf.StrongOnly)

-- ---- denotations: TRUE and FALSE; BITS where there is an r; one item CHAR, others [] CHAR; else INT (8.1 to 8.3)

abbrev pub has_r : List ℕ → Bool
has_r [] = false
has_r (c ∷ cs) = nat_eq c 114 || has_r cs

abbrev pub begins_quote : List ℕ → Bool
begins_quote [] = false
begins_quote (c ∷ cs) = nat_eq c 34

-- Between the quotes stands one item, one byte or two quotes, where the denotation has three bytes, or four of which the second is a quote.
abbrev pub is_item : List ℕ → Bool
is_item (a ∷ b ∷ c ∷ []) = true
is_item (a ∷ b ∷ c ∷ d ∷ []) = nat_eq b 34
is_item _ = false

abbrev pub quoted_mode : List ℕ → ℕ
quoted_mode s = if is_item s then standard.CHAR else standard.ROW_OF_CHAR

abbrev pub is_truth : List ℕ → Bool
is_truth s = bytes_eq s (codes "TRUE") || bytes_eq s (codes "FALSE")

abbrev pub denoted_mode : List ℕ → ℕ
denoted_mode s = if begins_quote s then quoted_mode s else (if is_truth s then standard.BOOL else (if has_r s then standard.BITS else standard.INT))

abbrev pub denoted : Option (List ℕ) → Told
denoted None = unknown
denoted (Some s) = a_unit (denoted_mode s)

-- ---- tags: those of the standard environ are INT, but newline, space and long max int; print, write and whole have none, nor has a label

-- those behind whole
abbrev pub long_tag : (place : ℕ) → Told
long_tag place = if nat_eq place tags.LONGMAXINT then a_unit standard.LONG_INT else (if nat_eq place tags.LONGINTWIDTH then a_unit standard.INT else unknown)

abbrev pub standard_tag : (place : ℕ) → Told
standard_tag place = if nat_lt place tags.NEWLINE then a_unit standard.INT else (if nat_lt place tags.PRINT then a_unit standard.LAYOUT else long_tag place)

abbrev pub declared_tag : Built → (defined : List ℕ) → (d : ℕ) → Told
declared_tag tree defined d = if is_label_at tree d then unknown else a_unit (part_number defined d)

abbrev pub tag : Built → (defined : List ℕ) → Option ℕ → Told
tag tree defined None = unknown
tag tree defined (Some d) = if nat_lt d (length tree.nodes) then declared_tag tree defined d else standard_tag (d - length tree.nodes)

-- ---- what hands on, and choices

abbrev pub is_unknown : Yielding → Bool
is_unknown yields.Unknown = true
is_unknown _ = false

abbrev pub handed_on : List Yielding → (p : ℕ) → Told
handed_on ys p = if is_unknown (yield_at ys p) then unknown else tell.Yields (yields.Part p)

-- what the last of these parts yields
abbrev pub handed : List Yielding → List ℕ → Told
handed ys [] = unknown
handed ys (p ∷ ps) = handed_on ys (part_from_end (p ∷ ps) 1)

abbrev pub any_unknown : List Yielding → List ℕ → Bool
any_unknown ys [] = false
any_unknown ys (p ∷ ps) = is_unknown (yield_at ys p) || any_unknown ys ps

abbrev pub choice : List Yielding → List ℕ → Told
choice ys parts = if any_unknown ys parts then unknown else tell.Yields yields.Choice

-- a serial clause hands on its last unit; with EXIT it chooses among several (3.2.1)
abbrev pub serial : Built → List Yielding → List ℕ → Told
serial tree ys parts = if has_exit tree parts then choice ys (endings tree parts) else handed ys parts

-- ---- what rests on what is found

abbrev pub found_unit : Finding → Told
found_unit (finding.Mode (Some m)) = a_unit m
found_unit _ = unknown

-- a field of a structure; of a row of structures a row of the fields
abbrev pub field_part : Structured → Option ℕ → Told
field_part s None = unknown
field_part s (Some m) = tell.PartOf (record { named = s.named; dims = s.dims; flex = s.flex; of = m })

abbrev pub selected_from : List Shape → (field : ℕ) → Option Structured → Told
selected_from nodes field None = unknown
selected_from nodes field (Some s) = field_part s (field_mode field (fields_of (shape_at nodes s.node)))

abbrev pub selected : List Shape → (field : ℕ) → Finding → Told
selected nodes field (finding.Mode (Some m)) = selected_from nodes field (structured nodes m)
selected nodes field _ = unknown

-- how many of these indexes are trimmers
abbrev pub trimmers : Built → List ℕ → ℕ
trimmers tree [] = 0
trimmers tree (i ∷ is) = if is_subscript tree (parts_at tree i) then trimmers tree is else trimmers tree is + 1

-- a slice has as many indexes as the row has dimensions; each trimmer leaves one
abbrev pub sliced_from : Built → List ℕ → Option Rowed → Told
sliced_from tree indexes None = unknown
sliced_from tree indexes (Some r) =
    if nat_eq (length indexes) r.dims then tell.PartOf (record { named = r.named; dims = trimmers tree indexes; flex = r.flex; of = r.of }) else unknown

abbrev pub behind_first : List ℕ → List ℕ
behind_first [] = []
behind_first (p ∷ ps) = ps

abbrev pub sliced : Built → List Shape → List ℕ → Finding → Told
sliced tree nodes parts (finding.Mode (Some m)) = sliced_from tree (behind_first parts) (rowed nodes m)
sliced tree nodes parts _ = unknown

abbrev pub unit_of : Option ℕ → Told
unit_of (Some m) = a_unit m
unit_of None = unknown

-- print and write yield VOID, whole [] CHAR (10.3.2.1, 10.3.3)
abbrev pub called : List Shape → Option ℕ → Finding → Told
called nodes (Some place) found = if nat_eq place tags.WHOLE then a_unit standard.ROW_OF_CHAR else a_unit standard.VOID
called nodes None (finding.Mode (Some m)) = unit_of (routine_result (shape_at nodes m))
called nodes None _ = unknown

abbrev pub yielded_by : List Shape → (defined : List ℕ) → Identified → Told
yielded_by nodes defined (Declared d) = unit_of (routine_result (shape_at nodes (part_number defined d)))
yielded_by nodes defined (Standard o) = a_unit o.result

abbrev pub formula : List Shape → (defined : List ℕ) → Finding → Told
formula nodes defined (finding.Operator (Some found)) = yielded_by nodes defined found
formula nodes defined _ = unknown

-- what a node yields: a row for each kind
abbrev pub told : Known → List Shape → List Yielding → (n : ℕ) → Finding → NodeKind → Told
told k nodes ys n found kind.Denotation = denoted (spelling_at k.tree n)
told k nodes ys n found kind.LongDenotation = a_unit standard.LONG_INT
told k nodes ys n found kind.Tag = tag k.tree k.defined (slice_index_or k.tags n None)
told k nodes ys n found kind.Closed = handed ys (parts_at k.tree n)
told k nodes ys n found kind.Serial = serial k.tree ys (parts_at k.tree n)
told k nodes ys n found kind.Out = handed ys (parts_at k.tree n)
told k nodes ys n found kind.Conditional = choice ys (choices k.tree (parts_at k.tree n))
told k nodes ys n found kind.Case = choice ys (choices k.tree (parts_at k.tree n))
told k nodes ys n found kind.Conformity = choice ys (choices k.tree (parts_at k.tree n))
-- these stand in strong positions only
told k nodes ys n found kind.Skip = strong_only
told k nodes ys n found kind.GoTo = strong_only
told k nodes ys n found kind.Nil = strong_only
told k nodes ys n found kind.Vacuum = strong_only
told k nodes ys n found kind.Collateral = strong_only
-- these yield VOID
told k nodes ys n found kind.Parallel = a_unit 0
told k nodes ys n found kind.Loop = a_unit 0
told k nodes ys n found kind.Cast = a_unit (part_number k.defined n)
told k nodes ys n found kind.Generator = a_unit (part_number k.defined n)
told k nodes ys n found kind.RoutineText = a_unit (part_number k.defined n)
told k nodes ys n found kind.Identity = a_unit 2
told k nodes ys n found kind.Assignation = found_unit found
told k nodes ys n found kind.Selection = selected nodes (name_at k.tree n) found
told k nodes ys n found kind.Slice = sliced k.tree nodes (parts_at k.tree n) found
told k nodes ys n found kind.Call = called nodes (called_by k.tree k.tags n) found
told k nodes ys n found kind.Monadic = formula nodes k.defined found
told k nodes ys n found kind.Dyadic = formula nodes k.defined found
told k nodes ys n found _ = unknown

-- the yield, among modes that may grow by it
abbrev pub IsToldYield : List Shape → Told → List Shape → Yielding → Type 0
IsToldYield nodes (tell.Yields y) after yielding = (after ≡ nodes) × (yielding ≡ y)
IsToldYield nodes (tell.PartOf part) after yielding = (m : ℕ) × IsModeOfPart nodes part after m × (yielding ≡ yields.Unit (leaf.Mode m))

-- The yields of the nodes from one on, what is found at them, and all modes once these are known, which began as `start`. Nodes are looked at
-- from the last to the first, so that a node's parts come before it.
pub data AreYieldsFrom (k : Known) (start : List Shape) : (from : ℕ) → (nodes : List Shape) → List Yielding → List Finding → Type 0 where
  none_yet : {from : ℕ} {nodes : List Shape} {ys : List Yielding} {fs : List Finding} → from ≡ length k.tree.nodes → nodes ≡ start
      → ys ≡ replicate (length k.tree.nodes) yields.Unknown → fs ≡ replicate (length k.tree.nodes) finding.Nothing → AreYieldsFrom k start from nodes ys fs
  one_more : {from : ℕ} {nodes : List Shape} {ys : List Yielding} {fs : List Finding} (before : List Shape) (those : List Yielding) (others : List Finding)
      (found : Finding) (y : Yielding) → AreYieldsFrom k start (suc from) before those others
      → IsFound k.tree before k.of those from (sought_at k.tree k.tags from) found → IsToldYield before (told k before those from found (kind_at k.tree from)) nodes y
      → ys ≡ slice_set those from y → fs ≡ slice_set others from found → AreYieldsFrom k start from nodes ys fs

-- those of all nodes
abbrev pub AreYields : Known → (start nodes : List Shape) → List Yielding → List Finding → Type 0
AreYields k start nodes ys fs = AreYieldsFrom k start 0 nodes ys fs
