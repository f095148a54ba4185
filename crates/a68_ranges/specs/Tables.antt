-- The tables of the ranges of a tree (own).
use Rattle.std.specs.Prelude.{◌≡◌, ◌<◌, ◌+◌, ◌^◌, ◌&&◌, ℕ, Bool, true, false, nat_eq, List, [], ◌∷◌, length, map, slice_get, slice_index_or, Option, Some, None, unwrap_or, if◌then◌else◌}
use Rattle.std.specs.Map.{lookup}
use Rattle.a68_ranges.specs.Nodes.{kind_at, name_at, parts_at}
use Rattle.a68_ranges.specs.Surroundings.{Lies, entered}
use Rattle.a68_ranges.specs.Definitions.{defines, declared_in, AreDeclared}
use Rattle.a68_ranges.specs.Standard.{standard_of, AreWritten}
use Rattle.a68_ranges.specs.declared.nests.Layer.{Layer}
use Rattle.a68_ranges.specs.declared.nests.Parent.{Parent}
use Rattle.a68_ranges.specs.Links.{LayersAreLinked, AreEntered, layered}
use Rattle.a68_ranges.specs.Twice.{IsTwice}
use Rattle.a68_ranges.specs.declared.sort.IndicatorKind.{IndicatorKind}
use Rattle.a68_ranges.specs.declared.sort.IndicatorKind.TheVariants as sorts
use Rattle.a68_ranges.specs.declared.standard.Standard.{Standard}
use Rattle.a68_tree.specs.Trees.{Built}

-- the ranges of a layer and of those outside it, the innermost first
pub data Nested (layers : List Layer) : Option ℕ → List ℕ → Type 0 where
  outermost : Nested layers None []
  within : {ranges : List ℕ} (i : ℕ) (layer : Layer) → slice_get layers i ≡ Some layer → Nested layers layer.outer ranges → Nested layers (Some i) (layer.range ∷ ranges)

-- the layers tell of those of the ranges about a node that have layers
pub record TellsAbout (tree : Built) (layers : List Layer) (at : ℕ) (nest : Option ℕ) : Type 0 where
  pub ranges : List ℕ
  pub lies : Lies tree at ranges
  pub nested : Nested layers nest (layered tree ranges)

-- the layers of a tree, and the innermost layer about each node
pub record Nest : Type 0 where
  pub about : List (Option ℕ)
  pub layers : List Layer

pub record AreNests (tree : Built) (nests : Nest) : Type 0 where
  pub long : length nests.about ≡ length tree.nodes
  pub about : (at : ℕ) (nest : Option ℕ) → slice_get nests.about at ≡ Some nest → TellsAbout tree nests.layers at nest

-- a node's ranges are entered, by its parent
abbrev pub IsNestOf : Built → (about : List (Option ℕ)) → (old new : List Layer) → (id : ℕ) → Option Parent → (nest : Option ℕ) → Type 0
IsNestOf tree about old new id None nest = AreEntered tree old new [] None nest
IsNestOf tree about old new id (Some parent) nest =
    AreEntered tree old new (entered tree (kind_at tree parent.node) parent.node (parts_at tree parent.node) parent.place id) (slice_index_or about parent.node None) nest

-- the layers of the nodes before one
pub record AreNestsBefore (tree : Built) (count : ℕ) (about : List (Option ℕ)) (layers : List Layer) : Type 0 where
  pub long : length about ≡ count
  pub linked : LayersAreLinked about layers
  pub tells : (at : ℕ) (nest : Option ℕ) → slice_get about at ≡ Some nest → TellsAbout tree layers at nest

-- whether two sorts are one
unfoldable pub same_sort : IndicatorKind → IndicatorKind → Bool
same_sort sorts.Tag sorts.Tag = true
same_sort sorts.ModeWord sorts.ModeWord = true
same_sort sorts.Priority sorts.Priority = true
same_sort sorts.Operator sorts.Operator = true
same_sort sorts.Field sorts.Field = true
same_sort _ _ = false

abbrev pub is_sort : IndicatorKind → Option IndicatorKind → Bool
is_sort sort None = false
is_sort sort (Some other) = same_sort other sort

-- whether a node defines that name with that sort
abbrev pub has_name : Built → IndicatorKind → (name id : ℕ) → Bool
has_name tree sort name id = is_sort sort (defines (kind_at tree id)) && nat_eq (name_at tree id) name

-- the first of these nodes that does
abbrev pub first_named : Built → IndicatorKind → (name : ℕ) → List ℕ → Option ℕ
first_named tree sort name [] = None
first_named tree sort name (d ∷ ds) = if has_name tree sort name d then Some d else first_named tree sort name ds

-- the operator definitions of a sign among these nodes
abbrev pub operators_named : Built → (sign : ℕ) → List ℕ → List ℕ
operators_named tree sign [] = []
operators_named tree sign (d ∷ ds) = if has_name tree sorts.Operator sign d then d ∷ operators_named tree sign ds else operators_named tree sign ds

-- the operator definitions of a sign among what a range declares, in order of text
unfoldable pub operators_in : Built → (range sign : ℕ) → List ℕ
operators_in tree range sign = operators_named tree sign (declared_in tree range)

-- what the entries of a map have for a sign in a range
abbrev pub at_sign : List ((ℕ × ℕ) × List ℕ) → (range sign : ℕ) → List ℕ
at_sign entries range sign = unwrap_or (lookup (λ k. nat_eq range k.0 && nat_eq sign k.1) entries) []

-- the operator definitions of each sign in each range
abbrev pub AreOperators : Built → List ((ℕ × ℕ) × List ℕ) → Type 0
AreOperators tree entries = (range sign : ℕ) → at_sign entries range sign ≡ operators_in tree range sign

-- what the entries of a map have for a name in a range
abbrev pub at_key : List ((ℕ × ℕ) × ℕ) → (range name : ℕ) → Option ℕ
at_key entries range name = lookup (λ k. nat_eq range k.0 && nat_eq name k.1) entries

-- what the maps of the ranges of a layer and of those outside it have for a name, the innermost first
pub data FindsOut (layers : List Layer) (entries : List ((ℕ × ℕ) × ℕ)) (name : ℕ) : Option ℕ → Option ℕ → Type 0 where
  nothing : FindsOut layers entries name None None
  here : {id : ℕ} (i : ℕ) (layer : Layer) → slice_get layers i ≡ Some layer → at_key entries layer.range name ≡ Some id → FindsOut layers entries name (Some i) (Some id)
  further : {found : Option ℕ} (i : ℕ) (layer : Layer) → slice_get layers i ≡ Some layer → at_key entries layer.range name ≡ None
      → FindsOut layers entries name layer.outer found → FindsOut layers entries name (Some i) found

-- the priority that the definition writes which was found, else the standard one
abbrev pub priority_or : (found : Option ℕ) → (written : List ℕ) → (standard : Option ℕ) → Option ℕ
priority_or (Some id) written standard = slice_get written id
priority_or None written standard = standard

-- the first definition of each name in each range
abbrev pub AreFirst : Built → IndicatorKind → List ((ℕ × ℕ) × ℕ) → Type 0
AreFirst tree sort entries = (range name : ℕ) → at_key entries range name ≡ first_named tree sort name (declared_in tree range)

-- all tables of the ranges of a tree
pub record RangeTables : Type 0 where
  pub count : ℕ
  pub nests : Nest
  pub declared : List (List ℕ)
  pub operators : List ((ℕ × ℕ) × List ℕ)
  pub tags : List ((ℕ × ℕ) × ℕ)
  pub mode_words : List ((ℕ × ℕ) × ℕ)
  pub priorities : List ((ℕ × ℕ) × ℕ)
  pub standard : List Standard
  pub written : List ℕ

-- the tables are those of the tree, which declares nothing twice in a range
pub record AreRanges (tree : Built) (tables : RangeTables) : Type 0 where
  pub count : tables.count ≡ length tree.nodes
  pub few : length tree.nodes + 11 < 2 ^ 32
  pub nests : AreNests tree tables.nests
  pub declared : AreDeclared tree (length tree.nodes) tables.declared
  pub operators : AreOperators tree tables.operators
  pub tags : AreFirst tree sorts.Tag tables.tags
  pub mode_words : AreFirst tree sorts.ModeWord tables.mode_words
  pub priorities : AreFirst tree sorts.Priority tables.priorities
  pub standard : tables.standard ≡ map standard_of tree.spellings
  pub written : AreWritten tree (length tree.nodes) tables.written
  pub once : (id : ℕ) → IsTwice tree id → ⊥
