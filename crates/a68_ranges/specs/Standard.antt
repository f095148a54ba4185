-- The definition of an applied tag, mode word or priority: in the innermost surrounding range, else in the standard environ (Report, 10.2).
use Rattle.std.specs.Prelude.{◌≡◌, ◌<◌, ◌+◌, ◌-◌, ◌⊎◌, ℕ, List, [], ◌∷◌, length, map, slice_get, Option, Some, None}
use Rattle.std.specs.Option.{option_and_then, option_map_or}
use Rattle.a68_base.specs.Tables.{find}
use Rattle.a68_ranges.specs.Nodes.{parts_at, spelling_at}
use Rattle.a68_ranges.specs.Definitions.{IsWordDefinition, Undefined}
use Rattle.a68_ranges.specs.declared.sort.IndicatorKind.TheVariants as sorts
use Rattle.a68_ranges.specs.declared.standard.Standard.{Standard}
use Rattle.a68_ranges.specs.declared.tags.TheConstants.{TAGS}
use Rattle.a68_signs.specs.Signs.{priority_of}
use Rattle.a68_tree.specs.Trees.{Built}

-- the tags of the standard environ, by their places (10.2.1, 10.3; newline and space, print, write and whole are own)
unfoldable pub standard_tags : List (List ℕ × ℕ)
standard_tags = map (λ row. (row.0.now, row.1)) TAGS

abbrev pub spelled : Built → (name : ℕ) → {A : Type 0} → List (List ℕ × A) → Option A
spelled tree name table = option_and_then (find table) (slice_get tree.spellings name)

-- what a spelling is in the standard environ
abbrev pub standard_of : List ℕ → Standard
standard_of spelling = record { tag = find standard_tags spelling; priority = priority_of spelling }

-- the node of the definition; a standard tag has a number from that of the nodes upwards
abbrev pub IsTagOf : Built → (at name : ℕ) → Option ℕ → Type 0
IsTagOf tree at name (Some id) = IsWordDefinition tree at sorts.Tag name id ⊎ (Undefined tree at sorts.Tag name × (k : ℕ) × (spelled tree name standard_tags ≡ Some k) × (id ≡ length tree.nodes + k))
IsTagOf tree at name None = Undefined tree at sorts.Tag name × (spelled tree name standard_tags ≡ None)

-- no mode word is standard: those that are, are reserved
abbrev pub IsModeWordOf : Built → (at name : ℕ) → Option ℕ → Type 0
IsModeWordOf tree at name (Some id) = IsWordDefinition tree at sorts.ModeWord name id
IsModeWordOf tree at name None = Undefined tree at sorts.ModeWord name

-- the priority that a sign has in the standard environ
abbrev pub standard_priority : Built → (name : ℕ) → Option ℕ
standard_priority tree name = option_and_then priority_of (slice_get tree.spellings name)

-- the number that a digit spells
abbrev pub digit_of : List ℕ → ℕ
digit_of [] = 0
digit_of (d ∷ ds) = d - 48

unfoldable pub written_priority : Built → (definition : ℕ) → ℕ
written_priority tree definition = option_map_or (λ p. option_map_or digit_of (spelling_at tree p) 0) (slice_get (parts_at tree definition) 0) 0

-- the priorities that the nodes before one write
pub record AreWritten (tree : Built) (count : ℕ) (written : List ℕ) : Type 0 where
  pub long : length written ≡ count
  pub each : (definition : ℕ) → definition < count → slice_get written definition ≡ Some (written_priority tree definition)

abbrev pub IsPriorityOf : Built → (at name : ℕ) → Option ℕ → Type 0
IsPriorityOf tree at name (Some p) =
    ((d : ℕ) × IsWordDefinition tree at sorts.Priority name d × (p ≡ written_priority tree d))
    ⊎ (Undefined tree at sorts.Priority name × (standard_priority tree name ≡ Some p))
IsPriorityOf tree at name None = Undefined tree at sorts.Priority name × (standard_priority tree name ≡ None)
