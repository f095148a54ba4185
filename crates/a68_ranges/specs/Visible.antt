-- Inner: the headline does not rest on this file.
-- The definitions that count in each layer, by their names (own).
use Rattle.std.specs.Prelude.{◌≡◌, ◌<◌, ◌^◌, ℕ, Bool, ◌&&◌, nat_eq, List, length, slice_get, slice_index_or, Option, Some, None, if◌then◌else◌}
use Rattle.std.specs.Option.{option_and_then}
use Rattle.a68_maps.specs.Found.{found, IsMade, Stay}
use Rattle.a68_maps.specs.declared.maps.Fork.{Fork}
use Rattle.a68_ranges.specs.Tables.{AreFirst, FindsOut}
use Rattle.a68_ranges.specs.declared.nests.Layer.{Layer}
use Rattle.a68_ranges.specs.declared.sort.IndicatorKind.{IndicatorKind}
use Rattle.a68_tree.specs.Trees.{Built}

-- ---- layers that are the same

-- an earlier layer is the same as one
abbrev pub IsTwin : List Layer → (number : ℕ) → Option ℕ → Type 0
IsTwin layers number None = Unit {0}
IsTwin layers number (Some twin) = (twin < number) × (slice_get layers twin ≡ slice_get layers number)

pub record AreTwins (layers : List Layer) (twins : List (Option ℕ)) : Type 0 where
  pub long : length twins ≡ length layers
  pub each : (number : ℕ) (twin : Option ℕ) → slice_get twins number ≡ Some twin → IsTwin layers number twin

-- ---- the maps of layers

-- the map of each layer
pub record Seen : Type 0 where
  pub maps : List Fork
  pub roots : List (Option ℕ)

-- what the map of a layer has for a name
abbrev pub seen_at : Seen → (layer : Option ℕ) → (name : ℕ) → Option ℕ
seen_at seen None name = None
seen_at seen (Some number) name = option_and_then (λ root. found seen.maps root name) (slice_get seen.roots number)

-- that is the definition in the innermost of the ranges of the layer and of those outside it that has one
pub record AreVisible (layers : List Layer) (entries : List ((ℕ × ℕ) × ℕ)) (seen : Seen) : Type 0 where
  pub long : length seen.roots ≡ length layers
  pub each : (number name : ℕ) (root : Option ℕ) → slice_get seen.roots number ≡ Some root → name < 2 ^ 32 → FindsOut layers entries name (Some number) (found seen.maps root name)

-- the first, else the other
abbrev pub or_else : Option ℕ → Option ℕ → Option ℕ
or_else (Some id) other = Some id
or_else None other = other

-- a map has what is declared within, and for other names what the one outside has; all others stay
pub record IsOver (old new : List Fork) (outer map : Option ℕ) (within : ℕ → Option ℕ) : Type 0 where
  pub stay : Stay old new
  pub is : IsMade new map
  pub has : (name : ℕ) → name < 2 ^ 32 → found new map name ≡ or_else (within name) (found old outer name)

-- a node, where it has that name and counts
abbrev pub one_named : (counts : Bool) → (own id name : ℕ) → Option ℕ
one_named counts own id name = if counts && nat_eq own name then Some id else None

-- the map of a layer
abbrev pub root_at : List (Option ℕ) → (layer : Option ℕ) → Option ℕ
root_at roots None = None
root_at roots (Some number) = slice_index_or roots number None

-- a map finds for each name what the indices have that are those of the tree
abbrev pub Finds : Built → IndicatorKind → List Layer → List Fork → (number : ℕ) → (root : Option ℕ) → Type 0
Finds tree sort layers maps number root =
    (entries : List ((ℕ × ℕ) × ℕ)) → AreFirst tree sort entries → (name : ℕ) → name < 2 ^ 32 → FindsOut layers entries name (Some number) (found maps root name)

-- the maps of the first layers
pub record AreRoots (tree : Built) (sort : IndicatorKind) (layers : List Layer) (maps : List Fork) (roots : List (Option ℕ)) (count : ℕ) : Type 0 where
  pub long : length roots ≡ count
  pub made : (number : ℕ) (root : Option ℕ) → slice_get roots number ≡ Some root → IsMade maps root
  pub finds : (number : ℕ) (root : Option ℕ) → slice_get roots number ≡ Some root → Finds tree sort layers maps number root

-- the map of the next layer is made; all others stay
pub record IsRoot (tree : Built) (sort : IndicatorKind) (layers : List Layer) (old new : List Fork) (number : ℕ) (root : Option ℕ) : Type 0 where
  pub stay : Stay old new
  pub is : IsMade new root
  pub finds : Finds tree sort layers new number root
