-- Inner: the headline does not rest on this file.
-- The tables of the frames of a tree (own).
use Rattle.std.specs.Prelude.{◌≡◌, ◌<◌, ◌≤◌, ◌+◌, ◌⊎◌, ℕ, Bool, true, false, nat_eq, nat_lt, min, List, [], ◌∷◌, ◌++◌, length, slice_get, slice_index_or, Option, Some, None, if◌then◌else◌}
use Rattle.a68_frames.specs.Frames.{slots_in, makes_frame, moved, place_of, SlotStandsAt}
use Rattle.a68_frames.specs.Needs.{UsesTag, UsesTagAt, UsesSlotAt, IsNeed}
use Rattle.a68_ranges.specs.Nodes.{kind_at, name_at}
use Rattle.a68_ranges.specs.Definitions.{IsWordDefinition, Undefined}
use Rattle.a68_ranges.specs.declared.sort.IndicatorKind.TheVariants as sorts
use Rattle.a68_ranges.specs.Surroundings.{Lies}
use Rattle.a68_ranges.specs.Links.{LayersAreLinked, is_routine_text}
use Rattle.a68_ranges.specs.Tables.{at_key, Nested}
use Rattle.a68_ranges.specs.declared.nests.Layer.{Layer}
use Rattle.a68_tree.specs.Trees.{Built}
use Rattle.a68_tree.specs.declared.kind.NodeKind.{NodeKind}
use Rattle.a68_tree.specs.declared.kind.NodeKind.TheVariants as kind
use Rattle.a68_tree.specs.declared.node.FrameStep.{FrameStep}

-- a place of a number in a list, where it is there
abbrev pub IsPlaceIn : List ℕ → (d : ℕ) → Option ℕ → Type 0
IsPlaceIn list d (Some place) = slice_get list place ≡ Some d
IsPlaceIn list d None = (place : ℕ) → slice_get list place ≡ Some d → ⊥

-- a slot is noted for a node, where it has one
abbrev pub IsSlotNoted : (old new : List ((ℕ × ℕ) × ℕ)) → (range id slot : ℕ) → (has : Bool) → (next : ℕ) → Type 0
IsSlotNoted old new range id slot false next = (new ≡ old) × (next ≡ slot)
IsSlotNoted old new range id slot true next =
    (next ≡ slot + 1) × (at_key new range id ≡ Some slot)
    × ((r d : ℕ) → ((r ≡ range) × (d ≡ id) → ⊥) → at_key new r d ≡ at_key old r d)

-- the slots of the ranges before one
pub record AreSlotsBefore (tree : Built) (count : ℕ) (entries : List ((ℕ × ℕ) × ℕ)) (counts : List ℕ) (makes : List Bool) : Type 0 where
  pub counted : length counts ≡ count
  pub counts_are : (range : ℕ) → range < count → slice_get counts range ≡ Some (length (slots_in tree range))
  pub told : length makes ≡ count
  pub makes_are : (range : ℕ) → range < count → slice_get makes range ≡ Some (makes_frame tree range)
  pub places : (range d : ℕ) → range < count → at_key entries range d ≡ place_of (slots_in tree range) d
  pub none : (range d : ℕ) → count ≤ range → at_key entries range d ≡ None

-- The ranges about a node, the innermost first, as the chain of those of them that make frames tells of them.
pub data Framed (tree : Built) (frames : List Layer) : Option ℕ → List ℕ → Type 0 where
  outermost : Framed tree frames None []
  passed : {nest : Option ℕ} {range : ℕ} {more : List ℕ} → makes_frame tree range ≡ false → Framed tree frames nest more → Framed tree frames nest (range ∷ more)
  entered : {more : List ℕ} (i : ℕ) (frame : Layer) → slice_get frames i ≡ Some frame → makes_frame tree frame.range ≡ true → Framed tree frames frame.outer more
      → Framed tree frames (Some i) (frame.range ∷ more)

-- the chains of the frames of the first layers
pub record AreChained (tree : Built) (layers : List Layer) (by_layer : List (Option ℕ)) (frames : List Layer) : Type 0 where
  pub tells : (number : ℕ) (nest : Option ℕ) → slice_get by_layer number ≡ Some nest → (ranges : List ℕ) → Nested layers (Some number) ranges → Framed tree frames nest ranges

-- which ranges make frames
abbrev pub AreMade : Built → List Bool → Type 0
AreMade tree makes = (range : ℕ) → slice_index_or makes range false ≡ makes_frame tree range

-- chains that are those of the layers stay so
abbrev pub StayChained : (layers : List Layer) → (makes : List Bool) → (old_by_layer : List (Option ℕ)) → (old_frames : List Layer) → (by_layer : List (Option ℕ)) → (frames : List Layer) → Type 0
StayChained layers makes old_by_layer old_frames by_layer frames =
    (tree : Built) → AreMade tree makes → AreChained tree layers old_by_layer old_frames → AreChained tree layers by_layer frames

-- the innermost frame of a layer
abbrev pub frame_at : List (Option ℕ) → (layer : Option ℕ) → Option ℕ
frame_at by_layer None = None
frame_at by_layer (Some number) = slice_index_or by_layer number None

-- a layer is added, with a frame of its own where its range makes one
abbrev pub IsLayerAdded : (old_by_layer : List (Option ℕ)) → (old_frames : List Layer) → (by_layer : List (Option ℕ)) → (frames : List Layer) → Layer → (makes : Bool) → Type 0
IsLayerAdded old_by_layer old_frames by_layer frames layer false =
    (frames ≡ old_frames) × (by_layer ≡ old_by_layer ++ frame_at old_by_layer layer.outer ∷ [])
IsLayerAdded old_by_layer old_frames by_layer frames layer true =
    (frames ≡ old_frames ++ record { range = layer.range; outer = frame_at old_by_layer layer.outer } ∷ [])
    × (by_layer ≡ old_by_layer ++ Some (length old_frames) ∷ [])

-- the frames are kept, with some more
abbrev pub Extends : (old new : List Layer) → Type 0
Extends old new = (more : List Layer) × (new ≡ old ++ more)

-- the frames about each node, and how they lie within one another
pub record Chain : Type 0 where
  pub about : List (Option ℕ)
  pub frames : List Layer

-- a chain tells of the ranges about a node
pub record TellsFrames (tree : Built) (frames : List Layer) (at : ℕ) (nest : Option ℕ) : Type 0 where
  pub ranges : List ℕ
  pub lies : Lies tree at ranges
  pub framed : Framed tree frames nest ranges

-- the chains tell of the frames about the nodes before one
pub record AreAboutBefore (tree : Built) (count : ℕ) (about : List (Option ℕ)) (frames : List Layer) : Type 0 where
  pub long : length about ≡ count
  pub linked : LayersAreLinked about frames
  pub tells : (at : ℕ) (nest : Option ℕ) → slice_get about at ≡ Some nest → TellsFrames tree frames at nest

-- where a definition has a slot, by the chain of the frames: in the innermost one that has a slot for it
pub data FindsSlot (frames : List Layer) (entries : List ((ℕ × ℕ) × ℕ)) (definition : ℕ) : Option ℕ → Option FrameStep → Type 0 where
  nowhere : FindsSlot frames entries definition None None
  here : {slot : ℕ} (i : ℕ) (frame : Layer) → slice_get frames i ≡ Some frame → at_key entries frame.range definition ≡ Some slot
      → FindsSlot frames entries definition (Some i) (Some (record { hops = 0; slot = slot }))
  further : {found : Option FrameStep} (i : ℕ) (frame : Layer) → slice_get frames i ≡ Some frame → at_key entries frame.range definition ≡ None
      → FindsSlot frames entries definition frame.outer found → FindsSlot frames entries definition (Some i) (moved 1 found)

-- so many steps outwards pass the frame of a range, with some of them left
pub data Crosses (frames : List Layer) : Option ℕ → (steps range left : ℕ) → Type 0 where
  crossed : {left : ℕ} (i : ℕ) (frame : Layer) → slice_get frames i ≡ Some frame → Crosses frames (Some i) (left + 1) frame.range left
  onwards : {steps range left : ℕ} (i : ℕ) (frame : Layer) → slice_get frames i ≡ Some frame → Crosses frames frame.outer steps range left → Crosses frames (Some i) (steps + 1) range left

-- at most that
abbrev pub IsAtMost : ℕ → Option ℕ → Type 0
IsAtMost bound None = ⊥
IsAtMost bound (Some n) = n ≤ bound

-- the least of what was there and of what is used
pub record Lowers (Used : ℕ → Type 0) (old new : Option ℕ) : Type 0 where
  pub source : (n : ℕ) → new ≡ Some n → (old ≡ Some n) ⊎ Used n
  pub kept : (n : ℕ) → old ≡ Some n → IsAtMost n new
  pub all : (n : ℕ) → Used n → IsAtMost n new

-- the needs are lowered to what is used
pub record AreLowered (Used : (range hops : ℕ) → Type 0) (old new : List (Option ℕ)) : Type 0 where
  pub long : length new ≡ length old
  pub each : (range : ℕ) (before after : Option ℕ) → slice_get old range ≡ Some before → slice_get new range ≡ Some after → Lowers (Used range) before after

-- the lesser of what was there and that number
abbrev pub least_of : Option ℕ → ℕ → ℕ
least_of None hops = hops
least_of (Some other) hops = min other hops

-- what is there after a need of one range is lowered
abbrev pub lowered : (here : Bool) → (hops : ℕ) → Option ℕ → Option ℕ
lowered false hops before = before
lowered true hops before = Some (least_of before hops)

-- the need of one range is lowered to that number, as far as there is one
pub record IsOneLowered (range hops : ℕ) (old new : List (Option ℕ)) : Type 0 where
  pub long : length new ≡ length old
  pub each : (r : ℕ) (before after : Option ℕ) → slice_get old r ≡ Some before → slice_get new r ≡ Some after → after ≡ lowered (nat_eq range r) hops before

-- an applied tag
abbrev pub is_tag : NodeKind → Bool
is_tag kind.Tag = true
is_tag _ = false

-- the number, where it is below the bound
abbrev pub below : (bound : ℕ) → Option ℕ → Option ℕ
below bound None = None
below bound (Some id) = if nat_lt id bound then Some id else None

-- the definition of the tag that a node applies, as far as it is one and its definition stands in the tree
abbrev pub IsApplied : Built → (at : ℕ) → Option ℕ → Type 0
IsApplied tree at None = kind_at tree at ≡ kind.Tag → Undefined tree at sorts.Tag (name_at tree at)
IsApplied tree at (Some d) = (kind_at tree at ≡ kind.Tag) × IsWordDefinition tree at sorts.Tag (name_at tree at) d

-- a routine text uses from outside the tag which a node applies
abbrev pub TextUsesTagAt : Built → (at range hops : ℕ) → Type 0
TextUsesTagAt tree at range hops = (kind_at tree range ≡ kind.RoutineText) × UsesTagAt tree at range hops

-- a routine text uses a definition from outside at a node
abbrev pub TextUsesSlotAt : Built → (at definition range hops : ℕ) → Type 0
TextUsesSlotAt tree at definition range hops = (kind_at tree range ≡ kind.RoutineText) × UsesSlotAt tree at definition range hops

-- which ranges are routine texts
abbrev pub AreTexts : Built → List Bool → Type 0
AreTexts tree texts = (range : ℕ) → slice_index_or texts range false ≡ is_routine_text (kind_at tree range)

-- it uses the tag which one of the nodes before that one applies
abbrev pub UsesBefore : Built → (count range hops : ℕ) → Type 0
UsesBefore tree count range hops = (at : ℕ) × (at < count) × TextUsesTagAt tree at range hops

-- the needs are those by the nodes before one
pub record AreNeedsBefore (tree : Built) (count : ℕ) (needs : List (Option ℕ)) : Type 0 where
  pub long : length needs ≡ length tree.nodes
  pub each : (range : ℕ) (need : Option ℕ) → slice_get needs range ≡ Some need → Lowers (UsesBefore tree count range) None need

-- all tables of the frames of a tree
pub record FrameTables : Type 0 where
  pub slots : List ℕ
  pub makes : List Bool
  pub places : List ((ℕ × ℕ) × ℕ)
  pub chain : Chain
  pub texts : List Bool
  pub needs : List (Option ℕ)

-- the tables are those of the tree
pub record AreFrames (tree : Built) (tables : FrameTables) : Type 0 where
  pub slots : AreSlotsBefore tree (length tree.nodes) tables.places tables.slots tables.makes
  pub chain : AreAboutBefore tree (length tree.nodes) tables.chain.about tables.chain.frames
  pub texts : AreTexts tree tables.texts
  pub counted : length tables.needs ≡ length tree.nodes
  pub needs : (text : ℕ) (need : Option ℕ) → slice_get tables.needs text ≡ Some need → kind_at tree text ≡ kind.RoutineText → IsNeed (UsesTag tree text) need

-- where a definition stands, as seen from a node
abbrev pub IsWay : Built → (at definition : ℕ) → Option FrameStep → Type 0
IsWay tree at definition None = (hops slot : ℕ) → SlotStandsAt tree at definition hops slot → ⊥
IsWay tree at definition (Some step) = SlotStandsAt tree at definition step.hops step.slot
