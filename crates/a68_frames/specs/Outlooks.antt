-- Inner: the headline does not rest on this file.
-- What is seen outwards from frames (own).
use Rattle.std.specs.Prelude.{◌≡◌, ◌<◌, ◌≤◌, ◌+◌, ◌^◌, ◌&&◌, ℕ, suc, Bool, true, false, nat_eq, List, length, slice_get, slice_index_or, Option, Some, None, if◌then◌else◌}
use Rattle.std.specs.Option.{option_map_or}
use Rattle.a68_frames.specs.Frames.{place_of, slots_in}
use Rattle.a68_frames.specs.Tables.{Crosses}
use Rattle.a68_frames.specs.declared.outlook.View.{View}
use Rattle.a68_maps.specs.Found.{found, IsMade, Stay}
use Rattle.a68_maps.specs.declared.maps.Fork.{Fork}
use Rattle.a68_ranges.specs.Tables.{at_key}
use Rattle.a68_ranges.specs.declared.nests.Layer.{Layer}
use Rattle.a68_tree.specs.Trees.{Built}

-- so many frames stand from one outwards
pub data IsDeep (frames : List Layer) : Option ℕ → ℕ → Type 0 where
  none_deep : IsDeep frames None 0
  one_deeper : {depth : ℕ} (i : ℕ) (frame : Layer) → slice_get frames i ≡ Some frame → IsDeep frames frame.outer depth → IsDeep frames (Some i) (depth + 1)

-- the innermost frame from one outwards in which a definition has a slot
pub data IsHolder (frames : List Layer) (entries : List ((ℕ × ℕ) × ℕ)) (definition : ℕ) : Option ℕ → Option ℕ → Type 0 where
  held_nowhere : IsHolder frames entries definition None None
  held_here : {slot : ℕ} (i : ℕ) (frame : Layer) → slice_get frames i ≡ Some frame → at_key entries frame.range definition ≡ Some slot → IsHolder frames entries definition (Some i) (Some i)
  held_further : {holder : Option ℕ} (i : ℕ) (frame : Layer) → slice_get frames i ≡ Some frame → at_key entries frame.range definition ≡ None
      → IsHolder frames entries definition frame.outer holder → IsHolder frames entries definition (Some i) holder

-- the innermost frame from one outwards that is of a routine text
pub data IsText (frames : List Layer) (texts : List Bool) : Option ℕ → Option ℕ → Type 0 where
  text_nowhere : IsText frames texts None None
  text_here : (i : ℕ) (frame : Layer) → slice_get frames i ≡ Some frame → slice_index_or texts frame.range false ≡ true → IsText frames texts (Some i) (Some i)
  text_further : {text : Option ℕ} (i : ℕ) (frame : Layer) → slice_get frames i ≡ Some frame → slice_index_or texts frame.range false ≡ false
      → IsText frames texts frame.outer text → IsText frames texts (Some i) text

-- so many steps outwards pass the frame of a routine text, with some of them left
abbrev pub CrossesText : (frames : List Layer) → (texts : List Bool) → Option ℕ → (steps range left : ℕ) → Type 0
CrossesText frames texts nest steps range left = Crosses frames nest steps range left × (slice_index_or texts range false ≡ true)

-- the number of a frame is at most that
abbrev pub IsUpTo : Option ℕ → (bound : Option ℕ) → Type 0
IsUpTo None bound = Unit {0}
IsUpTo (Some i) bound = i < option_map_or (λ k. suc k) bound 0

-- what stands outwards from a frame
pub record IsOutward (frames : List Layer) (texts : List Bool) (start : Option ℕ) (view : View) : Type 0 where
  pub deep : IsDeep frames start view.depth
  pub few : view.depth ≤ option_map_or (λ k. suc k) start 0
  pub text : IsText frames texts start view.text
  pub low : IsUpTo view.text start

-- nothing is seen from outside all frames
abbrev pub no_view : View
no_view = record { depth = 0; text = None; slots = None }

abbrev pub view_at : List View → Option ℕ → View
view_at views None = no_view
view_at views (Some i) = slice_index_or views i no_view

-- what is seen from each frame, and which ranges are routine texts
pub record Seen : Type 0 where
  pub views : List View
  pub maps : List Fork
  pub texts : List Bool

pub record AreOutward (frames : List Layer) (texts : List Bool) (views : List View) : Type 0 where
  pub long : length views ≡ length frames
  pub each : (i : ℕ) (view : View) → slice_get views i ≡ Some view → IsOutward frames texts (Some i) view

-- the maps have the frames in which definitions have their slots
abbrev pub AreHolders : List Layer → List ((ℕ × ℕ) × ℕ) → List Fork → List View → Type 0
AreHolders frames entries maps views = (i d : ℕ) (view : View) → slice_get views i ≡ Some view → d < 2 ^ 32 → IsHolder frames entries d (Some i) (found maps view.slots d)

pub record AreViews (frames : List Layer) (entries : List ((ℕ × ℕ) × ℕ)) (seen : Seen) : Type 0 where
  pub outward : AreOutward frames seen.texts seen.views
  pub holders : AreHolders frames entries seen.maps seen.views

-- ---- as they are found

-- entries have the places of all definitions
abbrev pub HavePlaces : Built → List ((ℕ × ℕ) × ℕ) → Type 0
HavePlaces tree entries = (range d : ℕ) → at_key entries range d ≡ place_of (slots_in tree range) d

-- a map has that holder for a definition, where it counts, and else what another map has; all others stay
pub record HoldsToo (old new : List Fork) (map : Option ℕ) (id number : ℕ) (counts : Bool) (made : Option ℕ) : Type 0 where
  pub stay : Stay old new
  pub is : IsMade new made
  pub has : (d : ℕ) → d < 2 ^ 32 → found new made d ≡ (if counts && nat_eq id d then Some number else found old map d)

-- the holder, where there is a place, else that outside
abbrev pub held_by : (number : ℕ) → (place outside : Option ℕ) → Option ℕ
held_by number (Some place) outside = Some number
held_by number None outside = outside

-- a map has that holder for definitions that have places there, and else what another map has; all others stay
pub record HoldsAll (old new : List Fork) (map : Option ℕ) (slots : List ℕ) (number : ℕ) (made : Option ℕ) : Type 0 where
  pub stay : Stay old new
  pub is : IsMade new made
  pub has : (d : ℕ) → d < 2 ^ 32 → found new made d ≡ held_by number (place_of slots d) (found old map d)

-- what is seen from the first frames
pub record AreFirstViews (tree : Built) (frames : List Layer) (texts : List Bool) (maps : List Fork) (views : List View) (count : ℕ) : Type 0 where
  pub long : length views ≡ count
  pub made : (i : ℕ) (view : View) → slice_get views i ≡ Some view → IsMade maps view.slots
  pub each : (i : ℕ) (view : View) → slice_get views i ≡ Some view → IsOutward frames texts (Some i) view
  pub holders : (entries : List ((ℕ × ℕ) × ℕ)) → HavePlaces tree entries → AreHolders frames entries maps views

-- the next one is found; all maps stay
pub record IsNextView (tree : Built) (frames : List Layer) (texts : List Bool) (old new : List Fork) (number : ℕ) (view : View) : Type 0 where
  pub stay : Stay old new
  pub is : IsMade new view.slots
  pub outward : IsOutward frames texts (Some number) view
  pub holder : (entries : List ((ℕ × ℕ) × ℕ)) → HavePlaces tree entries → (d : ℕ) → d < 2 ^ 32 → IsHolder frames entries d (Some number) (found new view.slots d)
