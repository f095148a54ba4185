-- Inner: the headline does not rest on this file.
-- The frames of the store as contracts see them.
use Rattle.std.specs.Prelude.{◌≡◌, ◌<◌, ◌≤◌, ◌+◌, ℕ, List, [], ◌∷◌, None, Some, map, take, drop, slice_get, length, nat_lt, if◌then◌else◌, IfSome}
use Rattle.std.specs.Option.{option_and_then}
use Rattle.std.specs.declared.alloc.Global.{Global}
use Rattle.std.specs.declared.option.Option.{Option}
use Rattle.std.specs.declared.vec.Vec.{Vec}
use Rattle.std.specs.Vec.{vec_capacity}
use Rattle.a68_values.specs.Content.{Content, as_plain}
use Rattle.a68_values.specs.declared.held.Descriptor.{Descriptor}
use Rattle.a68_values.specs.declared.held.Held.{Held}
use Rattle.a68_values.specs.declared.held.Held.TheVariants as held
use Rattle.a68_values.specs.declared.plain.Plain.{Plain}
use Rattle.a68_acts.specs.Store as store
use Rattle.a68_acts.specs.Store.{Store}
use Rattle.a68_store.specs.declared.frame.Frame.{Frame}

-- a frame, where these are the slots of all frames
abbrev pub frame_of : List (Option Content) → Frame → store.Frame
frame_of bound frame = record { outer = frame.outer; scope = frame.scope; slots = take frame.count (drop frame.first bound) }

abbrev pub frames_of : List (Option Content) → List Frame → List store.Frame
frames_of bound frames = map (frame_of bound) frames

-- the frames without their slots: chains ask for no more
abbrev pub links_of : List Frame → List store.Frame
links_of frames = frames_of [] frames

-- the slots of the frames stand one behind the other, from a place up to another one
abbrev pub AreLaid : ℕ → List Frame → ℕ → Type 0
AreLaid from [] to = from ≡ to
AreLaid from (frame ∷ frames) to = (frame.first ≡ from) × AreLaid (from + frame.count) frames to

-- what the slots of frame 1 are bound to has room in the list, where there is such a frame
abbrev pub HasRoom : List Frame → Vec (Option Content) Global → Type 0
HasRoom frames kept = IfSome (slice_get frames 1) (λ frame. frame.count ≤ vec_capacity kept)

-- the place of a slot of a frame, where they are there
abbrev pub place_in : List Frame → (frame slot : ℕ) → Option ℕ
place_in frames f slot = option_and_then (λ (frame : Frame). if nat_lt slot frame.count then Some (frame.first + slot) else None) (slice_get frames f)

-- each frame but that of the standard environ stands behind the one about it
abbrev pub AreLinked : List store.Frame → Type 0
AreLinked frames = (f : ℕ) (frame : store.Frame) → slice_get frames f ≡ Some frame → 0 < f → frame.outer < f

-- the frame has such a slot, where it is there
abbrev pub HasSlot : Store → (frame slot : ℕ) → Type 0
HasSlot in_store f slot = (frame : store.Frame) → slice_get in_store.frames f ≡ Some frame → slot < length frame.slots

-- the slot of a frame, where they are there
abbrev pub slot_in : Store → (frame slot : ℕ) → Option (Option Content)
slot_in in_store f slot = option_and_then (λ (frame : store.Frame). slice_get frame.slots slot) (slice_get in_store.frames f)

-- the plain value to which a slot is bound
abbrev pub plain_bound : Option (Option Content) → Option Plain
plain_bound (Some (Some v)) = as_plain v
plain_bound _ = None

-- the plain value that a cell holds
abbrev pub plain_held : Option Held → Option Plain
plain_held (Some (held.Plain p)) = Some p
plain_held _ = None

-- the row that a cell holds
abbrev pub row_held : Option Held → Option Descriptor
row_held (Some (held.Rows d)) = Some d
row_held _ = None
