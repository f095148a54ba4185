-- The store: what the strands of a run share.
use Rattle.std.specs.Prelude.{ℕ, zero, suc, ◌+◌, List, [], ◌∷◌, length, sum_by, None, Some, slice_get, nat_eq, if◌then◌else◌}
use Rattle.std.specs.declared.option.Option.{Option}
use Rattle.a68_base.specs.declared.limits.TheConstants.{MOST_COUNTED, MOST_PRINTED, MOST_STRANDS}
use Rattle.a68_values.specs.Content.{Content, Contents, void, plain, layout, structure, row, united, no_parts, ◌and_part◌}
use Rattle.a68_values.specs.declared.chain.Environ.{Environ}
use Rattle.a68_values.specs.declared.held.Held.{Held}

-- a frame: the one about it, its scope, and what its slots are bound to
pub record Frame : Type 0 where
  pub outer : ℕ
  pub scope : ℕ
  pub slots : List (Option Content)

-- the cells, the frames, the printed text, and how many strands have been made; cells, frames and strands are named by their
-- numbers
pub record Store : Type 0 where
  pub cells : List Held
  pub frames : List Frame
  pub text : List ℕ
  pub strands : ℕ

-- the frame of the standard environ, which has no slots
abbrev pub standard_frame : Frame
standard_frame = record { outer = 0; scope = 0; slots = [] }

-- the store of a run that is yet to begin: the program is strand 0
abbrev pub opening_store : Store
opening_store = record { cells = []; frames = standard_frame ∷ []; text = []; strands = 1 }

-- a frame, and what stands about it; nothing stands about that of the standard environ
abbrev pub chain_step : ℕ → Option Frame → (ℕ → List Environ) → List Environ
chain_step f None outwards = []
chain_step f (Some frame) outwards = record { frame = f; scope = frame.scope } ∷ (if nat_eq f 0 then [] else outwards frame.outer)

-- a frame and those about it, at most so many, outwards to the standard environ
abbrev pub chain_within : ℕ → List Frame → ℕ → List Environ
chain_within zero frames f = []
chain_within (suc n) frames f = chain_step f (slice_get frames f) (chain_within n frames)

-- a frame and all those about it: each stands behind the one about it
unfoldable pub chain_of : List Frame → ℕ → List Environ
chain_of frames f = chain_within (suc f) frames f

-- how many values are within a value: its parts and theirs
abbrev mutual
  pub further_parts : Content → ℕ
  further_parts void = 0
  further_parts (plain p) = 0
  further_parts (layout l) = 0
  further_parts (structure parts) = all_parts parts
  further_parts (row bounds parts) = all_parts parts
  further_parts (united mode inner) = 1 + further_parts inner

  pub all_parts : Contents → ℕ
  all_parts no_parts = 0
  all_parts (part and_part parts) = 1 + further_parts part + all_parts parts

-- what a slot counts: itself, and the values within the one that it is bound to
abbrev pub slot_weight : Option Content → ℕ
slot_weight None = 1
slot_weight (Some v) = 1 + further_parts v

abbrev pub frame_weight : Frame → ℕ
frame_weight frame = sum_by slot_weight frame.slots

-- what the store counts: cells, slots, and the values within those that slots are bound to
abbrev pub counted : Store → ℕ
counted store = length store.cells + sum_by frame_weight store.frames

-- the most that a store may count, the most bytes that a run may print, and the most strands that it may have
abbrev pub most_counted : ℕ
most_counted = MOST_COUNTED

abbrev pub most_printed : ℕ
most_printed = MOST_PRINTED

abbrev pub most_strands : ℕ
most_strands = MOST_STRANDS
