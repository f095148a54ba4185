-- Inner: the headline does not rest on this file.
-- What cells are planned for.
use Rattle.std.specs.Prelude.{◌≡◌, ◌≤◌, ◌<◌, ◌⊎◌, ◌+◌, ◌-◌, ℕ, suc, true, List, [], ◌∷◌, ◌++◌, length, take, drop}
use Rattle.a68_layout.specs.Rooms.{Room, Rooms, no_rooms, ◌and_room◌, room_within, room_for_within, elements_for, row_room, row_for, inwards, all_inwards, levels, is_far, cells_in}
use Rattle.a68_layout.specs.Widths.{most_cells, cells_of}
use Rattle.a68_layout.specs.declared.finding.Row.{Row}
use Rattle.a68_layout.specs.declared.finding.Row.TheVariants.{Bounded, Filled}
use Rattle.a68_layout.specs.declared.wanted.Wanted.{Wanted}
use Rattle.a68_layout.specs.declared.wanted.Wanted.TheVariants.{Bounds, One, Elements}
use Rattle.a68_modes.specs.declared.shape.Shape.{Shape}
use Rattle.a68_values.specs.Content.{contents_of}
use Rattle.a68_values.specs.declared.act.FaultKind.{FaultKind}
use Rattle.a68_values.specs.declared.act.FaultKind.TheVariants as fault
use Rattle.a68_values.specs.declared.held.Held.{Held}

abbrev pub rooms_in : List Shape → Wanted → Rooms
rooms_in modes (Bounds m bounds) = room_within (length modes) modes m bounds.now and_room no_rooms
rooms_in modes (One m value) = room_for_within (length modes) modes m value.now and_room no_rooms
rooms_in modes (Elements m values) = elements_for (room_for_within (length modes) modes m) (contents_of values.now)

-- ---- level by level

abbrev pub row_of : List Shape → Row → Room
row_of modes (Bounded depth m dims bounds) = row_room (room_within depth modes m) (cells_of modes m) (take dims bounds.now) (drop dims bounds.now)
row_of modes (Filled depth m value) = row_for (room_for_within depth modes m) (cells_of modes m) value.now

abbrev pub rows_of : List Shape → List Row → Rooms
rows_of modes [] = no_rooms
rows_of modes (r ∷ rs) = row_of modes r and_room rows_of modes rs

-- the rows among the cells of a room are added
pub record AreAmong (modes : List Shape) (old new : List Row) (r : Room) : Type 0 where
  pub each : (k : ℕ) → all_inwards (suc k) (rows_of modes new) ≡ all_inwards (suc k) (rows_of modes old) ++ inwards (suc k) r

-- the rows among the cells of these rooms are added
pub record AreFound (modes : List Shape) (old new : List Row) (rs : Rooms) : Type 0 where
  pub each : (k : ℕ) → all_inwards (suc k) (rows_of modes new) ≡ all_inwards (suc k) (rows_of modes old) ++ all_inwards (suc k) rs

-- the rows among the elements of a row are added
pub record AreBehind (modes : List Shape) (old new : List Row) (r : Room) : Type 0 where
  pub each : (k : ℕ) → all_inwards (suc k) (rows_of modes new) ≡ all_inwards (suc k) (rows_of modes old) ++ inwards (suc (suc k)) r

-- these are the rows among the elements of those
pub record AreBelow (modes : List Shape) (level next : List Row) : Type 0 where
  pub each : (k : ℕ) → all_inwards (suc k) (rows_of modes next) ≡ all_inwards (suc (suc k)) (rows_of modes level)

-- these are the rows whose elements stand so many rows inwards
pub record AreAt (modes : List Shape) (n : ℕ) (rs : Rooms) (level : List Row) : Type 0 where
  pub each : (k : ℕ) → all_inwards (suc k) (rows_of modes level) ≡ all_inwards (n + k) rs

-- the cells of so many levels are made, and none of them is above those that there may be
pub record IsMade (modes : List Shape) (n : ℕ) (rs : Rooms) (cells : List Held) : Type 0 where
  pub there : cells ++ levels (suc (length modes) - n) n (length cells) rs ≡ levels (suc (length modes)) 0 0 rs
  pub far : is_far (suc (length modes) - n) n (length cells) rs ≡ is_far (suc (length modes)) 0 0 rs
  pub few : length cells ≤ most_cells

-- there are too many cells, or elements of rows would lie above them
abbrev pub IsTooMany : List Shape → Rooms → FaultKind → Type 0
IsTooMany modes rs kind = (kind ≡ fault.Cells) × ((is_far (suc (length modes)) 0 0 rs ≡ true) ⊎ (most_cells < length (cells_in modes rs)))
