-- Inner: the headline does not rest on this file.
-- The store as contracts see it, and what it keeps.
use Rattle.std.specs.Prelude.{◌≡◌, ◌<◌, ◌≤◌, [], length}
use Rattle.a68_acts.specs.Store as store
use Rattle.a68_acts.specs.Store.{counted, most_counted, most_printed, most_strands}
use Rattle.a68_store.specs.Frames.{frames_of, AreLaid, AreLinked, HasRoom}
use Rattle.a68_store.specs.declared.store.Store.TheInside.{Inside}

abbrev pub store_of : Inside → store.Store
store_of s = record { cells = s.cells.items; frames = frames_of s.slots.items s.frames.items; text = s.text.items; strands = s.strands }

pub record IsSound (s : Inside) : Type 0 where
  pub counted_is : s.counted ≡ counted (store_of s)
  pub few : s.counted ≤ most_counted
  pub opened : 0 < length s.frames.items
  pub linked : AreLinked (frames_of s.slots.items s.frames.items)
  pub laid : AreLaid 0 s.frames.items (length s.slots.items)
  -- what is kept of frame 1 is moved at the end, into a list that has room for it from the start
  pub none_kept : s.kept.items ≡ []
  pub room_to_keep : HasRoom s.frames.items s.kept
  pub short : length s.text.items ≤ most_printed
  pub strands_few : s.strands ≤ most_strands
