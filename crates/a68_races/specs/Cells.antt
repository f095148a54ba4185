-- Inner: the headline does not rest on this file.
-- When strands last read and wrote cells.
use Rattle.std.specs.Prelude.{◌≡◌, ◌<◌, ◌≤◌, ◌⊎◌, ℕ, Bool, List, [], ◌∷◌, max, nat_eq, nat_lt, slice_index, slice_index_or, if◌then◌else◌}
use Rattle.a68_races.specs.declared.cells.Last.{Last}

-- a time of one of the two sorts
abbrev pub time_in : (writes : Bool) → Last → ℕ
time_in writes last = if writes then last.written else last.accessed

-- the time of a strand, where these are its last times; else 0
abbrev pub time_if : (writes : Bool) → Last → (strand : ℕ) → ℕ
time_if writes last strand = if nat_eq last.strand strand then time_in writes last else 0

-- the last time of a strand at a cell
abbrev pub time_of : (writes : Bool) → List Last → (strand : ℕ) → ℕ
time_of writes [] strand = 0
time_of writes (last ∷ lasts) strand = max (time_if writes last strand) (time_of writes lasts strand)

-- the last times of a cell
abbrev pub lasts_at : List (List Last) → (cell : ℕ) → List Last
lasts_at cells cell = slice_index_or cells cell []

-- the time, where it is of another strand and not known; else 0
abbrev pub unknown_time : (writes : Bool) → Last → (strand : ℕ) (known : List ℕ) → ℕ
unknown_time writes last strand known =
    if nat_eq last.strand strand then 0 else (if nat_lt (slice_index known last.strand) (time_in writes last) then time_in writes last else 0)

-- the latest of the times of other strands that are not known, and 0 where there is none
pub record IsLatest (times : ℕ → ℕ) (known : List ℕ) (strand latest : ℕ) : Type 0 where
  pub most : (s : ℕ) → (s ≡ strand → ⊥) → slice_index known s < times s → times s ≤ latest
  pub is : (latest ≡ 0) ⊎ ((s : ℕ) × (s ≡ strand → ⊥) × (slice_index known s < times s) × (times s ≡ latest))

-- these times are noted at a cell, none is put back, and those of other strands stay
abbrev pub IsNoted : (old : List Last) (times : Last) (new : List Last) → Type 0
IsNoted old times new = (writes : Bool) (s : ℕ) → time_of writes new s ≡ max (time_of writes old s) (time_if writes times s)

abbrev pub AreNoted : (old : List (List Last)) (cell : ℕ) (times : Last) (new : List (List Last)) → Type 0
AreNoted old cell times new = (writes : Bool) (other s : ℕ) → time_of writes (lasts_at new other) s
    ≡ (if nat_eq other cell then max (time_of writes (lasts_at old other) s) (time_if writes times s) else time_of writes (lasts_at old other) s)
