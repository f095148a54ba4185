-- Inner: the headline does not rest on this file.
-- What one entry does to the clocks.
use Rattle.std.specs.Prelude.{◌≡◌, ◌<◌, ◌≤◌, ◌+◌, ◌⊎◌, ◌↔◌, ℕ, suc, Bool, true, false, List, [], ◌∷◌, ◌++◌, length, None, Some, if◌then◌else◌, nat_eq, nat_lt, slice_index}
use Rattle.std.specs.declared.option.Option.{Option}
use Rattle.a68_races.specs.Before.{Numbers, Closes}
use Rattle.a68_races.specs.Cells.{AreNoted, IsLatest, lasts_at, time_of}
use Rattle.a68_races.specs.declared.cells.Last.{Last}
use Rattle.a68_races.specs.Clocks.{clock_at, IsLater, IsSet, AreTold}
use Rattle.a68_races.specs.Shown.{Shown}
use Rattle.a68_races.specs.declared.race.Pair.{Pair}
use Rattle.a68_races.specs.declared.race.TheConstants.{MOST_SHOWN}
use Rattle.a68_races.specs.declared.watch.Watch.{Watch}
use Rattle.a68_values.specs.declared.act.Act.{Act}
use Rattle.a68_values.specs.declared.act.Act.TheVariants as act
use Rattle.a68_values.specs.declared.act.Entry.{Entry}

abbrev pub AreNew : Watch → Type 0
AreNew w = (w.strands ≡ []) × (w.parents ≡ []) × (w.raised ≡ []) × (w.cells ≡ [])

-- this time alone is set
abbrev pub IsMark : (key time : ℕ) → List ℕ → Type 0
IsMark key time clock = IsSet [] key time clock

-- the strands that an act numbers are marked
abbrev pub MarksUnits : Act → List ℕ → Type 0
MarksUnits a units = (s : ℕ) → Numbers a s ↔ (0 < slice_index units s)

-- the strand forked one that closes by this act
abbrev pub ClosesFor : (parents : List (List ℕ)) → Entry → ℕ → Type 0
ClosesFor parents e s = Closes e.act × (0 < slice_index (clock_at parents e.strand) s)

-- those strands are marked behind which the entry comes
abbrev pub IsToldOf : (parents : List (List ℕ)) → Entry → List ℕ → Type 0
IsToldOf parents e told = (s : ℕ) → ((e.strand ≡ s) ⊎ (Numbers e.act s ⊎ ClosesFor parents e s)) ↔ (0 < slice_index told s)

-- where a strand closes, those that have forked it are marked too
abbrev pub ParentsTold : (parents : List (List ℕ)) (strand : ℕ) → Act → (old new : List ℕ) → Type 0
ParentsTold parents strand act.Close old new = IsLater old (clock_at parents strand) new
ParentsTold parents strand _ old new = new ≡ old

-- these strands alone are marked: those from the first to the one before the last
abbrev pub MarksBetween : (first last : ℕ) → List ℕ → Type 0
MarksBetween first last units = (s : ℕ) → ((first ≤ s) × (s < last)) ↔ (0 < slice_index units s)

-- the clock of all that is before an act of a strand
abbrev pub BaseOf : (strands raised : List (List ℕ)) (strand : ℕ) → Act → List ℕ → Type 0
BaseOf strands raised strand (act.Down c) base = IsLater (clock_at strands strand) (clock_at raised c) base
BaseOf strands raised strand _ base = base ≡ clock_at strands strand

-- where a strand lowers a semaphore, what was before its acts UP comes before all that the strand does from then on
abbrev pub LowersOf : Act → (strand : ℕ) (old raised new : List (List ℕ)) → Type 0
LowersOf (act.Down c) strand old raised new = AreTold (λ k. nat_eq k strand) old (clock_at raised c) new
LowersOf _ strand old raised new = new ≡ old

-- the race by the last time that an entry meets
abbrev pub IsRaceBy : (cell latest place : ℕ) → Option Pair → Type 0
IsRaceBy cell latest place None = latest ≡ 0
IsRaceBy cell latest place (Some pair) = (pair.cell ≡ cell) × (latest ≡ suc pair.first) × (pair.second ≡ place)

-- the race of an entry that accesses this cell, where it meets the times of this sort
abbrev pub RaceIn : (writes : Bool) (cells : List (List Last)) (cell strand place : ℕ) (known : List ℕ) → Option Pair → Type 0
RaceIn writes cells cell strand place known race = (latest : ℕ) × IsLatest (time_of writes (lasts_at cells cell)) known strand latest × IsRaceBy cell latest place race

-- the race of an act of a strand: it reads and meets what was written, or it writes and meets what was read or written
abbrev pub RaceBy : List (List Last) → Act → (strand place : ℕ) (known : List ℕ) → Option Pair → Type 0
RaceBy cells (act.Fetch c) strand place known race = RaceIn true cells c strand place known race
RaceBy cells (act.Assign c) strand place known race = RaceIn false cells c strand place known race
RaceBy cells _ strand place known race = race ≡ None

abbrev pub RaceOf : List (List Last) → Entry → (place : ℕ) (known : List ℕ) → Option Pair → Type 0
RaceOf cells e place known race = RaceBy cells e.act e.strand place known race

-- the strands that an entry numbers are noted as forked by its strand
abbrev pub ParentsOf : Entry → (old new : List (List ℕ)) → Type 0
ParentsOf e old new = (units : List ℕ) × MarksUnits e.act units × (parent : List ℕ) × IsMark e.strand 1 parent × AreTold (λ s. nat_lt 0 (slice_index units s)) old parent new

-- where the act raises a semaphore, what is before it is before all that lowers it
abbrev pub RaisedOf : Act → (old : List (List ℕ)) (now : List ℕ) (new : List (List ℕ)) → Type 0
RaisedOf (act.Up c) old now new = AreTold (λ k. nat_eq k c) old now new
RaisedOf _ old now new = new ≡ old

-- whom an entry tells is put forward to the clock of its strand
abbrev pub TellsOf : (parents : List (List ℕ)) → Entry → (old new : List (List ℕ)) → Type 0
TellsOf parents e old new = (told : List ℕ) × IsToldOf parents e told × AreTold (λ s. nat_lt 0 (slice_index told s)) old (clock_at old e.strand) new

-- the times of an act of a strand that reads or writes a cell are noted
abbrev pub CellsBy : Act → (strand time : ℕ) (old new : List (List Last)) → Type 0
CellsBy (act.Fetch c) strand time old new = AreNoted old c (record { strand = strand; accessed = time; written = 0 }) new
CellsBy (act.Assign c) strand time old new = AreNoted old c (record { strand = strand; accessed = time; written = time }) new
CellsBy _ strand time old new = new ≡ old

-- what an entry, whose clock this is, does to the clocks
pub record Notes (e : Entry) (time : ℕ) (old : Watch) (now : List ℕ) (new : Watch) : Type 0 where
  pub told : List ℕ
  pub is_told : IsToldOf old.parents e told
  pub strands : AreTold (λ s. nat_lt 0 (slice_index told s)) old.strands now new.strands
  pub parents : ParentsOf e old.parents new.parents
  pub raised : RaisedOf e.act old.raised now new.raised
  pub cells : CellsBy e.act e.strand time old.cells new.cells

-- no time is behind this one
abbrev pub AreWithin : (clocks : List (List ℕ)) (time : ℕ) → Type 0
AreWithin clocks time = (key k : ℕ) → slice_index (clock_at clocks key) k ≤ time

-- an entry is taken in, and has this last race
pub record Steps (old : Watch) (e : Entry) (place : ℕ) (race : Option Pair) (new : Watch) : Type 0 where
  pub base : List ℕ
  pub is_base : BaseOf old.strands old.raised e.strand e.act base
  pub is_race : RaceOf old.cells e place base race
  pub now : List ℕ
  pub is_now : IsSet base e.strand (place + 1) now
  pub notes : Notes e (place + 1) old now new

-- one race more, where there is one
abbrev pub Adds : Option Pair → (old new : Shown) → Type 0
Adds None old new = new ≡ old
Adds (Some pair) old new = (new.count ≡ old.count + 1) × (new.pairs ≡ (if nat_lt (length old.pairs) MOST_SHOWN then old.pairs ++ pair ∷ [] else old.pairs))
