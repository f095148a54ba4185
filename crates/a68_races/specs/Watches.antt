-- Inner: the headline does not rest on this file.
-- What clocks and last times tell of the first entries of a journal.
use Rattle.std.specs.Prelude.{◌≡◌, ◌<◌, ◌≤◌, ◌+◌, ◌⊎◌, ◌↔◌, ℕ, suc, true, false, List, None, Some, slice_get, slice_index}
use Rattle.std.specs.declared.option.Option.{Option}
use Rattle.a68_races.specs.Before.{Before, Tells, RaisesAt, Forked}
use Rattle.a68_races.specs.Cells.{lasts_at, time_of}
use Rattle.a68_races.specs.Clocks.{clock_at}
use Rattle.a68_races.specs.Races.{Accesses, Writes, LastRace, NoRace}
use Rattle.a68_races.specs.declared.race.Pair.{Pair}
use Rattle.a68_races.specs.declared.watch.Watch.{Watch}
use Rattle.a68_values.specs.declared.act.Act.{Act}
use Rattle.a68_values.specs.declared.act.Entry.{Entry}

-- entry i is entry k, or is before it
abbrev pub UpTo : List Entry → ℕ → ℕ → Type 0
UpTo entries i k = (i ≡ k) ⊎ Before entries i k

-- one of the first n entries is of this sort, and entry i is it or is before it
pub record Reaches (entries : List Entry) (Sort : ℕ → Type 0) (n i : ℕ) : Type 0 where
  pub by : ℕ
  pub low : by < n
  pub sort : Sort by
  pub upto : UpTo entries i by

-- of the first n entries the clock tells those that are before one of this sort
pub record Clocked (entries : List Entry) (Sort : ℕ → Type 0) (n : ℕ) (clock : List ℕ) : Type 0 where
  pub tells : (i : ℕ) (e : Entry) → i < n → slice_get entries i ≡ Some e → Reaches entries Sort n i ↔ (i < slice_index clock e.strand)
  pub bound : (k : ℕ) → slice_index clock k ≤ n

-- the clock tells the entries that are entry n or are before it
pub record ClockOf (entries : List Entry) (n : ℕ) (clock : List ℕ) : Type 0 where
  pub tells : (i : ℕ) (e : Entry) → i ≤ n → slice_get entries i ≡ Some e → UpTo entries i n ↔ (i < slice_index clock e.strand)
  pub bound : (k : ℕ) → slice_index clock k ≤ n + 1

-- entry k does this to a cell
pub record DoesTo (entries : List Entry) (Does : Act → ℕ → Type 0) (cell strand k : ℕ) : Type 0 where
  pub entry : Entry
  pub is : slice_get entries k ≡ Some entry
  pub own : entry.strand ≡ strand
  pub does : Does entry.act cell

-- for each strand this is the time behind the last of the first n entries by which it does this to the cell
pub record LastTimes (entries : List Entry) (Does : Act → ℕ → Type 0) (cell n : ℕ) (times : ℕ → ℕ) : Type 0 where
  pub last : (strand k : ℕ) → k < n → DoesTo entries Does cell strand k → k < times strand
  pub there : (strand k : ℕ) → times strand ≡ suc k → (k < n) × DoesTo entries Does cell strand k

-- a strand has forked another one by one of the first n entries
pub record HasForked (entries : List Entry) (n parent child : ℕ) : Type 0 where
  pub at : ℕ
  pub low : at < n
  pub forked : Forked entries at parent child

-- what the clocks tell behind the first n entries
pub record Watches (entries : List Entry) (n : ℕ) (w : Watch) : Type 0 where
  pub strands : (s : ℕ) → Clocked entries (λ k. Tells entries k s) n (clock_at w.strands s)
  pub parents : (child parent : ℕ) → HasForked entries n parent child ↔ (0 < slice_index (clock_at w.parents child) parent)
  pub raised : (cell : ℕ) → Clocked entries (λ k. RaisesAt entries k cell) n (clock_at w.raised cell)
  pub accessed : (cell : ℕ) → LastTimes entries Accesses cell n (time_of false (lasts_at w.cells cell))
  pub written : (cell : ℕ) → LastTimes entries Writes cell n (time_of true (lasts_at w.cells cell))

-- the last race of entry n
abbrev pub IsRaceAt : List Entry → ℕ → Option Pair → Type 0
IsRaceAt entries n None = NoRace entries n
IsRaceAt entries n (Some pair) = (pair.second ≡ n) × LastRace entries pair.cell pair.first n
