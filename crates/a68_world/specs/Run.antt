-- Inner: the headline does not rest on this file.
-- A run as contracts see it, and what is known of every run.
use Rattle.std.specs.Prelude.{◌≡◌, ◌<◌, ◌≤◌, ◌^◌, ℕ, Bool, true, false, List, [], ◌∷◌, length, slice_get, None, Some, IfSome}
use Rattle.std.specs.declared.option.Option.{Option}
use Rattle.a68_base.specs.declared.limits.TheConstants.{MOST_FUEL}
use Rattle.a68_code.specs.Valid.{IsValid}
use Rattle.a68_code.specs.declared.code.Code.{Code}
use Rattle.a68_strand.specs.Cyclic.{HasTurn}
use Rattle.a68_strand.specs.Ends.{HasEnded, RunEndsWith}
use Rattle.a68_exec.specs.Runs.{World, opening}
use Rattle.a68_values.specs.declared.act.Entry.{Entry}
use Rattle.a68_values.specs.declared.kept.End.{End}
use Rattle.a68_values.specs.declared.kept.End.TheVariants as ends
use Rattle.a68_world.specs.Worlds.{world_of, IsJournal}
use Rattle.a68_world.specs.declared.status.StrandState.{StrandState}
use Rattle.a68_world.specs.declared.status.StrandState.TheVariants.{Home, Spent}

-- a run: its code and its fuel, its journal, where its strands are, and how it has ended; the machine's world is that after
-- the journal
pub record Run : Type 0 where
  pub code : Code
  pub fuel : ℕ
  pub entries : List Entry
  pub status : List StrandState
  -- no memory was found, so no further act is done
  pub lost : Bool
  pub end : Option End

-- the most entries that a journal may have
abbrev pub most_fuel : ℕ
most_fuel = MOST_FUEL

-- the store and the strands as the machine has them after the journal
abbrev pub world : Run → World
world run = world_of run.code run.entries

-- where a strand is
abbrev pub IsNumber : Run → ℕ → StrandState → Type 0
IsNumber run k where_ = slice_get run.status k ≡ Some where_

-- every strand stands in the world
abbrev pub AllHome : List StrandState → Type 0
AllHome status = (k : ℕ) (there : StrandState) → slice_get status k ≡ Some there → there ≡ Home

-- The end that a run has without a further turn (own): Done where strand 0 has ended, AllHalted where it has not and no
-- strand has a turn, and else none.
abbrev pub EndsWithoutTurn : Code → World → Option End → Type 0
EndsWithoutTurn code w (Some ends.Done) = HasEnded w 0
EndsWithoutTurn code w (Some ends.AllHalted) = (HasEnded w 0 → ⊥) × ((n : ℕ) → HasTurn code w n → ⊥)
EndsWithoutTurn code w None = (HasEnded w 0 → ⊥) × ((n : ℕ) × HasTurn code w n)
EndsWithoutTurn code w _ = ⊥

-- what is known of every run
pub record IsSoundRun (run : Run) : Type 0 where
  pub valid : IsValid run.code
  pub short : length run.code.list < 2 ^ 32
  pub some_fuel : 1 ≤ run.fuel
  pub little_fuel : run.fuel ≤ most_fuel
  pub within : length run.entries ≤ run.fuel
  pub runs : IsJournal run.code run.entries
  pub all : length run.status ≡ length (world run).strands
  -- an end that is set is the machine's
  pub ended : IfSome run.end (RunEndsWith run.code run.fuel run.entries (world run))
  -- where no end is set and every strand stands in the world, there is a turn to take
  pub goes_on : run.end ≡ None → AllHome run.status → EndsWithoutTurn run.code (world run) None
  -- a run that is lost sets no end, and one with a spent strand is lost while it goes on
  pub lost : run.lost ≡ true → run.end ≡ None
  pub spent : (k : ℕ) → IsNumber run k Spent → run.end ≡ None → run.lost ≡ true

-- a run that is yet to begin, where no event is needed with its end
pub record RunBegins (code : Code) (fuel : ℕ) (run : Run) : Type 0 where
  pub is : run ≡ record { code = code; fuel = fuel; entries = []; status = Home ∷ []; lost = false; end = run.end }
  pub ends : EndsWithoutTurn code (opening code) run.end
