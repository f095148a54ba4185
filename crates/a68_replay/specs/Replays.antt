-- Runs that follow a schedule (own).
use Rattle.std.specs.Prelude.{◌≡◌, ◌++◌, ℕ, List, [], ◌∷◌, length, take, Some, slice_get}
use Rattle.a68_base.specs.declared.limits.TheConstants.{MOST_FUEL}
use Rattle.a68_code.specs.declared.code.Code.{Code}
use Rattle.a68_exec.specs.Runs.{World, Machine, opening}
use Rattle.a68_replay.specs.Schedules.{strands_of, picks_of}
use Rattle.a68_replay.specs.declared.turning.Replayed.{Replayed}
use Rattle.a68_replay.specs.declared.turning.Replayed.TheVariants as comes
use Rattle.a68_strand.specs.Cyclic.{HasTurn}
use Rattle.a68_strand.specs.Ends.{HasEnded, fault_of}
use Rattle.a68_strand.specs.RunOf.{RunOf}
use Rattle.a68_values.specs.declared.act.Entry.{Entry}
use Rattle.a68_values.specs.declared.act.FaultKind.{FaultKind}
use Rattle.a68_values.specs.declared.kept.End.{End}
use Rattle.a68_values.specs.declared.kept.End.TheVariants as ends
use Rattle.a68_values.specs.declared.kept.Kept.{Kept}

-- The picks are the strands of the entries of a run, which stands so behind them.
pub record LeadTo (code : Code) (picks : List ℕ) (world : World) : Type 0 where
  pub entries : List Entry
  pub runs : Machine code (opening code) entries world
  pub strands : strands_of entries ≡ picks

-- The picks are the strands of the entries of a run, and behind them that of the fault that ends it.
pub record LeadToFault (code : Code) (picks : List ℕ) : Type 0 where
  pub before : List ℕ
  pub strand : ℕ
  pub all : picks ≡ before ++ strand ∷ []
  pub world : World
  pub lead : LeadTo code before world
  pub unended : HasEnded world 0 → ⊥
  pub kind : FaultKind
  pub fault : fault_of world strand ≡ Some kind

-- All picks are entries of a run, and it has not ended: strand 0 has not come to its end, and some strand has a turn.
pub record IsShort (code : Code) (picks : List ℕ) : Type 0 where
  pub world : World
  pub lead : LeadTo code picks world
  pub unended : HasEnded world 0 → ⊥
  pub strand : ℕ
  pub turn : HasTurn code world strand

-- Behind these picks the strand has no turn: they are the entries of a run in which it has none (as no strand has behind the end
-- of strand 0), or they end with a fault.
pub data HasNoTurn (code : Code) (before : List ℕ) (pick : ℕ) : Type 0 where
  unready : {world : World} → LeadTo code before world → (HasTurn code world pick → ⊥) → HasNoTurn code before pick
  behind_fault : LeadToFault code before → HasNoTurn code before pick

-- the pick at this place has no turn behind those before it
pub record IsStuck (code : Code) (picks : List ℕ) (place : ℕ) : Type 0 where
  pub pick : ℕ
  pub there : slice_get picks place ≡ Some pick
  pub none : HasNoTurn code (take place picks) pick

-- What comes of a code and picks: the picks are those of a run that has ended, or one has no turn, or they end before the run.
abbrev pub Replays : Code → List ℕ → Replayed → Type 0
Replays code picks (comes.Ran same kept) = (same ≡ code) × RunOf code MOST_FUEL kept × (picks_of kept ≡ picks)
Replays code picks (comes.Stuck same place) = (same ≡ code) × IsStuck code picks place
Replays code picks (comes.Short same count) = (same ≡ code) × (count ≡ length picks) × IsShort code picks

-- What comes of the picks of a run that had this end: the run again, or, where its fuel was spent, that it has not ended.
abbrev pub comes_back : Code → Kept → End → Replayed
comes_back code kept ends.Spent = comes.Short code (length (picks_of kept))
comes_back code kept _ = comes.Ran code kept
