-- Inner: the headline does not rest on this file.
-- What a turn of a strand comes to.
use Rattle.std.specs.Prelude.{◌≡◌, ◌<◌, ◌-◌, ◌++◌, ◌∷◌, [], ◌⊎◌, ℕ, true, false, List, length, None, Some, slice_get}
use Rattle.std.specs.Option.{option_map, option_map_or}
use Rattle.a68_acts.specs.Does.{Outcome, did, does}
use Rattle.a68_acts.specs.declared.want.Want.{Want}
use Rattle.a68_code.specs.declared.code.Code.{Code}
use Rattle.a68_strand.specs.Cyclic.{HasTurn}
use Rattle.a68_strand.specs.Ends.{fault_of, CanActNow}
use Rattle.a68_instructions.specs.Machine.{State, place_at, told_by}
use Rattle.a68_strand.specs.Plain.{IsOther}
use Rattle.a68_strand.specs.RunOf.{RunOf}
use Rattle.a68_exec.specs.Memory.{TakesMemory, told_plainly}
use Rattle.a68_exec.specs.Runs.{World, acted}
use Rattle.a68_instructions.specs.declared.ask.Stance.TheVariants.{Asking, Waits}
use Rattle.a68_instructions.specs.declared.ask.Waiting.{Waiting}
use Rattle.a68_values.specs.declared.act.Act.{Act}
use Rattle.a68_values.specs.declared.act.Entry.{Entry}
use Rattle.a68_values.specs.declared.kept.End.{End}
use Rattle.a68_values.specs.declared.kept.End.TheVariants as ends
use Rattle.a68_values.specs.declared.kept.Kept.{Kept}
use Rattle.a68_world.specs.Run.{Run, EndsWithoutTurn, AllHome, IsNumber, world}
use Rattle.a68_world.specs.declared.status.StrandState.{StrandState}
use Rattle.a68_world.specs.declared.status.StrandState.TheVariants.{Home, Spent}
use Rattle.a68_world.specs.declared.turned.Turned.{Turned}
use Rattle.a68_world.specs.declared.turned.Turned.TheVariants as turned

-- no end is set, and no turn has found no memory
pub record GoesOn (run : Run) : Type 0 where
  pub unended : run.end ≡ None
  pub kept : run.lost ≡ false

-- the strand is there, and has a turn
pub record IsReadyAs (run : Run) (n : ℕ) (there : StrandState) : Type 0 where
  pub home : IsNumber run n there
  pub turn : HasTurn run.code (world run) n

-- the strand stands in the world, and has a turn
abbrev pub IsReady : (run : Run) (n : ℕ) → Type 0
IsReady run n = IsReadyAs run n Home

-- it is a run of the same code and fuel
abbrev pub IsOf : (old new : Run) → Type 0
IsOf old new = (new.code ≡ old.code) × (new.fuel ≡ old.fuel)

-- the journal with one entry more
abbrev pub noted : Run → ℕ → Act → List Entry
noted run n act = run.entries ++ record { strand = n; act = act } ∷ []

-- the strand waits for units in the one world, and goes on in the other
pub record GoesOnIn (old new : World) (k : ℕ) : Type 0 where
  pub st : State
  pub first : ℕ
  pub count : ℕ
  pub there : slice_get old.strands k ≡ Some st
  pub waits : st.stance ≡ Waits first count
  pub told : slice_get new.strands k ≡ slice_get old.strands k → ⊥

-- Where the strands are behind an act of one of them. Those that it makes stand in the world. Each other one stays where it
-- was; one that is told to go on may find no memory, and then the run is lost.
pub record Seated (old new : Run) (but : ℕ) : Type 0 where
  pub fresh : (k : ℕ) (s : StrandState) → slice_get old.status k ≡ None → IsNumber new k s → s ≡ Home
  pub stays : (k : ℕ) (s : StrandState) → IsNumber old k s → (k ≡ but → ⊥) → IsNumber new k s ⊎ ((s ≡ Home) × IsNumber new k Spent × GoesOnIn (world old) (world new) k × (new.lost ≡ true))
  pub many : length new.status ≡ length (world new).strands

-- The end that an act sets: where every strand stands in the world, the one that needs no further turn; else none.
pub record SetsEnd (new : Run) : Type 0 where
  pub whole : AllHome new.status → EndsWithoutTurn new.code (world new) new.end
  pub parted : (k : ℕ) (there : StrandState) → IsNumber new k there → (there ≡ Home → ⊥) → new.end ≡ None

-- The strand, which is there, has done its next act. Where no further turn is needed, and every strand stands in the world, the
-- end is set.
pub record ActsAs (old : Run) (n : ℕ) (there : StrandState) (new : Run) : Type 0 where
  pub goes_on : GoesOn old
  pub fuel : length old.entries < old.fuel
  pub ready : IsReadyAs old n there
  pub same : IsOf old new
  pub act : Act
  pub behind : World
  pub next : acted old.code (world old) n ≡ Some (act, behind)
  pub entries : new.entries ≡ noted old n act
  -- it stays there; where it waits for no unit that has yet to close it goes on at once, and may find no memory
  pub stays : IsNumber new n there ⊎ (IsNumber new n Spent × (new.lost ≡ true))
  pub seated : Seated old new n
  -- the run is lost where a strand that was told to go on is spent, and only there
  pub lost : new.lost ≡ true → (k : ℕ) × IsNumber new k Spent
  pub spent : (k : ℕ) → IsNumber new k Spent → new.lost ≡ true
  pub ends : SetsEnd new

abbrev pub Acts : (old : Run) (n : ℕ) (new : Run) → Type 0
Acts old n new = ActsAs old n Home new

-- the place of the construct whose instruction the strand stands at
abbrev pub StandsAt : Run → ℕ → ℕ → Type 0
StandsAt run n place = option_map (λ (st : State). place_at run.code.list st.at) (slice_get (world run).strands n) ≡ Some place

-- The run ends at a turn of this strand: with the fault before which it stands, or as the fuel is spent where it stands
-- before none.
abbrev pub EndsAt : Run → ℕ → End → Type 0
EndsAt run n (ends.Fault why place strand) = (strand ≡ n) × (fault_of (world run) n ≡ Some why) × StandsAt run n place
EndsAt run n ends.Spent = (length run.entries ≡ run.fuel) × CanActNow run.code (world run) n
EndsAt run n _ = ⊥

pub record EndsHereAs (old : Run) (n : ℕ) (there : StrandState) (e : End) (new : Run) : Type 0 where
  pub goes_on : GoesOn old
  pub ready : IsReadyAs old n there
  pub ends : EndsAt old n e
  pub after : new ≡ record old { end = Some e }

abbrev pub EndsHere : (old : Run) (n : ℕ) (e : End) (new : Run) → Type 0
EndsHere old n e new = EndsHereAs old n Home e new

-- the run had ended so, and stays as it was
pub record HadEnded (old : Run) (e : End) (new : Run) : Type 0 where
  pub end : old.end ≡ Some e
  pub after : new ≡ old

-- The strand is not there or has no turn: it has ended or closed, waits for units, or would have to wait with its act. The
-- run goes on, and stays as it was.
pub record IsNotReady (old : Run) (n : ℕ) (new : Run) : Type 0 where
  pub goes_on : GoesOn old
  pub unready : IsReady old n → ⊥
  pub after : new ≡ old

-- the strand asks for an act for which it need not wait, and there is fuel
pub record IsDueAs (run : Run) (n : ℕ) (where_ : StrandState) : Type 0 where
  pub ready : IsReadyAs run n where_
  pub st : State
  pub there : slice_get (world run).strands n ≡ Some st
  pub want : Want
  pub wait : Waiting
  pub asks : st.stance ≡ Asking want wait
  pub fuel : length run.entries < run.fuel

abbrev pub IsDue : (run : Run) (n : ℕ) → Type 0
IsDue run n = IsDueAs run n Home

-- an act is due in which other values than plain ones take part, or which meets a fault
pub record IsOtherDueAs (run : Run) (n : ℕ) (there : StrandState) : Type 0 where
  pub due : IsDueAs run n there
  pub other : IsOther due.want (world run).store

abbrev pub IsOtherDue : (run : Run) (n : ℕ) → Type 0
IsOtherDue run n = IsOtherDueAs run n Home

-- Behind an act the strand takes memory: it does not wait plainly for the reply, or one of its silent instructions up to the next
-- act works on other values than plain ones.
abbrev pub TakesBehind : Code → State → Waiting → Outcome → Type 0
TakesBehind code st wait (did act reply store) = (told_plainly wait reply ≡ false) ⊎ TakesMemory code (told_by code st wait reply)
TakesBehind code st wait _ = ⊥

-- nothing is done: no memory was found before, or other values than plain ones take part in the act that is due
pub record IsLeftUndoneAs (old : Run) (n : ℕ) (there : StrandState) (new : Run) : Type 0 where
  pub why : (old.lost ≡ true) ⊎ IsOtherDueAs old n there
  pub after : new ≡ record old { lost = true }

abbrev pub IsLeftUndone : (old : Run) (n : ℕ) (new : Run) → Type 0
IsLeftUndone old n new = IsLeftUndoneAs old n Home new

-- the strand has done its next act, behind which it takes memory, and there was none
pub record IsSpentBy (old : Run) (n : ℕ) (new : Run) : Type 0 where
  pub due : IsDue old n
  pub takes : TakesBehind old.code due.st due.wait (does due.want (world old).store)
  pub act : Act
  pub behind : World
  pub next : acted old.code (world old) n ≡ Some (act, behind)
  pub entries : new.entries ≡ noted old n act
  pub spent : IsNumber new n Spent
  pub stays : (k : ℕ) (s : StrandState) → IsNumber old k s → (k ≡ n → ⊥) → IsNumber new k s
  pub fresh : (k : ℕ) (s : StrandState) → slice_get old.status k ≡ None → IsNumber new k s → s ≡ Home
  pub many : length new.status ≡ length (world new).strands

-- there was no memory, and there is none from now on
pub record FindsNoMemory (old : Run) (n : ℕ) (new : Run) : Type 0 where
  pub unended : old.end ≡ None
  pub same : IsOf old new
  pub lost : (new.lost ≡ true) × (new.end ≡ None)
  pub after : IsLeftUndone old n new ⊎ IsSpentBy old n new

-- what a turn of a strand comes to
abbrev pub TurnOf : (old : Run) (n : ℕ) → Turned → (new : Run) → Type 0
TurnOf old n turned.Acted new = Acts old n new
TurnOf old n (turned.Over e) new = HadEnded old e new ⊎ EndsHere old n e new
TurnOf old n turned.NotReady new = IsNotReady old n new
TurnOf old n turned.NoMemory new = FindsNoMemory old n new

-- the strand can be turned: the run has not ended, and the strand stands in the world and has a turn
pub record IsAble (run : Run) (n : ℕ) : Type 0 where
  pub unended : run.end ≡ None
  pub ready : IsReady run n

-- the strand of the last entry, and 0 where there is none
abbrev pub last_strand : List Entry → ℕ
last_strand entries = option_map_or (λ e. e.strand) (slice_get entries (length entries - 1)) 0

-- what is kept of a run that has ended is a run of its code, with its journal and its end
pub record FinishesRun (run : Run) (handed : Code) (kept : Kept) : Type 0 where
  pub code : handed ≡ run.code
  pub entries : kept.journal.entries ≡ run.entries
  pub end : run.end ≡ Some kept.end
  pub runs : RunOf run.code run.fuel kept
