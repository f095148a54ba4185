-- Inner: the headline does not rest on this file.
-- Strands that are lent: what it comes to that one is taken out, acts, and is given back.
use Rattle.std.specs.Prelude.{◌≡◌, ◌⊎◌, ⊤, ℕ, Bool, true, false, IsTrue, List, None, Some, Ok, Err, slice_get, slice_set}
use Rattle.std.specs.declared.option.Option.{Option}
use Rattle.std.specs.declared.result.Result.{Result}
use Rattle.a68_acts.specs.Does.{did, does}
use Rattle.a68_acts.specs.Store.{Store}
use Rattle.a68_acts.specs.declared.want.Reply.{Reply}
use Rattle.a68_acts.specs.declared.want.Reply.TheVariants as reply
use Rattle.a68_acts.specs.declared.want.Want.{Want}
use Rattle.a68_code.specs.declared.code.Code.{Code}
use Rattle.a68_exec.specs.Runs.{all_closed, woken}
use Rattle.a68_instructions.specs.Machine.{next_state}
use Rattle.a68_instructions.specs.Room.{brings_room}
use Rattle.a68_instructions.specs.declared.ask.Ask.TheVariants as ask
use Rattle.a68_instructions.specs.declared.ask.Stance.TheVariants.{Waits}
use Rattle.a68_instructions.specs.declared.ask.Waiting.{Waiting}
use Rattle.a68_instructions.specs.declared.ask.Waiting.TheVariants as waiting
use Rattle.a68_strand.specs.Strands.{HasRoom, Shows, standing}
use Rattle.a68_strand.specs.declared.strand.Strand.{Strand}
use Rattle.a68_values.specs.declared.act.Act.{Act}
use Rattle.a68_values.specs.declared.act.Entry.{Entry}
use Rattle.a68_values.specs.declared.kept.End.{End}
use Rattle.a68_world.specs.Run.{Run, IsNumber, world}
use Rattle.a68_world.specs.Seats.{turn_shown}
use Rattle.a68_world.specs.Stepping.{AsksOther, Meets}
use Rattle.a68_world.specs.declared.deed.Deed.{Deed}
use Rattle.a68_world.specs.declared.deed.Deed.TheVariants as deed
use Rattle.a68_world.specs.Turns.{GoesOn, IsOf, IsReady, ActsAs, HadEnded, EndsHereAs, IsLeftUndoneAs, SetsEnd}
use Rattle.a68_world.specs.Worlds.{world_of}
use Rattle.a68_world.specs.declared.seat.Seat.{Seat}
use Rattle.a68_world.specs.declared.seat.Seat.TheVariants as seat
use Rattle.a68_world.specs.declared.status.StrandState.{StrandState}
use Rattle.a68_world.specs.declared.status.StrandState.TheVariants.{Home, Lent, Spent}
use Rattle.a68_world.specs.declared.turned.Turned.{Turned}
use Rattle.a68_world.specs.declared.turned.Turned.TheVariants as turned

-- ---- the strand and its journal

-- The strand stands as the machine has it behind this journal, but that it may have yet to be told that its units have closed.
pub record IsReplay (code : Code) (entries : List Entry) (strand : Strand) : Type 0 where
  pub stands : slice_get (world_of code entries).strands strand.number ≡ Some (woken code (world_of code entries).strands (standing strand))
  pub rests : next_state code (standing strand) ≡ None
  pub shows : Shows code strand
  pub room : HasRoom code strand

-- the strand is lent, and is the replay of its own entries
pub record IsHeld (run : Run) (strand : Strand) : Type 0 where
  pub lent : IsNumber run strand.number Lent
  pub replay : IsReplay run.code run.entries strand

-- ---- a strand is taken out

abbrev pub TakesOut : (old : Seat) → Option Strand → (new : Seat) → Type 0
TakesOut (seat.Home strand) found new = (found ≡ Some strand) × (new ≡ seat.Away false false)
TakesOut (seat.Away spent closed) found new = ⊤

-- one that is lent is spent; whether it has closed stays
abbrev pub Loses : (old new : Seat) → Type 0
Loses (seat.Home strand) new = ⊤
Loses (seat.Away spent closed) new = new ≡ seat.Away true closed

pub record Lends (old : Run) (k : ℕ) (strand : Strand) (new : Run) : Type 0 where
  pub unended : old.end ≡ None
  pub ready : IsReady old k
  pub number : strand.number ≡ k
  pub replay : IsReplay old.code old.entries strand
  pub after : new ≡ record old { status = slice_set old.status k Lent }

pub record LendsNone (old : Run) (k : ℕ) (new : Run) : Type 0 where
  pub why : old.end ≡ None → IsReady old k → ⊥
  pub after : new ≡ old

abbrev pub LendOf : (old : Run) (k : ℕ) → Option Strand → (new : Run) → Type 0
LendOf old k None new = LendsNone old k new
LendOf old k (Some strand) new = Lends old k strand new

-- ---- it acts

-- whether a strand that is told this closes, or waits for units
abbrev pub closes_by : Waiting → Reply → Bool
closes_by waiting.Close reply.Go = true
closes_by _ r = false

abbrev pub waits_by : Waiting → Reply → Bool
waits_by (waiting.Fork count) (reply.Base first) = true
waits_by _ r = false

-- the reply is that to the act for which the strand asks, and can be told
pub record Replies (old : Run) (strand : Strand) (told : Reply) : Type 0 where
  pub want : Want
  pub act : Act
  pub behind : Store
  pub asks : strand.about.ask ≡ ask.Want want
  pub does_it : does want (world old).store ≡ did act told behind
  pub room : IsTrue (brings_room told)

-- The strand waits, has come to its end, or would have to wait with its act. The run goes on, and stays as it was.
pub record IsIdle (old : Run) (strand : Strand) (new : Run) : Type 0 where
  pub goes_on : GoesOn old
  pub idle : turn_shown strand.about.ask (world old).store ≡ false
  pub after : new ≡ old

abbrev pub ErrOf : (old : Run) → Strand → Turned → (new : Run) → Type 0
ErrOf old strand turned.Acted new = ⊥
ErrOf old strand (turned.Over e) new = HadEnded old e new ⊎ EndsHereAs old strand.number Lent e new
ErrOf old strand turned.NotReady new = IsIdle old strand new
ErrOf old strand turned.NoMemory new = (old.end ≡ None) × IsLeftUndoneAs old strand.number Lent new

abbrev pub ActOf : (old : Run) → Strand → Result Reply Turned → (new : Run) → Type 0
ActOf old strand (Ok told) new = ActsAs old strand.number Lent new × Replies old strand told × IsNumber new strand.number Lent
ActOf old strand (Err why) new = ErrOf old strand why new

-- ---- it is given back

-- the strand waits for units that have all closed
pub record IsDueToGo (run : Run) (strand : Strand) : Type 0 where
  pub first : ℕ
  pub count : ℕ
  pub waits : (standing strand).stance ≡ Waits first count
  pub closed : all_closed (world run).strands first count ≡ true

-- The strand stands in the world again. One that is spent, or finds no memory when it is told to go on, is spent there. Where the
-- run goes on and no further turn is needed the end is set, and such a run is lost no more.
pub record BackOf (old : Run) (strand : Strand) (none : Bool) (new : Run) : Type 0 where
  pub same : IsOf old new
  pub entries : new.entries ≡ old.entries
  pub there : StrandState
  pub away : (there ≡ Home) ⊎ ((there ≡ Spent) × ((none ≡ true) ⊎ IsDueToGo old strand))
  pub spent : none ≡ true → there ≡ Spent
  pub after : new.status ≡ slice_set old.status strand.number there
  pub stays : (e : End) → old.end ≡ Some e → new ≡ record old { status = new.status }
  pub lost : old.end ≡ None → new.end ≡ None → there ≡ Spent → new.lost ≡ true
  pub kept : old.end ≡ None → new.end ≡ None → there ≡ Home → new.lost ≡ old.lost
  pub ends : old.end ≡ None → SetsEnd new

-- ---- how the code does it

-- the store has done the act for which the strand asks, and this is the reply
pub record DoneWith (old : Store) (strand : Strand) (act : Act) (told : Reply) (new : Store) : Type 0 where
  pub want : Want
  pub asks : strand.about.ask ≡ ask.Want want
  pub does_it : does want old ≡ did act told new

-- what the act of a strand that is lent comes to
abbrev pub DoesFor : (old : Store) → Strand → Deed → Reply → (new : Store) → Type 0
DoesFor old strand (deed.Told act) told new = DoneWith old strand act told new
DoesFor old strand (deed.Untold act) told new = ⊥
DoesFor old strand (deed.Refused why) told new = (new ≡ old) × Meets old strand why
DoesFor old strand deed.NoMemory told new = (new ≡ old) × AsksOther old strand
