-- Inner: the headline does not rest on this file.
-- Strands that rest: they have no turn now.
use Rattle.std.specs.Prelude.{◌≡◌, ◌⊎◌, ℕ, Bool, true, false, List, None, Some, slice_get}
use Rattle.std.specs.declared.option.Option.{Option}
use Rattle.a68_acts.specs.Does.{does, waits}
use Rattle.a68_acts.specs.Store.{Store}
use Rattle.a68_acts.specs.declared.want.Want.TheVariants as want
use Rattle.a68_code.specs.declared.code.Code.{Code}
use Rattle.a68_instructions.specs.Machine.{State}
use Rattle.a68_instructions.specs.declared.ask.Ask.{Ask}
use Rattle.a68_instructions.specs.declared.ask.Ask.TheVariants as ask
use Rattle.a68_instructions.specs.declared.ask.Stance.{Stance}
use Rattle.a68_instructions.specs.declared.ask.Stance.TheVariants.{Idle, Asking, Waits, Closed}
use Rattle.a68_instructions.specs.declared.ask.Waiting.{Waiting}
use Rattle.a68_rests.specs.Resting.{AreFewer, Closes, IsHeld, IsListed, IsOpen, Leaves, Opens, Resting, StayHeld, StayOpen}
use Rattle.a68_values.specs.declared.act.Act.{Act}
use Rattle.a68_values.specs.declared.act.Act.TheVariants as act
use Rattle.a68_world.specs.Kin.{forker_at}
use Rattle.a68_world.specs.Seats.{AreSeated, closed_at}
use Rattle.a68_world.specs.declared.kin.Kin.{Kin}
use Rattle.a68_world.specs.declared.seat.Seat.{Seat}

-- ---- strands of the machine

-- whether a strand that has settled has come to its end, waits for units, or has closed
abbrev pub is_idle : Stance → Bool
is_idle Idle = true
is_idle (Waits first count) = true
is_idle Closed = true
is_idle _ = false

-- the strand asks for a semaphore to be lowered, and is held at its cell, where it would have to wait unless that is open
pub record WaitsAt (store : Store) (held : Resting) (k : ℕ) (st : State) : Type 0 where
  pub cell : ℕ
  pub wait : Waiting
  pub asks : st.stance ≡ Asking (want.Down cell) wait
  pub held_there : IsHeld held k cell
  pub may_wait : IsOpen held cell ⊎ (does (want.Down cell) store ≡ waits)

-- the strand has no turn, or is held at a cell
pub record IsResting (store : Store) (strands : List State) (held : Resting) (k : ℕ) : Type 0 where
  pub st : State
  pub there : slice_get strands k ≡ Some st
  pub why : (is_idle st.stance ≡ true) ⊎ WaitsAt store held k st

-- each strand that is listed is so
abbrev pub HaveRest : Resting → List State → Store → Type 0
HaveRest held strands store = (k : ℕ) → IsListed held k → IsResting store strands held k

-- ---- behind an act

-- the cell to which an act writes
abbrev pub written : Act → Option ℕ
written (act.Assign cell) = Some cell
written (act.Up cell) = Some cell
written _ = None

-- the cell is open to which something is written
abbrev pub OpensBy : Option ℕ → (old new : Resting) → Type 0
OpensBy None old new = new ≡ old
OpensBy (Some cell) old new = Opens old cell new

-- a cell is closed at which a strand would have to wait; or none is
abbrev pub ClosesBy : Store → (old new : Resting) → Type 0
ClosesBy store old new = ((cell : ℕ) × Closes old cell new × (does (want.Down cell) store ≡ waits)) ⊎ (new ≡ old)

-- where this strand has closed, the one that made it is not listed
pub record RousesBehind (old : Resting) (kin : List Kin) (seats : List Seat) (n : ℕ) (new : Resting) : Type 0 where
  pub roused : closed_at seats n ≡ true → IsListed new (forker_at kin n) → ⊥
  pub fewer : AreFewer old new
  pub held : StayHeld old new
  pub open_ : StayOpen old new

-- ---- further ones

-- whether a strand that shows this has nothing to do until it is told to go on
abbrev pub shows_idle : Ask → Bool
shows_idle ask.Waits = true
shows_idle ask.Ended = true
shows_idle ask.Closed = true
shows_idle _ = false

-- a strand that shows this would have to wait at this cell
pub record IsAtCell (a : Ask) (store : Store) (cell : ℕ) : Type 0 where
  pub asks : a ≡ ask.Want (want.Down cell)
  pub waits_there : does (want.Down cell) store ≡ waits

-- the strand of this number has nothing to do, or is held at the cell at which it waits
abbrev pub IsToRest : Ask → Store → Resting → (k : ℕ) → Type 0
IsToRest a store held k = (shows_idle a ≡ true) ⊎ ((cell : ℕ) × IsAtCell a store cell × IsHeld held k cell)

-- no more rest than did, but for this one, where it shows that it has no turn
pub record RestsOne (a : Ask) (store : Store) (n : ℕ) (old new : Resting) : Type 0 where
  pub listed : (k : ℕ) → IsListed new k → IsListed old k ⊎ ((k ≡ n) × IsToRest a store new n)
  pub held : StayHeld old new
  pub open_ : StayOpen old new

-- those of these strands that rest further have no turn
abbrev pub RestsMore : (old new : Resting) → List Seat → Store → Type 0
RestsMore old new seats store = (code : Code) (strands : List State) → AreSeated code strands seats → HaveRest old strands store → HaveRest new strands store

-- Behind an act of this strand, which writes to a cell or to none, the strand is not listed, nor is the one that made it where it has
-- closed; the cell is open, and one at which a strand would have to wait may be closed. Further ones rest that have no turn.
pub record RestsBehind (cell : Option ℕ) (n : ℕ) (kin : List Kin) (seats : List Seat) (store : Store) (old new : Resting) : Type 0 where
  pub left : Resting
  pub leaves : Leaves old n left
  pub opened : Resting
  pub opens : OpensBy cell left opened
  pub closed : Resting
  pub closes : ClosesBy store opened closed
  pub roused : Resting
  pub rouses : RousesBehind closed kin seats n roused
  pub more : RestsMore roused new seats store
