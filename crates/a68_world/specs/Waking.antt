-- Inner: the headline does not rest on this file.
-- Strands that waited for units which have now closed.
use Rattle.std.specs.Prelude.{◌≡◌, ℕ, Bool, true, false, List, length, map, None, Some, slice_get, slice_set}
use Rattle.a68_acts.specs.declared.want.Reply.TheVariants as reply
use Rattle.a68_code.specs.declared.code.Code.{Code}
use Rattle.a68_instructions.specs.Machine.{State, next_state, replied}
use Rattle.a68_exec.specs.Runs.{all_closed, woken}
use Rattle.a68_strand.specs.Strands.{standing, awaits, HasSettled, LeavesRoom}
use Rattle.a68_instructions.specs.declared.ask.Stance.TheVariants.{Waits}
use Rattle.a68_world.specs.Seats.{AreSeated, due_at}
use Rattle.a68_world.specs.declared.seat.Seat.{Seat}
use Rattle.a68_world.specs.declared.seat.Seat.TheVariants as seat

abbrev pub seat_awaits : Seat → Bool
seat_awaits (seat.Home strand) = awaits strand.about.ask
seat_awaits (seat.Away spent closed) = false

-- a strand that is told to go on has settled, or is spent
abbrev pub GoesOnAt : Code → (old new : Seat) → Bool → Type 0
GoesOnAt code (seat.Home strand) (seat.Home next) true = HasSettled code (replied code (standing strand) reply.Go) next × (next.number ≡ strand.number) × LeavesRoom code strand next
GoesOnAt code (seat.Home strand) (seat.Away spent closed) false = (spent ≡ true) × (closed ≡ false)
GoesOnAt code _ _ _ = ⊥

-- one that waits for units which have all closed goes on, and each other one stays
abbrev pub WakesBy : Bool → Code → ℕ → (old new : List Seat) → Bool → Type 0
WakesBy true code n old new found = (x : Seat) × (y : Seat) × (slice_get old n ≡ Some x) × GoesOnAt code x y found × (new ≡ slice_set old n y)
WakesBy false code n old new found = (new ≡ old) × (found ≡ true)

abbrev pub WakesAt : Code → ℕ → (old new : List Seat) → Bool → Type 0
WakesAt code n old new found = WakesBy (due_at old n) code n old new found

-- each strand has settled
abbrev pub AllRest : Code → List State → Type 0
AllRest code strands = (k : ℕ) (st : State) → slice_get strands k ≡ Some st → next_state code st ≡ None

-- the strand waits for units that have all closed
pub record IsReleased (strands : List State) (k : ℕ) : Type 0 where
  pub st : State
  pub first : ℕ
  pub count : ℕ
  pub there : slice_get strands k ≡ Some st
  pub waits : st.stance ≡ Waits first count
  pub closed : all_closed strands first count ≡ true

-- the strand of this number is spent
abbrev pub IsSpentAt : List Seat → ℕ → Type 0
IsSpentAt seats k = (closed : Bool) × (slice_get seats k ≡ Some (seat.Away true closed))

-- Those that waited for units which have all closed have been told to go on. One that found no memory is spent, and the run
-- is lost.
pub record Wakes (code : Code) (strands : List State) (old new : List Seat) (found_none : Bool) : Type 0 where
  pub long : length new ≡ length strands
  pub seated : AreSeated code (map (woken code strands) strands) new
  pub spent : (k : ℕ) → IsSpentAt new k → IsReleased strands k × (found_none ≡ true)
  pub lost : found_none ≡ true → (k : ℕ) × IsSpentAt new k
  -- one that is lent stays so, and no other is
  pub lent : (k : ℕ) (closed : Bool) → slice_get old k ≡ Some (seat.Away false closed) → slice_get new k ≡ Some (seat.Away false closed)
  pub was_lent : (k : ℕ) (closed : Bool) → slice_get new k ≡ Some (seat.Away false closed) → slice_get old k ≡ Some (seat.Away false closed)
