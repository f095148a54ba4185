-- Inner: the headline does not rest on this file.
-- Strands at their seats, and what they show there.
use Rattle.std.specs.Prelude.{◌≡◌, ℕ, zero, suc, Bool, true, false, ◌&&◌, List, [], ◌∷◌, Some, slice_get, if◌then◌else◌}
use Rattle.std.specs.Option.{option_map_or}
use Rattle.a68_acts.specs.Does.{does}
use Rattle.a68_acts.specs.Store.{Store}
use Rattle.a68_code.specs.declared.code.Code.{Code}
use Rattle.a68_store.specs.Acts.{has_to_wait}
use Rattle.a68_instructions.specs.Machine.{State, beginning}
use Rattle.a68_exec.specs.Runs.{has_closed, awaited_units, is_closed}
use Rattle.a68_strand.specs.Strands.{standing, HasRoom, HasSettled, Shows}
use Rattle.a68_instructions.specs.declared.ask.Ask.{Ask}
use Rattle.a68_instructions.specs.declared.ask.Ask.TheVariants as ask
use Rattle.a68_strand.specs.declared.strand.Strand.{Strand}
use Rattle.a68_world.specs.declared.seat.Seat.{Seat}
use Rattle.a68_world.specs.declared.seat.Seat.TheVariants as seat
use Rattle.a68_world.specs.declared.status.StrandState.{StrandState}
use Rattle.a68_world.specs.declared.status.StrandState.TheVariants as status

abbrev pub status_of : Seat → StrandState
status_of (seat.Home strand) = status.Home
status_of (seat.Away spent closed) = if spent then status.Spent else status.Lent

-- the strand has this number, stands as that one of these does, and shows what it asks
pub record Sits (code : Code) (strands : List State) (k : ℕ) (strand : Strand) : Type 0 where
  pub number : strand.number ≡ k
  pub there : slice_get strands k ≡ Some (standing strand)
  pub shows : Shows code strand
  -- its stack has room for its innermost activation
  pub room : HasRoom code strand

-- whether the strand of a seat stands in the world
abbrev pub is_home : Seat → Bool
is_home (seat.Home strand) = true
is_home (seat.Away spent closed) = false

-- a seat whose strand stands so; of one that is lent or spent it is known whether it has closed
abbrev pub SitsAt : Code → List State → ℕ → Seat → Type 0
SitsAt code strands k (seat.Home strand) = Sits code strands k strand
SitsAt code strands k (seat.Away spent closed) = closed ≡ is_closed strands k

-- the same, of one that is not spent
abbrev pub SitsHere : Code → List State → ℕ → Seat → Type 0
SitsHere code strands k (seat.Home strand) = Sits code strands k strand
SitsHere code strands k (seat.Away spent closed) = (spent ≡ false) × (closed ≡ is_closed strands k)

abbrev pub AreSeated : Code → List State → List Seat → Type 0
AreSeated code strands seats = (k : ℕ) (x : Seat) → slice_get seats k ≡ Some x → SitsAt code strands k x

abbrev pub AllSit : Code → List State → List Seat → Type 0
AllSit code strands seats = (k : ℕ) (x : Seat) → slice_get seats k ≡ Some x → SitsHere code strands k x

-- the seats of a run that is yet to begin
abbrev pub AreFirstSeats : Code → List Seat → Type 0
AreFirstSeats code seats =
    (strand : Strand) × (seats ≡ seat.Home strand ∷ []) × HasSettled code (beginning 0 (record { frame = 0; scope = 0 } ∷ [])) strand × (strand.number ≡ 0) × HasRoom code strand

-- the place of the construct at whose instruction the strand stands
abbrev pub place_in : Seat → ℕ
place_in (seat.Home strand) = strand.place
place_in (seat.Away spent closed) = 0

abbrev pub place_at : List Seat → ℕ → ℕ
place_at seats n = option_map_or place_in (slice_get seats n) 0

-- ---- turns

-- whether a strand that shows this over this store has something to do at its turn
abbrev pub turn_shown : Ask → Store → Bool
turn_shown (ask.Want w) store = if has_to_wait (does w store) then false else true
turn_shown (ask.Fault why place) store = true
turn_shown _ store = false

abbrev pub turn_in : Store → Seat → Bool
turn_in store (seat.Home strand) = turn_shown strand.about.ask store
turn_in store (seat.Away spent closed) = false

abbrev pub turn_at : List Seat → Store → ℕ → Bool
turn_at seats store n = option_map_or (turn_in store) (slice_get seats n) false

abbrev pub ended_shown : Ask → Bool
ended_shown ask.Ended = true
ended_shown _ = false

abbrev pub ended_in : Seat → Bool
ended_in (seat.Home strand) = ended_shown strand.about.ask
ended_in (seat.Away spent closed) = false

-- whether the strand of the program has come to its end
abbrev pub ended_at : List Seat → ℕ → Bool
ended_at seats n = option_map_or ended_in (slice_get seats n) false

-- ---- units

abbrev pub closed_in : Seat → Bool
closed_in (seat.Home strand) = has_closed (standing strand).stance
closed_in (seat.Away spent closed) = closed

abbrev pub closed_at : List Seat → ℕ → Bool
closed_at seats n = option_map_or closed_in (slice_get seats n) false

-- whether so many strands, from the first one on, have closed
abbrev pub all_closed_at : List Seat → (first count : ℕ) → Bool
all_closed_at seats first zero = true
all_closed_at seats first (suc n) = closed_at seats first && all_closed_at seats (suc first) n

abbrev pub due_in : List Seat → Seat → Bool
due_in seats (seat.Home strand) = option_map_or (λ (units : ℕ × ℕ). all_closed_at seats units.0 units.1) (awaited_units (standing strand).stance) false
due_in seats (seat.Away spent closed) = false

-- whether a strand waits for units that have all closed
abbrev pub due_at : List Seat → ℕ → Bool
due_at seats n = option_map_or (due_in seats) (slice_get seats n) false
