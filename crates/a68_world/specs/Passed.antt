-- Inner: the headline does not rest on this file.
-- Strands that never turn again: marks of those that have closed.
use Rattle.std.specs.Prelude.{◌≡◌, ◌<◌, ◌⊎◌, ℕ, true, false, List}
use Rattle.a68_acts.specs.Store.{Store}
use Rattle.a68_exec.specs.Runs.{is_closed}
use Rattle.a68_instructions.specs.Machine.{State}
use Rattle.a68_marks.specs.Marked.{is_marked}
use Rattle.a68_rests.specs.Resting.{Rests, Resting}
use Rattle.a68_world.specs.Seats.{closed_at, turn_at}
use Rattle.a68_world.specs.declared.seat.Seat.{Seat}

-- each strand that is marked has closed
abbrev pub HavePassed : (marks : List ℕ) → List State → Type 0
HavePassed marks strands = (k : ℕ) → is_marked marks k ≡ true → is_closed strands k ≡ true

-- none that rests has anything to do
abbrev pub PassTurns : Resting → List Seat → Store → Type 0
PassTurns held seats store = (k : ℕ) → Rests held k → turn_at seats store k ≡ false

-- no more are marked than were, but for this strand where it has closed
abbrev pub Passes : (old : List ℕ) → List Seat → (n : ℕ) → (new : List ℕ) → Type 0
Passes old seats n new = (k : ℕ) → is_marked new k ≡ true → (is_marked old k ≡ true) ⊎ ((k ≡ n) × (closed_at seats n ≡ true))

-- of so many strands each but the first is marked
pub record StandsAlone (marks : List ℕ) (count : ℕ) : Type 0 where
  pub some : 0 < count
  pub passed : (k : ℕ) → 0 < k → k < count → is_marked marks k ≡ true
