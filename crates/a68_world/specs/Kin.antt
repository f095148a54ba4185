-- Inner: the headline does not rest on this file.
-- Who made each strand, and which of the units for which one waits have closed.
use Rattle.std.specs.Prelude.{◌≡◌, ◌<◌, ◌≤◌, ◌+◌, ◌⊎◌, ℕ, Bool, true, List, length, None, Some, slice_get, slice_set}
use Rattle.std.specs.Option.{option_and_then, option_map_or}
use Rattle.std.specs.declared.option.Option.{Option}
use Rattle.a68_code.specs.declared.code.Code.{Code}
use Rattle.a68_exec.specs.Runs.{awaited_units, is_closed}
use Rattle.a68_instructions.specs.Machine.{State}
use Rattle.a68_instructions.specs.declared.ask.Stance.TheVariants.{Waits}
use Rattle.a68_strand.specs.Strands.{standing}
use Rattle.a68_world.specs.Seats.{AllSit, due_at}
use Rattle.a68_world.specs.Waking.{AllRest, IsReleased, Wakes, WakesAt}
use Rattle.a68_world.specs.declared.kin.Kin.{Kin}
use Rattle.a68_world.specs.declared.seat.Seat.{Seat}
use Rattle.a68_world.specs.declared.seat.Seat.TheVariants as seat

-- the number of the strand that made this one
abbrev pub forker_at : List Kin → ℕ → ℕ
forker_at kin k = option_map_or (λ (of : Kin). of.forker) (slice_get kin k) 0

-- of the units for which this strand waits those behind so many have closed
abbrev pub pending_at : List Kin → ℕ → ℕ
pending_at kin k = option_map_or (λ (of : Kin). of.pending) (slice_get kin k) 0

abbrev pub with_pending : List Kin → (k pending : ℕ) → List Kin
with_pending kin k pending = slice_set kin k (record { forker = forker_at kin k; pending = pending })

-- What is kept is true of these strands: units were made by the one that waits for them, and those that are said to have closed
-- have done so.
pub record AreKin (kin : List Kin) (strands : List State) : Type 0 where
  pub long : length kin ≡ length strands
  pub within : (k : ℕ) (st : State) (first count : ℕ) → slice_get strands k ≡ Some st → st.stance ≡ Waits first count → first + count ≤ length strands
  pub forker : (k : ℕ) (st : State) (first count : ℕ) → slice_get strands k ≡ Some st → st.stance ≡ Waits first count → (i : ℕ) → first ≤ i → i < first + count → forker_at kin i ≡ k
  pub closed : (k : ℕ) (st : State) (first count : ℕ) → slice_get strands k ≡ Some st → st.stance ≡ Waits first count → (i : ℕ) → first + pending_at kin k ≤ i → i < first + count → is_closed strands i ≡ true

-- a strand has made so many, the last ones of all, and may wait for them
pub record Forks (old : List Kin) (n count : ℕ) (new : List Kin) : Type 0 where
  pub long : length new ≡ length old + count
  pub forkers : (k : ℕ) → k < length old → forker_at new k ≡ forker_at old k
  pub opens : (k : ℕ) → k < length old → (k ≡ n → ⊥) → pending_at new k ≡ pending_at old k
  pub own : 0 < count → n < length old → pending_at new n ≡ count
  pub born : (i : ℕ) → i < count → forker_at new (length old + i) ≡ n

-- the units for which the strand at this seat waits
abbrev pub awaited_in : Seat → Option (ℕ × ℕ)
awaited_in (seat.Home strand) = awaited_units (standing strand).stance
awaited_in (seat.Away spent closed) = None

abbrev pub awaited_at : List Seat → ℕ → Option (ℕ × ℕ)
awaited_at seats n = option_and_then awaited_in (slice_get seats n)

-- whether the strand at this seat waits for units that have all closed; what is kept stays true
abbrev pub DueBy : (old new : List Kin) → List Seat → (n : ℕ) → (due : Bool) → Type 0
DueBy old new seats n due =
    (code : Code) (strands : List State) → AllSit code strands seats → length seats ≡ length strands → AllRest code strands → AreKin old strands → (due ≡ due_at seats n) × AreKin new strands

-- it goes on then
abbrev pub WakesOne : Code → (n : ℕ) → (old new : List Kin) → (before after : List Seat) → Bool → Type 0
WakesOne code n old new before after found =
    (strands : List State) → AllSit code strands before → length before ≡ length strands → AllRest code strands → AreKin old strands → WakesAt code n before after found × AreKin new strands

-- only this strand can wait for units that have all closed, or one that waits for this one, which has closed
abbrev pub OnlyBehind : List State → (n : ℕ) → Type 0
OnlyBehind strands n = (k : ℕ) (r : IsReleased strands k) → (k ≡ n) ⊎ ((is_closed strands n ≡ true) × (r.first ≤ n) × (n < r.first + r.count))

-- the strands at their seats are woken
abbrev pub WakesBehind : Code → (n : ℕ) → (old new : List Kin) → (before after : List Seat) → Bool → Type 0
WakesBehind code n old new before after lost =
    (strands : List State) → AllSit code strands before → length before ≡ length strands → AllRest code strands → AreKin old strands → OnlyBehind strands n
    → Wakes code strands before after lost × AreKin new strands
