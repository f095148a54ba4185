-- Inner: the headline does not rest on this file.
-- A run whose strands are turned by picks.
use Rattle.std.specs.Prelude.{◌≡◌, ◌≤◌, ◌<◌, ◌-◌, ◌++◌, ℕ, zero, suc, length, get_or, false, List, [], ◌∷◌, None, Some}
use Rattle.std.specs.Option.{option_map_or}
use Rattle.std.specs.declared.option.Option.{Option}
use Rattle.a68_replay.specs.Replays.{HasNoTurn, IsStuck}
use Rattle.a68_replay.specs.Schedules.{strands_of, last_pick}
use Rattle.a68_world.specs.Run.{Run, AllHome}
use Rattle.a68_world.specs.Turns.{IsOf}

-- the picks of a run so far: the strand of each entry, and behind them, where it has ended with a fault, the strand that met it
abbrev pub picks_so_far : Run → List ℕ
picks_so_far run = strands_of run.entries ++ option_map_or last_pick run.end []

-- every strand stands in the world, but where a turn has found no memory
abbrev pub HasAllHome : Run → Type 0
HasAllHome run = run.lost ≡ false → AllHome run.status

-- it is a run of the same code and fuel, with one pick more
abbrev pub TakesPick : (old : Run) → ℕ → (new : Run) → Type 0
TakesPick old pick new = IsOf old new × (picks_so_far new ≡ picks_so_far old ++ pick ∷ []) × HasAllHome new

-- it stays as it was, since the strand has no turn
abbrev pub HasNoPick : (old : Run) → ℕ → (new : Run) → Type 0
HasNoPick old pick new = (new ≡ old) × HasNoTurn old.code (picks_so_far old) pick

-- the picks from one place on, up to another one, are of the first strand
pub record AreOwn (picks : List ℕ) (from until : ℕ) : Type 0 where
  pub low : from ≤ until
  pub high : until ≤ length picks
  pub own : (k : ℕ) → from ≤ k → k < until → get_or picks k 0 ≡ 0

-- so many picks of the first strand
abbrev pub own_picks : (count : ℕ) → List ℕ
own_picks zero = []
own_picks (suc n) = 0 ∷ own_picks n

-- It is a run of the same code and fuel, whose first strand has gone on: the picks of it that stand between these places are taken.
pub record GoesOwn (old : Run) (at until : ℕ) (new : Run) (next : ℕ) : Type 0 where
  pub same : IsOf old new
  pub low : at ≤ next
  pub high : next ≤ until
  pub picked : picks_so_far new ≡ picks_so_far old ++ own_picks (next - at)
  pub home : HasAllHome new

-- all picks have been turned, or the one at a place has no turn
abbrev pub Follows : (old : Run) → List ℕ → (new : Run) → Option ℕ → Type 0
Follows old picks new None = IsOf old new × (picks_so_far new ≡ picks) × HasAllHome new
Follows old picks new (Some place) = IsOf old new × IsStuck old.code picks place
