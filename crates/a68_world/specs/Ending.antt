-- Inner: the headline does not rest on this file.
-- The end to which a run comes, as the seats show it.
use Rattle.std.specs.Prelude.{◌≡◌, ◌<◌, ◌≤◌, ℕ, Bool, true, false, List, None, Some, if◌then◌else◌}
use Rattle.std.specs.Option.{option_map_or}
use Rattle.std.specs.declared.option.Option.{Option}
use Rattle.a68_acts.specs.Does.{does, refused}
use Rattle.a68_acts.specs.Store.{Store}
use Rattle.a68_instructions.specs.declared.ask.Ask.{Ask}
use Rattle.a68_instructions.specs.declared.ask.Ask.TheVariants as ask
use Rattle.a68_values.specs.declared.kept.End.{End}
use Rattle.a68_values.specs.declared.kept.End.TheVariants as ends
use Rattle.a68_world.specs.Seats.{turn_at, ended_at}
use Rattle.a68_world.specs.declared.seat.Seat.{Seat}
use Rattle.a68_world.specs.declared.seat.Seat.TheVariants as seat

-- ---- the end to which a turn comes without an act

-- where fuel is spent or not, and the strand shows this at this place
abbrev pub end_asked : Ask → (place : ℕ) → Store → (full : Bool) → (n : ℕ) → Option End
end_asked (ask.Fault why at) place store full n = Some (ends.Fault why at n)
end_asked (ask.Want w) place store full n = if full then Some (option_map_or (λ why. ends.Fault why place n) (refused (does w store)) ends.Spent) else None
end_asked _ place store full n = None

abbrev pub end_at : Seat → Store → (full : Bool) → (n : ℕ) → Option End
end_at (seat.Home strand) store full n = end_asked strand.about.ask strand.place store full n
end_at (seat.Away spent closed) store full n = None

-- ---- the end without a further turn

-- the strand at this seat has something to do at its turn
abbrev pub HasTurnAt : List Seat → Store → ℕ → Type 0
HasTurnAt seats store n = turn_at seats store n ≡ true

-- Done where the program has ended, AllHalted where it has not and no strand has anything to do, and else none
abbrev pub EndShown : List Seat → Store → Option End → Type 0
EndShown seats store (Some ends.Done) = ended_at seats 0 ≡ true
EndShown seats store (Some ends.AllHalted) = (ended_at seats 0 ≡ false) × ((n : ℕ) → turn_at seats store n ≡ false)
EndShown seats store None = (ended_at seats 0 ≡ false) × ((n : ℕ) × HasTurnAt seats store n)
EndShown seats store _ = ⊥

-- the first strand that has something to do, from this number on and below that one
pub record FirstIn (seats : List Seat) (store : Store) (from to n : ℕ) : Type 0 where
  pub from_on : from ≤ n
  pub below : n < to
  pub turns : turn_at seats store n ≡ true
  pub first : (k : ℕ) → from ≤ k → k < n → turn_at seats store k ≡ false

abbrev pub NoneIn : List Seat → Store → (from to : ℕ) → Type 0
NoneIn seats store from to = (k : ℕ) → from ≤ k → k < to → turn_at seats store k ≡ false
