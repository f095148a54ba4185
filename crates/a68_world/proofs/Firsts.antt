-- The first strand with a turn, in the order that begins behind another.
use Rattle.std.proofs.Common.{◌≡◌, ◌∙◌, ◌⊎◌, inl, inr, ℕ, zero, suc, ◌+◌, ◌<◌, ◌≤◌, false, min, List, length, ap, sym, arith, true≢false}
use Rattle.std.specs.Prelude.{None, Some, IfSome}
use Rattle.std.specs.Option.{option_map_or}
use Rattle.std.specs.declared.option.Option.{Option}
use Rattle.a68_acts.specs.Store.{Store}
use Rattle.a68_strand.specs.Cyclic.{Sooner, IsFirstBehind}
use Rattle.a68_world.specs.Ending.{HasTurnAt, FirstIn, NoneIn}
use Rattle.a68_world.specs.Seats.{turn_at, turn_in}
use Rattle.a68_world.specs.declared.seat.Seat.{Seat}
use Rattle.a68_world.proofs.Places.{is_beyond}

module _ (seats : List Seat) (store : Store) (after behind : ℕ) (is : behind ≡ min (length seats) (after + 1)) where
  beyond : (k : ℕ) → length seats ≤ k → turn_at seats store k ≡ false
  beyond k h = ap (λ o. option_map_or (turn_in store) o false) (is_beyond seats k h)

  never : (k : ℕ) → turn_at seats store k ≡ false → HasTurnAt seats store k → ⊥
  never k e t = true≢false (sym t ∙ e)

  below-or-not : (k i : ℕ) → (k < i) ⊎ (i ≤ k)
  below-or-not zero zero = inr (omega arith)
  below-or-not zero (suc i) = inl (omega arith)
  below-or-not (suc k) zero = inr (omega arith)
  below-or-not (suc k) (suc i) = elim (below-or-not k i) [ inl p ↦ inl (omega (arith, p)) | inr p ↦ inr (omega (arith, p)) ]

  first-some : (n other : ℕ) → FirstIn seats store behind (length seats) n → HasTurnAt seats store other → Sooner after other n → ⊥
  first-some n other f t (inl (low, inl less)) = never other (f.first other (omega (arith, is, low)) less) t
  first-some n other f t (inl (low, inr less)) = omega (arith, low, less)
  first-some n other f t (inr (less, low)) = let a = f.from_on in let b = f.below in omega (arith, is, a, b, low)

  -- one behind it is the first
  pub first_behind : (n : ℕ) → FirstIn seats store behind (length seats) n → IsFirstBehind (HasTurnAt seats store) after n
  first_behind n f = record { such = f.turns; first = λ other t sooner. first-some n other f t sooner }

  none-behind : (k : ℕ) → NoneIn seats store behind (length seats) → behind ≤ k → turn_at seats store k ≡ false
  none-behind k none h = elim (below-or-not k (length seats)) [ inl p ↦ none k h p | inr p ↦ beyond k p ]

  around-some : (n other : ℕ) → NoneIn seats store behind (length seats) → FirstIn seats store 0 behind n → HasTurnAt seats store other → Sooner after other n → ⊥
  around-some n other none f t (inl (low, other_low)) = never other (none-behind other none (omega (arith, is, low))) t
  around-some n other none f t (inr (less, low)) = never other (f.first other (omega arith) less) t

  -- else the first from 0 on is
  pub first_around : (found : Option ℕ) → NoneIn seats store behind (length seats) → IfSome found (FirstIn seats store 0 behind) → IfSome found (IsFirstBehind (HasTurnAt seats store) after)
  first_around None none f = tt
  first_around (Some n) none f = record { such = f.turns; first = λ other t sooner. around-some n other none f t sooner }

  pub none_around : NoneIn seats store behind (length seats) → NoneIn seats store 0 behind → (n : ℕ) → turn_at seats store n ≡ false
  none_around none front n = elim (below-or-not n behind) [ inl p ↦ front n (omega arith) p | inr p ↦ none-behind n none p ]
