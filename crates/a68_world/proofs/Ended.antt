-- Where the strand of the program has come to its end, no other has anything to do.
use Rattle.std.proofs.Common.{◌≡◌, ◌∙◌, ◌⊎◌, inl, inr, ℕ, zero, suc, ◌<◌, Bool, true, false, refl, ap, sym, arith}
use Rattle.std.specs.Prelude.{Some, slice_get}
use Rattle.a68_code.specs.declared.code.Code.{Code}
use Rattle.a68_exec.specs.Runs.{World, has_closed}
use Rattle.a68_instructions.specs.Machine.{State}
use Rattle.a68_instructions.specs.declared.ask.Stance.{Stance}
use Rattle.a68_instructions.specs.declared.ask.Stance.TheVariants.{Idle, Asking, Failed, Waits, Closed}
use Rattle.a68_strand.specs.Cyclic.{HasTurn}
use Rattle.a68_strand.specs.Ends.{HasEnded}
use Rattle.a68_world.specs.Run.{Run, IsSoundRun, world}
use Rattle.a68_world.proofs.Awaited.{IsAwaited, AreAwaited}
use Rattle.a68_world.proofs.Places.{get_one}
use Rattle.a68_world.proofs.Showing.{no-turn, no_act, next_fault, turn_there}
use Rattle.a68_world.proofs.Steady.{steady_run}

pub closed_stance : (m : Stance) → has_closed m ≡ true → m ≡ Closed
closed_stance Closed e = refl
closed_stance Idle e = absurd (cc)
closed_stance (Asking w wait) e = absurd (cc)
closed_stance (Failed why) e = absurd (cc)
closed_stance (Waits f c) e = absurd (cc)

module _ (code : Code) (w : World) (kin : AreAwaited w.strands) (ended : HasEnded w 0) where
  -- nor has the one that waits for it, and so on outwards, but the first strand has come to its end
  step : (k : ℕ) → ((p : ℕ) (st : State) → p < k → slice_get w.strands p ≡ Some st → has_closed st.stance ≡ false → p ≡ 0) → (k ≡ 0) ⊎ IsAwaited w.strands k → k ≡ 0
  step k before (inl z) = z
  step k before (inr a) =
      let z : a.parent ≡ 0 = before a.parent a.st a.before a.there (ap has_closed a.waits) in
      let is : a.st ≡ ended.st = get_one w.strands 0 a.st ended.st (sym (ap (slice_get w.strands) z) ∙ a.there) ended.there in
      let both : Waits a.first a.count ≡ Idle = sym a.waits ∙ ap (λ (x : State). x.stance) is ∙ ended.idle in
      absurd (cc)

  upwards : (bound k : ℕ) (st : State) → k < bound → slice_get w.strands k ≡ Some st → has_closed st.stance ≡ false → k ≡ 0
  upwards zero k st h there open_ = absurd (omega (arith, h))
  upwards (suc bound) k st h there open_ = step k (λ p x low e o. upwards bound p x (omega (arith, low, h)) e o) (kin k st there open_)

  still_by : (n : ℕ) (st : State) → slice_get w.strands n ≡ Some st → (b : Bool) → has_closed st.stance ≡ b → HasTurn code w n → ⊥
  still_by n st there true e turn =
      let m = closed_stance st.stance e in
      no-turn code w n (no_act code w n st Closed there m) (next_fault w n st Closed there m) turn
  still_by n st there false e turn =
      let z : n ≡ 0 = upwards (suc n) n st (omega arith) there e in
      let is : st ≡ ended.st = get_one w.strands 0 st ended.st (sym (ap (slice_get w.strands) z) ∙ there) ended.there in
      let m : st.stance ≡ Idle = ap (λ (x : State). x.stance) is ∙ ended.idle in
      no-turn code w n (no_act code w n st Idle there m) (next_fault w n st Idle there m) turn

  pub ended_still : (n : ℕ) → HasTurn code w n → ⊥
  ended_still n turn = let st = turn_there code w n turn in still_by n st.0 st.1 (has_closed st.0.stance) refl turn

-- a strand that has a turn has one in a run whose program has not ended
pub turn_open : (run : Run) → IsSoundRun run → (n : ℕ) → HasTurn run.code (world run) n → HasEnded (world run) 0 → ⊥
turn_open run sound n turn ended = ended_still run.code (world run) (steady_run run sound).kin ended n turn
