-- How a run ends.
use Rattle.std.specs.Prelude.{◌≡◌, ◌≢◌, ℕ, List, length, None, Some, slice_get}
use Rattle.std.specs.Option.{option_and_then}
use Rattle.std.specs.declared.option.Option.{Option}
use Rattle.a68_acts.specs.Does.{refused, does}
use Rattle.a68_acts.specs.Store.{Store}
use Rattle.a68_code.specs.declared.code.Code.{Code}
use Rattle.a68_instructions.specs.Machine.{State, place_at}
use Rattle.a68_instructions.specs.declared.ask.Stance.{Stance}
use Rattle.a68_instructions.specs.declared.ask.Stance.TheVariants.{Idle, Asking, Failed}
use Rattle.a68_values.specs.declared.act.Entry.{Entry}
use Rattle.a68_values.specs.declared.act.FaultKind.{FaultKind}
use Rattle.a68_values.specs.declared.kept.End.{End}
use Rattle.a68_values.specs.declared.kept.End.TheVariants as ends
use Rattle.a68_exec.specs.Runs.{World, acted}

abbrev pub fault_in : Stance → Store → Option FaultKind
fault_in (Asking want waiting) store = refused (does want store)
fault_in (Failed why) store = Some why
fault_in _ store = None

-- the fault before which a strand stands: its own, or one that its act would meet
abbrev pub fault_of : World → ℕ → Option FaultKind
fault_of w n = option_and_then (λ (st : State). fault_in st.stance w.store) (slice_get w.strands n)

-- the strand has come to its end
pub record HasEnded (w : World) (n : ℕ) : Type 0 where
  pub st : State
  pub there : slice_get w.strands n ≡ Some st
  pub idle : st.stance ≡ Idle

-- the strand can act: its next act meets no fault
abbrev pub CanActNow : Code → World → ℕ → Type 0
CanActNow code w n = acted code w n ≢ None

-- A run with this fuel, which stands here after these entries, has this end. But for Done strand 0 has not ended.
pub data RunEndsWith (code : Code) (fuel : ℕ) (entries : List Entry) (w : World) : End → Type 0 where
  done : HasEnded w 0 → RunEndsWith code fuel entries w ends.Done
  fault : {strand place : ℕ} {kind : FaultKind} {st : State} → (HasEnded w 0 → ⊥) → fault_of w strand ≡ Some kind → slice_get w.strands strand ≡ Some st
      → place ≡ place_at code.list st.at → RunEndsWith code fuel entries w (ends.Fault kind place strand)
  all_halted : (HasEnded w 0 → ⊥) → ((n : ℕ) → CanActNow code w n → ⊥) → ((n : ℕ) → fault_of w n ≡ None)
      → RunEndsWith code fuel entries w ends.AllHalted
  spent : (strand : ℕ) → (HasEnded w 0 → ⊥) → length entries ≡ fuel → CanActNow code w strand → RunEndsWith code fuel entries w ends.Spent
