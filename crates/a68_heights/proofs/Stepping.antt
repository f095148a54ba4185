-- Silent steps.
use Rattle.std.proofs.Common.{◌≡◌, ◌+◌, ◌*◌, ℕ, zero, suc, Bool, true, false, [], length, Some, None, refl, subst}
use Rattle.std.specs.Prelude.{if◌then◌else◌}
use Rattle.std.specs.Option.{option_map_or}
use Rattle.std.specs.declared.option.Option.{Option}
use Rattle.a68_acts.specs.Operations.{Operation}
use Rattle.a68_code.specs.Flow.{Reaches, does_at, takes}
use Rattle.a68_code.specs.Valid.{IsValid}
use Rattle.a68_code.specs.declared.code.Code.{Code}
use Rattle.a68_code.specs.declared.does.Does.{Does}
use Rattle.a68_code.specs.declared.does.Does.TheVariants as does
use Rattle.a68_code.specs.declared.owner.Owner.{Owner}
use Rattle.a68_heights.proofs.Calling.{calls-fits, returns-fits}
use Rattle.a68_heights.proofs.Counting.{advances-fits, counts-fits, forgets-fits, indexes-fits, steps-fits}
use Rattle.a68_heights.proofs.Forking.{forks-fits}
use Rattle.a68_heights.proofs.Leading.{behind, stays}
use Rattle.a68_heights.proofs.Operating.{operates-fits}
use Rattle.a68_heights.proofs.Steering.{cases-fits, enters-fits, goto-fits, jump-fits, leaves-fits, members-fits, unless-fits}
use Rattle.a68_heights.specs.Heights.{Below, Fits, FitsBy, MayStand}
use Rattle.a68_instructions.specs.Machine.{State, at_end, back, controls, does_one, exec, fails, next_state, operates, operation_of, settle, settle_in, silently}
use Rattle.a68_instructions.specs.declared.ask.Stance.{Stance}
use Rattle.a68_instructions.specs.declared.ask.Stance.TheVariants.{Idle, Asking, Failed, Waits, Closed}
use Rattle.a68_stack.specs.Values.{callers, height}
use Rattle.a68_values.specs.declared.act.FaultKind.TheVariants as fault

module _ (code : Code) (valid : IsValid code) where
  module _ (whose : Owner) (st : State) (r : Reaches code whose st.at (height st.stack.items)) (l : Below code whose st.stack.items) where
    -- each instruction without an operation
    controls-fits : (d : Does) → does_at code.list st.at ≡ Some d → Fits code st → Fits code (controls code.modes code.texts d st)
    controls-fits (does.Enter slots) is f = enters-fits code whose st slots is r l st.chain
    controls-fits (does.Leave kept) is f = leaves-fits code whose st valid kept is r l st.chain
    controls-fits (does.Jump to) is f = jump-fits code whose st to is r l
    controls-fits (does.Goto to frames kept gives) is f = goto-fits code whose st to frames kept gives is r l (back frames st.chain)
    controls-fits (does.Unless to) is f = unless-fits code whose st to is st.stack.items r l
    controls-fits (does.Case places) is f = cases-fits code whose st valid places is st.stack.items r l
    controls-fits (does.Member mode places whole) is f = members-fits code whose st valid mode places whole is st.stack.items r l
    controls-fits (does.Call count gives) is f = calls-fits code whose st count gives is r l
    controls-fits does.Return is f = returns-fits code st valid whose is r l
    controls-fits does.Counter is f = counts-fits code whose st is st.stack.items r l
    controls-fits does.Index is f = indexes-fits code whose st is r l
    controls-fits (does.Step to) is f = steps-fits code whose st to is r l
    controls-fits does.Turn is f = (stays code whose st.at does.Turn is (suc st.at) st.stack.items r l (behind st.at []) refl refl, tt)
    controls-fits (does.Advance to) is f = advances-fits code whose st to is st.stack.items r l
    controls-fits does.Forget is f = forgets-fits code whose st is st.stack.items r l
    controls-fits (does.Fork places) is f = forks-fits code whose st places is r l
    controls-fits does.Close is f = ((whose, r, l), tt)
    controls-fits _ is f = f

    exec-fits : (d : Does) → does_at code.list st.at ≡ Some d → Fits code st → Fits code (exec code d st)
    exec-fits d is f = by_operation (operation_of d) refl
      where
        by_operation : (o : Option Operation) → operation_of d ≡ o
            → Fits code (option_map_or (λ op. operates code.modes st op (takes d)) o (controls code.modes code.texts d st))
        by_operation None e = controls-fits d is f
        by_operation (Some op) e = operates-fits code whose st d op is e r l

    does_one-fits : (o : Option Does) → does_at code.list st.at ≡ o → Fits code st → Fits code (does_one code o st)
    does_one-fits None is f = refl
    does_one-fits (Some d) is f = exec-fits d is f

  -- a strand that stands before an instruction fits its code once it has done that
  idle-fits : (st : State) → MayStand code st.at st.stack.items → Fits code st → Fits code (does_one code (does_at code.list st.at) st)
  idle-fits st s f = does_one-fits s.0 st s.1 s.2 (does_at code.list st.at) refl f

  -- a strand with that stance
  standing : (st : State) → st.stance ≡ Idle → Fits code st → MayStand code st.at st.stack.items
  standing st e f = subst (λ (m : Stance). FitsBy code st.at m st.stack.items) e f

  by_stance : (m : Stance) (st next : State) → st.stance ≡ m → Fits code st → silently code m st ≡ Some next → Fits code next
  by_stance Idle st next m f e = by_test (at_end (does_at code.list st.at)) e
    where
      by_test : (b : Bool) → (if b then None else Some (does_one code (does_at code.list st.at) st)) ≡ Some next → Fits code next
      by_test true e = absurd (cc)
      by_test false e =
          let same : does_one code (does_at code.list st.at) st ≡ next = cc in
          subst (Fits code) same (idle-fits st (standing st m f) f)
  by_stance (Asking w wait) st next m f e = absurd (cc)
  by_stance (Failed why) st next m f e = absurd (cc)
  by_stance (Waits one count) st next m f e = absurd (cc)
  by_stance Closed st next m f e = absurd (cc)

  pub next-fits : (st next : State) → Fits code st → next_state code st ≡ Some next → Fits code next
  next-fits st next f e = by_stance st.stance st next refl f e

  settle_in-fits : (n : ℕ) (st : State) → Fits code st → Fits code (settle_in n code st)
  settle_in-fits zero st f = late (next_state code st)
    where
      late : (o : Option State) → Fits code (option_map_or (λ (next : State). fails st fault.Kind) o st)
      late None = f
      late (Some next) = refl
  settle_in-fits (suc n) st f = on_from (next_state code st) refl (settle_in-fits n)
    where
      on_from : (o : Option State) → next_state code st ≡ o → ((next : State) → Fits code next → Fits code (settle_in n code next)) → Fits code (option_map_or (settle_in n code) o st)
      on_from None e more = f
      on_from (Some next) e more = more next (next-fits st next f e)

  pub settle-fits : (st : State) → Fits code st → Fits code (settle code st)
  unfolding settle
  settle-fits st f = settle_in-fits (length code.list * (1 + callers st.stack.items)) st f
