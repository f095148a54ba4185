-- Whether a strand that is told the reply to its act waits for units then, or has closed.
use Rattle.std.proofs.Common.{◌≡◌, ◌∙◌, ℕ, Bool, true, false, List, [], ◌∷◌, refl, ap, sym, true≢false}
use Rattle.std.proofs.lemmas.Bool.{false≢true}
use Rattle.std.specs.Prelude.{reverse}
use Rattle.a68_acts.specs.Operations.{resumed}
use Rattle.a68_acts.specs.declared.want.Reply.{Reply}
use Rattle.a68_acts.specs.declared.want.Reply.TheVariants as reply
use Rattle.a68_code.specs.declared.code.Code.{Code}
use Rattle.a68_exec.proofs.Alive.{follows-live, into_frame-live, binds-live, into_routine-live, settled-live}
use Rattle.a68_exec.proofs.Settled.{settle_still}
use Rattle.a68_exec.specs.Runs.{has_closed, is_passive}
use Rattle.a68_instructions.specs.Machine.{State, enters_body, leaves_at, settle, told_by}
use Rattle.a68_instructions.specs.Unbound.{Unbound}
use Rattle.a68_instructions.specs.declared.ask.Stance.TheVariants.{Waits, Closed}
use Rattle.a68_instructions.specs.declared.ask.Waiting.{Waiting}
use Rattle.a68_instructions.specs.declared.ask.Waiting.TheVariants as waiting
use Rattle.a68_strand.proofs.Waking.{goes_open, goes_waits}
use Rattle.a68_values.specs.declared.chain.Environ.{Environ}
use Rattle.a68_values.specs.declared.plain.Routine.{Routine}
use Rattle.a68_world.specs.Leases.{closes_by, waits_by}

enters-live : (st : State) (r : Routine) (ps : Unbound) (chain : List Environ) → is_passive (enters_body st r ps chain).stance ≡ false
enters-live st r ps [] = refl
enters-live st r ps (e ∷ outer) = refl

told-live : (code : Code) (st : State) (wait : Waiting) (r : Reply) → closes_by wait r ≡ false → waits_by wait r ≡ false → is_passive (told_by code st wait r).stance ≡ false
told-live code st (waiting.Operation next) r c w = follows-live st (leaves_at code st.at) st.stack.items (resumed code.modes next r)
told-live code st waiting.Frame (reply.Frame told) c w = into_frame-live st told
told-live code st waiting.Turn reply.Go c w = refl
told-live code st (waiting.Jump to) reply.Go c w = refl
told-live code st (waiting.Called r ps) reply.Go c w = enters-live st r ps st.chain
told-live code st (waiting.Entered text ps) (reply.Frame told) c w = into_routine-live code.texts st text ps told
told-live code st (waiting.Bound text ps) reply.Go c w = binds-live code.texts st text ps.slot (reverse ps.left) st.chain
told-live code st (waiting.Fork count) (reply.Base first) c w = absurd (true≢false w)
told-live code st waiting.Close reply.Go c w = absurd (true≢false c)
told-live code st (waiting.Units first count) reply.Go c w = refl
told-live code st _ _ c w = refl

pub behind_live : (code : Code) (st : State) (wait : Waiting) (r : Reply) → closes_by wait r ≡ false → waits_by wait r ≡ false → is_passive (settle code (told_by code st wait r)).stance ≡ false
behind_live code st wait r c w = settled-live code (told_by code st wait r) (told-live code st wait r c w)

closed-behind : (code : Code) (st : State) (wait : Waiting) (r : Reply) → closes_by wait r ≡ true → has_closed (settle code (told_by code st wait r)).stance ≡ true
closed-behind code st waiting.Close reply.Go e = ap (λ (x : State). has_closed x.stance) (settle_still code (record st { stance = Closed }) refl)
closed-behind code st _ _ e = absurd (false≢true e)

fork-behind : (code : Code) (st : State) (wait : Waiting) (r : Reply) → waits_by wait r ≡ true → has_closed (settle code (told_by code st wait r)).stance ≡ false
fork-behind code st (waiting.Fork count) (reply.Base first) e = ap (λ (x : State). has_closed x.stance) (settle_still code (record st { stance = Waits first count }) refl)
fork-behind code st _ _ e = absurd (false≢true e)

closes-waits : (wait : Waiting) (r : Reply) → closes_by wait r ≡ true → waits_by wait r ≡ false
closes-waits waiting.Close r e = refl
closes-waits _ r e = absurd (false≢true e)

-- it has closed exactly where it closes by this
pub closes_behind : (code : Code) (st : State) (wait : Waiting) (r : Reply) → has_closed (settle code (told_by code st wait r)).stance ≡ closes_by wait r
closes_behind code st wait r = by (closes_by wait r) refl (waits_by wait r) refl
  where
    by : (b : Bool) → closes_by wait r ≡ b → (d : Bool) → waits_by wait r ≡ d → has_closed (settle code (told_by code st wait r)).stance ≡ b
    by true e d f = closed-behind code st wait r e
    by false e true f = fork-behind code st wait r f
    by false e false f = goes_open (settle code (told_by code st wait r)).stance (behind_live code st wait r e f)

-- it waits only where it waits by this
pub waits_behind : (code : Code) (st : State) (wait : Waiting) (r : Reply) (f c : ℕ) → (settle code (told_by code st wait r)).stance ≡ Waits f c → waits_by wait r ≡ true
waits_behind code st wait r f c e = by (waits_by wait r) refl (closes_by wait r) refl
  where
    by : (b : Bool) → waits_by wait r ≡ b → (d : Bool) → closes_by wait r ≡ d → b ≡ true
    by true g d h = refl
    by false g true h = absurd (true≢false (sym (closed-behind code st wait r h) ∙ ap has_closed e))
    by false g false h = goes_waits (settle code (told_by code st wait r)).stance f c (false ≡ true) (behind_live code st wait r h g) e
