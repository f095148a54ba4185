-- The ends of a run are those of the elaboration.
use Rattle.std.proofs.Common.{◌≡◌, ◌≢◌, ℕ, arith, List, None, Some, refl, sym, ap, ◌∙◌, subst, ⊎_elim}
use Rattle.std.specs.Option.{option_and_then}
use Rattle.std.specs.Prelude.{slice_get, length}
use Rattle.std.specs.declared.option.Option.{Option}
use Rattle.std.proofs.lemmas.Bool.{cases_eq}
use Rattle.std.proofs.lemmas.Option.{same_Some}
use Rattle.a68_acts.specs.Does.{Outcome, did, refuses, waits, refused, does}
use Rattle.a68_acts.specs.Store.{Store}
use Rattle.a68_acts.specs.declared.want.Reply.{Reply}
use Rattle.a68_acts.specs.declared.want.Want.{Want}
use Rattle.a68_code.specs.declared.code.Code.{Code}
use Rattle.a68_elab.specs.Elaborations.{stays}
use Rattle.a68_elab.specs.Permitted.{EndsWith, done, fault, all_halted, spent}
use Rattle.a68_elab.specs.Positions.{Opens, HasOpen}
use Rattle.a68_elab.specs.Rows.{Then, acts, meets}
use Rattle.a68_elab.specs.Terms.{Term, yielded}
use Rattle.a68_elab.specs.Trees.{Program}
use Rattle.a68_sim.proofs.Family.{QuietIn, in_still, in_hole, quiet_at, in_elaborates, Kin, single, parent, number, times, how_many, Lives}
use Rattle.a68_sim.proofs.Finishing.{Finish, program_end, EndsAt, Works}
use Rattle.a68_sim.proofs.Halting.{is_unended, Halts, Finds, at_end, has_closed_so, halts, finds}
use Rattle.a68_sim.proofs.Locating.{Spot, locate}
use Rattle.a68_sim.proofs.Quiet.{Quiet, IsOpen, opens_at, ActsNext}
use Rattle.a68_sim.proofs.Routines.{TextsStand}
use Rattle.a68_sim.proofs.Settling.{Yields, SettledIn}
use Rattle.a68_sim.proofs.Worlds.{next_acts, Joint}
use Rattle.a68_strand.specs.Ends.{HasEnded, fault_in, fault_of, CanActNow}
use Rattle.a68_strand.specs.Ends as run
use Rattle.a68_instructions.specs.Machine.{State, told_by, place_at}
use Rattle.a68_exec.specs.Runs.{World, IfNext, acted}
use Rattle.a68_instructions.specs.declared.ask.Stance.{Stance}
use Rattle.a68_instructions.specs.declared.ask.Stance.TheVariants.{Idle, Asking, Failed, Waits, Closed}
use Rattle.a68_instructions.specs.declared.ask.Waiting.{Waiting}
use Rattle.a68_values.specs.declared.act.Act.{Act}
use Rattle.a68_values.specs.declared.act.Entry.{Entry}
use Rattle.a68_values.specs.declared.act.FaultKind.{FaultKind}
use Rattle.a68_values.specs.declared.chain.Environ.{Environ}
use Rattle.a68_values.specs.declared.kept.End.{End}
use Rattle.a68_values.specs.declared.kept.End.TheVariants as ends

-- the program's strand has come to its end: its term yields
root_idle : (program : Program) (code : Code) (sts : List State) (how : Finish) (kin : Kin) (t : Term) → Lives program code sts kin how t → (st : State)
    → slice_get sts (number kin) ≡ Some st → st.stance ≡ Idle → Yields program how t
root_idle program code sts how (single own) t l st there e =
    subst (λ (x : Stance). SettledIn program code how x t l.0) (ap (λ (x : State). x.stance) (same_Some l.0 st (sym l.1 ∙ there)) ∙ e) l.2
root_idle program code sts how (parent own units) t l st there e =
    let q : Idle ≡ Waits l.0 (how_many units) = sym e ∙ ap (λ (x : State). x.stance) (same_Some st l.3.st (sym there ∙ l.3.there)) ∙ l.3.waits in absurd (cc)

module _ (program : Program) (code : Code) (same_modes : code.modes ≡ program.modes) (texts : TextsStand program code) (b : ℕ) (home : List Environ) (end : EndsAt code (program_end b home)) where
  abbrev how : Finish
  how = program_end b home

  module _ (fuel : ℕ) (entries : ℕ) (t : Term) (w : World) (j : Joint program code same_modes texts how end t w) where
    -- where the elaboration comes to, possibly after silent steps, it has this end
    abbrev pub Ends : End → Type 0
    Ends k = (t' : Term) × QuietIn program 0 t t' × EndsWith program fuel entries t' w.store k

    done_too : HasEnded w 0 → Ends ends.Done
    done_too h =
        let y = root_idle program code w.strands how j.kin t j.lives h.st (ap (slice_get w.strands) j.root ∙ h.there) h.idle in
        (yielded y.0, quiet_at y.1 0, done y.0 refl)

    -- a strand that neither waits nor has closed has its place in the term
    find : (n : ℕ) (st : State) → slice_get w.strands n ≡ Some st → ((first count : ℕ) → st.stance ≢ Waits first count) → st.stance ≢ Closed
        → Spot program code w.strands n st j.kin how t
    find n st there goes alive =
        locate program code w.strands n st there goes j.kin how t end j.lives
        (⊎_elim (λ none. absurd (alive (j.gone n st there none))) (λ some. omega arith) (cases_eq (times n j.kin) 0)) j.once

    quiet_from : (n : ℕ) (st : State) (s : Spot program code w.strands n st j.kin how t) (t' : Term) → Quiet program s.term t' → QuietIn program 0 t (s.put t')
    quiet_from n st s t' q =
        subst (λ (x : Term). QuietIn program 0 x (s.put t')) (sym s.whole)
        (subst (λ (x : ℕ). QuietIn program x (s.put s.term) (s.put t')) j.root (in_hole s.put s.hole (quiet_at q n)))

    open_from : (n : ℕ) (st : State) (s : Spot program code w.strands n st j.kin how t) (t' : Term) (what : Then Term) → IsOpen program t' what
        → HasOpen program 0 (s.put t') n what
    open_from n st s t' what o = record {
      spot = o.spot;
      put = λ u. s.put (o.put u);
      opens = λ u.
          subst (λ (x : ℕ). Opens o.spot u n x (s.put t') (s.put (o.put u))) j.root
          (s.hole.opens n o.spot u t' (o.put u) (opens_at o n u));
      is = o.is;
    }

    -- a strand that has failed meets its fault
    module _ (n : ℕ) (st : State) (there : slice_get w.strands n ≡ Some st) (found : FaultKind) (e : st.stance ≡ Failed found) where
      failed_at : Spot program code w.strands n st j.kin how t
      failed_at =
          find n st there (λ first count q. let z : Failed found ≡ Waits first count = sym e ∙ q in absurd (cc))
          (λ q. let z : Failed found ≡ Closed = sym e ∙ q in absurd (cc))

      fails : (t' : Term) × Quiet program failed_at.term t' × IsOpen program t' (meets found (place_at code.list st.at))
      fails = subst (λ (y : Stance). SettledIn program code failed_at.finish y failed_at.term st) e failed_at.settled

      fails_open : HasOpen program 0 (failed_at.put fails.0) n (meets found (place_at code.list st.at))
      fails_open = open_from n st failed_at fails.0 (meets found (place_at code.list st.at)) fails.2

      failed_too : Ends (ends.Fault found (place_at code.list st.at) n)
      failed_too = (
        failed_at.put fails.0,
        quiet_from n st failed_at fails.0 fails.1,
        fault (meets found (place_at code.list st.at)) (is_unended program 0 (failed_at.put fails.0) n (meets found (place_at code.list st.at)) fails_open) fails_open (refl, refl),
      )

    -- a strand that asks for an act stands before it
    module _ (n : ℕ) (st : State) (there : slice_get w.strands n ≡ Some st) (want : Want) (wait : Waiting) (e : st.stance ≡ Asking want wait) where
      asking_at : Spot program code w.strands n st j.kin how t
      asking_at =
          find n st there (λ first count q. let z : Asking want wait ≡ Waits first count = sym e ∙ q in absurd (cc))
          (λ q. let z : Asking want wait ≡ Closed = sym e ∙ q in absurd (cc))

      asks : ActsNext program code (Works code asking_at.finish) asking_at.term (place_at code.list st.at) want (told_by code st wait)
      asks = subst (λ (y : Stance). SettledIn program code asking_at.finish y asking_at.term st) e asking_at.settled

      abbrev now : Term
      now = asking_at.put asks.now

      abbrev what : Then Term
      what = acts (place_at code.list st.at) asks.wants asks.next

      asks_open : HasOpen program 0 now n what
      asks_open = open_from n st asking_at asks.now what asks.open_at

      quiet_to : QuietIn program 0 t now
      quiet_to = quiet_from n st asking_at asks.now asks.quiet

      -- the act is refused
      refused_too : (found : FaultKind) → does want w.store ≡ refuses found → Ends (ends.Fault found (place_at code.list st.at) n)
      refused_too found d = (now, quiet_to, fault what (is_unended program 0 now n what asks_open) asks_open (asks.alike w.store ∙ d, refl))

      -- or can be done
      able_too : (act : Act) (told : Reply) (store : Store) → entries ≡ fuel → does want w.store ≡ did act told store → Ends ends.Spent
      able_too act told store full d = (
        t,
        in_still,
        spent now n what full (in_elaborates quiet_to stays) (is_unended program 0 now n what asks_open) asks_open (act, told, store, asks.alike w.store ∙ d),
      )

    fault_stance : (n : ℕ) (st : State) (why : FaultKind) → slice_get w.strands n ≡ Some st → (s : Stance) → st.stance ≡ s → fault_in s w.store ≡ Some why
        → Ends (ends.Fault why (place_at code.list st.at) n)
    fault_stance n st why there Idle e f = absurd (cc)
    fault_stance n st why there (Waits first count) e f = absurd (cc)
    fault_stance n st why there Closed e f = absurd (cc)
    fault_stance n st why there (Failed found) e f =
        subst (λ (x : FaultKind). Ends (ends.Fault x (place_at code.list st.at) n)) (same_Some found why f) (failed_too n st there found e)
    fault_stance n st why there (Asking want wait) e f = by_outcome (does want w.store) refl f
      where
        by_outcome : (o : Outcome) → does want w.store ≡ o → refused o ≡ Some why → Ends (ends.Fault why (place_at code.list st.at) n)
        by_outcome (did act r store) d q = absurd (cc)
        by_outcome waits d q = absurd (cc)
        by_outcome (refuses found) d q =
            subst (λ (x : FaultKind). Ends (ends.Fault x (place_at code.list st.at) n)) (same_Some found why q) (refused_too n st there want wait e found d)

    fault_too : (n place : ℕ) (st : State) (why : FaultKind) → fault_of w n ≡ Some why → slice_get w.strands n ≡ Some st → place ≡ place_at code.list st.at
        → Ends (ends.Fault why place n)
    fault_too n place st why f there is =
        subst (λ (x : ℕ). Ends (ends.Fault why x n)) (sym is)
        (fault_stance n st why there st.stance refl (sym (ap (option_and_then (λ (x : State). fault_in x.stance w.store)) there) ∙ f))

    spent_too : (n : ℕ) → entries ≡ fuel → CanActNow code w n → Ends ends.Spent
    spent_too n full can = by_next (acted code w n) refl
      where
        by_next : (o : Option (Act × World)) → acted code w n ≡ o → Ends ends.Spent
        by_next None e = absurd (can e)
        by_next (Some x) e =
            let a = next_acts code w n x.0 (λ behind. Unit {0}) (subst (λ (o : Option (Act × World)). IfNext o x.0 (λ behind. Unit {0})) (sym e) (refl, tt)) in
            able_too n a.2.st a.2.there a.2.want a.2.wait a.2.stance x.0 a.2.told a.2.store full a.2.done

    halted_too : (HasEnded w 0 → ⊥) → ((n : ℕ) → CanActNow code w n → ⊥) → ((n : ℕ) → fault_of w n ≡ None) → Ends ends.AllHalted
    halted_too unended no_act no_fault = by_found (finds program code w j.calm no_act no_fault j.kin how t j.lives)
      where
        by_found : Finds program code w j.calm no_act no_fault (number j.kin) how t → Ends ends.AllHalted
        by_found (at_end st there e y) = absurd (unended (record { st = st; there = ap (slice_get w.strands) (sym j.root) ∙ there; idle = e }))
        by_found (has_closed_so y c) = absurd y
        by_found (halts h) =
            let x : Halts program code w j.calm no_act no_fault 0 t = subst (λ (n : ℕ). Halts program code w j.calm no_act no_fault n t) j.root h in
            (x.term, x.quiet, all_halted x.halted)

    pub ends_too : (es : List Entry) (k : End) → entries ≡ length es → run.RunEndsWith code fuel es w k → Ends k
    ends_too es k e (run.done h) = done_too h
    ends_too es k e (run.fault {strand = n} {place = place} {kind = why} {st = st} unended f there is) = fault_too n place st why f there is
    ends_too es k e (run.all_halted unended no_act no_fault) = halted_too unended no_act no_fault
    ends_too es k e (run.spent n unended full can) = spent_too n (e ∙ full) can
