-- All strands of a run.
use Rattle.std.proofs.Common.{◌≡◌, ◌<◌, ◌+◌, ◌*◌, ℕ, suc, Bool, true, false, List, [], ◌∷◌, ◌++◌, length, Some, None, Contains, All, IfSome, refl, subst}
use Rattle.std.specs.Prelude.{if◌then◌else◌, slice_get, slice_set}
use Rattle.std.specs.Option.{option_and_then}
use Rattle.std.specs.declared.option.Option.{Option}
use Rattle.std.proofs.lemmas.List.Elements.{All-append, All-cons, All-map, All-nil, All-set, All-weaker}
use Rattle.std.proofs.lemmas.Option.{get_or_from_slice_get, slice_get_within}
use Rattle.a68_acts.specs.Does.{Outcome, did, refuses, waits, does}
use Rattle.a68_acts.specs.declared.want.Want.{Want}
use Rattle.a68_acts.specs.declared.want.Want.TheVariants as want
use Rattle.a68_code.specs.Flow.{entrances}
use Rattle.a68_code.specs.Valid.{IsValid}
use Rattle.a68_code.specs.declared.code.Code.{Code}
use Rattle.a68_code.specs.declared.owner.Owner.TheVariants as owner
use Rattle.a68_exec.specs.Runs.{IfNext, Machine, World, acted, acts_in, after, all_closed, begun, opening, strands_after, woken, woken_in}
use Rattle.a68_heights.proofs.Bounding.{innermost, whole}
use Rattle.a68_heights.proofs.Leading.{first}
use Rattle.a68_heights.proofs.Stepping.{settle-fits}
use Rattle.a68_heights.proofs.Telling.{beginning-fits, replied-fits}
use Rattle.a68_heights.specs.Heights.{BeginsUnits, Fits, FitsBy}
use Rattle.a68_instructions.specs.Machine.{State, beginning, replied, settle}
use Rattle.a68_instructions.specs.declared.ask.Stance.{Stance}
use Rattle.a68_instructions.specs.declared.ask.Stance.TheVariants.{Idle, Asking, Failed, Waits, Closed}
use Rattle.a68_stack.specs.Values.{callers, height}
use Rattle.a68_values.specs.declared.act.Act.{Act}
use Rattle.a68_values.specs.declared.act.Entry.{Entry}
use Rattle.a68_values.specs.declared.chain.Environ.{Environ}

module _ (code : Code) (valid : IsValid code) where
  -- a strand that has waited for units goes on behind its Fork
  woken_in-fits : (strands : List State) (st : State) (m : Stance) → FitsBy code st.at m st.stack.items → Fits code st → Fits code (woken_in strands st m)
  woken_in-fits strands st (Waits one count) b f = by_test (all_closed strands one count)
    where
      by_test : (t : Bool) → Fits code (if t then record st { at = suc st.at; stance = Idle } else st)
      by_test true = b
      by_test false = f
  woken_in-fits strands st Idle b f = f
  woken_in-fits strands st (Asking w wait) b f = f
  woken_in-fits strands st (Failed why) b f = f
  woken_in-fits strands st Closed b f = f

  woken-fits : (strands : List State) (st : State) → Fits code st → Fits code (woken code strands st)
  woken-fits strands st f = settle-fits code valid (woken_in strands st st.stance) (woken_in-fits strands st st.stance f f)

  -- the strands that an act makes
  begun-fit : (st : State) (w : Want) → BeginsUnits code w → All (Fits code) (begun code st w)
  begun-fit st (want.Fork places) each =
      All-map (Fits code) (λ (at : ℕ). settle code (beginning at st.chain)) places
      (All-weaker (λ (at : ℕ). Contains (entrances code owner.Units) at) (λ (at : ℕ). Fits code (settle code (beginning at st.chain)))
      (λ at i. settle-fits code valid (beginning at st.chain) (beginning-fits code owner.Units at st.chain i)) places each)
  begun-fit st _ each = All-nil (Fits code)

  after-fit : (strands : List State) (n : ℕ) (next : State) (new : List State) → All (Fits code) strands → Fits code next → All (Fits code) new
      → All (Fits code) (strands_after code strands n next new)
  after-fit strands n next new all f more =
      let together : All (Fits code) (slice_set strands n next ++ new) = All-append (Fits code) (slice_set strands n next) new (All-set (Fits code) strands n next f all) more in
      All-map (Fits code) (woken code (slice_set strands n next ++ new)) (slice_set strands n next ++ new)
      (All-weaker (Fits code) (λ (st : State). Fits code (woken code (slice_set strands n next ++ new) st)) (woken-fits (slice_set strands n next ++ new)) (slice_set strands n next ++ new) together)

  abbrev NextFits : Option (Act × World) → Type 0
  NextFits o = IfSome o (λ step. All (Fits code) step.1.strands)

  acts-fit : (w : World) (n : ℕ) (st : State) (m : Stance) → All (Fits code) w.strands → Fits code st → FitsBy code st.at m st.stack.items → NextFits (acts_in m code w n st)
  acts-fit w n st (Asking want wait) all f b = by_outcome (does want w.store)
    where
      by_outcome : (o : Outcome) → NextFits (after code w n st want o)
      by_outcome (did act reply store) =
          after-fit w.strands n (settle code (replied code st reply)) (begun code st want) all (settle-fits code valid (replied code st reply) (replied-fits code st reply f)) (begun-fit st want b.1)
      by_outcome (refuses why) = tt
      by_outcome waits = tt
  acts-fit w n st Idle all f b = tt
  acts-fit w n st (Failed why) all f b = tt
  acts-fit w n st (Waits one count) all f b = tt
  acts-fit w n st Closed all f b = tt

  acted-fits : (w : World) (n : ℕ) → All (Fits code) w.strands → NextFits (acted code w n)
  acted-fits w n all = by_strand (slice_get w.strands n) refl
    where
      by_strand : (o : Option State) → slice_get w.strands n ≡ o → NextFits (option_and_then (λ (st : State). acts_in st.stance code w n st) o)
      by_strand None e = tt
      by_strand (Some st) e =
          let f : Fits code st = subst (Fits code) (get_or_from_slice_get w.strands n st st e) (all n st (slice_get_within w.strands n st e)) in
          acts-fit w n st st.stance all f f

  pub acted-keeps : (now next : World) (strand : ℕ) (act : Act) → All (Fits code) now.strands → acted code now strand ≡ Some (act, next) → All (Fits code) next.strands
  acted-keeps now next strand act all e = subst NextFits e (acted-fits now strand all)

  pub run-fits : (entries : List Entry) (w end : World) → All (Fits code) w.strands → Machine code w entries end → All (Fits code) end.strands
  run-fits [] w end all m = subst (λ (x : World). All (Fits code) x.strands) m all
  run-fits (e ∷ es) w end all m = by_next (acted code w e.strand) (acted-fits w e.strand all) m (λ x. run-fits es x end)
    where
      by_next : (o : Option (Act × World)) → NextFits o → IfNext o e.act (λ behind. Machine code behind es end)
          → ((x : World) → All (Fits code) x.strands → Machine code x es end → All (Fits code) end.strands) → All (Fits code) end.strands
      by_next None f m more = absurd m
      by_next (Some (act, behind)) f m more = more behind f m.1

  pub opening-fits : All (Fits code) (opening code).strands
  opening-fits =
      let home : List Environ = record { frame = 0; scope = 0 } ∷ [] in
      All-cons (Fits code) (settle code (beginning 0 home)) [] (settle-fits code valid (beginning 0 home) (beginning-fits code owner.Program 0 home (first 0 []))) (All-nil (Fits code))

  pub runs-fit : (entries : List Entry) (end : World) → Machine code (opening code) entries end → All (Fits code) end.strands
  runs-fit entries end m = run-fits entries (opening code) end opening-fits m

  -- few items, in the innermost activation and in all
  abbrev pub IsSmall : State → Type 0
  IsSmall st = (height st.stack.items < length code.list) × (length st.stack.items < length code.list * (1 + callers st.stack.items))

  pub runs-small : (entries : List Entry) (end : World) → Machine code (opening code) entries end → All IsSmall end.strands
  runs-small entries end m = All-weaker (Fits code) IsSmall (λ st f. (innermost code valid st f, whole code valid st f)) end.strands (runs-fit entries end m)
