-- What comes next in a call: the routine and its parameters are there, its frame is made, each parameter is bound, and its
-- body has yielded.
use Rattle.std.proofs.Common.{◌≡◌, ℕ, suc, arith, Bool, true, false, List, [], ◌∷◌, None, Some, refl, sym, ap, ◌∙◌, subst, inr, nat_lt}
use Rattle.std.proofs.lemmas.List.{reverse-reverse, length-reverse}
use Rattle.std.specs.Prelude.{Ok, Err, length, reverse, slice_get, if◌then◌else◌}
use Rattle.std.specs.declared.option.Option.{Option}
use Rattle.std.specs.declared.result.Result.{Result}
use Rattle.a68_acts.specs.Operations.{called}
use Rattle.a68_acts.specs.declared.want.Reply.{Reply}
use Rattle.a68_acts.specs.declared.want.Reply.TheVariants as reply
use Rattle.a68_acts.specs.declared.want.Want.{Want}
use Rattle.a68_acts.specs.declared.want.Want.TheVariants as want
use Rattle.a68_code.specs.declared.code.Code.{Code}
use Rattle.a68_code.specs.declared.code.RoutineEntrance.{RoutineEntrance}
use Rattle.a68_code.specs.declared.does.Does.{Does}
use Rattle.a68_code.specs.declared.does.Does.TheVariants as does
use Rattle.a68_elab.specs.Rows.{goes, acts, meets, turned, row}
use Rattle.a68_elab.specs.Rows as rows
use Rattle.a68_elab.specs.Terms.{calling, entering, binding, inside, Term, part, yielded, no_terms}
use Rattle.a68_elab.specs.Trees.{Program, texts_of}
use Rattle.a68_sim.proofs.Asking.{idle, seen, ask, at_instr, place_is, is_inside, next_is}
use Rattle.a68_sim.proofs.Landings.{Landing}
use Rattle.a68_sim.proofs.Jobs.{Done, row_done, two_or_more, misled_sim}
use Rattle.a68_sim.proofs.Quiet.{Progress, moves_on, moves_act, moves_fault}
use Rattle.a68_sim.proofs.Relation.{push, count_terms, Sim, yields, left, onto, size, pops_left, count_yields}
use Rattle.a68_sim.proofs.Routines.{TextsStand, yields_of, called_entrance}
use Rattle.a68_instructions.specs.Machine.{State, enters_body, begins_body, binds, into_routine, exec, fails, told_by, asks_for}
use Rattle.a68_instructions.specs.Machine as machine
use Rattle.a68_stack.specs.Values.{pop_values}
use Rattle.a68_instructions.specs.Unbound.{Unbound}
use Rattle.a68_instructions.specs.declared.ask.Stance.{Stance}
use Rattle.a68_instructions.specs.declared.ask.Stance.TheVariants.{Asking}
use Rattle.a68_instructions.specs.declared.ask.Waiting.TheVariants as waiting
use Rattle.a68_stack.specs.declared.stack.Item.{Item}
use Rattle.a68_stack.specs.declared.stack.Item.TheVariants as item
use Rattle.a68_values.specs.Content.{Content, scope_of}
use Rattle.a68_values.specs.declared.act.FaultKind.{FaultKind}
use Rattle.a68_values.specs.declared.act.FaultKind.TheVariants as fault
use Rattle.a68_values.specs.declared.chain.Environ.{Environ}
use Rattle.a68_values.specs.declared.plain.Routine.{Routine}

-- what a strand asked before makes no difference
same_enters : (st : State) (stance : Stance) (q : Routine) (ps : Unbound) (c : List Environ)
    → enters_body (record st { stance = stance }) q ps c ≡ enters_body st q ps c
same_enters st stance q ps [] = refl
same_enters st stance q ps (e ∷ outer) = refl

same_begins : (st : State) (stance : Stance) (o : Option RoutineEntrance) → begins_body (record st { stance = stance }) o ≡ begins_body st o
same_begins st stance None = refl
same_begins st stance (Some e) = refl

same_binds : (texts : List RoutineEntrance) (st : State) (stance : Stance) (text slot : ℕ) (vs : List Content) (c : List Environ)
    → binds texts (record st { stance = stance }) text slot vs c ≡ binds texts st text slot vs c
same_binds texts st stance text slot [] c = same_begins st stance (slice_get texts text)
same_binds texts st stance text slot (v ∷ vs) [] = refl
same_binds texts st stance text slot (v ∷ vs) (e ∷ outer) = refl

abbrev first_parameters : List Content → Unbound
first_parameters vs = record { slot = 0; left = reverse vs }

abbrev caller : ℕ → List Environ → Item
caller to chain = item.Caller (record { to = to; chain = chain })

module _ (program : Program) (code : Code) (ls : List Landing) (texts : TextsStand program code) (b : ℕ) (base : List Item) (home : List Environ) (g : Bool) where
  pub calling_done : (p : ℕ) (gives : Bool) (ch : List Environ) (k : ℕ) → Done program code ls (calling p gives) ch k b base home g
  calling_done p gives ch k acc tail =
      let n = count_terms (yields acc no_terms) in
      let en : suc tail.2 ≡ size acc = (let e = tail.3 in omega (arith, count_yields acc no_terms)) in
      let pop : pop_values (suc tail.2) items [] ≡ Some (onto acc [], base) = ap (λ x. pop_values x items []) en ∙ pops_left acc base [] in
      by_values (onto acc []) (row_done program (calling p gives) ch acc)
      (at_instr code k p items ch d tail.4.0 refl ∙ ap (λ x. Some (seen code (machine.calls code.texts st gives x))) pop)
    where
      items : List Item
      items = left true acc base

      d : Does
      d = does.Call tail.2 gives

      st : State
      st = idle k (left true acc base) ch

      t : Term
      t = part (calling p gives) ch (yields acc no_terms)

      keeps : (vs : List Content) (v : Content) (q : Routine) → called (yields_of (texts_of program)) gives v ≡ Ok q → (r : Reply)
          → Sim code ls b base home g (turned p ch (part (entering p q vs) ch no_terms) r)
          (told_by code (asks_for st base (Asking want.Turn (waiting.Called q (first_parameters vs)))) (waiting.Called q (first_parameters vs)) r)
      keeps vs v q is reply.Go = (
        [],
        k,
        same_enters (idle k base ch) (Asking want.Turn (waiting.Called q (first_parameters vs))) q (first_parameters vs) ch,
        (refl, tail.1, (λ e there. called_entrance program code texts gives v q is e there ∙ sym tail.0), d, tail.4),
      )
      keeps vs v q is (reply.Frame chain) = misled_sim code ls b base home g p k d ch tail.4.0
      keeps vs v q is (reply.Value v2) = misled_sim code ls b base home g p k d ch tail.4.0
      keeps vs v q is (reply.Base cell) = misled_sim code ls b base home g p k d ch tail.4.0
      keeps vs v q is (reply.Held h) = misled_sim code ls b base home g p k d ch tail.4.0

      by_result : (vs : List Content) (v : Content) (res : Result Routine FaultKind) → called (yields_of (texts_of program)) gives v ≡ res → row program t ≡ Some (rows.call_of p ch vs res)
          → ask code st ≡ Some (seen code (machine.calling st base vs res)) → Progress program code ls (Sim code ls b base home g) t st
      by_result vs v (Ok q) is e a =
          let k2 = told_by code (asks_for st base (Asking want.Turn (waiting.Called q (first_parameters vs)))) (waiting.Called q (first_parameters vs)) in
          moves_act program code ls _ t st p want.Turn _ k2 e (a ∙ ap (λ x. Some (acts x want.Turn k2)) (place_is code k p d tail.4.0)) (is_inside code k p d tail.4.0) (keeps vs v q is) refl
      by_result vs v (Err why) is e a =
          moves_fault program code ls _ t _ why p e (a ∙ ap (λ x. Some (meets why x)) (place_is code k p d tail.4.0)) (is_inside code k p d tail.4.0)

      by_values : (vs : List Content) → row program t ≡ Some (rows.calls (texts_of program) p gives ch vs) → ask code st ≡ Some (seen code (machine.calls code.texts st gives (Some (vs, base))))
          → Progress program code ls (Sim code ls b base home g) t st
      by_values [] e a =
          moves_fault program code ls _ t _ fault.Kind p e (a ∙ ap (λ x. Some (meets fault.Kind x)) (place_is code k p d tail.4.0)) (is_inside code k p d tail.4.0)
      by_values (v ∷ vs) e a =
          by_result vs v (called (yields_of (texts_of program)) gives v) refl e
          (a ∙ ap (λ (l : List Bool). Some (seen code (machine.calling st base vs (called l gives v)))) texts.alike)

  pub entering_done : (p : ℕ) (q : Routine) (vs : List Content) (ch : List Environ) (k : ℕ) → Done program code ls (entering p q vs) ch k b base home g
  entering_done p q vs ch k (v ∷ acc) tail = absurd (omega (arith, tail.0, count_yields (v ∷ acc) no_terms))
  entering_done p q vs [] k [] tail =
      moves_fault program code ls _ _ _ fault.Kind p refl (ap (λ x. Some (meets fault.Kind x)) (place_is code k p tail.3 tail.4.0)) (is_inside code k p tail.3 tail.4.0)
  entering_done p q vs (e ∷ outer) k [] tail =
      moves_act program code ls _ _ st p (w (length vs)) _ k2 refl
      (ap (λ x. Some (acts x (w (length (reverse vs))) k2)) (place_is code k p tail.3 tail.4.0) ∙ ap (λ n. Some (acts p (w n) k2)) (length-reverse vs))
      (is_inside code k p tail.3 tail.4.0) keeps refl
    where
      w : ℕ → Want
      w n = want.Enter q.frame (suc e.scope) n

      st : State
      st = asks_for (idle k base (e ∷ outer)) base (Asking (want.Enter q.frame (suc e.scope) (length (reverse vs))) (waiting.Entered q.text (first_parameters vs)))

      k2 : Reply → State
      k2 = told_by code st (waiting.Entered q.text (first_parameters vs))

      mis : Sim code ls b base home g (rows.misled p (e ∷ outer)) (fails (idle k [] (e ∷ outer)) fault.Kind)
      mis = misled_sim code ls b base home g p k tail.3 (e ∷ outer) tail.4.0

      keeps : (r : Reply) → Sim code ls b base home g (rows.within_body p q vs (e ∷ outer) r) (k2 r)
      keeps (reply.Frame inner) =
          let into = λ (n : ℕ) (c : List Environ) (us : List Content). binds code.texts (idle k (caller n c ∷ base) inner) q.text 0 us inner in (
            [],
            k,
            ap (into (suc k) (e ∷ outer)) (reverse-reverse vs) ∙ ap (λ n. into n (e ∷ outer) vs) (next_is k b tail.4.1) ∙ ap (λ c. into b c vs) tail.1,
            (refl, tail.1, tail.2, tail.3, tail.4),
          )
      keeps reply.Go = mis
      keeps (reply.Value v2) = mis
      keeps (reply.Base cell) = mis
      keeps (reply.Held h) = mis

  -- a parameter is bound
  pub binding_one : (p : ℕ) (q : Routine) (from : List Environ) (slot : ℕ) (v : Content) (vs : List Content) (ch : List Environ) (k : ℕ)
      → Done program code ls (binding p q from slot (v ∷ vs)) ch k b base home g
  binding_one p q from slot v vs ch k (v2 ∷ acc) tail = absurd (omega (arith, tail.0, count_yields (v2 ∷ acc) no_terms))
  binding_one p q from slot v vs [] k [] tail =
      moves_fault program code ls _ _ _ fault.Kind p refl (ap (λ x. Some (meets fault.Kind x)) (place_is code k p tail.3 tail.4.0)) (is_inside code k p tail.3 tail.4.0)
  binding_one p q from slot v vs (e ∷ outer) k [] tail =
      moves_act program code ls _ _ st p (want.Bind e.frame slot v) _ k2 refl
      (ap (λ x. Some (acts x (want.Bind e.frame slot v) k2)) (place_is code k p tail.3 tail.4.0)) (is_inside code k p tail.3 tail.4.0) keeps refl
    where
      items : List Item
      items = caller b home ∷ base

      rest : Unbound
      rest = record { slot = suc slot; left = reverse vs }

      st : State
      st = asks_for (idle k (caller b home ∷ base) (e ∷ outer)) (caller b home ∷ base) (Asking (want.Bind e.frame slot v) (waiting.Bound q.text (record { slot = suc slot; left = reverse vs })))

      k2 : Reply → State
      k2 = told_by code st (waiting.Bound q.text (record { slot = suc slot; left = reverse vs }))

      mis : Sim code ls b base home g (rows.misled p (e ∷ outer)) (fails (idle k [] (e ∷ outer)) fault.Kind)
      mis = misled_sim code ls b base home g p k tail.3 (e ∷ outer) tail.4.0

      keeps : (r : Reply) → Sim code ls b base home g (turned p (e ∷ outer) (part (binding p q from (suc slot) vs) (e ∷ outer) no_terms) r) (k2 r)
      keeps reply.Go = (
        [],
        k,
        ap (λ us. binds code.texts st q.text (suc slot) us (e ∷ outer)) (reverse-reverse vs)
            ∙ same_binds code.texts (idle k items (e ∷ outer)) (Asking (want.Bind e.frame slot v) (waiting.Bound q.text rest)) q.text (suc slot) vs (e ∷ outer),
        (refl, tail.1, tail.2, tail.3, tail.4),
      )
      keeps (reply.Frame chain) = mis
      keeps (reply.Value v2) = mis
      keeps (reply.Base cell) = mis
      keeps (reply.Held h) = mis

pub inside_done : (program : Program) (code : Code) (ls : List Landing) (b : ℕ) (base : List Item) (home : List Environ) (g : Bool) (p : ℕ) (gives : Bool) (from ch : List Environ) (k : ℕ)
    → Done program code ls (inside p gives from) ch k b base home g
inside_done program code ls b base home g p gives from ch k [] tail = absurd (omega (arith, tail.2))
inside_done program code ls b base home g p gives from ch k (v ∷ (w ∷ acc)) tail = absurd (two_or_more v w acc tail.2)
inside_done program code ls b base home g p gives from ch k (v ∷ []) tail = back g gives home from tail.0 tail.1
  where
    back : (g gives : Bool) (home from : List Environ) → g ≡ gives → from ≡ home
        → Progress program code ls (Sim code ls b base home g) (part (inside p gives from) ch (yields (v ∷ []) no_terms)) (idle k (push g v (caller b home ∷ base)) ch)
    back true false home from eg ef = absurd (cc)
    back false true home from eg ef = absurd (cc)
    back false false home from eg ef =
        moves_on program code ls _ _ _ _ (idle b base home) (row_done program (inside p false from) ch (v ∷ []))
        (at_instr code k p (caller b home ∷ base) ch does.Return tail.3 refl) (is_inside code k p does.Return tail.3) (inr refl) refl
    back true true [] [] eg ef =
        moves_fault program code ls _ _ _ fault.Kind p (row_done program (inside p true []) ch (v ∷ []))
        (at_instr code k p (item.Value v ∷ (caller b [] ∷ base)) ch does.Return tail.3 refl ∙ ap (λ x. Some (meets fault.Kind x)) (place_is code k p does.Return tail.3))
        (is_inside code k p does.Return tail.3)
    back true true [] (e ∷ outer) eg ef = absurd (cc)
    back true true (e ∷ outer) [] eg ef = absurd (cc)
    back true true (e ∷ outer) (e2 ∷ outer2) eg ef =
        subst (λ (f : List Environ). Progress program code ls (Sim code ls b base (e ∷ outer) true) (part (inside p true f) ch (yields (v ∷ []) no_terms)) (idle k (item.Value v ∷ (caller b (e ∷ outer) ∷ base)) ch)) (sym ef)
        (by_test (nat_lt e.scope (scope_of v)) (row_done program (inside p true (e ∷ outer)) ch (v ∷ []))
        (at_instr code k p (item.Value v ∷ (caller b (e ∷ outer) ∷ base)) ch does.Return tail.3 refl))
      where
        st : State
        st = idle k (item.Value v ∷ (caller b (e ∷ outer) ∷ base)) ch

        by_test : (newer : Bool) → row program (part (inside p true (e ∷ outer)) ch (yields (v ∷ []) no_terms)) ≡ Some (if newer then meets fault.Scope p else goes (yielded v))
            → ask code st ≡ Some (seen code (if newer then fails st fault.Scope else idle b (item.Value v ∷ base) (e ∷ outer)))
            → Progress program code ls (Sim code ls b base (e ∷ outer) true) (part (inside p true (e ∷ outer)) ch (yields (v ∷ []) no_terms)) st
        by_test true x a = moves_fault program code ls _ _ _ fault.Scope p x (a ∙ ap (λ y. Some (meets fault.Scope y)) (place_is code k p does.Return tail.3)) (is_inside code k p does.Return tail.3)
        by_test false x a = moves_on program code ls _ _ _ _ (idle b (item.Value v ∷ base) (e ∷ outer)) x a (is_inside code k p does.Return tail.3) (inr refl) refl
