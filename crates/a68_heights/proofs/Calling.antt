-- Calls and returns.
use Rattle.std.proofs.Common.{◌≡◌, ◌+◌, ◌∙◌, ℕ, zero, suc, arith, Bool, true, false, List, [], ◌∷◌, Some, None, Ok, Err, Contains, map, reverse, refl, ap, subst, sym}
use Rattle.std.specs.Bool.{beq}
use Rattle.std.specs.Prelude.{if◌then◌else◌, nat_lt, slice_get}
use Rattle.std.specs.Option.{option_map}
use Rattle.std.specs.declared.option.Option.{Option}
use Rattle.std.specs.declared.result.Result.{Result}
use Rattle.std.proofs.lemmas.List.Elements.{Contains-append_left, Contains-append_right}
use Rattle.std.proofs.lemmas.Option.{slice_get-map}
use Rattle.a68_acts.specs.Operations.{called, called_as}
use Rattle.a68_code.specs.Flow.{Reaches, MayMeet, does_at, entrance_if, entrances_in, one_if}
use Rattle.a68_code.specs.Flow.Reaches.{begins}
use Rattle.a68_code.specs.Valid.{IsValid}
use Rattle.a68_code.specs.declared.code.Code.{Code}
use Rattle.a68_code.specs.declared.code.RoutineEntrance.{RoutineEntrance}
use Rattle.a68_code.specs.declared.does.Does.TheVariants as does
use Rattle.a68_code.specs.declared.owner.Owner.{Owner}
use Rattle.a68_code.specs.declared.owner.Owner.TheVariants as owner
use Rattle.a68_heights.proofs.Leading.{behind, first, leads}
use Rattle.a68_heights.proofs.Popping.{popped, PoppedLower}
use Rattle.a68_heights.specs.Heights.{Below, Calls, Enters, Fits}
use Rattle.a68_instructions.specs.Machine.{State, begins_body, binds, calling, calls, enters_body, fails, into_routine, returns, returns_to, stack_of}
use Rattle.a68_instructions.specs.Unbound.{Unbound}
use Rattle.a68_instructions.specs.declared.ask.Stance.TheVariants.{Idle}
use Rattle.a68_stack.specs.Values.{height, pop_values}
use Rattle.a68_stack.specs.declared.stack.Item.{Item}
use Rattle.a68_stack.specs.declared.stack.Item.TheVariants as item
use Rattle.a68_values.specs.Content.{Content, plain, scope_of}
use Rattle.a68_values.specs.declared.act.FaultKind.{FaultKind}
use Rattle.a68_values.specs.declared.act.FaultKind.TheVariants as fault
use Rattle.a68_values.specs.declared.chain.Environ.{Environ}
use Rattle.a68_values.specs.declared.plain.Plain.TheVariants as value
use Rattle.a68_values.specs.declared.plain.Routine.{Routine}

-- ---- which routine text is called

called_so : (gives : Bool) (o : Option Bool) (r q : Routine) → called_as gives o r ≡ Ok q → (r ≡ q) × (o ≡ Some gives)
called_so gives None r q e = absurd (cc)
called_so true (Some true) r q e = (cc, refl)
called_so true (Some false) r q e = absurd (cc)
called_so false (Some true) r q e = absurd (cc)
called_so false (Some false) r q e = (cc, refl)

-- its body leaves a value just where the call gives one
pub called_fits : (texts : List Bool) (gives : Bool) (v : Content) (q : Routine) → called texts gives v ≡ Ok q → slice_get texts q.text ≡ Some gives
unfolding called
called_fits texts gives (plain value.Unset) q e = absurd (cc)
called_fits texts gives (plain (value.Routine r)) q e =
    let x = called_so gives (slice_get texts r.text) r q e in ap (λ (z : Routine). slice_get texts z.text) (sym x.0) ∙ x.1
called_fits texts gives v q e = absurd (cc)

-- it is there
text_there : (o : Option RoutineEntrance) (gives : Bool) → option_map (λ (e : RoutineEntrance). e.yields) o ≡ Some gives → (e : RoutineEntrance) × (o ≡ Some e) × (e.yields ≡ gives)
text_there None gives is = absurd (cc)
text_there (Some e) gives is = (e, refl, cc)

called_text : (texts : List RoutineEntrance) (gives : Bool) (v : Content) (q : Routine) → called (map (λ (e : RoutineEntrance). e.yields) texts) gives v ≡ Ok q
    → (e : RoutineEntrance) × (slice_get texts q.text ≡ Some e) × (e.yields ≡ gives)
called_text texts gives v q e =
    text_there (slice_get texts q.text) gives
    (sym (slice_get-map (λ (x : RoutineEntrance). x.yields) texts q.text) ∙ called_fits (map (λ (x : RoutineEntrance). x.yields) texts) gives v q e)

-- a routine text is one of those whose bodies leave as much
same_beq : (b : Bool) → beq b b ≡ true
same_beq true = refl
same_beq false = refl

its_entrance : (e : RoutineEntrance) → Contains (entrance_if e.yields e) e.at
its_entrance e = rw (same_beq e.yields) (first e.at [])

pub entrance_there : (texts : List RoutineEntrance) (k : ℕ) (e : RoutineEntrance) → slice_get texts k ≡ Some e → Contains (entrances_in e.yields texts) e.at
entrance_there [] k e is = absurd (cc)
entrance_there (t ∷ texts) zero e is =
    let same : t ≡ e = cc in
    subst (λ (x : RoutineEntrance). Contains (entrances_in e.yields (x ∷ texts)) e.at) (sym same) (Contains-append_left (entrance_if e.yields e) (entrances_in e.yields texts) e.at (its_entrance e))
entrance_there (t ∷ texts) (suc k) e is =
    Contains-append_right (entrance_if e.yields t) (entrances_in e.yields texts) e.at (entrance_there texts k e is)

-- ---- a call

module _ (code : Code) (whose : Owner) (st : State) where
  pub calls-fits : (count : ℕ) (gives : Bool) → does_at code.list st.at ≡ Some (does.Call count gives) → Reaches code whose st.at (height st.stack.items) → Below code whose st.stack.items
      → Fits code (calls code.texts st gives (pop_values (suc count) st.stack.items []))
  calls-fits count gives is r l = by_values (pop_values (suc count) st.stack.items []) (popped code whose (suc count) st.stack.items [] l)
    where
      by_values : (o : Option (List Content × List Item)) → PoppedLower code whose (height st.stack.items) (suc count) o → Fits code (calls code.texts st gives o)
      by_values None p = refl
      by_values (Some ([], items)) p = refl
      by_values (Some (v ∷ vs, items)) p = by_result (called (map (λ (e : RoutineEntrance). e.yields) code.texts) gives v) refl
        where
          by_result : (res : Result Routine FaultKind) → called (map (λ (e : RoutineEntrance). e.yields) code.texts) gives v ≡ res → Fits code (calling st items vs res)
          by_result (Ok q) e =
              let t = called_text code.texts gives v q e in (
                (
                  t.0,
                  t.1,
                  (
                    whose,
                    leads code whose st.at (does.Call count gives) is (height st.stack.items) (suc st.at) (height items) (height items + one_if t.0.yields) r (behind st.at [])
                        p.0 (ap (λ (b : Bool). height items + one_if b) t.2),
                    p.1,
                  ),
                ),
                tt,
              )
          by_result (Err why) e = refl

-- ---- into the routine

module _ (code : Code) (st : State) where
  pub enters_body-fits : (r : Routine) (ps : Unbound) → Calls code (suc st.at) r.text st.stack.items → (chain : List Environ) → Fits code (enters_body st r ps chain)
  enters_body-fits r ps c [] = refl
  enters_body-fits r ps c (e ∷ outer) = (c, tt)

  pub begins_body-fits : (text : ℕ) → Enters code text st.stack.items → Fits code (begins_body st (slice_get code.texts text))
  begins_body-fits text (e, there, none, l) = subst (λ (o : Option RoutineEntrance). Fits code (begins_body st o)) (sym there)
      (owner.Texts e.yields, subst (λ (n : ℕ). Reaches code (owner.Texts e.yields) e.at n) (sym none) (begins (entrance_there code.texts text e there)), l)

  pub binds-fits : (text slot : ℕ) → Enters code text st.stack.items → (vs : List Content) (chain : List Environ) → Fits code (binds code.texts st text slot vs chain)
  binds-fits text slot n [] chain = begins_body-fits text n
  binds-fits text slot n (v ∷ vs) [] = refl
  binds-fits text slot n (v ∷ vs) (e ∷ outer) = (n, tt)

pub into_routine-fits : (code : Code) (st : State) (text : ℕ) (ps : Unbound) → Calls code (suc st.at) text st.stack.items → (told : List Environ) → Fits code (into_routine code.texts st text ps told)
into_routine-fits code st text ps (e, there, g) told =
    binds-fits code (record st { stack = stack_of (item.Caller (record { to = suc st.at; chain = st.chain }) ∷ st.stack.items); chain = told; stance = Idle }) text ps.slot
    (e, there, refl, g) (reverse ps.left) told

-- ---- a return

module _ (code : Code) (st : State) where
  returns_to-fits : (whose : Owner) (to : ℕ) (chain : List Environ) (v : Content) (items : List Item) → Reaches code whose to (suc (height items)) → Below code whose items
      → Fits code (returns_to st to chain v items)
  returns_to-fits whose to [] v items r l = refl
  returns_to-fits whose to (e ∷ outer) v items r l = by_test (nat_lt e.scope (scope_of v))
    where
      by_test : (b : Bool) → Fits code (if b then fails st fault.Scope else record { at = to; stack = stack_of (item.Value v ∷ items); chain = e ∷ outer; stance = Idle })
      by_test true = refl
      by_test false = (whose, r, l)

  -- the routine leaves as much as its owner tells
  by_owner : (whose : Owner) (items : List Item) → MayMeet whose does.Return (height items) → Below code whose items → Fits code (returns st items)
  by_owner owner.Program items m l = absurd m
  by_owner owner.Units items m l = absurd m
  by_owner (owner.Texts yields) (item.Value v ∷ (item.Caller c ∷ items)) m (whom, r, l) =
      let one : suc zero ≡ one_if yields = m in
      returns_to-fits whom c.to c.chain v items (subst (λ (n : ℕ). Reaches code whom c.to n) (omega (arith, one)) r) l
  by_owner (owner.Texts yields) (item.Caller c ∷ items) m (whom, r, l) =
      let none : 0 ≡ one_if yields = m in
      (whom, subst (λ (n : ℕ). Reaches code whom c.to n) (omega (arith, none)) r, l)
  by_owner (owner.Texts yields) [] m l = refl
  by_owner (owner.Texts yields) (item.Counter c ∷ items) m l = refl
  by_owner (owner.Texts yields) (item.Value v ∷ []) m l = refl
  by_owner (owner.Texts yields) (item.Value v ∷ (item.Value w ∷ items)) m l = refl
  by_owner (owner.Texts yields) (item.Value v ∷ (item.Counter c ∷ items)) m l = refl

  pub returns-fits : IsValid code → (whose : Owner) → does_at code.list st.at ≡ Some does.Return → Reaches code whose st.at (height st.stack.items) → Below code whose st.stack.items
      → Fits code (returns st st.stack.items)
  returns-fits valid whose is r l = by_owner whose st.stack.items (valid.ends whose st.at (height st.stack.items) does.Return r is) l
