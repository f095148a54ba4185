-- What comes next in a conformity clause, job by job.
use Rattle.std.proofs.Common.{◌≡◌, ◌<◌, ◌≤◌, ℕ, suc, arith, Bool, true, false, nat_eq, List, [], ◌∷◌, None, Some, refl, sym, ap, ◌∙◌, subst, inl, inr}
use Rattle.std.specs.Option.{option_map, option_map_or}
use Rattle.std.specs.Prelude.{Ok, Err, slice_index_or, if◌then◌else◌}
use Rattle.std.proofs.lemmas.Bool.{eq-eqb, eqb-true}
use Rattle.std.specs.declared.option.Option.{Option}
use Rattle.std.specs.declared.result.Result.{Result}
use Rattle.a68_acts.specs.Members.{number_among, members_of, member_of}
use Rattle.a68_acts.specs.Operations.{start, resumed}
use Rattle.a68_acts.specs.declared.operation.Next.TheVariants as next
use Rattle.a68_acts.specs.declared.want.Reply.{Reply}
use Rattle.a68_acts.specs.declared.want.Reply.TheVariants as reply
use Rattle.a68_acts.specs.declared.want.Want.{Want}
use Rattle.a68_acts.specs.declared.want.Want.TheVariants as want
use Rattle.a68_code.specs.Flow.{last_place, one_if}
use Rattle.a68_code.specs.declared.code.Code.{Code}
use Rattle.a68_code.specs.declared.does.Does.{Does}
use Rattle.a68_code.specs.declared.does.Does.TheVariants as does
use Rattle.a68_elab.specs.Rows.{acts, meets, goes_with, conforms, specified, taken, is_among, turned, row}
use Rattle.a68_elab.specs.Rows as rows
use Rattle.a68_elab.specs.Terms.{conforming, specifying, tagging, passing, ranged, Term, todo, part, no_terms, only}
use Rattle.a68_elab.specs.Trees.{Tree, Specs, no_specs, spec, Program}
use Rattle.a68_gen.proofs.Forward.{forward, forward_specs}
use Rattle.a68_gen.proofs.Members.{last_is}
use Rattle.a68_emit.specs.Stretches.{Lie, deeper_by, Stands, StandSpecs, place_for, whole_for, member_places, wholes_of}
use Rattle.a68_modes.specs.Nodes.{shape_at}
use Rattle.a68_modes.specs.declared.shape.Shape.{Shape}
use Rattle.a68_sim.proofs.Asking.{idle, seen, ask, at_instr, place_is, does_is, is_inside, next_is}
use Rattle.a68_sim.proofs.Landings.{Landing, Agrees, agrees_deeper}
use Rattle.a68_sim.proofs.Jobs.{Done, row_done, two_or_more, misled_sim, on_bare, opens_frame}
use Rattle.a68_sim.proofs.Quiet.{Progress, moves_on, moves_act, moves_fault}
use Rattle.a68_sim.proofs.Relation.{members_in, Sim, yields}
use Rattle.a68_stack.specs.declared.stack.Item.{Item}
use Rattle.a68_stack.specs.declared.stack.Item.TheVariants as item
use Rattle.a68_instructions.specs.Machine.{State, follows, fails, goes_to, asks_for, does_leave, kept_of, leaves_at, to_member, told_by}
use Rattle.a68_instructions.specs.declared.ask.Stance.TheVariants.{Asking}
use Rattle.a68_instructions.specs.declared.ask.Waiting.TheVariants as waiting
use Rattle.a68_values.specs.Content.{Content, plain, united}
use Rattle.a68_values.specs.declared.act.FaultKind.{FaultKind}
use Rattle.a68_values.specs.declared.act.FaultKind.TheVariants as fault
use Rattle.a68_values.specs.declared.chain.Environ.{Environ}
use Rattle.a68_values.specs.declared.held.Held.TheVariants as held
use Rattle.a68_values.specs.declared.plain.Plain.TheVariants as value

-- ---- members and their places

found_later : (o : Option ℕ) (k : ℕ) → option_map (λ x. suc x) o ≡ Some k → (j : ℕ) × (o ≡ Some j) × (k ≡ suc j)
found_later None k e = absurd (cc)
found_later (Some j) k e = (j, refl, cc)

-- the place of a member and what is kept of its value stand there in the lists of all members
abbrev StandsAt : (specs : Specs) (ps : List ℕ) (none u : ℕ) → (members : List ℕ) → (j : ℕ) → Type 0
StandsAt specs ps none u members j =
    (slice_index_or (member_places members specs ps none) j 0 ≡ place_for u specs ps none) × (slice_index_or (wholes_of members specs) j 0 ≡ whole_for u specs)

-- the place of a member, and what is kept of its value, stand at its number
member_at : (members : List ℕ) (specs : Specs) (ps : List ℕ) (none u k : ℕ) → number_among u members ≡ Some k → StandsAt specs ps none u members k
member_at [] specs ps none u k e = absurd (cc)
member_at (m ∷ ms) specs ps none u k e = by_test (nat_eq u m) (eqb-true u m) e (λ j. member_at ms specs ps none u j)
  where
    by_test : (same : Bool) → (same ≡ true → u ≡ m) → ◌≡◌ {A = Option ℕ} (if same then Some 0 else option_map (λ x. suc x) (number_among u ms)) (Some k)
        → ((j : ℕ) → number_among u ms ≡ Some j → StandsAt specs ps none u ms j) → StandsAt specs ps none u (m ∷ ms) k
    by_test true is f later =
        let first : 0 ≡ k = cc in
        subst (λ (j : ℕ). StandsAt specs ps none u (m ∷ ms) j) first (ap (λ x. place_for x specs ps none) (sym (is refl)), ap (λ x. whole_for x specs) (sym (is refl)))
    by_test false is f later = let n = found_later (number_among u ms) k f in subst (λ (j : ℕ). StandsAt specs ps none u (m ∷ ms) j) (sym n.2) (later n.0 n.1)

-- a value has a member only where it is united
member_is : (union : Shape) (v : Content) (k : ℕ) → member_of union v ≡ Ok k → (u : ℕ) × (w : Content) × (v ≡ united u w) × (number_among u (members_of union) ≡ Some k)
unfolding member_of
member_is union (united u w) k e = by_number (number_among u (members_of union)) refl e
  where
    by_number : (o : Option ℕ) → number_among u (members_of union) ≡ o → ◌≡◌ {A = Result ℕ FaultKind} (option_map_or (λ j. Ok j) o (Err fault.Kind)) (Ok k)
        → (u' : ℕ) × (w' : Content) × (united u w ≡ united u' w') × (number_among u' (members_of union) ≡ Some k)
    by_number None is f = absurd (cc)
    by_number (Some j) is f = (u, w, refl, is ∙ ap (λ n. Some n) (let same : j ≡ k = cc in same))
member_is union (plain value.Unset) k e = absurd (cc)
member_is union v k e = absurd (cc)

-- ---- jobs

module _ (program : Program) (code : Code) (ls : List Landing) (same : code.modes ≡ program.modes) (b : ℕ) (base : List Item) (home : List Environ) (g : Bool) where
  -- the strand at a place, with what is kept of a value, or with nothing at the place for none
  abbrev at_place : (none place whole : ℕ) → Content → List Environ → State
  at_place none place whole v ch = idle place (if nat_eq place none then base else item.Value (kept_of whole v) ∷ base) ch

  -- a place before that for none, with what a specification takes of the value
  kept_there : (none place : ℕ) (whole : Bool) (u : ℕ) (w : Content) (ch : List Environ) → place < none
      → at_place none place (one_if whole) (united u w) ch ≡ idle place (item.Value (taken whole (united u w)) ∷ base) ch
  kept_there none place whole u w ch less = by_test (nat_eq place none) (eqb-true place none)
    where
      kept : (whole : Bool) → kept_of (one_if whole) (united u w) ≡ taken whole (united u w)
      kept true = refl
      kept false = refl

      by_test : (t : Bool) → (t ≡ true → place ≡ none)
          → idle place (if t then base else item.Value (kept_of (one_if whole) (united u w)) ∷ base) ch ≡ idle place (item.Value (taken whole (united u w)) ∷ base) ch
      by_test true is = absurd (let e = is refl in omega arith)
      by_test false is = ap (λ (x : Content). idle place (item.Value x ∷ base) ch) (kept whole)

  -- the part of the first specification that takes the value stands at the place of its member; that for none stands at the
  -- place for none
  module _ (p : ℕ) (gives : Bool) (ch : List Environ) (ec : ch ≡ home) (eg : g ≡ gives) (u : ℕ) (w : Content) where
    abbrev StandsThere : (specs : Specs) (out : Tree) (ps : List ℕ) (m x : ℕ) → Type 0
    StandsThere specs out ps m x =
        Sim code ls b base home g (conforms p gives ch specs out (united u w)) (at_place x (place_for u specs ps x) (whole_for u specs) (united u w) ch) × (m ≤ place_for u specs ps x)

    -- a specification, or one behind it
    one_of : (specs behind : Specs) (out : Tree) (ps : List ℕ) (q m m' x : ℕ) (takes : Bool) (whole : Bool) (t : Term)
        → q ≡ m → m < x → m ≤ m' → Sim code ls b base home g t (idle q (item.Value (taken whole (united u w)) ∷ base) ch) → StandsThere behind out ps m' x
        → Sim code ls b base home g (if takes then t else conforms p gives ch behind out (united u w))
        (at_place x (if takes then q else place_for u behind ps x) (if takes then one_if whole else whole_for u behind) (united u w) ch)
        × (m ≤ (if takes then q else place_for u behind ps x))
    one_of specs behind out ps q m m' x true whole t eq less on here later =
        (subst (Sim code ls b base home g t) (sym (kept_there x q whole u w ch (omega arith))) here, omega arith)
    one_of specs behind out ps q m m' x false whole t eq less on here later = (later.0, (let l = later.1 in omega arith))

    spec_sim : (lie : Lie) → Agrees lie ls base ch → (specs : Specs) (out : Tree) (ps : List ℕ) (m x : ℕ) → StandSpecs code lie g p b specs ps m x → Stands code lie g out x b
        → StandsThere specs out ps m x
    spec_sim lie agrees no_specs out [] m x s last = (
      (
        [],
        b,
        (
          b,
          refl,
          (lie, agrees, refl),
          record { a = x; lie = lie; agrees = agrees; stands = last; chain = refl; state = ap (λ (t : Bool). idle x (if t then base else item.Value (kept_of 0 (united u w)) ∷ base) ch) (eq-eqb x x refl) },
        ),
        (ec, refl, inl refl),
      ),
      omega arith,
    )
    spec_sim lie agrees no_specs out (q ∷ ps) m x s last = absurd s
    spec_sim lie agrees (spec takes true whole t behind) out [] m x s last = absurd s
    spec_sim lie agrees (spec takes false whole t behind) out [] m x s last = absurd s
    spec_sim lie agrees (spec takes true whole t behind) out (q ∷ ps) m x s last =
        let f1 = forward code (deeper_by 1 lie) g t s.1 s.2 s.8 in
        let f2 = forward_specs code lie g p b behind ps s.4 x s.11 in
        let f3 = forward code lie g out x b last in
        let i = s.6.1 in let j = s.7.1 in let v = s.9.1 in let n = s.10.1 in
        one_of (spec takes true whole t behind) behind out ps q m s.4 x (is_among u takes) whole _ s.5 (omega arith) (omega arith) (
          [],
          s.3,
          (s.3, refl, (lie, agrees, refl), [], m, ap (λ y. idle y (item.Value (taken whole (united u w)) ∷ base) ch) s.5, (refl, eg, lie, agrees, s.0, s.1, s.2, s.6, s.7, s.8, s.9)),
          (ec, refl, inr (p, s.4, s.10, omega arith)),
        )
        (spec_sim lie agrees behind out ps s.4 x s.11 last)
    spec_sim lie agrees (spec takes false whole t behind) out (q ∷ ps) m x s last =
        let f1 = forward code lie g t s.0 s.1 s.5 in
        let f2 = forward_specs code lie g p b behind ps s.2 x s.7 in
        let f3 = forward code lie g out x b last in
        let v = s.4.1 in let n = s.6.1 in
        one_of (spec takes false whole t behind) behind out ps q m s.2 x (is_among u takes) whole _ s.3 (omega arith) (omega arith) (
          [],
          s.1,
          (s.1, refl, (lie, agrees, refl), [], m, ap (λ y. idle y (item.Value (taken whole (united u w)) ∷ base) ch) s.3, (refl, p, s.0, s.4, (lie, agrees, s.5))),
          (ec, refl, inr (p, s.2, s.6, omega arith)),
        )
        (spec_sim lie agrees behind out ps s.2 x s.7 last)

  pub conforming_done : (p union : ℕ) (gives : Bool) (specs : Specs) (out : Tree) (ch : List Environ) (k : ℕ) → Done program code ls (conforming p union gives specs out) ch k b base home g
  conforming_done p union gives specs out ch k [] tail = absurd (omega (arith, tail.1))
  conforming_done p union gives specs out ch k (v ∷ (w ∷ acc)) tail = absurd (two_or_more v w acc tail.1)
  conforming_done p union gives specs out ch k (v ∷ []) tail =
      by_result (member_of (shape_at code.modes union) v) refl
      (row_done program (conforming p union gives specs out) ch (v ∷ [])
      ∙ ap (λ (modes : List Shape). Some (goes_with p (λ n. conforms p gives ch specs out v) (member_of (shape_at modes union) v))) (sym same))
      (at_instr code k p (item.Value v ∷ base) ch does_it tail.8.0 refl)
    where
      does_it : Does
      does_it = does.Member union (member_places (members_in code union) specs tail.7 tail.6) (wholes_of (members_in code union) specs)

      st : State
      st = idle k (item.Value v ∷ base) ch

      t : Term
      t = part (conforming p union gives specs out) ch (yields (v ∷ []) no_terms)

      to_place : (place last whole : ℕ) → Content → State
      to_place place last whole c = if nat_eq place last then goes_to st place base else goes_to st place (item.Value (kept_of whole c) ∷ base)

      -- the strand goes to its place
      goes_there : (place whole : ℕ) (u : ℕ) (w : Content) → k < place → row program t ≡ Some (rows.goes (conforms p gives ch specs out (united u w)))
          → Sim code ls b base home g (conforms p gives ch specs out (united u w)) (at_place tail.6 place whole (united u w) ch)
          → ask code st ≡ Some (seen code (to_place place tail.6 whole (united u w))) → Progress program code ls (Sim code ls b base home g) t st
      goes_there place whole u w less e sim a = by_test (nat_eq place tail.6) sim a
        where
          by_test : (y : Bool) → Sim code ls b base home g (conforms p gives ch specs out (united u w)) (idle place (if y then base else item.Value (kept_of whole (united u w)) ∷ base) ch)
              → ask code st ≡ Some (seen code (if y then goes_to st place base else goes_to st place (item.Value (kept_of whole (united u w)) ∷ base)))
              → Progress program code ls (Sim code ls b base home g) t st
          by_test true sim a = moves_on program code ls _ t _ _ (idle place base ch) e a (is_inside code k p does_it tail.8.0) (inl (refl, inl less)) sim
          by_test false sim a =
              moves_on program code ls _ t _ _ (idle place (item.Value (kept_of whole (united u w)) ∷ base) ch) e a (is_inside code k p does_it tail.8.0) (inl (refl, inl less)) sim

      by_result : (res : Result ℕ FaultKind) → member_of (shape_at code.modes union) v ≡ res → row program t ≡ Some (goes_with p (λ n. conforms p gives ch specs out v) res)
          → ask code st ≡ Some (seen code (to_member st (member_places (members_in code union) specs tail.7 tail.6) (wholes_of (members_in code union) specs) base v res))
          → Progress program code ls (Sim code ls b base home g) t st
      by_result (Ok n) is e a =
          let x = member_is (shape_at code.modes union) v n is in
          let at = member_at (members_in code union) specs tail.7 tail.6 x.0 n x.3 in
          let pl = member_places (members_in code union) specs tail.7 tail.6 in
          let wholes = wholes_of (members_in code union) specs in
          let y = spec_sim p gives ch tail.0 tail.2 x.0 x.1 tail.3 tail.4 specs out tail.7 tail.5 tail.6 tail.9 tail.10 in
          goes_there (place_for x.0 specs tail.7 tail.6) (whole_for x.0 specs) x.0 x.1 (let z = y.1 in let i = tail.8.1 in omega arith)
          (e ∙ ap (λ (c : Content). Some (rows.goes (conforms p gives ch specs out c))) x.2) y.0
          (a ∙ ap (λ (j : ℕ). Some (seen code (to_place j (last_place pl) (slice_index_or wholes n 0) v))) at.0
          ∙ ap (λ (j : ℕ). Some (seen code (to_place (place_for x.0 specs tail.7 tail.6) j (slice_index_or wholes n 0) v))) (last_is (members_in code union) specs tail.7 tail.6)
          ∙ ap (λ (j : ℕ). Some (seen code (to_place (place_for x.0 specs tail.7 tail.6) tail.6 j v))) at.1
          ∙ ap (λ (c : Content). Some (seen code (to_place (place_for x.0 specs tail.7 tail.6) tail.6 (whole_for x.0 specs) c))) x.2)
      by_result (Err why) is e a =
          moves_fault program code ls _ t _ why p e (a ∙ ap (λ x. Some (meets why x)) (place_is code k p does_it tail.8.0)) (is_inside code k p does_it tail.8.0)

  pub specifying_done : (p : ℕ) (gives : Bool) (v : Content) (t : Tree) (ch : List Environ) (k : ℕ) → Done program code ls (specifying p gives v t) ch k b base home g
  specifying_done p gives v t ch k acc tail =
      on_bare program code ls b base home g (specifying p gives v t) ch k acc (item.Value v ∷ base)
      (opens_frame program code ls b base home g _ p 1 k (item.Value v ∷ base) (λ inner. part (tagging p gives v t) inner no_terms) ch tail.4 tail.7 (row_done program (specifying p gives v t) ch acc)
      (λ e. ([], tail.4, refl, (tail.0, tail.1, tail.5, tail.6, tail.8, (deeper_by 1 tail.2, agrees_deeper 1 tail.2 ls base ch (e ∷ ch) refl tail.3, tail.9), tail.10)))
      (λ q d h. misled_sim code ls b base home g q k d ch h))

  pub tagging_done : (p : ℕ) (gives : Bool) (v : Content) (t : Tree) (ch : List Environ) (k : ℕ) → Done program code ls (tagging p gives v t) ch k b base home g
  unfolding start resumed
  tagging_done p gives v t [] k acc tail =
      on_bare program code ls b base home g (tagging p gives v t) [] k acc (item.Value v ∷ base)
      (moves_fault program code ls _ _ _ fault.Kind p (row_done program (tagging p gives v t) [] acc)
      (at_instr code k p (item.Value v ∷ base) [] (does.Bind 0) tail.4.0 refl ∙ ap (λ x. Some (meets fault.Kind x)) (place_is code k p (does.Bind 0) tail.4.0))
      (is_inside code k p (does.Bind 0) tail.4.0))
  tagging_done p gives v t (e ∷ outer) k acc tail =
      on_bare program code ls b base home g (tagging p gives v t) (e ∷ outer) k acc (item.Value v ∷ base)
      (moves_act program code ls _ _ _ p w _ (told_by code st (waiting.Operation next.Void)) (row_done program (tagging p gives v t) (e ∷ outer) acc)
      (at_instr code k p (item.Value v ∷ base) (e ∷ outer) (does.Bind 0) tail.4.0 refl ∙ ap (λ x. Some (acts x w (told_by code st (waiting.Operation next.Void)))) (place_is code k p (does.Bind 0) tail.4.0))
      (is_inside code k p (does.Bind 0) tail.4.0) told refl)
    where
      w : Want
      w = want.Bind e.frame 0 v

      st : State
      st = asks_for (idle k (item.Value v ∷ base) (e ∷ outer)) base (Asking (want.Bind e.frame 0 v) (waiting.Operation next.Void))

      leaves_none : leaves_at code k ≡ false
      leaves_none = ap (λ (o : Option Does). option_map_or (does_leave code.modes) o false) (does_is code k p (does.Bind 0) tail.4.0)

      misled_here : Sim code ls b base home g (rows.misled p (e ∷ outer)) (fails (idle k [] (e ∷ outer)) fault.Kind)
      misled_here = misled_sim code ls b base home g p k (does.Bind 0) (e ∷ outer) tail.4.0

      by_leaves : (y : Bool) → y ≡ false → (r : Reply)
          → Sim code ls b base home g (turned p (e ∷ outer) (part (ranged p gives) (e ∷ outer) (only (todo t (e ∷ outer)))) r) (follows st y base (resumed code.modes next.Void r))
      by_leaves true is r = absurd (cc)
      by_leaves false is reply.Go = (
        [],
        tail.3,
        (tail.3, refl, (tail.5.0, tail.5.1, refl), record { a = tail.2; lie = tail.5.0; agrees = tail.5.1; stands = tail.5.2; chain = refl; state = ap (λ n. idle n base (e ∷ outer)) (next_is k tail.2 tail.4.1) }),
        (refl, tail.1, tail.6, tail.0),
      )
      by_leaves false is (reply.Frame chain) = misled_here
      by_leaves false is (reply.Value x) = misled_here
      by_leaves false is (reply.Base cell) = misled_here
      by_leaves false is (reply.Held (held.Plain x)) = misled_here
      by_leaves false is (reply.Held (held.Rows d)) = misled_here
      by_leaves false is (reply.Held (held.Member m cell)) = misled_here

      told : (r : Reply) → Sim code ls b base home g (turned p (e ∷ outer) (part (ranged p gives) (e ∷ outer) (only (todo t (e ∷ outer)))) r) (told_by code st (waiting.Operation next.Void) r)
      told r = by_leaves (leaves_at code k) leaves_none r

  pub passing_done : (v : Content) (t : Tree) (ch : List Environ) (k : ℕ) → Done program code ls (passing v t) ch k b base home g
  unfolding start
  passing_done v t ch k acc tail =
      on_bare program code ls b base home g (passing v t) ch k acc (item.Value v ∷ base)
      (moves_on program code ls _ _ _ _ (idle (suc k) base ch) (row_done program (passing v t) ch acc) (at_instr code k tail.1 (item.Value v ∷ base) ch does.Drop tail.3.0 refl)
      (is_inside code k tail.1 does.Drop tail.3.0) (inl (refl, inl (omega arith)))
      (record { a = tail.2; lie = tail.4.0; agrees = subst (λ (c : List Environ). Agrees tail.4.0 ls base c) tail.0 tail.4.1; stands = tail.4.2; chain = tail.0; state = ap (λ n. idle n base ch) (next_is k tail.2 tail.3.1) ∙ ap (λ c. idle tail.2 base c) tail.0 }))
