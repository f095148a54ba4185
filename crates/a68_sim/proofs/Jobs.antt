-- What comes next once the parts at hand have yielded, job by job.
use Rattle.std.proofs.Common.{◌≡◌, ◌<◌, ◌≤◌, ◌⊎◌, ℕ, zero, suc, arith, Bool, true, false, List, [], ◌∷◌, None, Some, refl, sym, ap, ◌∙◌, subst, inl, inr, nat_lt}
use Rattle.std.specs.Option.{option_map, option_map_or}
use Rattle.std.specs.Prelude.{Ok, Err, ◌-◌, length, pos, negsuc, slice_get, slice_index_or, if◌then◌else◌}
use Rattle.std.proofs.lemmas.Bool.{ltb-true}
use Rattle.std.proofs.lemmas.Option.{same_Some}
use Rattle.std.specs.declared.option.Option.{Option}
use Rattle.std.specs.declared.result.Result.{Result}
use Rattle.a68_acts.specs.Operations.{Operation, leaves, start, resumed, tested, case_of, yielding, counter_of, has_turn, advanced}
use Rattle.a68_acts.specs.declared.operation.Counter.{Counter}
use Rattle.a68_acts.specs.declared.operation.Next.TheVariants as next
use Rattle.a68_acts.specs.declared.want.Reply.{Reply}
use Rattle.a68_acts.specs.declared.want.Reply.TheVariants as reply
use Rattle.a68_acts.specs.declared.want.Want.TheVariants as want
use Rattle.a68_code.specs.Flow.{does_at}
use Rattle.a68_code.specs.declared.code.Code.{Code}
use Rattle.a68_values.specs.declared.plain.Plain.TheVariants as value
use Rattle.a68_acts.specs.declared.want.Want.{Want}
use Rattle.a68_code.specs.declared.does.Does.{Does}
use Rattle.a68_code.specs.declared.does.Does.TheVariants as does
use Rattle.a68_elab.specs.Positions.{here}
use Rattle.a68_elab.specs.Rows.{in_turn, goes, acts, meets, goes_with, counted, turned, finish, row}
use Rattle.a68_elab.specs.Rows as rows
use Rattle.a68_elab.specs.Terms.{Job, operating, resuming, gathering, ending, ranged, choosing, casing, chosen, limiting, counting, stepping, turning, opening, naming, indexing, ranging, testing, running, advancing, quitting, leaving, Term, todo, part, yielded, no_terms, ◌and_term◌, only}
use Rattle.a68_elab.specs.Trees.{Tree, Trees, no_trees, ◌and_tree◌, count, Order, Test, no_test, while_in, LoopTurns, depth, depth_of, Program}
use Rattle.a68_emit.specs.Stretches.{Indexes, Leaves, Has, Lie, above, deeper_by, Stands, StandArms, Tests, with_last, does_of, leave}
use Rattle.a68_modes.specs.declared.shape.Shape.{Shape}
use Rattle.a68_ops.specs.Applied.{applied}
use Rattle.a68_ops.specs.Yields.{Yield}
use Rattle.a68_sim.proofs.Asking.{idle, seen, ask, at_instr, place_is, does_is, is_inside, Back, next_is}
use Rattle.a68_gen.proofs.Forward.{forward, forward_index, forward_leaves, forward_arms, forward_test}
use Rattle.a68_heights.proofs.Forks.{start_forkless}
use Rattle.a68_sim.proofs.Landings.{Landing, Agrees, agrees_counter, agrees_deeper}
use Rattle.a68_sim.proofs.Operating.{exec_of, not_end, operation_begins, operation_goes_on}
use Rattle.a68_sim.proofs.Quiet.{progress_row, still, quietly, outwards, Progress, moves, finishes, moves_on, moves_act, moves_fault}
use Rattle.a68_sim.proofs.Relation.{Hangs, bit_of, pose_of, ready, push, callers_left, count_terms, posed, parts_give, inner, LoopAt, Tail, Sim, yields, left, onto, size, values_yields, pops_left, count_yields, left_none, does_yields}
use Rattle.a68_instructions.specs.Machine.{back, leaves_at, does_leave, State, exec, follows, fails, goes_on, goes_to, branches, chooses as goes_by, with_counter, told_by, asks_for}
use Rattle.a68_stack.specs.Values.{pop_values}
use Rattle.a68_instructions.specs.declared.ask.Stance.TheVariants.{Asking}
use Rattle.a68_instructions.specs.declared.ask.Waiting.TheVariants as waiting
use Rattle.a68_stack.specs.declared.stack.Item.{Item}
use Rattle.a68_stack.specs.declared.stack.Item.TheVariants as item
use Rattle.a68_values.specs.Content.{Content, void, plain, scope_of}
use Rattle.a68_values.specs.declared.act.FaultKind.{FaultKind}
use Rattle.a68_values.specs.declared.act.FaultKind.TheVariants as fault
use Rattle.a68_values.specs.declared.chain.Environ.{Environ}
use Rattle.a68_values.specs.declared.held.Held.TheVariants as held

pub row_done : (program : Program) (job : Job) (ch : List Environ) (acc : List Content)
    → row program (part job ch (yields acc no_terms)) ≡ Some (finish program job ch (onto acc []))
row_done program job ch acc = ap (option_map (finish program job ch)) (values_yields acc no_terms [] refl)

-- the job's parts have all yielded: what comes next
abbrev pub Done : Program → Code → List Landing → Job → List Environ → ℕ → ℕ → List Item → List Environ → Bool → Type 0
Done program code ls job ch k b base home g =
    (acc : List Content) → Tail code ls job [] (count_terms (yields acc no_terms)) ch k b base home g
    → Progress program code ls (Sim code ls b base home g) (part job ch (yields acc no_terms))
    (posed code (pose_of job) k (left (parts_give job g) acc (inner job b home base)) ch (parts_give job g))

-- a frame is left
hangs_out : (n : ℕ) (ch home : List Environ) → Hangs (suc n) ch home → Hangs n (outwards ch) home
hangs_out n [] home e = absurd (cc)
hangs_out n (x ∷ ch) home e = e

-- a list of parts has another length
pub two_or_more : (v w : Content) (acc : List Content) → count_terms (yields (v ∷ (w ∷ acc)) no_terms) ≡ 1 → ⊥
two_or_more v w acc e = absurd (omega (arith, e, count_yields (v ∷ (w ∷ acc)) no_terms))

-- a reply to another act
pub misled_sim : (code : Code) (ls : List Landing) (b : ℕ) (base : List Item) (home : List Environ) (g : Bool) (p k : ℕ) (d : Does) (ch : List Environ)
    → slice_get code.list k ≡ Some (record { place = p; does = d }) → Sim code ls b base home g (rows.misled p ch) (fails (idle k [] ch) fault.Kind)
misled_sim code ls b base home g p k d ch h = ([], k, refl, (refl, (d, h)))

-- a number chooses one of so many parts, or none of them
pub case_within : (n : ℕ) (v : Content) (k : ℕ) → case_of n v ≡ Ok k → k ≤ n
unfolding case_of
case_within n (plain (value.Int (pos (suc i)))) k e = by_test (nat_lt i n) (ltb-true i n) e
  where
    by_test : (less : Bool) → (less ≡ true → i < n) → ◌≡◌ {A = Result ℕ FaultKind} (Ok (if less then i else n)) (Ok k) → k ≤ n
    by_test true is f = let same : i ≡ k = cc in let l = is refl in omega arith
    by_test false is f = let same : n ≡ k = cc in omega arith
case_within n (plain (value.Int (pos zero))) k e = let same : n ≡ k = cc in omega arith
case_within n (plain (value.Int (negsuc i))) k e = let same : n ≡ k = cc in omega arith
case_within n v k e = absurd (cc)

module _ (program : Program) (code : Code) (ls : List Landing) where
  -- a frame is left
  leaves_frame : (p k b : ℕ) (g yields : Bool) (ch : List Environ) (base : List Item) (home : List Environ) (t : Term) (v : Content) → g ≡ yields → Has code p (leave g) k b
      → outwards ch ≡ home → row program t ≡ Some (rows.leaves p yields ch v) → Progress program code ls (Sim code ls b base home g) t (idle k (push g v base) ch)
  leaves_frame p k b g yields [] base home t v eg has ec e =
      moves_fault program code ls _ t _ fault.Kind p e
      (at_instr code k p (push g v base) [] (leave g) has.0 refl ∙ ap (λ x. Some (meets fault.Kind x)) (place_is code k p (leave g) has.0))
      (is_inside code k p (leave g) has.0)
  leaves_frame p k b g yields (x ∷ []) base home t v eg has ec e =
      moves_fault program code ls _ t _ fault.Kind p e
      (at_instr code k p (push g v base) (x ∷ []) (leave g) has.0 refl ∙ ap (λ x. Some (meets fault.Kind x)) (place_is code k p (leave g) has.0))
      (is_inside code k p (leave g) has.0)
  leaves_frame p k b false true (x ∷ (o ∷ outer)) base home t v eg has ec e = absurd (cc)
  leaves_frame p k b true false (x ∷ (o ∷ outer)) base home t v eg has ec e = absurd (cc)
  leaves_frame p k b false false (x ∷ (o ∷ outer)) base home t v eg has ec e =
      moves_on program code ls _ t _ _ (idle (suc k) base (o ∷ outer)) e (at_instr code k p base (x ∷ (o ∷ outer)) (leave false) has.0 refl)
      (is_inside code k p (leave false) has.0) (inl (refl, inl (omega arith)))
      (ap (λ n. idle n base (o ∷ outer)) (next_is k b has.1) ∙ ap (λ c. idle b base c) ec)
  leaves_frame p k b true true (x ∷ (o ∷ outer)) base home t v eg has ec e =
      by_test (nat_lt o.scope (scope_of v)) e (at_instr code k p (item.Value v ∷ base) (x ∷ (o ∷ outer)) (leave true) has.0 refl)
    where
      st : State
      st = idle k (item.Value v ∷ base) (x ∷ (o ∷ outer))

      by_test : (newer : Bool) → row program t ≡ Some (if newer then meets fault.Scope p else goes (yielded v))
          → ask code st ≡ Some (seen code (if newer then fails st fault.Scope else idle (suc k) (item.Value v ∷ base) (o ∷ outer)))
          → Progress program code ls (Sim code ls b base home true) t st
      by_test true e a =
          moves_fault program code ls _ t _ fault.Scope p e (a ∙ ap (λ x. Some (meets fault.Scope x)) (place_is code k p (leave true) has.0))
          (is_inside code k p (leave true) has.0)
      by_test false e a =
          moves_on program code ls _ t _ _ (idle (suc k) (item.Value v ∷ base) (o ∷ outer)) e a (is_inside code k p (leave true) has.0) (inl (refl, inl (omega arith)))
          (ap (λ n. idle n (item.Value v ∷ base) (o ∷ outer)) (next_is k b has.1) ∙ ap (λ c. idle b (item.Value v ∷ base) c) ec)

  -- an enquiry is tested
  branch : (b : ℕ) (base : List Item) (home : List Environ) (g : Bool) (p k x : ℕ) (v : Content) (items : List Item) (ch : List Environ) (t : Term) (f : Bool → Term)
      → slice_get code.list k ≡ Some (record { place = p; does = does.Unless x }) → k < x → row program t ≡ Some (goes_with p f (tested v))
      → ((answer : Bool) → Sim code ls b base home g (f answer) (idle (if answer then suc k else x) items ch))
      → Progress program code ls (Sim code ls b base home g) t (idle k (item.Value v ∷ items) ch)
  branch b base home g p k x v items ch t f h less e keeps = by_answer (tested v) e (at_instr code k p (item.Value v ∷ items) ch (does.Unless x) h refl)
    where
      st : State
      st = idle k (item.Value v ∷ items) ch

      by_answer : (answer : Result Bool FaultKind) → row program t ≡ Some (goes_with p f answer) → ask code st ≡ Some (seen code (branches st x items answer))
          → Progress program code ls (Sim code ls b base home g) t st
      by_answer (Ok true) e a = moves_on program code ls _ t _ _ (idle (suc k) items ch) e a (is_inside code k p (does.Unless x) h) (inl (refl, inl (omega arith))) (keeps true)
      by_answer (Ok false) e a = moves_on program code ls _ t _ _ (idle x items ch) e a (is_inside code k p (does.Unless x) h) (inl (refl, inl less)) (keeps false)
      by_answer (Err why) e a =
          moves_fault program code ls _ t _ why p e (a ∙ ap (λ x. Some (meets why x)) (place_is code k p (does.Unless x) h)) (is_inside code k p (does.Unless x) h)

  module _ (b : ℕ) (base : List Item) (home : List Environ) (g : Bool) where
    -- what parts leave that leave nothing
    pub on_bare : (job : Job) (ch : List Environ) (k : ℕ) (acc : List Content) (items : List Item)
        → Progress program code ls (Sim code ls b base home g) (part job ch (yields acc no_terms)) (idle k items ch)
        → Progress program code ls (Sim code ls b base home g) (part job ch (yields acc no_terms)) (idle k (left false acc items) ch)
    on_bare job ch k acc items x =
        subst (λ (s : List Item). Progress program code ls (Sim code ls b base home g) (part job ch (yields acc no_terms)) (idle k s ch)) (sym (left_none acc items)) x

    pub operating_done : (same : code.modes ≡ program.modes) (p : ℕ) (op : Operation) (o : Order) (ch : List Environ) (k : ℕ) → Done program code ls (operating p op o) ch k b base home g
    operating_done same p op o ch k acc tail =
        let at = tail.0 in
        let n = count_terms (yields acc no_terms) in
        let st = idle k (left true acc base) ch in
        let en : n ≡ size acc = omega (arith, count_yields acc no_terms) in
        let pop : pop_values n (left true acc base) [] ≡ Some (onto acc [], base) =
        ap (λ x. pop_values x (left true acc base) []) en ∙ pops_left acc base [] in
        let done : exec code (does_of op n) st ≡ follows st g base (start program.modes op ch (onto acc [])) =
        exec_of code op n st at.enough
        ∙ ap (λ x. option_map_or (λ popped. follows st (leaves code.modes op) popped.1 (start code.modes op ch popped.0)) x (fails st fault.Kind)) pop
        ∙ ap (λ x. follows st x base (start code.modes op ch (onto acc []))) (sym at.gives)
        ∙ ap (λ (modes : List Shape). follows st g base (start modes op ch (onto acc []))) same in
        operation_begins program code ls same b base home g p op n k ch (left true acc base) _ (start program.modes op ch (onto acc [])) at tail.1 (sym (callers_left true acc base))
        (row_done program (operating p op o) ch acc)
        (at_instr code k p (left true acc base) ch (does_of op n) at.has.0 (not_end op n) ∙ ap (λ s. Some (seen code s)) done)
        (start_forkless program.modes op ch (onto acc []))

    pub resuming_done : (same : code.modes ≡ program.modes) (p : ℕ) (d : _) (ch : List Environ) (k : ℕ) → Done program code ls (resuming p d) ch k b base home g
    resuming_done same p d ch k [] tail = operation_goes_on program code ls same b base home g p k ch d tail.1
    resuming_done same p d ch k (v ∷ acc) tail = absurd (omega (arith, tail.0, count_yields (v ∷ acc) no_terms))

    pub gathering_done : (ch : List Environ) (k : ℕ) → Done program code ls gathering ch k b base home g
    gathering_done ch k acc tail =
        finishes void (quietly (λ own. here) (row_done program gathering ch acc) still)
        (ap (λ s. idle k s ch) (left_none acc base) ∙ ap (λ n. idle n base ch) tail.1 ∙ ap (λ c. idle b base c) tail.2
        ∙ ap (λ (x : Bool). idle b (push x void base) home) (sym tail.0))

    pub ending_done : (ch : List Environ) (k : ℕ) → Done program code ls ending ch k b base home g
    ending_done ch k [] tail = absurd (omega (arith, tail.0))
    ending_done ch k (v ∷ (w ∷ acc)) tail = absurd (two_or_more v w acc tail.0)
    ending_done ch k (v ∷ []) tail =
        finishes v (quietly (λ own. here) (row_done program ending ch (v ∷ [])) still)
        (ap (λ n. idle n (push g v base) ch) tail.1 ∙ ap (λ c. idle b (push g v base) c) tail.2)

    pub ranged_done : (out : ℕ) (gives : Bool) (ch : List Environ) (k : ℕ) → Done program code ls (ranged out gives) ch k b base home g
    ranged_done out gives ch k [] tail = absurd (omega (arith, tail.0))
    ranged_done out gives ch k (v ∷ (w ∷ acc)) tail = absurd (two_or_more v w acc tail.0)
    ranged_done out gives ch k (v ∷ []) tail =
        leaves_frame out k b g gives ch base home _ v tail.1 tail.2 tail.3 (row_done program (ranged out gives) ch (v ∷ []))

    pub choosing_done : (p : ℕ) (if_true if_false : Tree) (ch : List Environ) (k : ℕ) → Done program code ls (choosing p if_true if_false) ch k b base home g
    choosing_done p if_true if_false ch k [] tail = absurd (omega (arith, tail.1))
    choosing_done p if_true if_false ch k (v ∷ (w ∷ acc)) tail = absurd (two_or_more v w acc tail.1)
    choosing_done p if_true if_false ch k (v ∷ []) tail =
        branch b base home g p k tail.6 v base ch _ (λ answer. part chosen ch (only (todo (if answer then if_true else if_false) ch))) tail.7.0 less
        (row_done program (choosing p if_true if_false) ch (v ∷ [])) keeps
      where
        less : k < tail.6
        less = let x = forward code tail.2 g if_true tail.4 tail.5 tail.8 in let y = tail.7.1 in let z = tail.9.1 in omega arith

        keeps : (answer : Bool) → Sim code ls b base home g (part chosen ch (only (todo (if answer then if_true else if_false) ch))) (idle (if answer then suc k else tail.6) base ch)
        keeps true = (
          [],
          tail.5,
          (tail.5, refl, (tail.2, tail.3, refl), record { a = tail.4; lie = tail.2; agrees = tail.3; stands = tail.8; chain = refl; state = ap (λ n. idle n base ch) (next_is k tail.4 tail.7.1) }),
          (tail.0, refl, inr (p, tail.6, tail.9, (let x = forward code tail.2 g if_false tail.6 b tail.10 in let y = tail.9.1 in omega arith))),
        )
        keeps false = (
          [],
          b,
          (b, refl, (tail.2, tail.3, refl), record { a = tail.6; lie = tail.2; agrees = tail.3; stands = tail.10; chain = refl; state = refl }),
          (tail.0, refl, inl refl),
        )

    -- the part that a number chooses: the k-th stands at the k-th place, and that for no number at the last one
    arm_sim : (p : ℕ) (ch : List Environ) → ch ≡ home → (lie : Lie) → Agrees lie ls base ch → (arms : Trees) (out : Tree) (places : List ℕ) (m x : ℕ)
        → StandArms code lie g p b arms places m x → Stands code lie g out x b → (k : ℕ) → k ≤ count arms
        → Sim code ls b base home g (rows.chooses ch (rows.arm arms k out)) (idle (slice_index_or (with_last places x) k 0) base ch) × (m ≤ slice_index_or (with_last places x) k 0)
    arm_sim p ch ec lie agrees no_trees out [] m x s last zero le =
        (([], b, (b, refl, (lie, agrees, refl), record { a = x; lie = lie; agrees = agrees; stands = last; chain = refl; state = refl }), (ec, refl, inl refl)), omega arith)
    arm_sim p ch ec lie agrees no_trees out [] m x s last (suc k) le = absurd (omega arith)
    arm_sim p ch ec lie agrees no_trees out (q ∷ ps) m x s last k le = absurd s
    arm_sim p ch ec lie agrees (t and_tree ts) out [] m x s last k le = absurd s
    arm_sim p ch ec lie agrees (t and_tree ts) out (q ∷ ps) m x s last zero le =
        let f1 = forward_arms code lie g p b ts ps s.1 x s.5 in let f2 = forward code lie g out x b last in let n = s.4.1 in let same = s.2 in (
          (
            [],
            s.0,
            (s.0, refl, (lie, agrees, refl), record { a = m; lie = lie; agrees = agrees; stands = s.3; chain = refl; state = ap (λ y. idle y base ch) s.2 }),
            (ec, refl, inr (p, s.1, s.4, omega arith)),
          ),
          omega arith,
        )
    arm_sim p ch ec lie agrees (t and_tree ts) out (q ∷ ps) m x s last (suc k) le =
        let y = arm_sim p ch ec lie agrees ts out ps s.1 x s.5 last k (omega arith) in
        let f = forward code lie g t m s.0 s.3 in let n = s.4.1 in let z = y.1 in
        (y.0, omega arith)

    arms_long : (lie : Lie) (p e : ℕ) (arms : Trees) (places : List ℕ) (m x z : ℕ) → StandArms code lie g p e arms places m x → length (with_last places z) ≡ suc (count arms)
    arms_long lie p e no_trees [] m x z s = refl
    arms_long lie p e no_trees (q ∷ ps) m x z s = absurd s
    arms_long lie p e (t and_tree ts) [] m x z s = absurd s
    arms_long lie p e (t and_tree ts) (q ∷ ps) m x z s = ap (λ n. suc n) (arms_long lie p e ts ps s.1 x z s.5)

    pub casing_done : (p : ℕ) (arms : Trees) (out : Tree) (ch : List Environ) (k : ℕ) → Done program code ls (casing p arms out) ch k b base home g
    casing_done p arms out ch k [] tail = absurd (omega (arith, tail.1))
    casing_done p arms out ch k (v ∷ (w ∷ acc)) tail = absurd (two_or_more v w acc tail.1)
    casing_done p arms out ch k (v ∷ []) tail =
        let long = arms_long tail.2 p b arms tail.6 tail.4 tail.5 tail.5 tail.8 in
        let parts : length (with_last tail.6 tail.5) - 1 ≡ count arms = omega arith in
        by_result (case_of (count arms) v) refl (row_done program (casing p arms out) ch (v ∷ []))
        (at_instr code k p (item.Value v ∷ base) ch (does.Case (with_last tail.6 tail.5)) tail.7.0 refl ∙ ap (λ n. Some (seen code (goes_by st (with_last tail.6 tail.5) base (case_of n v)))) parts)
      where
        st : State
        st = idle k (item.Value v ∷ base) ch

        t : Term
        t = part (casing p arms out) ch (yields (v ∷ []) no_terms)

        by_result : (res : Result ℕ FaultKind) → case_of (count arms) v ≡ res → row program t ≡ Some (goes_with p (λ n. rows.chooses ch (rows.arm arms n out)) res)
            → ask code st ≡ Some (seen code (goes_by st (with_last tail.6 tail.5) base res)) → Progress program code ls (Sim code ls b base home g) t st
        by_result (Ok n) is e a =
            let y = arm_sim p ch tail.0 tail.2 tail.3 arms out tail.6 tail.4 tail.5 tail.8 tail.9 n (case_within (count arms) v n is) in
            let z = y.1 in let w = tail.7.1 in
            moves_on program code ls _ t _ _ (idle (slice_index_or (with_last tail.6 tail.5) n 0) base ch) e a (is_inside code k p (does.Case (with_last tail.6 tail.5)) tail.7.0) (inl (refl, inl (omega arith))) y.0
        by_result (Err why) is e a =
            moves_fault program code ls _ t _ why p e (a ∙ ap (λ x. Some (meets why x)) (place_is code k p (does.Case (with_last tail.6 tail.5)) tail.7.0))
            (is_inside code k p (does.Case (with_last tail.6 tail.5)) tail.7.0)

    pub chosen_done : (ch : List Environ) (k : ℕ) → Done program code ls chosen ch k b base home g
    chosen_done ch k [] tail = absurd (omega (arith, tail.1))
    chosen_done ch k (v ∷ (w ∷ acc)) tail = absurd (two_or_more v w acc tail.1)
    chosen_done ch k (v ∷ []) tail = by_place tail.2
      where
        by_place : (k ≡ b) ⊎ ((p x : ℕ) × Has code p (does.Jump b) k x × (k < b))
            → Progress program code ls (Sim code ls b base home g) (part chosen ch (yields (v ∷ []) no_terms)) (idle k (push g v base) ch)
        by_place (inl at_b) =
            finishes v (quietly (λ own. here) (row_done program chosen ch (v ∷ [])) still)
            (ap (λ n. idle n (push g v base) ch) at_b ∙ ap (λ c. idle b (push g v base) c) tail.0)
        by_place (inr jump) =
            moves_on program code ls _ _ _ _ (idle b (push g v base) ch) (row_done program chosen ch (v ∷ []))
            (at_instr code k jump.0 (push g v base) ch (does.Jump b) jump.2.0 refl) (is_inside code k jump.0 (does.Jump b) jump.2.0)
            (inl (refl, inl jump.3)) (ap (λ c. idle b (push g v base) c) tail.0)

    -- TO is looked at alone
    pub limiting_done : (l : LoopTurns) (ch : List Environ) (k : ℕ) → Done program code ls (limiting l) ch k b base home g
    unfolding start
    limiting_done l ch k [] tail = absurd (omega (arith, tail.2))
    limiting_done l ch k (v ∷ []) tail = absurd (omega (arith, tail.2))
    limiting_done l ch k (v ∷ (w ∷ [])) tail = absurd (omega (arith, tail.2))
    limiting_done l ch k (v ∷ (w ∷ (x ∷ (y ∷ acc)))) tail = absurd (omega (arith, tail.2, count_yields (v ∷ (w ∷ (x ∷ (y ∷ acc)))) no_terms))
    limiting_done l ch k (to ∷ (by ∷ (from ∷ []))) tail =
        by_result (applied 26 void to) (row_done program (limiting l) ch (to ∷ (by ∷ (from ∷ []))))
        (at_instr code k l.place (item.Value to ∷ (item.Value by ∷ (item.Value from ∷ base))) ch (does.Apply 26) tail.5.0 refl)
      where
        st : State
        st = idle k (item.Value to ∷ (item.Value by ∷ (item.Value from ∷ base))) ch

        t : Term
        t = part (limiting l) ch (yields (to ∷ (by ∷ (from ∷ []))) no_terms)

        by_result : (res : Yield) → row program t ≡ Some (goes_with l.place (λ v. part (counting l) ch (yielded from and_term (yielded by and_term only (yielded v)))) res)
            → ask code st ≡ Some (seen code (follows st true (item.Value by ∷ (item.Value from ∷ base)) (yielding res))) → Progress program code ls (Sim code ls b base home g) t st
        by_result (Ok v) e a =
            let items = item.Value v ∷ (item.Value by ∷ (item.Value from ∷ base)) in
            moves_on program code ls _ t _ _ (idle (suc k) items ch) e a (is_inside code k l.place (does.Apply 26) tail.5.0) (inl (refl, inl (omega arith)))
            ([], tail.3, ap (λ n. idle n items ch) (next_is k tail.3 tail.5.1), (tail.0, tail.1, refl, tail.4, tail.6, tail.7))
        by_result (Err why) e a =
            moves_fault program code ls _ t _ why l.place e (a ∙ ap (λ x. Some (meets why x)) (place_is code k l.place (does.Apply 26) tail.5.0)) (is_inside code k l.place (does.Apply 26) tail.5.0)

    pub counting_done : (l : LoopTurns) (ch : List Environ) (k : ℕ) → Done program code ls (counting l) ch k b base home g
    counting_done l ch k [] tail = absurd (omega (arith, tail.2))
    counting_done l ch k (v ∷ []) tail = absurd (omega (arith, tail.2))
    counting_done l ch k (v ∷ (w ∷ [])) tail = absurd (omega (arith, tail.2))
    counting_done l ch k (v ∷ (w ∷ (x ∷ (y ∷ acc)))) tail = absurd (omega (arith, tail.2, count_yields (v ∷ (w ∷ (x ∷ (y ∷ acc)))) no_terms))
    counting_done l ch k (to ∷ (by ∷ (from ∷ []))) tail =
        by_result (counter_of from by to) (row_done program (counting l) ch (to ∷ (by ∷ (from ∷ []))))
        (at_instr code k l.place (item.Value to ∷ (item.Value by ∷ (item.Value from ∷ base))) ch does.Counter tail.4.0 refl)
      where
        st : State
        st = idle k (item.Value to ∷ (item.Value by ∷ (item.Value from ∷ base))) ch

        t : Term
        t = part (counting l) ch (yields (to ∷ (by ∷ (from ∷ []))) no_terms)

        by_result : (res : Result Counter FaultKind) → row program t ≡ Some (goes_with l.place (λ c. part (stepping c l) ch no_terms) res)
            → ask code st ≡ Some (seen code (with_counter st base res)) → Progress program code ls (Sim code ls b base home g) t st
        by_result (Ok c) e a =
            moves_on program code ls _ t _ _ (idle (suc k) (item.Counter c ∷ base) ch) e a (is_inside code k l.place does.Counter tail.4.0) (inl (refl, inl (omega arith)))
            ([], tail.3, ap (λ n. idle n (item.Counter c ∷ base) ch) (next_is k tail.3 tail.4.1), (tail.0, tail.1, tail.5))
        by_result (Err why) e a =
            moves_fault program code ls _ t _ why l.place e (a ∙ ap (λ x. Some (meets why x)) (place_is code k l.place does.Counter tail.4.0)) (is_inside code k l.place does.Counter tail.4.0)

    -- the places of a loop, in order
    in_loop : (l : LoopTurns) (t : ℕ) (x : LoopAt code ls base home l t b) → (t < x.e) × (x.x ≤ x.f) × (suc x.n' < x.e)
    in_loop l t x =
        let i = forward_index code l.counts l.place x.u x.w x.index in let o = forward_test code (deeper_by (bit_of l.counts) (above true x.lie)) l.test l.place x.f x.w x.x x.tests in
        let c = forward code (deeper_by (depth l) (above true x.lie)) false l.body x.x x.n x.body_at in
        let q = forward_leaves code l.place (depth l) x.n x.n' x.out in let r = forward_leaves code l.place (depth l) x.f x.e x.quit in
        let p2 = x.step.1 in let p3 = x.turn.1 in let p5 = x.advance.1 in let p6 = x.jump.1 in
        (omega arith, omega arith, omega arith)

    pub stepping_done : (c : Counter) (l : LoopTurns) (ch : List Environ) (k : ℕ) → Done program code ls (stepping c l) ch k b base home g
    stepping_done c l ch k acc tail =
        on_bare (stepping c l) ch k acc (item.Counter c ∷ base)
        (by_test (has_turn c) (row_done program (stepping c l) ch acc) (at_instr code k l.place (item.Counter c ∷ base) ch (does.Step tail.2.e) tail.2.step.0 refl))
      where
        by_test : (more : Bool)
            → row program (part (stepping c l) ch (yields acc no_terms)) ≡ Some (goes (if more then part (turning c l) ch no_terms else part (leaving c) ch no_terms))
            → ask code (idle k (item.Counter c ∷ base) ch) ≡ Some (seen code (if more then idle (suc k) (item.Counter c ∷ base) ch else idle tail.2.e (item.Counter c ∷ base) ch))
            → Progress program code ls (Sim code ls b base home g) (part (stepping c l) ch (yields acc no_terms)) (idle k (item.Counter c ∷ base) ch)
        by_test true e a =
            let x = tail.2 in
            moves_on program code ls _ _ _ _ (idle (suc k) (item.Counter c ∷ base) ch) e a (is_inside code k l.place (does.Step x.e) x.step.0) (inl (refl, inl (omega arith)))
            ([], x.t', ap (λ n. idle n (item.Counter c ∷ base) ch) (next_is k x.t' x.step.1), (tail.0, tail.1, k, x, refl))
        by_test false e a =
            let x = tail.2 in
            moves_on program code ls _ _ _ _ (idle x.e (item.Counter c ∷ base) ch) e a (is_inside code k l.place (does.Step x.e) x.step.0)
            (inl (refl, inl (in_loop l k x).0)) ([], x.e, refl, (tail.0, tail.1, l.place, inl x.forget))

    -- how the parts of a turn lie: over the counter, within the frames of the turn
    turn_agrees : (c : Counter) (l : LoopTurns) (t : ℕ) (x : LoopAt code ls base home l t b) (n : ℕ) (ch : List Environ) → Hangs n ch home
        → Agrees (deeper_by n (above true x.lie)) ls (item.Counter c ∷ base) ch
    turn_agrees c l t x n ch hangs = agrees_deeper n (above true x.lie) ls (item.Counter c ∷ base) home ch hangs (agrees_counter x.lie ls c base home x.agrees)

    -- a turn: the test, or at once the body
    turn_sim : (c : Counter) (l : LoopTurns) (test : Test) → l.test ≡ test → (ch : List Environ) → g ≡ false → Hangs (bit_of l.counts) ch home → (t : ℕ)
        (x : LoopAt code ls base home l t b) → (st : State) → st ≡ idle x.w (item.Counter c ∷ base) ch → Sim code ls b base home g (in_turn test c l ch) st
    turn_sim c l no_test is ch eg hangs t x st e =
        let same : x.w ≡ x.x = subst (λ (z : Test). Tests code (deeper_by (bit_of l.counts) (above true x.lie)) z l.place x.f x.w x.x) is x.tests in
        let deep : depth l ≡ bit_of l.counts = ap (depth_of l.counts) is in
        let hangs2 : Hangs (depth l) ch home = ap (λ (n : ℕ). back n ch) deep ∙ hangs in
        let lie = deeper_by (depth l) (above true x.lie) in
        let agrees = turn_agrees c l t x (depth l) ch hangs2 in (
          [],
          x.n,
          (x.n, refl, (lie, agrees, refl), record { a = x.w; lie = lie; agrees = agrees; stands = subst (λ (n : ℕ). Stands code lie false l.body n x.n) (sym same) x.body_at; chain = refl; state = e }),
          (eg, hangs2, t, x, refl),
        )
    turn_sim c l (while_in at zero test) is ch eg hangs t x st e =
        let lie1 = deeper_by (bit_of l.counts) (above true x.lie) in
        let y : Tests code lie1 (while_in at zero test) l.place x.f x.w x.x = subst (λ (z : Test). Tests code lie1 z l.place x.f x.w x.x) is x.tests in
        let deep : depth l ≡ bit_of l.counts = ap (depth_of l.counts) is in
        let lie = deeper_by 0 lie1 in
        let agrees = agrees_deeper 0 lie1 ls (item.Counter c ∷ base) ch ch refl (turn_agrees c l t x (bit_of l.counts) ch hangs) in (
          [],
          y.1,
          (y.1, refl, (lie, agrees, refl), record { a = x.w; lie = lie; agrees = agrees; stands = subst (λ (n : ℕ). Stands code lie true test n y.1) (sym y.2) y.3; chain = refl; state = e }),
          (eg, ap (λ (n : ℕ). back n ch) deep ∙ hangs, refl, t, x, y.4),
        )
    turn_sim c l (while_in at (suc s) test) is ch eg hangs t x st e =
        let lie1 = deeper_by (bit_of l.counts) (above true x.lie) in
        let y : Tests code lie1 (while_in at (suc s) test) l.place x.f x.w x.x = subst (λ (z : Test). Tests code lie1 z l.place x.f x.w x.x) is x.tests in
        ([], x.w, e, (eg, hangs, t, x, ap (depth_of l.counts) is, y.0, y.1, y.2, y.3, y.4))

    pub turning_done : (c : Counter) (l : LoopTurns) (ch : List Environ) (k : ℕ) → Done program code ls (turning c l) ch k b base home g
    turning_done c l ch k acc tail =
        let x = tail.3 in
        let turn : Has code l.place does.Turn k x.u = subst (λ (y : ℕ). Has code l.place does.Turn y x.u) (sym tail.4) x.turn in
        let items = item.Counter c ∷ base in
        let st = asks_for (idle k items ch) items (Asking want.Turn waiting.Turn) in
        on_bare (turning c l) ch k acc items
        (moves_act program code ls _ _ (idle k items ch) l.place want.Turn _ (told_by code st waiting.Turn) (row_done program (turning c l) ch acc)
        (at_instr code k l.place items ch does.Turn turn.0 refl ∙ ap (λ y. Some (acts y want.Turn (told_by code st waiting.Turn))) (place_is code k l.place does.Turn turn.0))
        (is_inside code k l.place does.Turn turn.0) (keeps turn) refl)
      where
        by_counts : Has code l.place does.Turn k tail.3.u → (y : Bool) → l.counts ≡ y
            → Sim code ls b base home g (if y then part (opening c l) ch no_terms else in_turn l.test c l ch) (idle (suc k) (item.Counter c ∷ base) ch)
        by_counts turn true is = let x = tail.3 in ([], x.u, ap (λ n. idle n (item.Counter c ∷ base) ch) (next_is k x.u turn.1), (tail.0, tail.1, tail.2, x, refl, is))
        by_counts turn false is =
            let x = tail.3 in
            let same : x.u ≡ x.w = subst (λ (y : Bool). Indexes code y l.place x.u x.w) is x.index in
            turn_sim c l l.test refl ch tail.0 (ap (λ (y : Bool). back (bit_of y) ch) is ∙ ap (λ (y : List Environ). Some y) tail.1) tail.2 x _
            (ap (λ n. idle n (item.Counter c ∷ base) ch) (next_is k x.u turn.1 ∙ same))

        keeps : Has code l.place does.Turn k tail.3.u → (r : Reply)
            → Sim code ls b base home g (turned l.place ch (if l.counts then part (opening c l) ch no_terms else in_turn l.test c l ch) r)
            (told_by code (asks_for (idle k (item.Counter c ∷ base) ch) (item.Counter c ∷ base) (Asking want.Turn waiting.Turn)) waiting.Turn r)
        keeps turn reply.Go = by_counts turn l.counts refl
        keeps turn (reply.Frame chain) = misled_sim code ls b base home g l.place k does.Turn ch turn.0
        keeps turn (reply.Value v) = misled_sim code ls b base home g l.place k does.Turn ch turn.0
        keeps turn (reply.Base cell) = misled_sim code ls b base home g l.place k does.Turn ch turn.0
        keeps turn (reply.Held h) = misled_sim code ls b base home g l.place k does.Turn ch turn.0

    -- a frame of a turn is made
    pub opens_frame : (t : Term) (p n k : ℕ) (items : List Item) (f : List Environ → Term) (ch : List Environ) → (k2 : ℕ) → Has code p (does.Enter n) k k2 → row program t ≡ Some (rows.enters p n ch f)
        → ((e : Environ) → Sim code ls b base home g (f (e ∷ ch)) (idle k2 items (e ∷ ch)))
        → ((q : ℕ) (d : Does) → slice_get code.list k ≡ Some (record { place = q; does = d }) → Sim code ls b base home g (rows.misled q ch) (fails (idle k [] ch) fault.Kind))
        → Progress program code ls (Sim code ls b base home g) t (idle k items ch)
    opens_frame t p n k items f [] k2 has e keeps mis =
        moves_fault program code ls _ _ _ fault.Kind p e
        (at_instr code k p items [] (does.Enter n) has.0 refl ∙ ap (λ x. Some (meets fault.Kind x)) (place_is code k p (does.Enter n) has.0))
        (is_inside code k p (does.Enter n) has.0)
    opens_frame t p n k items f (en ∷ outer) k2 has e keeps mis =
        let w = want.Enter en.frame (suc en.scope) n in
        let st = asks_for (idle k items (en ∷ outer)) items (Asking w waiting.Frame) in
        moves_act program code ls _ _ _ p w _ (told_by code st waiting.Frame) e
        (at_instr code k p items (en ∷ outer) (does.Enter n) has.0 refl ∙ ap (λ x. Some (acts x w (told_by code st waiting.Frame))) (place_is code k p (does.Enter n) has.0))
        (is_inside code k p (does.Enter n) has.0) told refl
      where
        st : State
        st = asks_for (idle k items (en ∷ outer)) items (Asking (want.Enter en.frame (suc en.scope) n) waiting.Frame)

        told : (r : Reply) → Sim code ls b base home g (rows.within_frame p (en ∷ outer) f r) (told_by code st waiting.Frame r)
        told (reply.Frame []) = mis p (does.Enter n) has.0
        told (reply.Frame (x ∷ about)) =
            subst (λ (y : ℕ). Sim code ls b base home g (f (x ∷ (en ∷ outer))) (idle y items (x ∷ (en ∷ outer)))) (sym (next_is k k2 has.1)) (keeps x)
        told reply.Go = mis p (does.Enter n) has.0
        told (reply.Value v) = mis p (does.Enter n) has.0
        told (reply.Base cell) = mis p (does.Enter n) has.0
        told (reply.Held h) = mis p (does.Enter n) has.0

    pub opening_done : (c : Counter) (l : LoopTurns) (ch : List Environ) (k : ℕ) → Done program code ls (opening c l) ch k b base home g
    opening_done c l ch k acc tail =
        let x = tail.3 in
        let i : Indexes code true l.place x.u x.w = subst (λ (y : Bool). Indexes code y l.place x.u x.w) tail.5 x.index in
        let has : Has code l.place (does.Enter 1) k i.0 = subst (λ (y : ℕ). Has code l.place (does.Enter 1) y i.0) (sym tail.4) i.2 in
        on_bare (opening c l) ch k acc (item.Counter c ∷ base)
        (opens_frame _ l.place 1 k (item.Counter c ∷ base) (λ inner. part (naming c l) inner no_terms) ch i.0 has (row_done program (opening c l) ch acc)
        (λ e. ([], i.0, refl, (tail.0, ap (λ (y : List Environ). Some y) tail.1, tail.2, x, tail.5, i.1, i.3, i.4)))
        (λ q d h. misled_sim code ls b base home g q k d ch h))

    pub ranging_done : (c : Counter) (l : LoopTurns) (at slots : ℕ) (test : Tree) (ch : List Environ) (k : ℕ) → Done program code ls (ranging c l at slots test) ch k b base home g
    ranging_done c l at slots test ch k acc tail =
        let x = tail.3 in
        on_bare (ranging c l at slots test) ch k acc (item.Counter c ∷ base)
        (opens_frame _ at slots k (item.Counter c ∷ base) (λ inner. part (testing c l) inner (only (todo test inner))) ch tail.5 tail.7 (row_done program (ranging c l at slots test) ch acc)
        (λ e. (
          [],
          tail.6,
          (tail.6, refl, (lie, agrees e, refl), record { a = tail.5; lie = lie; agrees = agrees e; stands = tail.8; chain = refl; state = refl }),
          (tail.0, ap (λ (n : ℕ). back n (e ∷ ch)) tail.4 ∙ tail.1, refl, tail.2, x, tail.9),
        ))
        (λ q d h. misled_sim code ls b base home g q k d ch h))
      where
        lie : Lie
        lie = deeper_by 1 (deeper_by (bit_of l.counts) (above true tail.3.lie))

        agrees : (e : Environ) → Agrees (deeper_by 1 (deeper_by (bit_of l.counts) (above true tail.3.lie))) ls (item.Counter c ∷ base) (e ∷ ch)
        agrees e =
            agrees_deeper 1 (deeper_by (bit_of l.counts) (above true tail.3.lie)) ls (item.Counter c ∷ base) ch (e ∷ ch) refl
            (turn_agrees c l tail.2 tail.3 (bit_of l.counts) ch tail.1)

    pub naming_done : (c : Counter) (l : LoopTurns) (ch : List Environ) (k : ℕ) → Done program code ls (naming c l) ch k b base home g
    naming_done c l ch k acc tail =
        let items = item.Value (plain (value.Int c.at)) ∷ (item.Counter c ∷ base) in
        on_bare (naming c l) ch k acc (item.Counter c ∷ base)
        (moves_on program code ls _ _ _ _ (idle (suc k) items ch) (row_done program (naming c l) ch acc)
        (at_instr code k l.place (item.Counter c ∷ base) ch does.Index tail.6.0 refl) (is_inside code k l.place does.Index tail.6.0) (inl (refl, inl (omega arith)))
        ([], tail.5, ap (λ n. idle n items ch) (next_is k tail.5 tail.6.1), (tail.0, tail.1, tail.2, tail.3, tail.4, tail.7)))

    pub indexing_done : (c : Counter) (l : LoopTurns) (ch : List Environ) (k : ℕ) → Done program code ls (indexing c l) ch k b base home g
    unfolding start resumed
    indexing_done c l [] k acc tail =
        let items = item.Value (plain (value.Int c.at)) ∷ (item.Counter c ∷ base) in
        on_bare (indexing c l) [] k acc items
        (moves_fault program code ls _ _ _ fault.Kind l.place (row_done program (indexing c l) [] acc)
        (at_instr code k l.place items [] (does.Bind 0) tail.5.0 refl ∙ ap (λ x. Some (meets fault.Kind x)) (place_is code k l.place (does.Bind 0) tail.5.0))
        (is_inside code k l.place (does.Bind 0) tail.5.0))
    indexing_done c l (e ∷ outer) k acc tail =
        let items = item.Value (plain (value.Int c.at)) ∷ (item.Counter c ∷ base) in
        on_bare (indexing c l) (e ∷ outer) k acc items
        (moves_act program code ls _ _ _ l.place w _ (told_by code st (waiting.Operation next.Void)) (row_done program (indexing c l) (e ∷ outer) acc)
        (at_instr code k l.place items (e ∷ outer) (does.Bind 0) tail.5.0 refl ∙ ap (λ x. Some (acts x w (told_by code st (waiting.Operation next.Void)))) (place_is code k l.place (does.Bind 0) tail.5.0))
        (is_inside code k l.place (does.Bind 0) tail.5.0) told refl)
      where
        w : Want
        w = want.Bind e.frame 0 (plain (value.Int c.at))

        st : State
        st = asks_for (idle k (item.Value (plain (value.Int c.at)) ∷ (item.Counter c ∷ base)) (e ∷ outer)) (item.Counter c ∷ base) (Asking (want.Bind e.frame 0 (plain (value.Int c.at))) (waiting.Operation next.Void))

        leaves_none : leaves_at code k ≡ false
        leaves_none = ap (λ (o : Option Does). option_map_or (does_leave code.modes) o false) (does_is code k l.place (does.Bind 0) tail.5.0)

        misled_here : Sim code ls b base home g (rows.misled l.place (e ∷ outer)) (fails (idle k [] (e ∷ outer)) fault.Kind)
        misled_here = misled_sim code ls b base home g l.place k (does.Bind 0) (e ∷ outer) tail.5.0

        by_leaves : (y : Bool) → y ≡ false → (r : Reply)
            → Sim code ls b base home g (turned l.place (e ∷ outer) (in_turn l.test c l (e ∷ outer)) r) (follows st y (item.Counter c ∷ base) (resumed code.modes next.Void r))
        by_leaves true is r = absurd (cc)
        by_leaves false is reply.Go =
            turn_sim c l l.test refl (e ∷ outer) tail.0 (ap (λ (y : Bool). back (bit_of y) (e ∷ outer)) tail.4 ∙ tail.1) tail.2 tail.3 _
            (ap (λ n. idle n (item.Counter c ∷ base) (e ∷ outer)) (next_is k tail.3.w tail.5.1))
        by_leaves false is (reply.Frame chain) = misled_here
        by_leaves false is (reply.Value v) = misled_here
        by_leaves false is (reply.Base cell) = misled_here
        by_leaves false is (reply.Held (held.Plain x)) = misled_here
        by_leaves false is (reply.Held (held.Rows d)) = misled_here
        by_leaves false is (reply.Held (held.Member m cell)) = misled_here

        told : (r : Reply) → Sim code ls b base home g (turned l.place (e ∷ outer) (in_turn l.test c l (e ∷ outer)) r) (told_by code st (waiting.Operation next.Void) r)
        told r = by_leaves (leaves_at code k) leaves_none r

    pub testing_done : (c : Counter) (l : LoopTurns) (ch : List Environ) (k : ℕ) → Done program code ls (testing c l) ch k b base home g
    testing_done c l ch k [] tail = absurd (omega (arith, tail.2))
    testing_done c l ch k (v ∷ (w ∷ acc)) tail = absurd (two_or_more v w acc tail.2)
    testing_done c l ch k (v ∷ []) tail =
        branch b base home g l.place k tail.4.f v (item.Counter c ∷ base) ch _
        (λ answer. if answer then part (running c l) ch (only (todo l.body ch)) else part (quitting (depth l) l.place c) ch no_terms)
        tail.5.0 (let x = (in_loop l tail.3 tail.4).1 in let y = tail.5.1 in omega arith) (row_done program (testing c l) ch (v ∷ [])) keeps
      where
        keeps : (answer : Bool) → Sim code ls b base home g (if answer then part (running c l) ch (only (todo l.body ch)) else part (quitting (depth l) l.place c) ch no_terms)
            (idle (if answer then suc k else tail.4.f) (item.Counter c ∷ base) ch)
        keeps true =
            let lie = deeper_by (depth l) (above true tail.4.lie) in
            let agrees = turn_agrees c l tail.3 tail.4 (depth l) ch tail.1 in (
              [],
              tail.4.n,
              (tail.4.n, refl, (lie, agrees, refl), record { a = tail.4.x; lie = lie; agrees = agrees; stands = tail.4.body_at; chain = refl; state = ap (λ n. idle n (item.Counter c ∷ base) ch) (next_is k tail.4.x tail.5.1) }),
              (tail.0, tail.1, tail.3, tail.4, refl),
            )
        keeps false = ([], tail.4.f, refl, (tail.0, tail.1, tail.4.e, tail.4.quit, tail.4.forget))

    -- a frame of a turn is left
    goes_outwards : (t : Term) (p k k2 : ℕ) (items : List Item) (f : List Environ → Term) (ch : List Environ) → Has code p (does.Leave 0) k k2 → row program t ≡ Some (rows.goes_out p ch f)
        → Sim code ls b base home g (f (outwards ch)) (idle k2 items (outwards ch)) → Progress program code ls (Sim code ls b base home g) t (idle k items ch)
    goes_outwards t p k k2 items f [] has e keeps =
        moves_fault program code ls _ _ _ fault.Kind p e (at_instr code k p items [] (does.Leave 0) has.0 refl ∙ ap (λ x. Some (meets fault.Kind x)) (place_is code k p (does.Leave 0) has.0))
        (is_inside code k p (does.Leave 0) has.0)
    goes_outwards t p k k2 items f (x ∷ []) has e keeps =
        moves_fault program code ls _ _ _ fault.Kind p e (at_instr code k p items (x ∷ []) (does.Leave 0) has.0 refl ∙ ap (λ y. Some (meets fault.Kind y)) (place_is code k p (does.Leave 0) has.0))
        (is_inside code k p (does.Leave 0) has.0)
    goes_outwards t p k k2 items f (x ∷ (o ∷ outer)) has e keeps =
        moves_on program code ls _ _ _ _ (idle (suc k) items (o ∷ outer)) e (at_instr code k p items (x ∷ (o ∷ outer)) (does.Leave 0) has.0 refl) (is_inside code k p (does.Leave 0) has.0)
        (inl (refl, inl (omega arith))) (subst (λ (y : ℕ). Sim code ls b base home g (f (o ∷ outer)) (idle y items (o ∷ outer))) (sym (next_is k k2 has.1)) keeps)

    pub advancing_done : (j : ℕ) (c : Counter) (l : LoopTurns) (ch : List Environ) (k : ℕ) → Done program code ls (advancing j c l) ch k b base home g
    advancing_done (suc j) c l ch k acc tail =
        on_bare (advancing (suc j) c l) ch k acc (item.Counter c ∷ base)
        (goes_outwards _ l.place k tail.4.0 (item.Counter c ∷ base) (λ out. part (advancing j c l) out no_terms) ch tail.4.1 (row_done program (advancing (suc j) c l) ch acc)
        ([], tail.4.0, refl, (tail.0, hangs_out j ch home tail.1, tail.2, tail.3, tail.4.2)))
    advancing_done zero c l ch k acc tail =
        on_bare (advancing zero c l) ch k acc (item.Counter c ∷ base)
        (by_next (advanced c) (row_done program (advancing zero c l) ch acc) (at_instr code k l.place (item.Counter c ∷ base) ch (does.Advance tail.2) advance.0 refl))
      where
        t : ℕ
        t = tail.2

        x : LoopAt code ls base home l tail.2 b
        x = tail.3

        st : State
        st = idle k (item.Counter c ∷ base) ch

        advance : Has code l.place (does.Advance tail.2) k tail.3.v
        advance = subst (λ (y : ℕ). Has code l.place (does.Advance tail.2) y tail.3.v) (sym tail.4) tail.3.advance

        goes_back : Back code k tail.2
        goes_back = record {
          behind = tail.3.e;
          step = does_is code tail.2 l.place (does.Step tail.3.e) tail.3.step.0;
          turn = ap (does_at code.list) (next_is tail.2 tail.3.t' tail.3.step.1) ∙ does_is code tail.3.t' l.place does.Turn tail.3.turn.0;
          leaves = (let y = (in_loop l tail.2 tail.3).2 in let z = tail.4 in omega arith);
          inside = is_inside code tail.3.e l.place does.Forget tail.3.forget.0;
        }

        by_next : (o : Option Counter)
            → row program (part (advancing zero c l) ch (yields acc no_terms)) ≡ Some (goes (option_map_or (λ next. part (stepping next l) ch no_terms) o (part (leaving c) ch no_terms)))
            → ask code st ≡ Some (seen code (option_map_or (λ next. goes_to st tail.2 (item.Counter next ∷ base)) o (goes_on st (item.Counter c ∷ base))))
            → Progress program code ls (Sim code ls b base home g) (part (advancing zero c l) ch (yields acc no_terms)) st
        by_next (Some next) e a =
            moves_on program code ls _ _ _ _ (idle tail.2 (item.Counter next ∷ base) ch) e a (is_inside code k l.place (does.Advance tail.2) advance.0) (inl (refl, inr goes_back))
            ([], tail.2, refl, (tail.0, same_Some ch home tail.1, tail.3))
        by_next None e a =
            moves_on program code ls _ _ _ _ (idle (suc k) (item.Counter c ∷ base) ch) e a (is_inside code k l.place (does.Advance tail.2) advance.0) (inl (refl, inl (omega arith)))
            ([], tail.3.v, ap (λ n. idle n (item.Counter c ∷ base) ch) (next_is k tail.3.v advance.1), (tail.0, same_Some ch home tail.1, l.place, inr (tail.3.e, tail.3.f, tail.3.jump, (let y = (in_loop l tail.2 tail.3).2 in let z = advance.1 in let w = tail.4 in omega arith), tail.3.forget)))

    pub running_done : (c : Counter) (l : LoopTurns) (ch : List Environ) (k : ℕ) → Done program code ls (running c l) ch k b base home g
    running_done c l ch k acc tail =
        on_bare (running c l) ch k acc (item.Counter c ∷ base)
        (progress_row program code ls _ _ _ _ (row_done program (running c l) ch acc)
        (advancing_done (depth l) c l ch k [] (tail.0, tail.1, tail.2, tail.3, subst (λ (y : ℕ). Leaves code l.place (depth l) y tail.3.n') (sym tail.4) tail.3.out)))

    pub leaving_done : (c : Counter) (ch : List Environ) (k : ℕ) → Done program code ls (leaving c) ch k b base home g
    leaving_done c ch k acc tail = on_bare (leaving c) ch k acc (item.Counter c ∷ base) (by_place tail.3)
      where
        p : ℕ
        p = tail.2

        by_place : (Has code tail.2 does.Forget k b ⊎ ((e f : ℕ) × Has code tail.2 (does.Jump e) k f × (k < e) × Has code tail.2 does.Forget e b))
            → Progress program code ls (Sim code ls b base home g) (part (leaving c) ch (yields acc no_terms)) (idle k (item.Counter c ∷ base) ch)
        by_place (inl forget) =
            moves_on program code ls _ _ _ _ (idle (suc k) base ch) (row_done program (leaving c) ch acc)
            (at_instr code k tail.2 (item.Counter c ∷ base) ch does.Forget forget.0 refl) (is_inside code k tail.2 does.Forget forget.0) (inl (refl, inl (omega arith)))
            (ap (λ n. idle n base ch) (next_is k b forget.1) ∙ ap (λ x. idle b base x) tail.1 ∙ ap (λ (x : Bool). idle b (push x void base) home) (sym tail.0))
        by_place (inr jump) = moves (record {
          what = goes (idle jump.0 (item.Counter c ∷ base) ch);
          asks = at_instr code k tail.2 (item.Counter c ∷ base) ch (does.Jump jump.0) jump.2.0 refl;
          follows = (
            part (leaving c) ch (yields acc no_terms),
            still,
            (
              [],
              jump.0,
              does_yields code ls acc no_terms jump.0 (item.Counter c ∷ base) ch false ready _ (ap (λ s. idle jump.0 s ch) (sym (left_none acc (item.Counter c ∷ base)))),
              (tail.0, tail.1, tail.2, inl jump.4),
            ),
          );
          inside = is_inside code k tail.2 (does.Jump jump.0) jump.2.0;
          forth = inl (refl, inl jump.3);
        })

    pub quitting_done : (j p : ℕ) (c : Counter) (ch : List Environ) (k : ℕ) → Done program code ls (quitting j p c) ch k b base home g
    quitting_done (suc j) p c ch k acc tail =
        on_bare (quitting (suc j) p c) ch k acc (item.Counter c ∷ base)
        (goes_outwards _ p k tail.3.0 (item.Counter c ∷ base) (λ out. part (quitting j p c) out no_terms) ch tail.3.1 (row_done program (quitting (suc j) p c) ch acc)
        ([], tail.3.0, refl, (tail.0, hangs_out j ch home tail.1, tail.2, tail.3.2, tail.4)))
    quitting_done zero p c ch k acc tail =
        on_bare (quitting zero p c) ch k acc (item.Counter c ∷ base)
        (progress_row program code ls _ _ _ _ (row_done program (quitting zero p c) ch acc)
        (leaving_done c ch k [] (tail.0, same_Some ch home tail.1, p, inl (subst (λ (y : ℕ). Has code p does.Forget y b) (sym tail.3) tail.4))))
