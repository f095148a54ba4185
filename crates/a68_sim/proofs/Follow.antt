-- What the machine does next, the term follows: the trees, then the terms.
use Rattle.std.proofs.Common.{◌≡◌, ◌<◌, ℕ, suc, arith, Bool, true, false, List, [], ◌∷◌, None, Some, refl, sym, ap, ◌∙◌, subst, inl}
use Rattle.std.specs.Prelude.{slice_get, if◌then◌else◌}
use Rattle.std.specs.declared.option.Option.{Option}
use Rattle.a68_acts.specs.Store.{Store}
use Rattle.a68_acts.specs.declared.want.Reply.{Reply}
use Rattle.a68_acts.specs.declared.want.Reply.TheVariants as reply
use Rattle.a68_acts.specs.declared.want.Want.TheVariants as want
use Rattle.a68_code.specs.declared.code.Code.{Code}
use Rattle.a68_code.specs.declared.code.RoutineEntrance.{RoutineEntrance}
use Rattle.a68_code.specs.declared.does.Does.TheVariants as does
use Rattle.a68_elab.specs.Permitted.{AllHalted, not_begun, has_yielded, in_parts, no_parts, and_halted}
use Rattle.a68_elab.specs.Positions.{here, within, OpensIn, in_this, past, jumps, jumps_within, JumpsIn, jumps_in_this, jumps_past, by_jump}
use Rattle.a68_elab.specs.Rows.{meets, acts, misled, turned, within_frame, body_in, stands_at}
use Rattle.a68_elab.specs.Terms.{only, Job, operating, resuming, gathering, preceding, ending, at_step, ranged, choosing, casing, conforming, specifying, tagging, passing, chosen, limiting, counting, stepping, turning, opening, naming, indexing, ranging, testing, running, advancing, quitting, leaving, calling, entering, binding, inside, forking, joining, closing, Term, todo, part, yielded, unit_of, Terms, no_terms, ◌and_term◌, todos, order_of, has}
use Rattle.a68_elab.specs.Trees.{Tree, Trees, operation, together, phrases, labelled, jump, range, choice, cases, conformity, loop, call, parallel, meaningless, LoopTurns, no_trees, ◌and_tree◌, count, Order, serial, Steps, last_step, step, exit, has_label, from_label, Body, Program, texts_of}
use Rattle.a68_emit.specs.Stretches.{Has, Lie, above, deeper_by, in_clause, outermost, place_of, Stands, StandAll, StandSteps, member_places, wholes_of, leave}
use Rattle.a68_sim.proofs.Conforming.{conforming_done, specifying_done, tagging_done, passing_done}
use Rattle.a68_sim.proofs.Calling.{calling_done, entering_done, binding_one, inside_done}
use Rattle.a68_sim.proofs.Forking.{forking_done}
use Rattle.a68_sim.proofs.Asking.{idle, seen, ask, at_instr, place_is, is_inside, next_is}
use Rattle.a68_gen.proofs.Forward.{forward_steps}
use Rattle.a68_sim.proofs.Landings.{Landing, landing, landing_of, Agrees, agrees_deeper, agrees_clause, agrees_outermost, lands_at}
use Rattle.a68_sim.proofs.Jobs.{Done, row_done, two_or_more, misled_sim, operating_done, resuming_done, gathering_done, ending_done, ranged_done, choosing_done, casing_done, chosen_done, limiting_done, counting_done, stepping_done, turning_done, opening_done, naming_done, indexing_done, ranging_done, testing_done, running_done, advancing_done, quitting_done, leaving_done}
use Rattle.a68_sim.proofs.Routines.{TextsStand, Found}
use Rattle.a68_sim.proofs.Quiet.{still, quietly, quiet_in, Hole, AddsNone, moves_in, open_here, simply, jumping, Leaps, Progress, moves, finishes, leaps, progress_after, progress_row, moves_on, moves_act, moves_fault}
use Rattle.a68_sim.proofs.Relation.{Pose, pose_of, ready, push, count_terms, AllTodo, Behind, agrees_push, posed, parts_give, inner, landings, OperationAt, LoopAt, ClauseAt, Tail, Begins, DoesParts, Sim, yields, left, does_yields, does_behind, does_first, same_count, count_yields, left_none, todos_all, count_todos, steps_from}
use Rattle.a68_instructions.specs.Machine.{State, asks_for, begins_body, told_by, fails, back, jumps as jumps_by}
use Rattle.a68_instructions.specs.declared.ask.Stance.TheVariants.{Asking}
use Rattle.a68_instructions.specs.declared.ask.Waiting.TheVariants as waiting
use Rattle.a68_stack.specs.Values.{cut}
use Rattle.a68_stack.specs.declared.stack.Item.{Item}
use Rattle.a68_stack.specs.declared.stack.Item.TheVariants as item
use Rattle.a68_values.specs.Content.{Content}
use Rattle.a68_values.specs.declared.act.FaultKind.TheVariants as fault
use Rattle.a68_values.specs.declared.chain.Environ.{Environ}
use Rattle.a68_values.specs.declared.plain.Routine.{Routine}

opens_yields : (u u' : Term) (x own : ℕ) (o : Order) (acc : List Content) (ts ts' : Terms) → OpensIn u u' x own o ts ts' → OpensIn u u' x own o (yields acc ts) (yields acc ts')
opens_yields u u' x own o [] ts ts' i = i
opens_yields u u' x own o (v ∷ acc) ts ts' i = opens_yields u u' x own o acc (yielded v and_term ts) (yielded v and_term ts') (past i)

jumps_yields : (place label : ℕ) (o : Order) (acc : List Content) (ts : Terms) → JumpsIn place label o ts → JumpsIn place label o (yields acc ts)
jumps_yields place label o [] ts i = i
jumps_yields place label o (v ∷ acc) ts i = jumps_yields place label o acc (yielded v and_term ts) (jumps_past i)

abbrev in_part : Job → List Environ → List Content → Terms → Term → Term
in_part job ch acc ts t = part job ch (yields acc (t and_term ts))

part_hole : (job : Job) (ch : List Environ) (acc : List Content) (ts : Terms) → Hole (in_part job ch acc ts)
part_hole job ch acc ts = record { opens = λ own x u u' t t' o. within (opens_yields u u' x own (order_of job) acc (t and_term ts) (t' and_term ts) (in_this o)) }

-- parts that have not begun have no units, and none has what they yield
todos_halted : (program : Program) (store : Store) (code : Code) (lie : Lie) (g : Bool) (ts : Terms) (a b : ℕ) (ch : List Environ) → AllTodo code lie g ts a b ch
    → AllHalted program store ts
todos_halted program store code lie g no_terms a b ch all = no_parts
todos_halted program store code lie g (todo tree c and_term ts) a b ch all =
    and_halted not_begun (todos_halted program store code (above g lie) g ts all.0 b ch all.3)
todos_halted program store code lie g (part job c ps and_term ts) a b ch all = absurd all
todos_halted program store code lie g (yielded v and_term ts) a b ch all = absurd all
todos_halted program store code lie g (unit_of s t and_term ts) a b ch all = absurd all

yields_halted : (program : Program) (store : Store) (acc : List Content) (ts : Terms) → AllHalted program store ts → AllHalted program store (yields acc ts)
yields_halted program store [] ts all = all
yields_halted program store (v ∷ acc) ts all = yields_halted program store acc (yielded v and_term ts) (and_halted has_yielded all)

part_adds : (code : Code) (ls : List Landing) (job : Job) (ch : List Environ) (acc : List Content) (ts : Terms) (g : Bool) (m k : ℕ) (base : List Item)
    → Behind code ls g ts m k base ch → AddsNone (in_part job ch acc ts)
part_adds code ls job ch acc ts g m k base behind program store u h =
    in_parts (yields_halted program store acc (u and_term ts) (and_halted h (todos_halted program store code (above g behind.0) g ts m k ch behind.2)))

module _ (program : Program) (code : Code) (same : code.modes ≡ program.modes) (texts : TextsStand program code) where
  -- what comes next for a term
  abbrev Goes : List Landing → ℕ → List Item → List Environ → Bool → Term → State → Type 0
  Goes ls b base home g t st = Progress program code ls (Sim code ls b base home g) t st

  -- a strand that stands elsewhere
  moved : (ls : List Landing) (K : Term → State → Type 0) (t : Term) (st st' : State) → st ≡ st' → Progress program code ls K t st' → Progress program code ls K t st
  moved ls K t st st' e = subst (Progress program code ls K t) (sym e)

  -- a tree that is about to begin lies there in its own chain
  agrees_there : (ls : List Landing) (c : List Environ) (b : ℕ) (base : List Item) (home : List Environ) (g : Bool) (st : State) (tree : Tree) → (s : Begins code ls tree c b base home g st)
      → Agrees s.lie ls base c
  agrees_there ls c b base home g st tree s = subst (λ (x : List Environ). Agrees s.lie ls base x) (sym s.chain) s.agrees

  -- ---- jumps

  -- a part leaps, and so does the whole
  leaps_on : (ls : List Landing) (job : Job) (ch : List Environ) (acc : List Content) (ts : Terms) (t : Term) (b : ℕ) (base : List Item) (home : List Environ) (g : Bool) (st : State)
      → ((label : ℕ) → has label job ≡ false) → Leaps program code ls t st → Goes ls b base home g (in_part job ch acc ts t) st
  leaps_on ls job ch acc ts t b base home g st other x = leaps (record {
    now = in_part job ch acc ts x.now;
    quiet = quiet_in (in_part job ch acc ts) (part_hole job ch acc ts) x.quiet;
    place = x.place;
    label = x.label;
    path = jumps_within (other x.label) (jumps_yields x.place x.label (order_of job) acc (x.now and_term ts) (jumps_in_this x.path));
    l = x.l;
    found = x.found;
    to = x.to;
    leads_to = x.leads_to;
    does = x.does;
    has = x.has;
    asks = x.asks;
  })

  -- a clause with labels at one of its steps, which has just been reached
  module _ (ls : List Landing) (all : Steps) (places : List ℕ) (ch : List Environ) (b : ℕ) (base : List Item) (home : List Environ) (g : Bool) (ec : ch ≡ home) (c : ClauseAt code ls places all base ch g b) where
    abbrev within_clause : Lie
    within_clause = in_clause all places c.lie

    agrees_within : Agrees (in_clause all places c.lie) (landing all places base ch ∷ ls) base ch
    agrees_within = agrees_clause all places c.lie ls base ch c.agrees

    at_its_step : (now : Steps) (to : ℕ) (qs : List ℕ) → StandSteps code (in_clause all places c.lie) g c.place b now qs to b → (st : State) → st ≡ idle to base ch
        → Sim code ls b base home g (stands_at all now ch) st
    at_its_step (last_step labels t) to [] s st e = absurd s
    at_its_step (last_step labels t) to (q ∷ (r ∷ qs)) s st e = absurd s
    at_its_step (last_step labels t) to (q ∷ []) s st e = (
      places,
      b,
      (b, refl, (within_clause, agrees_within, refl), record { a = to; lie = within_clause; agrees = agrees_within; stands = s.1; chain = refl; state = e }),
      (refl, ec, c, refl),
    )
    at_its_step (step labels t more) to [] s st e = absurd s
    at_its_step (step labels t more) to (q ∷ qs) s st e = (
      places,
      s.0,
      (s.0, refl, (within_clause, agrees_within, refl), record { a = to; lie = within_clause; agrees = agrees_within; stands = s.2; chain = refl; state = e }),
      (refl, ec, c, (qs, s.3)),
    )
    at_its_step (exit labels t more) to [] s st e = absurd s
    at_its_step (exit labels t more) to (q ∷ qs) s st e = (
      places,
      s.0,
      (s.0, refl, (within_clause, agrees_within, refl), record { a = to; lie = within_clause; agrees = agrees_within; stands = s.3; chain = refl; state = e }),
      (refl, ec, c, (s.1, s.4, (let x = forward_steps code (in_clause all places c.lie) g c.place b more qs s.1 b s.5 in let n = s.4.1 in omega arith))),
    )

    -- it is the clause of a jump within it, and then stands at the step behind the label; or one further out is
    leaps_here : (now : Steps) (acc : List Content) (ts : Terms) (t : Term) (st : State) → Leaps program code (landing all places base ch ∷ ls) t st
        → Goes ls b base home g (in_part (at_step all now) ch acc ts t) st
    leaps_here now acc ts t st x = by_test (has_label x.label all) refl x.found
      where
        on : Term
        on = in_part (at_step all now) ch acc ts x.now

        path : JumpsIn x.place x.label serial (yields acc (x.now and_term ts))
        path = jumps_yields x.place x.label serial acc (x.now and_term ts) (jumps_in_this x.path)

        by_test : (y : Bool) → has_label x.label all ≡ y → (if y then Some (landing all places base ch) else landing_of x.label ls) ≡ Some x.l
            → Goes ls b base home g (in_part (at_step all now) ch acc ts t) st
        by_test false is f = leaps (record {
          now = on;
          quiet = quiet_in (in_part (at_step all now) ch acc ts) (part_hole (at_step all now) ch acc ts) x.quiet;
          place = x.place;
          label = x.label;
          path = jumps_within is path;
          l = x.l;
          found = f;
          to = x.to;
          leads_to = x.leads_to;
          does = x.does;
          has = x.has;
          asks = x.asks;
        })
        by_test true is f = moves (record {
          what = acts x.place want.Turn (told_by code (jumping st.at x.to mine) (waiting.Jump x.to));
          asks = subst (λ (l : Landing). ask code st ≡ Some (acts x.place want.Turn (told_by code (jumping st.at x.to l) (waiting.Jump x.to)))) (sym same_l) x.asks;
          follows = record {
            now = on;
            quiet = quiet_in (in_part (at_step all now) ch acc ts) (part_hole (at_step all now) ch acc ts) x.quiet;
            wants = want.Turn;
            alike = λ s. refl;
            next = turned x.place ch (stands_at all (from_label x.label all) ch);
            open_at = open_here program on _ (by_jump is path);
            keeps = λ s s2 act r d. simply refl (keeps r);
          };
          inside = is_inside code st.at x.place x.does x.has;
          forth = tt;
        })
          where
            mine : Landing
            mine = landing all places base ch

            same_l : mine ≡ x.l
            same_l = cc

            at_places : place_of x.label all places ≡ Some x.to
            at_places = subst (λ (l : Landing). place_of x.label l.steps l.places ≡ Some x.to) (sym same_l) x.leads_to

            mis : Sim code ls b base home g (misled x.place ch) (fails (idle st.at [] ch) fault.Kind)
            mis = misled_sim code ls b base home g x.place st.at x.does ch x.has

            keeps : (r : Reply) → Sim code ls b base home g (turned x.place ch (stands_at all (from_label x.label all) ch) r)
                (told_by code (jumping st.at x.to mine) (waiting.Jump x.to) r)
            keeps reply.Go =
                let s = steps_from code (in_clause all places c.lie) g c.place b x.label all places c.begin b x.to c.stands at_places in
                at_its_step (from_label x.label all) x.to s.0 s.1 _ refl
            keeps (reply.Frame chain) = mis
            keeps (reply.Value v) = mis
            keeps (reply.Base cell) = mis
            keeps (reply.Held h) = mis

    -- the yield of a step is that of the clause: of the last step, and of one before EXIT
    last_ends : (labels : List ℕ) (t : Tree) (k : ℕ) (v : Content) → k ≡ b → Goes ls b base home g (part (at_step all (last_step labels t)) ch (yields (v ∷ []) no_terms)) (idle k (push g v base) ch)
    last_ends labels t k v at_b =
        finishes v (quietly (λ own. here) (row_done program (at_step all (last_step labels t)) ch (v ∷ [])) still)
        (ap (λ n. idle n (push g v base) ch) at_b ∙ ap (λ x. idle b (push g v base) x) ec)

    exit_ends : (labels : List ℕ) (t : Tree) (more : Steps) (k n : ℕ) (v : Content) → Has code c.place (does.Jump b) k n → k < b
        → Goes ls b base home g (part (at_step all (exit labels t more)) ch (yields (v ∷ []) no_terms)) (idle k (push g v base) ch)
    exit_ends labels t more k n v has less =
        moves_on program code ls _ _ _ _ (idle b (push g v base) ch) (row_done program (at_step all (exit labels t more)) ch (v ∷ []))
        (at_instr code k c.place (push g v base) ch (does.Jump b) has.0 refl) (is_inside code k c.place (does.Jump b) has.0)
        (inl (refl, inl less)) (ap (λ x. idle b (push g v base) x) ec)

  -- the strand of a jump
  jumps_out : (ls : List Landing) (p label frames height : ℕ) (gives : Bool) (ch : List Environ) (a b : ℕ) (base : List Item) (home : List Environ) (g : Bool) (lie : Lie) → Agrees lie ls base ch
      → Stands code lie g (jump p label frames height gives) a b → Goes ls b base home g (todo (jump p label frames height gives) ch) (idle a base ch)
  jumps_out ls p label frames height gives ch a b base home g lie agrees s =
      let l = lands_at lie.around ls label s.0 base ch agrees.each s.2 in
      let d = does.Goto s.1 frames height gives in
      let goes_back : back frames ch ≡ Some l.l.chain = ap (λ (n : ℕ). back n ch) s.4 ∙ l.goes_back in
      let cuts : cut height base ≡ Some l.l.base = ap (λ (n : ℕ). cut n base) s.5 ∙ l.cuts in
      leaps (record {
        now = todo (jump p label frames height gives) ch;
        quiet = still;
        place = p;
        label = label;
        path = jumps;
        l = l.l;
        found = l.found;
        to = s.1;
        leads_to =
            subst (λ (x : Steps). place_of label x l.l.places ≡ Some s.1) l.same_steps
            (subst (λ (ps : List ℕ). place_of label s.0.steps ps ≡ Some s.1) l.same_places s.3);
        does = d;
        has = s.7.0;
        asks = at_instr code a p base ch d s.7.0 refl
            ∙ ap (λ (o : Option (List Environ)). Some (seen code (jumps_by (idle a base ch) s.1 o (cut height base)))) goes_back
            ∙ ap (λ (o : Option (List Item)). Some (seen code (jumps_by (idle a base ch) s.1 (Some l.l.chain) o))) cuts
            ∙ ap (λ y. Some (acts y want.Turn (told_by code (jumping a s.1 l.l) (waiting.Jump s.1)))) (place_is code a p d s.7.0);
      })

  -- ---- parts

  -- a part that is done or that is at work: the whole follows it, and goes on behind it where it yields
  from_part : (ls : List Landing) (job : Job) (places : List ℕ) (ch : List Environ) (acc : List Content) (ts : Terms) (t : Term) (m k b : ℕ) (base : List Item) (home : List Environ) (g : Bool) (st : State)
      → pose_of job ≡ ready → Behind code (landings job places ls (inner job b home base) ch) (parts_give job g) ts m k (left (parts_give job g) acc (inner job b home base)) ch
      → Tail code ls job places (count_terms (yields acc (t and_term ts))) ch k b base home g
      → ((v : Content) → st ≡ idle m (left (parts_give job g) (v ∷ acc) (inner job b home base)) ch → Tail code ls job places (count_terms (yields (v ∷ acc) ts)) ch k b base home g
      → Goes ls b base home g (part job ch (yields (v ∷ acc) ts)) st)
      → Goes (landings job places ls (inner job b home base) ch) m (left (parts_give job g) acc (inner job b home base)) ch (parts_give job g) t st
      → Goes ls b base home g (in_part job ch acc ts t) st
  from_part ls job places ch acc ts t m k b base home g st none behind tail rest (moves x) =
      moves (moves_in program code (in_part job ch acc ts) (part_hole job ch acc ts) (part_adds code li job ch acc ts (parts_give job g) m k (left (parts_give job g) acc (inner job b home base)) behind) (Sim code li m (left (parts_give job g) acc (inner job b home base)) ch (parts_give job g)) (Sim code ls b base home g) to t st x)
    where
      li : List Landing
      li = landings job places ls (inner job b home base) ch

      to : (u : Term) (s : State) → Sim code (landings job places ls (inner job b home base) ch) m (left (parts_give job g) acc (inner job b home base)) ch (parts_give job g) u s
          → Sim code ls b base home g (in_part job ch acc ts u) s
      to u s sim = (
        places,
        k,
        does_yields code li acc (u and_term ts) k (inner job b home base) ch (parts_give job g) (pose_of job) s
            (does_first code li u ts m k (left (parts_give job g) acc (inner job b home base)) ch (parts_give job g) (pose_of job) s none behind sim),
        subst (λ n. Tail code ls job places n ch k b base home g) (same_count acc (t and_term ts) (u and_term ts) refl) tail,
      )
  from_part ls job places ch acc ts t m k b base home g st none behind tail rest (finishes v q s) =
      progress_after program code ls _ _ _ st (quiet_in (in_part job ch acc ts) (part_hole job ch acc ts) q)
      (rest v s (subst (λ n. Tail code ls job places n ch k b base home g) (same_count acc (t and_term ts) (yielded v and_term ts) refl) tail))
  from_part ls (at_step all now) places ch acc ts t m k b base home g st none behind tail rest (leaps x) =
      leaps_here ls all places ch b base home g tail.1 tail.2 now acc ts t st x
  from_part ls (inside p gives from) places ch acc ts t m k b base home g st none behind tail rest (leaps x) = let e = x.found in absurd (cc)
  from_part ls job places ch acc ts t m k b base home g st none behind tail rest (leaps x) = leaps_on ls job ch acc ts t b base home g st (λ label. refl) x

  -- the last phrase, behind those before it
  preceding_done : (ls : List Landing) (final : Tree) (ch : List Environ) (k b : ℕ) (base : List Item) (home : List Environ) (g : Bool)
      → ((m : ℕ) (st : State) → Begins code ls final ch m base ch g st → Goes ls m base ch g (todo final ch) st) → Done program code ls (preceding final) ch k b base home g
  preceding_done ls final ch k b base home g go acc tail =
      let st = idle k (left false acc base) ch in
      let bare : st ≡ idle k base ch = ap (λ s. idle k s ch) (left_none acc base) in
      progress_row program code ls _ _ _ st (row_done program (preceding final) ch acc)
      (from_part ls ending [] ch [] no_terms (todo final ch) b b b base home g st refl (tail.1.0, tail.1.1, refl) (refl, refl, tail.0)
      (λ v e last. subst (λ (s : State). Goes ls b base home g (part ending ch (yields (v ∷ []) no_terms)) s) (sym e)
      (ending_done program code ls b base home g ch b (v ∷ []) last))
      (go b st (record { a = k; lie = tail.1.0; agrees = tail.1.1; stands = tail.1.2; chain = refl; state = bare })))

  -- a range makes its frame
  module _ (ls : List Landing) (p out n a b a' b' : ℕ) (g gives : Bool) (within : Tree) (same_gives : g ≡ gives) (enter : Has code p (does.Enter n) a a') (lie : Lie) (within_at : Stands code (deeper_by 1 lie) g within a' b') (base : List Item) where
    enters_frame : (ch : List Environ) → Agrees lie ls base ch → Has code out (leave g) b' b → Progress program code ls (Sim code ls b base ch g) (todo (range p out n gives within) ch) (idle a base ch)
    enters_frame [] agrees has =
        moves_fault program code ls _ _ _ fault.Kind p refl
        (at_instr code a p base [] (does.Enter n) enter.0 refl ∙ ap (λ x. Some (meets fault.Kind x)) (place_is code a p (does.Enter n) enter.0))
        (is_inside code a p (does.Enter n) enter.0)
    enters_frame (e ∷ outer) agrees has =
        let w = want.Enter e.frame (suc e.scope) n in
        let st = asks_for (idle a base (e ∷ outer)) base (Asking w waiting.Frame) in
        moves_act program code ls _ _ _ p w _ (told_by code st waiting.Frame) refl
        (at_instr code a p base (e ∷ outer) (does.Enter n) enter.0 refl ∙ ap (λ x. Some (acts x w (told_by code st waiting.Frame))) (place_is code a p (does.Enter n) enter.0))
        (is_inside code a p (does.Enter n) enter.0) keeps refl
      where
        st : State
        st = asks_for (idle a base (e ∷ outer)) base (Asking (want.Enter e.frame (suc e.scope) n) waiting.Frame)

        keeps : (r : Reply)
            → Sim code ls b base (e ∷ outer) g (within_frame p (e ∷ outer) (λ inside. part (ranged out gives) inside (only (todo within inside))) r) (told_by code st waiting.Frame r)
        keeps (reply.Frame []) = misled_sim code ls b base (e ∷ outer) g p a (does.Enter n) (e ∷ outer) enter.0
        keeps (reply.Frame (x ∷ about)) =
            let deep = agrees_deeper 1 lie ls base (e ∷ outer) (x ∷ (e ∷ outer)) refl agrees in (
              [],
              b',
              (
                b',
                refl,
                (deeper_by 1 lie, deep, refl),
                record { a = a'; lie = deeper_by 1 lie; agrees = deep; stands = within_at; chain = refl; state = ap (λ y. idle y base (x ∷ (e ∷ outer))) (next_is a a' enter.1) },
              ),
              (refl, same_gives, has, refl),
            )
        keeps reply.Go = misled_sim code ls b base (e ∷ outer) g p a (does.Enter n) (e ∷ outer) enter.0
        keeps (reply.Value v) = misled_sim code ls b base (e ∷ outer) g p a (does.Enter n) (e ∷ outer) enter.0
        keeps (reply.Base cell) = misled_sim code ls b base (e ∷ outer) g p a (does.Enter n) (e ∷ outer) enter.0
        keeps (reply.Held h) = misled_sim code ls b base (e ∷ outer) g p a (does.Enter n) (e ∷ outer) enter.0

  mutual
    -- a step of a clause with labels that is reached
    steps_progress : (now : Steps) (ls : List Landing) (all : Steps) (places : List ℕ) (ch : List Environ) (k b : ℕ) (base : List Item) (home : List Environ) (g : Bool) → ch ≡ home
        → (c : ClauseAt code ls places all base ch g b) → (qs : List ℕ) → StandSteps code (in_clause all places c.lie) g c.place b now qs k b
        → Goes ls b base home g (stands_at all now ch) (idle k base ch)
    steps_progress (last_step labels t) ls all places ch k b base home g ec c [] s = absurd s
    steps_progress (last_step labels t) ls all places ch k b base home g ec c (q ∷ (r ∷ qs)) s = absurd s
    steps_progress (last_step labels t) ls all places ch k b base home g ec c (q ∷ []) s =
        let lie = in_clause all places c.lie in
        let agrees = agrees_clause all places c.lie ls base ch c.agrees in
        from_part ls (at_step all (last_step labels t)) places ch [] no_terms (todo t ch) b b b base home g (idle k base ch) refl (lie, agrees, refl) (refl, ec, c, refl)
        (λ v e last. moved ls _ _ _ _ e (last_ends ls all places ch b base home g ec c labels t b v refl))
        (tree_progress t (landing all places base ch ∷ ls) ch b base ch g (idle k base ch) (record { a = k; lie = lie; agrees = agrees; stands = s.1; chain = refl; state = refl }))
    steps_progress (step labels t more) ls all places ch k b base home g ec c [] s = absurd s
    steps_progress (step labels t more) ls all places ch k b base home g ec c (q ∷ qs) s =
        let lie = in_clause all places c.lie in
        let agrees = agrees_clause all places c.lie ls base ch c.agrees in
        from_part ls (at_step all (step labels t more)) places ch [] no_terms (todo t ch) s.0 s.0 b base home g (idle k base ch) refl (lie, agrees, refl) (refl, ec, c, (qs, s.3))
        (λ v e last. moved ls _ _ _ _ e (progress_row program code ls _ _ _ _ (row_done program (at_step all (step labels t more)) ch (v ∷ []))
        (steps_progress more ls all places ch s.0 b base home g ec c qs s.3)))
        (tree_progress t (landing all places base ch ∷ ls) ch s.0 base ch false (idle k base ch) (record { a = k; lie = lie; agrees = agrees; stands = s.2; chain = refl; state = refl }))
    steps_progress (exit labels t more) ls all places ch k b base home g ec c [] s = absurd s
    steps_progress (exit labels t more) ls all places ch k b base home g ec c (q ∷ qs) s =
        let lie = in_clause all places c.lie in
        let agrees = agrees_clause all places c.lie ls base ch c.agrees in
        let less : s.0 < b = (let x = forward_steps code lie g c.place b more qs s.1 b s.5 in let n = s.4.1 in omega arith) in
        from_part ls (at_step all (exit labels t more)) places ch [] no_terms (todo t ch) s.0 s.0 b base home g (idle k base ch) refl (lie, agrees, refl) (refl, ec, c, (s.1, s.4, less))
        (λ v e last. moved ls _ _ _ _ e (exit_ends ls all places ch b base home g ec c labels t more s.0 s.1 v s.4 less))
        (tree_progress t (landing all places base ch ∷ ls) ch s.0 base ch g (idle k base ch) (record { a = k; lie = lie; agrees = agrees; stands = s.3; chain = refl; state = refl }))

    -- a tree that is reached
    tree_progress : (tree : Tree) (ls : List Landing) (c : List Environ) (b : ℕ) (base : List Item) (home : List Environ) (g : Bool) (st : State) → Begins code ls tree c b base home g st
        → Goes ls b base home g (todo tree c) st
    tree_progress (operation p op o parts) ls c b base home g st s =
        let z = s.stands in
        let n : count parts ≡ count_terms (todos parts c) = sym (count_todos parts c) in
        let at : OperationAt code p op (count_terms (todos parts c)) z.0 b g =
        subst (λ x. OperationAt code p op x z.0 b g) n (record { gives = z.1; enough = z.2; has = z.4 }) in
        progress_row program code ls _ _ _ st refl
        (trees_progress parts ls (operating p op o) c [] s.a z.0 b base home g st s.lie refl (agrees_there ls c b base home g st _ s) z.3 (s.state ∙ ap (λ x. idle s.a base x) (sym s.chain)) (at, s.chain)
        (operating_done program code ls b base home g same p op o c z.0))
    tree_progress (together parts) ls c b base home g st s =
        let z = s.stands in
        progress_row program code ls _ _ _ st refl
        (trees_progress parts ls gathering c [] s.a b b base home g st s.lie refl (agrees_there ls c b base home g st _ s) z.1 (s.state ∙ ap (λ x. idle s.a base x) (sym s.chain)) (z.0, refl, s.chain)
        (gathering_done program code ls b base home g c b))
    tree_progress (phrases p front final) ls c b base home g st s =
        let z = s.stands in
        let ag = agrees_there ls c b base home g st _ s in
        progress_row program code ls _ _ _ st refl
        (trees_progress front ls (preceding final) c [] s.a z.0 b base home g st s.lie refl ag z.1 (s.state ∙ ap (λ x. idle s.a base x) (sym s.chain)) (s.chain, (s.lie, ag, z.2))
        (preceding_done ls final c z.0 b base home g (λ m x. tree_progress final ls c m base c g x)))
    tree_progress (labelled p steps) ls c b base home g st s =
        let z = s.stands in
        let clause : ClauseAt code ls z.0 steps base c g b = record { place = p; begin = s.a; lie = s.lie; agrees = agrees_there ls c b base home g st _ s; stands = z.1 } in
        progress_row program code ls _ _ _ st refl
        (moved ls _ _ st _ (s.state ∙ ap (λ x. idle s.a base x) (sym s.chain)) (steps_progress steps ls steps z.0 c s.a b base home g s.chain clause z.0 z.1))
    tree_progress (jump p label frames height gives) ls c b base home g st s =
        moved ls _ _ st _ (s.state ∙ ap (λ x. idle s.a base x) (sym s.chain))
        (jumps_out ls p label frames height gives c s.a b base home g s.lie (agrees_there ls c b base home g st _ s) s.stands)
    tree_progress (range p out n gives inside_it) ls c b base home g st s =
        let z = s.stands in
        subst (λ (x : List Environ). Goes ls b base home g (todo (range p out n gives inside_it) x) st) (sym s.chain)
        (moved ls _ _ st (idle s.a base home) s.state (enters_frame ls p out n s.a b z.0 z.1 g gives inside_it z.2 z.3 s.lie z.4 base home s.agrees z.5))
    tree_progress (choice p enquiry if_true if_false) ls c b base home g st s =
        let z = s.stands in
        let ag = agrees_there ls c b base home g st _ s in
        let tail : Tail code ls (choosing p if_true if_false) [] 1 c z.0 b base home g = (s.chain, refl, s.lie, ag, z.1, z.2, z.3, z.5, z.6, z.7, z.8) in
        progress_row program code ls _ _ _ st refl
        (from_part ls (choosing p if_true if_false) [] c [] no_terms (todo enquiry c) z.0 z.0 b base home g st refl (s.lie, ag, refl) tail
        (λ v e last. moved ls _ _ st _ e (choosing_done program code ls b base home g p if_true if_false c z.0 (v ∷ []) last))
        (tree_progress enquiry ls c z.0 base c true st (record { a = s.a; lie = s.lie; agrees = ag; stands = z.4; chain = refl; state = s.state ∙ ap (λ x. idle s.a base x) (sym s.chain) })))
    tree_progress (cases p enquiry arms out) ls c b base home g st s =
        let z = s.stands in
        let ag = agrees_there ls c b base home g st _ s in
        let tail : Tail code ls (casing p arms out) [] 1 c z.0 b base home g = (s.chain, refl, s.lie, ag, z.1, z.2, z.3, z.5, z.6, z.7) in
        progress_row program code ls _ _ _ st refl
        (from_part ls (casing p arms out) [] c [] no_terms (todo enquiry c) z.0 z.0 b base home g st refl (s.lie, ag, refl) tail
        (λ v e last. moved ls _ _ st _ e (casing_done program code ls b base home g p arms out c z.0 (v ∷ []) last))
        (tree_progress enquiry ls c z.0 base c true st (record { a = s.a; lie = s.lie; agrees = ag; stands = z.4; chain = refl; state = s.state ∙ ap (λ x. idle s.a base x) (sym s.chain) })))
    tree_progress (conformity p union members yields enquiry specs out) ls c b base home g st s =
        let z = s.stands in
        let ag = agrees_there ls c b base home g st _ s in
        let has = subst (λ (ms : List ℕ). Has code p (does.Member union (member_places ms specs z.3 z.2) (wholes_of ms specs)) z.0 z.1) z.5 z.7 in
        let tail : Tail code ls (conforming p union yields specs out) [] 1 c z.0 b base home g = (s.chain, refl, z.4, s.lie, ag, z.1, z.2, z.3, has, z.8, z.9) in
        progress_row program code ls _ _ _ st refl
        (from_part ls (conforming p union yields specs out) [] c [] no_terms (todo enquiry c) z.0 z.0 b base home g st refl (s.lie, ag, refl) tail
        (λ v e last. moved ls _ _ st _ e (conforming_done program code ls same b base home g p union yields specs out c z.0 (v ∷ []) last))
        (tree_progress enquiry ls c z.0 base c true st (record { a = s.a; lie = s.lie; agrees = ag; stands = z.6; chain = refl; state = s.state ∙ ap (λ x. idle s.a base x) (sym s.chain) })))
    tree_progress (loop p controls true counts test body) ls c b base home g st s =
        let z = s.stands in
        let l : LoopTurns = record { place = p; counts = counts; test = test; body = body } in
        let x : LoopAt code ls base home l z.2 b =
        record { lie = s.lie; agrees = s.agrees; t' = z.3; u = z.4; w = z.5; x = z.6; n = z.7; n' = z.8; v = z.9; f = z.10; e = z.11; step = z.17; turn = z.18; index = z.19; tests = z.20; body_at = z.21; out = z.22; advance = z.23; jump = z.24; quit = z.25; forget = z.26 } in
        progress_row program code ls _ _ _ st refl
        (trees_progress controls ls (limiting l) c [] s.a z.0 b base home g st s.lie refl (agrees_there ls c b base home g st _ s) z.14 (s.state ∙ ap (λ x. idle s.a base x) (sym s.chain))
        (z.12, s.chain, count_todos controls c ∙ z.13, z.1, z.2, z.15, z.16, x) (limiting_done program code ls b base home g l c z.0))
    tree_progress (loop p controls false counts test body) ls c b base home g st s =
        let z = s.stands in
        let l : LoopTurns = record { place = p; counts = counts; test = test; body = body } in
        let x : LoopAt code ls base home l z.2 b =
        record { lie = s.lie; agrees = s.agrees; t' = z.3; u = z.4; w = z.5; x = z.6; n = z.7; n' = z.8; v = z.9; f = z.10; e = z.11; step = z.17; turn = z.18; index = z.19; tests = z.20; body_at = z.21; out = z.22; advance = z.23; jump = z.24; quit = z.25; forget = z.26 } in
        let counter : Has code p does.Counter z.0 z.2 = subst (λ (y : ℕ). Has code p does.Counter y z.2) (sym z.15) z.16 in
        progress_row program code ls _ _ _ st refl
        (trees_progress controls ls (counting l) c [] s.a z.0 b base home g st s.lie refl (agrees_there ls c b base home g st _ s) z.14 (s.state ∙ ap (λ x. idle s.a base x) (sym s.chain))
        (z.12, s.chain, count_todos controls c ∙ z.13, z.2, counter, x) (counting_done program code ls b base home g l c z.0))
    tree_progress (call p yields no_trees) ls c b base home g st s = absurd s.stands
    tree_progress (call p yields (primary and_tree parts)) ls c b base home g st s =
        let z = s.stands in
        progress_row program code ls _ _ _ st refl
        (trees_progress (primary and_tree parts) ls (calling p yields) c [] s.a z.0 b base home g st s.lie refl (agrees_there ls c b base home g st _ s) z.2 (s.state ∙ ap (λ x. idle s.a base x) (sym s.chain))
        (z.1, s.chain, count parts, count_todos (primary and_tree parts) c, z.3) (calling_done program code ls texts b base home g p yields c z.0))
    tree_progress (parallel p numbers) ls c b base home g st s =
        let z = s.stands in
        progress_row program code ls _ _ _ st refl
        (moved ls _ _ st _ (s.state ∙ ap (λ x. idle s.a base x) (sym s.chain)) (forking_done program code ls b base home g p numbers c s.a [] (z.1, s.chain, z.0, z.3, z.4)))
    tree_progress meaningless ls c b base home g st s = absurd s.stands

    -- parts that are reached, behind those that have yielded
    trees_progress : (trees : Trees) (ls : List Landing) (job : Job) (ch : List Environ) (acc : List Content) (a k b : ℕ) (base : List Item) (home : List Environ) (g : Bool) (st : State) (lie : Lie)
        → pose_of job ≡ ready → Agrees lie (landings job [] ls (inner job b home base) ch) (left (parts_give job g) acc (inner job b home base)) ch
        → StandAll code lie (parts_give job g) trees a k → st ≡ idle a (left (parts_give job g) acc (inner job b home base)) ch
        → Tail code ls job [] (count_terms (yields acc (todos trees ch))) ch k b base home g → Done program code ls job ch k b base home g
        → Goes ls b base home g (part job ch (yields acc (todos trees ch))) st
    trees_progress no_trees ls job ch acc a k b base home g st lie none agrees stands e tail done =
        let items = left (parts_give job g) acc (inner job b home base) in
        moved ls _ _ st (posed code (pose_of job) k items ch (parts_give job g))
        (e ∙ ap (λ n. idle n items ch) stands ∙ ap (λ (d : Pose). posed code d k items ch (parts_give job g)) (sym none)) (done acc tail)
    trees_progress (tree and_tree trees) ls job ch acc a k b base home g st lie none agrees stands e tail done =
        let li = landings job [] ls (inner job b home base) ch in
        let items = left (parts_give job g) acc (inner job b home base) in
        from_part ls job [] ch acc (todos trees ch) (todo tree ch) stands.0 k b base home g st none (lie, agrees, todos_all code (above (parts_give job g) lie) (parts_give job g) trees stands.0 k ch stands.2) tail
        (λ v e2 tail2. trees_progress trees ls job ch (v ∷ acc) stands.0 k b base home g st (above (parts_give job g) lie) none (agrees_push (parts_give job g) lie li v items ch agrees) stands.2 e2 tail2 done)
        (tree_progress tree li ch stands.0 items ch (parts_give job g) st (record { a = a; lie = lie; agrees = agrees; stands = stands.1; chain = refl; state = e }))

  -- all parameters are bound: the body begins, where it is there
  binding_last : (ls : List Landing) (p : ℕ) (q : Routine) (from : List Environ) (slot : ℕ) (ch : List Environ) (k b : ℕ) (base : List Item) (home : List Environ) (g : Bool)
      → Done program code ls (binding p q from slot []) ch k b base home g
  binding_last ls p q from slot ch k b base home g (v ∷ acc) tail = absurd (omega (arith, tail.0, count_yields (v ∷ acc) no_terms))
  binding_last ls p q from slot ch k b base home g [] tail =
      by_text (slice_get (texts_of program) q.text) refl (slice_get code.texts q.text) refl (texts.each q.text)
    where
      items : List Item
      items = item.Caller (record { to = b; chain = home }) ∷ base

      begun : Agrees outermost [] (item.Caller (record { to = b; chain = home }) ∷ base) ch
      begun = agrees_outermost (record { to = b; chain = home }) base ch

      t : Term
      t = part (binding p q from slot []) ch no_terms

      by_text : (o : Option Body) → slice_get (texts_of program) q.text ≡ o → (o2 : Option RoutineEntrance) → slice_get code.texts q.text ≡ o2 → Found code o o2
          → Progress program code ls (Sim code ls b base home g) t (begins_body (idle k items ch) o2)
      by_text None is None is2 found =
          moves_fault program code ls _ t _ fault.Kind p (ap (λ (o : Option Body). Some (body_in p from ch o)) is) (ap (λ x. Some (meets fault.Kind x)) (place_is code k p tail.3 tail.4.0))
          (is_inside code k p tail.3 tail.4.0)
      by_text None is (Some e) is2 found = absurd found
      by_text (Some body) is None is2 found = absurd found
      by_text (Some body) is (Some e) is2 found =
          let gives : g ≡ body.yields = sym (tail.2 e is2) ∙ found.yields in
          progress_row program code ls _ t (part (inside body.place body.yields from) ch (only (todo body.tree ch))) _ (ap (λ (o : Option Body). Some (body_in p from ch o)) is)
          (from_part ls (inside body.place body.yields from) [] ch [] no_terms (todo body.tree ch) found.end found.end b base home g (idle e.at items ch) refl (outermost, begun, refl)
          (gives, tail.1, refl, found.return)
          (λ v there last. moved ls _ _ _ _ there (inside_done program code ls b base home g body.place body.yields from ch found.end (v ∷ []) last))
          (tree_progress body.tree [] ch found.end items ch g (idle e.at items ch)
          (record { a = e.at; lie = outermost; agrees = begun; stands = subst (λ (x : Bool). Stands code outermost x body.tree e.at found.end) (sym gives) found.stands; chain = refl; state = refl })))

  -- what comes next once the parts at hand have yielded
  all_done : (ls : List Landing) (job : Job) (places : List ℕ) (ch : List Environ) (k b : ℕ) (base : List Item) (home : List Environ) (g : Bool) (acc : List Content)
      → Tail code ls job places (count_terms (yields acc no_terms)) ch k b base home g
      → Goes ls b base home g (part job ch (yields acc no_terms)) (posed code (pose_of job) k (left (parts_give job g) acc (inner job b home base)) ch (parts_give job g))
  all_done ls (operating p op o) places ch k b base home g acc tail = operating_done program code ls b base home g same p op o ch k acc tail
  all_done ls (resuming p d) places ch k b base home g acc tail = resuming_done program code ls b base home g same p d ch k acc tail
  all_done ls (preceding final) places ch k b base home g acc tail = preceding_done ls final ch k b base home g (λ m x. tree_progress final ls ch m base ch g x) acc tail
  all_done ls gathering places ch k b base home g acc tail = gathering_done program code ls b base home g ch k acc tail
  all_done ls ending places ch k b base home g acc tail = ending_done program code ls b base home g ch k acc tail
  all_done ls (at_step all now) places ch k b base home g [] tail = absurd (omega (arith, tail.0))
  all_done ls (at_step all now) places ch k b base home g (v ∷ (w ∷ acc)) tail = absurd (two_or_more v w acc tail.0)
  all_done ls (at_step all (last_step labels t)) places ch k b base home g (v ∷ []) tail = last_ends ls all places ch b base home g tail.1 tail.2 labels t k v tail.3
  all_done ls (at_step all (step labels t more)) places ch k b base home g (v ∷ []) tail =
      progress_row program code ls _ _ _ _ (row_done program (at_step all (step labels t more)) ch (v ∷ []))
      (steps_progress more ls all places ch k b base home g tail.1 tail.2 tail.3.0 tail.3.1)
  all_done ls (at_step all (exit labels t more)) places ch k b base home g (v ∷ []) tail =
      exit_ends ls all places ch b base home g tail.1 tail.2 labels t more k tail.3.0 v tail.3.1 tail.3.2
  all_done ls (ranged out yields) places ch k b base home g acc tail = ranged_done program code ls b base home g out yields ch k acc tail
  all_done ls (choosing p if_true if_false) places ch k b base home g acc tail = choosing_done program code ls b base home g p if_true if_false ch k acc tail
  all_done ls (casing p arms out) places ch k b base home g acc tail = casing_done program code ls b base home g p arms out ch k acc tail
  all_done ls (conforming p union yields specs out) places ch k b base home g acc tail = conforming_done program code ls same b base home g p union yields specs out ch k acc tail
  all_done ls (specifying p yields v t) places ch k b base home g acc tail = specifying_done program code ls same b base home g p yields v t ch k acc tail
  all_done ls (tagging p yields v t) places ch k b base home g acc tail = tagging_done program code ls same b base home g p yields v t ch k acc tail
  all_done ls (passing v t) places ch k b base home g acc tail = passing_done program code ls same b base home g v t ch k acc tail
  all_done ls chosen places ch k b base home g acc tail = chosen_done program code ls b base home g ch k acc tail
  all_done ls (limiting l) places ch k b base home g acc tail = limiting_done program code ls b base home g l ch k acc tail
  all_done ls (counting l) places ch k b base home g acc tail = counting_done program code ls b base home g l ch k acc tail
  all_done ls (stepping c l) places ch k b base home g acc tail = stepping_done program code ls b base home g c l ch k acc tail
  all_done ls (turning c l) places ch k b base home g acc tail = turning_done program code ls b base home g c l ch k acc tail
  all_done ls (opening c l) places ch k b base home g acc tail = opening_done program code ls b base home g c l ch k acc tail
  all_done ls (naming c l) places ch k b base home g acc tail = naming_done program code ls b base home g c l ch k acc tail
  all_done ls (indexing c l) places ch k b base home g acc tail = indexing_done program code ls b base home g c l ch k acc tail
  all_done ls (ranging c l at slots test) places ch k b base home g acc tail = ranging_done program code ls b base home g c l at slots test ch k acc tail
  all_done ls (testing c l) places ch k b base home g acc tail = testing_done program code ls b base home g c l ch k acc tail
  all_done ls (running c l) places ch k b base home g acc tail = running_done program code ls b base home g c l ch k acc tail
  all_done ls (advancing n c l) places ch k b base home g acc tail = advancing_done program code ls b base home g n c l ch k acc tail
  all_done ls (quitting n p c) places ch k b base home g acc tail = quitting_done program code ls b base home g n p c ch k acc tail
  all_done ls (leaving c) places ch k b base home g acc tail = leaving_done program code ls b base home g c ch k acc tail
  all_done ls (calling p yields) places ch k b base home g acc tail = calling_done program code ls texts b base home g p yields ch k acc tail
  all_done ls (entering p q vs) places ch k b base home g acc tail = entering_done program code ls texts b base home g p q vs ch k acc tail
  all_done ls (binding p q from slot []) places ch k b base home g acc tail = binding_last ls p q from slot ch k b base home g acc tail
  all_done ls (binding p q from slot (v ∷ vs)) places ch k b base home g acc tail = binding_one program code ls texts b base home g p q from slot v vs ch k acc tail
  all_done ls (inside p yields from) places ch k b base home g acc tail = inside_done program code ls b base home g p yields from ch k acc tail
  all_done ls (forking p numbers) places ch k b base home g acc tail = forking_done program code ls b base home g p numbers ch k acc tail
  all_done ls joining places ch k b base home g acc tail = absurd tail
  all_done ls (closing p) places ch k b base home g acc tail = absurd tail

  -- what comes next for parts at hand
  parts_progress : (ts : Terms) (ls : List Landing) (job : Job) (places : List ℕ) (ch : List Environ) (acc : List Content) (k b : ℕ) (base : List Item) (home : List Environ) (g : Bool) (st : State)
      → DoesParts code (landings job places ls (inner job b home base) ch) ts k (left (parts_give job g) acc (inner job b home base)) ch (parts_give job g) (pose_of job) st
      → Tail code ls job places (count_terms (yields acc ts)) ch k b base home g → Goes ls b base home g (part job ch (yields acc ts)) st
  parts_progress no_terms ls job places ch acc k b base home g st does tail = moved ls _ _ st _ does (all_done ls job places ch k b base home g acc tail)
  parts_progress (unit_of x t and_term ts) ls job places ch acc k b base home g st does tail = absurd does
  parts_progress (yielded v and_term ts) ls job places ch acc k b base home g st does tail = parts_progress ts ls job places ch (v ∷ acc) k b base home g st does tail
  parts_progress (todo tree c and_term ts) ls job places ch acc k b base home g st does tail =
      let li = landings job places ls (inner job b home base) ch in
      let items = left (parts_give job g) acc (inner job b home base) in
      from_part ls job places ch acc ts (todo tree c) does.0 k b base home g st does.1 does.2 tail
      (λ v e tail2. parts_progress ts ls job places ch (v ∷ acc) k b base home g st (does_behind code li v ts does.0 k items ch (parts_give job g) (pose_of job) st does.1 does.2 e) tail2)
      (tree_progress tree li c does.0 items ch (parts_give job g) st does.3)
  parts_progress (part job2 c ps and_term ts) ls job places ch acc k b base home g st does tail =
      let li = landings job places ls (inner job b home base) ch in
      let items = left (parts_give job g) acc (inner job b home base) in
      from_part ls job places ch acc ts (part job2 c ps) does.0 k b base home g st does.1 does.2 tail
      (λ v e tail2. parts_progress ts ls job places ch (v ∷ acc) k b base home g st (does_behind code li v ts does.0 k items ch (parts_give job g) (pose_of job) st does.1 does.2 e) tail2)
      (parts_progress ps li job2 does.3 c [] does.4 does.0 items ch (parts_give job g) st does.5 does.6)

  -- what comes next for any term
  pub term_progress : (t : Term) (ls : List Landing) (b : ℕ) (base : List Item) (home : List Environ) (g : Bool) (st : State) → Sim code ls b base home g t st
      → Goes ls b base home g t st
  term_progress (todo tree c) ls b base home g st s = tree_progress tree ls c b base home g st s
  term_progress (part job c ps) ls b base home g st s = parts_progress ps ls job s.0 c [] s.1 b base home g st s.2 s.3
  term_progress (yielded v) ls b base home g st s = finishes v still s
  term_progress (unit_of x t) ls b base home g st s = absurd s
