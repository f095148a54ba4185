-- Trees whose jumps have their numbers, and how these agree with where the clauses of their labels stand.
use Rattle.std.proofs.Common.{◌≡◌, ◌<◌, ◌≤◌, ℕ, ◌+◌, ◌-◌, Bool, true, false, List, [], ◌∷◌, ◌++◌, refl, sym, ◌∙◌, ap, subst, arith, None, Some}
use Rattle.std.proofs.lemmas.Bool.{false≢true}
use Rattle.std.proofs.lemmas.Option.{same_Some}
use Rattle.std.specs.Option.{option_map}
use Rattle.std.specs.Prelude.{⊤, map, nat_eq, ◌||◌, if◌then◌else◌}
use Rattle.std.specs.declared.option.Option.{Option}
use Rattle.a68_builder.proofs.Knowing.{far_is}
use Rattle.a68_builder.specs.Labels.{far, number_of}
use Rattle.a68_elab.specs.Made.{further}
use Rattle.a68_elab.specs.Programs.{Mark, Seat, all_seated, in_clause, jump_by, mark_of, misfit, one_if, over, further_in, seated, specs_seated, steps_seated, test_seated}
use Rattle.a68_elab.specs.Trees.{Tree, Trees, operation, together, phrases, labelled, jump, range, choice, cases, conformity, loop, call, parallel, meaningless, no_trees, ◌and_tree◌, Steps, last_step, step, exit, has_label, is_label_in, labels_of, Specs, no_specs, spec, Test, no_test, while_in, deeper, depth_of}
use Rattle.a68_emit.specs.Listing.{label_places}
use Rattle.a68_emit.specs.Stretches.{Around, Lie, about, above, deeper_by, place_of}
use Rattle.a68_emit.specs.Stretches.{further_in as frames_in, in_clause as lie_in_clause}
use Rattle.a68_gen.proofs.Heights.{bit}
use Rattle.a68_gen.proofs.Settling.{number_front, number_is, number_past, place_none, place_there, step_places}

-- ---- jumps with their numbers

-- each jump in the tree has the numbers that it has where the tree is written
abbrev mutual
  pub IsSeated : Seat → Tree → Type 0
  IsSeated s (operation place op order parts) = AreSeated s true parts
  IsSeated s (together parts) = AreSeated s false parts
  IsSeated s (phrases place before final) = AreSeated s false before × IsSeated s final
  IsSeated s (labelled place steps) = StepsSeated (in_clause (labels_of steps) s) steps
  IsSeated s (jump place label frames height yields) = (m : Mark) × (mark_of label s.marks ≡ Some m) × (frames ≡ s.depth - m.depth) × (height ≡ m.height)
  IsSeated s (range place out slots yields within) = IsSeated (further_in 1 s) within
  IsSeated s (choice place enquiry if_true if_false) = IsSeated s enquiry × IsSeated s if_true × IsSeated s if_false
  IsSeated s (cases place enquiry arms out) = IsSeated s enquiry × AreSeated s false arms × IsSeated s out
  IsSeated s (conformity place union members yields enquiry specs out) = IsSeated s enquiry × SpecsSeated s specs × IsSeated s out
  IsSeated s (loop place controls limited counts test body) =
      AreSeated s true controls × TestSeated (further_in (one_if counts) (over true s)) test × IsSeated (further_in (depth_of counts test) (over true s)) body
  IsSeated s (call place yields parts) = AreSeated s true parts
  IsSeated s (parallel place units) = ⊤
  IsSeated s meaningless = ⊤

  pub AreSeated : Seat → (leave : Bool) → Trees → Type 0
  AreSeated s leave no_trees = ⊤
  AreSeated s leave (t and_tree ts) = IsSeated s t × AreSeated (over leave s) leave ts

  pub SpecsSeated : Seat → Specs → Type 0
  SpecsSeated s no_specs = ⊤
  SpecsSeated s (spec takes tagged united part behind) = IsSeated (further_in (one_if tagged) s) part × SpecsSeated s behind

  pub TestSeated : Seat → Test → Type 0
  TestSeated s no_test = ⊤
  TestSeated s (while_in at slots test) = IsSeated (further_in (deeper slots 0) s) test

  pub StepsSeated : Seat → Steps → Type 0
  StepsSeated s (last_step labels t) = IsSeated s t
  StepsSeated s (step labels t more) = IsSeated s t × StepsSeated s more
  StepsSeated s (exit labels t more) = IsSeated s t × StepsSeated s more

pub labels_seated : (s : Seat) (steps : Steps) → labels_of (steps_seated s steps) ≡ labels_of steps
labels_seated s (last_step ls t) = refl
labels_seated s (step ls t more) = ap (λ (l : List ℕ). ls ++ l) (labels_seated s more)
labels_seated s (exit ls t more) = ap (λ (l : List ℕ). ls ++ l) (labels_seated s more)

depth_seated : (s : Seat) (counts : Bool) (test : Test) → depth_of counts (test_seated s test) ≡ depth_of counts test
depth_seated s counts no_test = refl
depth_seated s counts (while_in at slots t) = refl

misfit_seated : (s : Seat) (place : ℕ) (wanted : Bool) → IsSeated s (misfit place wanted)
misfit_seated s place true = (tt, tt)
misfit_seated s place false = ((tt, tt), tt)

jump_seated : (s : Seat) (place label : ℕ) (yields : Bool) (o : Option Mark) → mark_of label s.marks ≡ o → IsSeated s (jump_by place label yields s.depth o)
jump_seated s place label yields None e = misfit_seated s place yields
jump_seated s place label yields (Some m) e = (m, e, refl, refl)

mutual
  pub is_seated : (s : Seat) (t : Tree) → IsSeated s (seated s t)
  is_seated s (operation place op order parts) = are_seated s true parts
  is_seated s (together parts) = are_seated s false parts
  is_seated s (phrases place before final) = (are_seated s false before, is_seated s final)
  is_seated s (labelled place steps) =
      let inner = in_clause (labels_of steps) s in
      subst (λ (ls : List ℕ). StepsSeated (in_clause ls s) (steps_seated inner steps)) (sym (labels_seated inner steps)) (these_seated inner steps)
  is_seated s (jump place label frames height yields) = jump_seated s place label yields (mark_of label s.marks) refl
  is_seated s (range place out slots yields within) = is_seated (further_in 1 s) within
  is_seated s (choice place enquiry if_true if_false) = (is_seated s enquiry, is_seated s if_true, is_seated s if_false)
  is_seated s (cases place enquiry arms out) = (is_seated s enquiry, are_seated s false arms, is_seated s out)
  is_seated s (conformity place union members yields enquiry specs out) = (is_seated s enquiry, all_specs_seated s specs, is_seated s out)
  is_seated s (loop place controls limited counts test body) =
      let turn = further_in (one_if counts) (over true s) in
      let inner = further_in (depth_of counts test) (over true s) in (
        are_seated s true controls,
        test_is_seated turn test,
        subst (λ (n : ℕ). IsSeated (further_in n (over true s)) (seated inner body)) (sym (depth_seated turn counts test)) (is_seated inner body),
      )
  is_seated s (call place yields parts) = are_seated s true parts
  is_seated s (parallel place units) = tt
  is_seated s meaningless = tt

  pub are_seated : (s : Seat) (leave : Bool) (ts : Trees) → AreSeated s leave (all_seated s leave ts)
  are_seated s leave no_trees = tt
  are_seated s leave (t and_tree ts) = (is_seated s t, are_seated (over leave s) leave ts)

  all_specs_seated : (s : Seat) (specs : Specs) → SpecsSeated s (specs_seated s specs)
  all_specs_seated s no_specs = tt
  all_specs_seated s (spec takes tagged united part behind) = (is_seated (further_in (one_if tagged) s) part, all_specs_seated s behind)

  test_is_seated : (s : Seat) (test : Test) → TestSeated s (test_seated s test)
  test_is_seated s no_test = tt
  test_is_seated s (while_in at slots t) = is_seated (further_in (deeper slots 0) s) t

  these_seated : (s : Seat) (steps : Steps) → StepsSeated s (steps_seated s steps)
  these_seated s (last_step labels t) = is_seated s t
  these_seated s (step labels t more) = (is_seated s t, these_seated s more)
  these_seated s (exit labels t more) = (is_seated s t, these_seated s more)

-- ---- labels about a tree

-- a label about a tree: its clause stands there, with the step behind the label at the place that the label has
pub record Found (lie : Lie) (labels : List (ℕ × ℕ)) (depth label : ℕ) (m : Mark) : Type 0 where
  pub clause : Around
  pub to : ℕ
  pub is : about label lie.around ≡ Some clause
  pub stands : place_of label clause.steps clause.places ≡ Some to
  pub settles : number_of labels label ≡ Some to
  pub frames : depth ≡ clause.frames + m.depth
  pub height : m.height ≡ clause.height

-- The numbers of jumps agree with how a tree lies that begins at this place. Each value and each frame of the activation has an
-- instruction before it, so there are not more of them than instructions.
pub record Matches (s : Seat) (lie : Lie) (labels : List (ℕ × ℕ)) (at : ℕ) : Type 0 where
  pub high : lie.height ≡ s.height
  pub low : s.height ≤ at
  pub deep : s.depth ≤ at
  pub found : (label : ℕ) (m : Mark) → mark_of label s.marks ≡ Some m → Found lie labels s.depth label m

-- further on in the text
pub matches_on : (s : Seat) (lie : Lie) (labels : List (ℕ × ℕ)) (at next : ℕ) → at ≤ next → Matches s lie labels at → Matches s lie labels next
matches_on s lie labels at next less m = record { high = m.high; low = (let x = m.low in omega arith); deep = (let x = m.deep in omega arith); found = m.found }

further_is : (n h at : ℕ) → h + n ≤ at → at < far → further n h ≡ h + n
further_is n h at less near = let most = far_is in omega arith

-- over one value more
pub matches_over : (g : Bool) (s : Seat) (lie : Lie) (labels : List (ℕ × ℕ)) (at next : ℕ) → at + bit g ≤ next → next < far → Matches s lie labels at → Matches (over g s) (above g lie) labels next
matches_over false s lie labels at next less near m = matches_on s lie labels at next (omega (arith, less)) m
matches_over true s lie labels at next less near m =
    let low = m.low in
    let deep = m.deep in
    let high = further_is 1 s.height next (omega arith) near in
    record { high = (let e = m.high in omega arith); low = omega arith; deep = omega arith; found = λ label mark is. higher (m.found label mark is) }
  where
    higher : {label : ℕ} {mark : Mark} → Found lie labels s.depth label mark → Found (above true lie) labels s.depth label mark
    higher f = record { clause = f.clause; to = f.to; is = f.is; stands = f.stands; settles = f.settles; frames = f.frames; height = f.height }

about_further : (n label : ℕ) (cs : List Around) → about label (map (frames_in n) cs) ≡ option_map (frames_in n) (about label cs)
about_further n label [] = refl
about_further n label (c ∷ cs) = go (has_label label c.steps) (about_further n label cs)
  where
    go : (b : Bool) → about label (map (frames_in n) cs) ≡ option_map (frames_in n) (about label cs)
        → (if b then Some (frames_in n c) else about label (map (frames_in n) cs)) ≡ option_map (frames_in n) (if b then Some c else about label cs)
    go true e = refl
    go false e = e

-- a clause that is seen from so many frames further in, as it is seen from here
pub record Nearer (n label : ℕ) (c : Around) (cs : List Around) : Type 0 where
  pub nearer : Around
  pub is : about label cs ≡ Some nearer
  pub same : c ≡ frames_in n nearer

pub about_nearer : (n label : ℕ) (c : Around) (cs : List Around) → about label (map (frames_in n) cs) ≡ Some c → Nearer n label c cs
about_nearer n label c cs e = go (about label cs) refl (sym (about_further n label cs) ∙ e)
  where
    go : (o : Option Around) → about label cs ≡ o → option_map (frames_in n) o ≡ Some c → Nearer n label c cs
    go None is f = absurd (cc)
    go (Some d) is f = record { nearer = d; is = is; same = sym (same_Some (frames_in n d) c f) }

-- so many frames further in
pub matches_further : (n : ℕ) (s : Seat) (lie : Lie) (labels : List (ℕ × ℕ)) (at next : ℕ) → at + n ≤ next → next < far → Matches s lie labels at
    → Matches (further_in n s) (deeper_by n lie) labels next
matches_further n s lie labels at next less near m =
    let low = m.low in
    let deep = m.deep in
    let depth : further n s.depth ≡ s.depth + n = further_is n s.depth next (omega arith) near in
    record { high = m.high; low = omega arith; deep = omega arith; found = λ label mark is. further_found depth (m.found label mark is) }
  where
    further_found : {label : ℕ} {mark : Mark} → further n s.depth ≡ s.depth + n → Found lie labels s.depth label mark → Found (deeper_by n lie) labels (further n s.depth) label mark
    further_found {label = label} {mark = mark} depth f = record {
      clause = frames_in n f.clause;
      to = f.to;
      is = about_further n label lie.around ∙ ap (option_map (frames_in n)) f.is;
      stands = f.stands;
      settles = f.settles;
      frames = (let e = f.frames in omega arith);
      height = f.height;
    }

-- a seat that is no frame further in
pub matches_level : (s : Seat) (lie : Lie) (labels : List (ℕ × ℕ)) (at next : ℕ) → at ≤ next → next < far → Matches s lie labels at → Matches (further_in 0 s) lie labels next
matches_level s lie labels at next less near m =
    let low = m.low in
    let deep = m.deep in
    let depth : further 0 s.depth ≡ s.depth + 0 = further_is 0 s.depth next (omega arith) near in
    record { high = m.high; low = omega arith; deep = omega arith; found = λ label mark is. level_found depth (m.found label mark is) }
  where
    level_found : {label : ℕ} {mark : Mark} → further 0 s.depth ≡ s.depth + 0 → Found lie labels s.depth label mark → Found lie labels (further 0 s.depth) label mark
    level_found depth f =
        record { clause = f.clause; to = f.to; is = f.is; stands = f.stands; settles = f.settles; frames = (let e = f.frames in omega arith); height = f.height }

-- ---- within a clause

either_in : (label : ℕ) (xs ys : List ℕ) → is_label_in label (xs ++ ys) ≡ (is_label_in label xs || is_label_in label ys)
either_in label [] ys = refl
either_in label (x ∷ xs) ys = go (nat_eq label x) (either_in label xs ys)
  where
    go : (b : Bool) → is_label_in label (xs ++ ys) ≡ (is_label_in label xs || is_label_in label ys) → (b || is_label_in label (xs ++ ys)) ≡ ((b || is_label_in label xs) || is_label_in label ys)
    go true e = refl
    go false e = e

has_labels : (label : ℕ) (steps : Steps) → has_label label steps ≡ is_label_in label (labels_of steps)
has_labels label (last_step ls t) = refl
has_labels label (step ls t more) = ap (λ (b : Bool). is_label_in label ls || b) (has_labels label more) ∙ sym (either_in label ls (labels_of more))
has_labels label (exit ls t more) = ap (λ (b : Bool). is_label_in label ls || b) (has_labels label more) ∙ sym (either_in label ls (labels_of more))

mark_passed : (labels : List ℕ) (label depth height : ℕ) (ms : List Mark) → is_label_in label labels ≡ false
    → mark_of label (map (λ l. record { label = l; depth = depth; height = height }) labels ++ ms) ≡ mark_of label ms
mark_passed [] label depth height ms none = refl
mark_passed (l ∷ labels) label depth height ms none = go (nat_eq label l) none (mark_passed labels label depth height ms)
  where
    here : Mark
    here = record { label = l; depth = depth; height = height }

    rest : Option Mark
    rest = mark_of label (map (λ x. record { label = x; depth = depth; height = height }) labels ++ ms)

    go : (b : Bool) → (b || is_label_in label labels) ≡ false → (is_label_in label labels ≡ false → rest ≡ mark_of label ms) → (if b then Some here else rest) ≡ mark_of label ms
    go true e f = absurd (false≢true (sym e))
    go false e f = f e

-- where a clause began
abbrev IsThere : (depth height : ℕ) → Mark → Type 0
IsThere depth height m = (m.depth ≡ depth) × (m.height ≡ height)

mark_there : (labels : List ℕ) (label depth height : ℕ) (ms : List Mark) (m : Mark) → is_label_in label labels ≡ true
    → mark_of label (map (λ l. record { label = l; depth = depth; height = height }) labels ++ ms) ≡ Some m → IsThere depth height m
mark_there [] label depth height ms m some e = absurd (false≢true some)
mark_there (l ∷ labels) label depth height ms m some e = go (nat_eq label l) some e (mark_there labels label depth height ms m)
  where
    here : Mark
    here = record { label = l; depth = depth; height = height }

    rest : Option Mark
    rest = mark_of label (map (λ x. record { label = x; depth = depth; height = height }) labels ++ ms)

    go : (b : Bool) → (b || is_label_in label labels) ≡ true → (if b then Some here else rest) ≡ Some m → (is_label_in label labels ≡ true → rest ≡ Some m → IsThere depth height m) → IsThere depth height m
    go true s e f = let same : here ≡ m = same_Some here m e in (sym (ap (λ (x : Mark). x.depth) same), sym (ap (λ (x : Mark). x.height) same))
    go false s e f = f s e

pub matches_clause : (steps : Steps) (s : Seat) (lie : Lie) (labels : List (ℕ × ℕ)) (at : ℕ) → Matches s lie labels at
    → Matches (in_clause (labels_of steps) s) (lie_in_clause steps (step_places steps at) lie) (label_places steps at ++ labels) at
matches_clause steps s lie labels at m = record { high = m.high; low = m.low; deep = m.deep; found = λ label mark is. go label mark (has_label label steps) refl is }
  where
    all : List (ℕ × ℕ)
    all = label_places steps at ++ labels

    inner : Lie
    inner = lie_in_clause steps (step_places steps at) lie

    here : Around
    here = record { frames = 0; height = lie.height; steps = steps; places = step_places steps at }

    go : (label : ℕ) (mark : Mark) (b : Bool) → has_label label steps ≡ b → mark_of label (in_clause (labels_of steps) s).marks ≡ Some mark → Found inner all s.depth label mark
    go label mark true has is =
        let there = mark_there (labels_of steps) label s.depth s.height s.marks mark (sym (has_labels label steps) ∙ has) is in
        let place = place_there label steps at has in
        record {
          clause = here;
          to = place.0;
          is = ap (λ (b : Bool). if b then Some here else about label lie.around) has;
          stands = place.1;
          settles = number_front (label_places steps at) labels label place.0 (number_is label steps at ∙ place.1);
          frames = (let e = there.0 in omega arith);
          height = there.1 ∙ sym m.high;
        }
    go label mark false has is =
        let past = mark_passed (labels_of steps) label s.depth s.height s.marks (sym (has_labels label steps) ∙ has) in
        let f = m.found label mark (sym past ∙ is) in
        record {
          clause = f.clause;
          to = f.to;
          is = ap (λ (b : Bool). if b then Some here else about label lie.around) has ∙ f.is;
          stands = f.stands;
          settles = number_past (label_places steps at) labels label (number_is label steps at ∙ place_none label steps at has) ∙ f.settles;
          frames = f.frames;
          height = f.height;
        }
