-- Instructions that stand are those that are listed.
use Rattle.std.proofs.Common.{◌≡◌, ◌<◌, ℕ, zero, suc, ◌+◌, ◌≤◌, Bool, true, false, List, [], ◌∷◌, ◌++◌, length, drop, refl, sym, ◌∙◌, ap, subst, arith, append_assoc, append-nil, length-append, Some, slice_get}
use Rattle.std.proofs.lemmas.List.{length-map, drop_all}
use Rattle.std.proofs.lemmas.Option.{same_Some, slice_get_within}
use Rattle.a68_base.specs.declared.refusal.Refusal.{Refusal}
use Rattle.std.specs.Prelude.{map, if◌then◌else◌}
use Rattle.a68_builder.proofs.Knowing.{far_is}
use Rattle.a68_builder.specs.Labels.{far, number_of, settled}
use Rattle.a68_builder.specs.Linking.{linked, linked_does}
use Rattle.a68_code.specs.declared.code.Code.{Code}
use Rattle.a68_code.specs.declared.code.Instr.{Instr}
use Rattle.a68_code.specs.declared.code.RoutineEntrance.{RoutineEntrance}
use Rattle.a68_code.specs.declared.does.Does.{Does}
use Rattle.a68_code.specs.declared.does.Does.TheVariants as does
use Rattle.a68_elab.specs.Trees.{Tree, Trees, operation, together, phrases, labelled, jump, range, choice, cases, conformity, loop, call, parallel, meaningless, no_trees, ◌and_tree◌, count, Steps, last_step, step, exit, has_label, Specs, no_specs, spec, Test, no_test, while_in, deeper, depth_of, Apart, routine_text, parallel_unit, Program}
use Rattle.a68_emit.specs.Listing.{instr, limits, indexes, opens, leaves, size, sizes, spec_sizes, test_size, arm_places, spec_places, label_places, stretch, stretches, arm_stretches, spec_stretches, step_stretches, test_stretch, apart_stretches, text_entrances, unit_entrances, written, listing, texts_entered, units_entered}
use Rattle.a68_emit.proofs.Entering.{entrances_are, map-behind, unlinked}
use Rattle.a68_emit.proofs.Sizes.{size_leaves, size_stretch, size_stretches, size_arms, size_specs, size_test}
use Rattle.a68_gen.proofs.Forward.{ends, ends_apart, ends_steps, forward, forward_all, forward_arms, forward_index, forward_leaves, forward_limit, forward_specs, forward_steps, forward_test}
use Rattle.a68_gen.proofs.Seated.{about_nearer}
use Rattle.a68_gen.proofs.Settling.{AreNear, goes_to, near_places, number_front, number_is, number_past, place_none, settled_none, settled_twice, step_places, unsettled}
use Rattle.a68_emit.specs.Stretches.{Around, does_of, leave, Limits, Indexes, EntersSlots, Leaves, Lie, about, above, deeper_by, in_clause, outermost, place_of, Stands, StandAll, StandArms, StandSpecs, StandSteps, Tests, StandApart, member_places, wholes_of, with_last, Translates}
use Rattle.a68_emit.specs.Writing.{IsTooLong, most, places}
use Rattle.a68_modes.specs.declared.shape.Shape.{Shape}

-- an instruction with the entrances of units in the place of their numbers, and with the places of these labels
abbrev pub laid : Code → (labels : List (ℕ × ℕ)) → Instr → Instr
laid code labels i = linked code.units (settled labels i)

-- these instructions stand so in the code from a up to b
pub record Part (code : Code) (labels : List (ℕ × ℕ)) (a : ℕ) (xs : List Instr) (b : ℕ) : Type 0 where
  pub upto : drop a code.list ≡ map (laid code labels) xs ++ drop b code.list
  pub ends : b ≡ a + length xs

drop-get : {X : Type 0} (xs : List X) (k : ℕ) (x : X) → slice_get xs k ≡ Some x → drop k xs ≡ x ∷ drop (suc k) xs
drop-get [] k x p = absurd (cc)
drop-get (y ∷ xs) zero x p = ap (λ z. z ∷ xs) (same_Some y x p)
drop-get (y ∷ xs) (suc k) x p = drop-get xs k x p

none : (code : Code) (labels : List (ℕ × ℕ)) (a b : ℕ) → a ≡ b → Part code labels a [] b
none code labels a b e = record { upto = ap (λ k. drop k code.list) e; ends = omega arith }

behind : (code : Code) (labels : List (ℕ × ℕ)) (a m b : ℕ) (xs ys : List Instr) → Part code labels a xs m → Part code labels m ys b → Part code labels a (xs ++ ys) b
behind code labels a m b xs ys p q = record {
  upto =
      p.upto ∙ ap (λ (l : List Instr). map (laid code labels) xs ++ l) q.upto
      ∙ sym (append_assoc (map (laid code labels) xs) (map (laid code labels) ys) (drop b code.list))
      ∙ ap (λ (l : List Instr). l ++ drop b code.list) (sym (map-behind (laid code labels) xs ys));
  ends = (let e = p.ends in let f = q.ends in omega (arith, length-append xs ys));
}

one : (code : Code) (labels : List (ℕ × ℕ)) (a m b : ℕ) (x : Instr) (xs : List Instr) → slice_get code.list a ≡ Some (laid code labels x) → a + 1 ≡ m → Part code labels m xs b → Part code labels a (x ∷ xs) b
one code labels a m b x xs g e p = record {
  upto = (let s : suc a ≡ m = omega arith in drop-get code.list a (laid code labels x) g ∙ ap (λ k. laid code labels x ∷ drop k code.list) s ∙ ap (λ l. laid code labels x ∷ l) p.upto);
  ends = (let f = p.ends in omega arith);
}

last : (code : Code) (labels : List (ℕ × ℕ)) (a b : ℕ) (x : Instr) → slice_get code.list a ≡ Some (laid code labels x) → a + 1 ≡ b → Part code labels a (x ∷ []) b
last code labels a b x g e = one code labels a b b x [] g e (none code labels b b refl)

-- ---- the forms of trees, where the lists of their parts depend on their places

both_part : (code : Code) (labels : List (ℕ × ℕ)) (a m b n : ℕ) (first : List Instr) (f : ℕ → List Instr) → length first ≡ n → Part code labels a first m → Part code labels m (f m) b → Part code labels a (first ++ f (a + n)) b
both_part code labels a m b n first f e p q = subst (λ (z : ℕ). Part code labels a (first ++ f z) b) (p.ends ∙ ap (λ k. a + k) e) (behind code labels a m b first (f m) p q)

range_part : (code : Code) (labels : List (ℕ × ℕ)) (a a' b' b : ℕ) (enter left : Instr) (f : ℕ → List Instr) → slice_get code.list a ≡ Some (laid code labels enter) → a + 1 ≡ a' → Part code labels a' (f a') b'
    → slice_get code.list b' ≡ Some (laid code labels left) → b' + 1 ≡ b → Part code labels a (enter ∷ (f (a + 1) ++ left ∷ [])) b
range_part code labels a a' b' b enter left f e1 n1 p e2 n2 =
    subst (λ (z : ℕ). Part code labels a (enter ∷ (f z ++ left ∷ [])) b) (sym n1)
    (one code labels a a' b enter (f a' ++ left ∷ []) e1 n1 (behind code labels a' b' b (f a') (left ∷ []) p (last code labels b' b left e2 n2)))

-- TO's own step, the frame of FOR, a frame that is made, and frames that are left
limit_part : (code : Code) (labels : List (ℕ × ℕ)) (limited : Bool) (place a b : ℕ) → Limits code limited place a b → Part code labels a (limits limited place) b
limit_part code labels false place a b s = none code labels a b s
limit_part code labels true place a b s = last code labels a b (instr place (does.Apply 26)) s.0 s.1

index_part : (code : Code) (labels : List (ℕ × ℕ)) (counts : Bool) (place a b : ℕ) → Indexes code counts place a b → Part code labels a (indexes counts place) b
index_part code labels false place a b s = none code labels a b s
index_part code labels true place a b s =
    one code labels a s.0 b (instr place (does.Enter 1)) (instr place does.Index ∷ instr place (does.Bind 0) ∷ []) s.2.0 s.2.1
    (one code labels s.0 s.1 b (instr place does.Index) (instr place (does.Bind 0) ∷ []) s.3.0 s.3.1 (last code labels s.1 b (instr place (does.Bind 0)) s.4.0 s.4.1))

open_part : (code : Code) (labels : List (ℕ × ℕ)) (slots place a b : ℕ) → EntersSlots code slots place a b → Part code labels a (opens slots place) b
open_part code labels zero place a b s = none code labels a b s
open_part code labels (suc n) place a b s = last code labels a b (instr place (does.Enter (suc n))) s.0 s.1

leave_part : (code : Code) (labels : List (ℕ × ℕ)) (place n a b : ℕ) → Leaves code place n a b → Part code labels a (leaves place n) b
leave_part code labels place zero a b s = none code labels a b s
leave_part code labels place (suc n) a b s = one code labels a s.0 b (instr place (does.Leave 0)) (leaves place n) s.1.0 s.1.1 (leave_part code labels place n s.0 b s.2)

-- a choice, with these places
abbrev choice_form : (place : ℕ) (first : List Instr) (f g : ℕ → List Instr) (m x e : ℕ) → List Instr
choice_form place first f g m x e = first ++ (instr place (does.Unless x) ∷ (f m ++ (instr place (does.Jump e) ∷ g x)))

choice_part : (code : Code) (labels : List (ℕ × ℕ)) (place a m m' n x b n1 n2 n3 : ℕ) (first : List Instr) (f g : ℕ → List Instr) → length first ≡ n1 → ((z : ℕ) → length (f z) ≡ n2) → ((z : ℕ) → length (g z) ≡ n3)
    → Part code labels a first m → slice_get code.list m ≡ Some (instr place (does.Unless x)) → m + 1 ≡ m'
    → Part code labels m' (f m') n → slice_get code.list n ≡ Some (instr place (does.Jump b)) → n + 1 ≡ x → Part code labels x (g x) b
    → Part code labels a (choice_form place first f g (a + n1 + 1) (a + n1 + 1 + n2 + 1) (a + n1 + 1 + n2 + 1 + n3)) b
choice_part code labels place a m m' n x b n1 n2 n3 first f g l1 l2 l3 p u nu q j nj r =
    let M = a + n1 + 1 in
    let e1 : m' ≡ M = (let e = p.ends in omega arith) in
    let X = M + n2 + 1 in
    let e2 : x ≡ X = (let e = q.ends in omega (arith, l2 m')) in
    let e3 : b ≡ X + n3 = (let e = r.ends in omega (arith, l3 x)) in
    let unless = instr place (does.Unless x) in
    let jump = instr place (does.Jump b) in
    let w = behind code labels a m b first (unless ∷ (f m' ++ (jump ∷ g x))) p (one code labels m m' b unless (f m' ++ (jump ∷ g x)) u nu (behind code labels m' n b (f m') (jump ∷ g x) q (one code labels n x b jump (g x) j nj r))) in
    let w1 = subst (λ (z : ℕ). Part code labels a (choice_form place first f g z x b) b) e1 w in
    let w2 = subst (λ (z : ℕ). Part code labels a (choice_form place first f g M z b) b) e2 w1 in
    subst (λ (z : ℕ). Part code labels a (choice_form place first f g M X z) b) e3 w2

-- a choice among several parts, with these places
abbrev cases_form : (place : ℕ) (first : List Instr) (f : ℕ → ℕ → List Instr) (g : ℕ → List Instr) (ps : List ℕ) (m x e : ℕ) → List Instr
cases_form place first f g ps m x e = first ++ (instr place (does.Case (with_last ps x)) ∷ (f e m ++ g x))

cases_part : (code : Code) (labels : List (ℕ × ℕ)) (place a m m' x b n1 n2 n3 n4 : ℕ) (ps : List ℕ) (all : ℕ → List ℕ) (first : List Instr) (f : ℕ → ℕ → List Instr) (g : ℕ → List Instr) → length first ≡ n1
    → ((y z : ℕ) → length (f y z) ≡ n2 + n3) → ((z : ℕ) → length (g z) ≡ n4) → ps ≡ all m' → Part code labels a first m → slice_get code.list m ≡ Some (instr place (does.Case (with_last ps x))) → m + 1 ≡ m'
    → Part code labels m' (f b m') x → Part code labels x (g x) b
    → Part code labels a (
    let M = a + n1 + 1 in
    let X = M + n2 + n3 in
    cases_form place first f g (all M) M X (X + n4)) b
cases_part code labels place a m m' x b n1 n2 n3 n4 ps all first f g l1 l2 l3 same p i n q r =
    let M = a + n1 + 1 in
    let e1 : m' ≡ M = (let e = p.ends in omega arith) in
    let X = M + n2 + n3 in
    let e2 : x ≡ X = (let e = q.ends in omega (arith, l2 b m')) in
    let e3 : b ≡ X + n4 = (let e = r.ends in omega (arith, l3 x)) in
    let case = instr place (does.Case (with_last ps x)) in
    let w = behind code labels a m b first (case ∷ (f b m' ++ g x)) p (one code labels m m' b case (f b m' ++ g x) i n (behind code labels m' x b (f b m') (g x) q r)) in
    let w0 = subst (λ (z : List ℕ). Part code labels a (cases_form place first f g z m' x b) b) same w in
    let w1 = subst (λ (z : ℕ). Part code labels a (cases_form place first f g (all z) z x b) b) e1 w0 in
    let w2 = subst (λ (z : ℕ). Part code labels a (cases_form place first f g (all M) M z b) b) e2 w1 in
    subst (λ (z : ℕ). Part code labels a (cases_form place first f g (all M) M X z) b) e3 w2

-- a choice among specifications, with these places
abbrev specs_form : (place : ℕ) (first : List Instr) (d : List ℕ → ℕ → Does) (f : ℕ → ℕ → List Instr) (g : ℕ → List Instr) (ps : List ℕ) (m x e : ℕ) → List Instr
specs_form place first d f g ps m x e = first ++ (instr place (d ps x) ∷ (f e m ++ g x))

specs_whole : (code : Code) (labels : List (ℕ × ℕ)) (place a m m' x b n1 n2 n3 : ℕ) (ps : List ℕ) (all : ℕ → List ℕ) (first : List Instr) (d : List ℕ → ℕ → Does) (f : ℕ → ℕ → List Instr) (g : ℕ → List Instr)
    → length first ≡ n1 → ((y z : ℕ) → length (f y z) ≡ n2) → ((z : ℕ) → length (g z) ≡ n3) → ps ≡ all m' → Part code labels a first m → slice_get code.list m ≡ Some (laid code labels (instr place (d ps x))) → m + 1 ≡ m'
    → Part code labels m' (f b m') x → Part code labels x (g x) b
    → Part code labels a (
    let M = a + n1 + 1 in
    let X = M + n2 in
    specs_form place first d f g (all M) M X (X + n3)) b
specs_whole code labels place a m m' x b n1 n2 n3 ps all first d f g l1 l2 l3 same p i n q r =
    let M = a + n1 + 1 in
    let e1 : m' ≡ M = (let e = p.ends in omega arith) in
    let X = M + n2 in
    let e2 : x ≡ X = (let e = q.ends in omega (arith, l2 b m')) in
    let e3 : b ≡ X + n3 = (let e = r.ends in omega (arith, l3 x)) in
    let member = instr place (d ps x) in
    let w = behind code labels a m b first (member ∷ (f b m' ++ g x)) p (one code labels m m' b member (f b m' ++ g x) i n (behind code labels m' x b (f b m') (g x) q r)) in
    let w0 = subst (λ (z : List ℕ). Part code labels a (specs_form place first d f g z m' x b) b) same w in
    let w1 = subst (λ (z : ℕ). Part code labels a (specs_form place first d f g (all z) z x b) b) e1 w0 in
    let w2 = subst (λ (z : ℕ). Part code labels a (specs_form place first d f g (all M) M z b) b) e2 w1 in
    subst (λ (z : ℕ). Part code labels a (specs_form place first d f g (all M) M X z) b) e3 w2

-- a loop, with these places
abbrev loop_form : (place : ℕ) (first lim idx out : List Instr) (f : ℕ → ℕ → List Instr) (g : ℕ → List Instr) (t w x q e : ℕ) → List Instr
loop_form place first lim idx out f g t w x q e =
    first ++ (lim ++ (instr place does.Counter ∷ instr place (does.Step e) ∷ instr place does.Turn ∷ (idx
    ++ (f q w ++ (g x ++ (out ++ instr place (does.Advance t) ∷ instr place (does.Jump e) ∷ (out ++ instr place does.Forget ∷ [])))))))

loop_part : (code : Code) (labels : List (ℕ × ℕ)) (place a c c' t t' u w x n n' v q e b nc nt nb k : ℕ) (first lim idx out : List Instr) (f : ℕ → ℕ → List Instr) (g : ℕ → List Instr)
    → length first ≡ nc → ((y z : ℕ) → length (f y z) ≡ nt) → ((z : ℕ) → length (g z) ≡ nb) → length out ≡ k
    → Part code labels a first c → Part code labels c lim c' → slice_get code.list c' ≡ Some (instr place does.Counter) → c' + 1 ≡ t → slice_get code.list t ≡ Some (instr place (does.Step e)) → t + 1 ≡ t'
    → slice_get code.list t' ≡ Some (instr place does.Turn) → t' + 1 ≡ u → Part code labels u idx w → Part code labels w (f q w) x
    → Part code labels x (g x) n → Part code labels n out n' → slice_get code.list n' ≡ Some (instr place (does.Advance t)) → n' + 1 ≡ v → slice_get code.list v ≡ Some (instr place (does.Jump e)) → v + 1 ≡ q
    → Part code labels q out e → slice_get code.list e ≡ Some (instr place does.Forget) → e + 1 ≡ b
    → Part code labels a (
    let s = a + nc + length lim + 1 in
    let y = s + 2 + length idx in
    let z = y + nt in
    let r = z + nb + k + 2 in
    loop_form place first lim idx out f g s y z r (r + k)) b
loop_part code labels place a c c' t t' u w x n n' v q e b nc nt nb k first lim idx out f g l1 l2 l3 l4 p pl i1 n1 i2 n2 i3 n3 pi pt pb po i5 n5 i6 n6 pq i7 n7 =
    let S = a + nc + length lim + 1 in
    let e1 : t ≡ S = (let y = p.ends in let z = pl.ends in omega arith) in
    let Y = S + 2 + length idx in
    let e2 : w ≡ Y = (let y = pi.ends in omega arith) in
    let Z = Y + nt in
    let e3 : x ≡ Z = (let y = pt.ends in omega (arith, l2 q w)) in
    let R = Z + nb + k + 2 in
    let e4 : q ≡ R = (let y = pb.ends in let z = po.ends in omega (arith, l3 x)) in
    let e5 : e ≡ R + k = (let y = pq.ends in omega arith) in
    let counter = instr place does.Counter in
    let step = instr place (does.Step e) in
    let turn = instr place does.Turn in
    let advance = instr place (does.Advance t) in
    let jump = instr place (does.Jump e) in
    let forget = instr place does.Forget in
    let r5 = out ++ forget ∷ [] in
    let w5 = behind code labels q e b out (forget ∷ []) pq (last code labels e b forget i7 n7) in
    let r4 = out ++ advance ∷ jump ∷ r5 in
    let w4 = behind code labels n n' b out (advance ∷ jump ∷ r5) po (one code labels n' v b advance (jump ∷ r5) i5 n5 (one code labels v q b jump r5 i6 n6 w5)) in
    let r3 = g x ++ r4 in
    let w3 = behind code labels x n b (g x) r4 pb w4 in
    let r2 = f q w ++ r3 in
    let w2 = behind code labels w x b (f q w) r3 pt w3 in
    let r1 = idx ++ r2 in
    let w1 = behind code labels u w b idx r2 pi w2 in
    let head = counter ∷ step ∷ turn ∷ r1 in
    let w0 = behind code labels c c' b lim head pl (one code labels c' t b counter (step ∷ turn ∷ r1) i1 n1 (one code labels t t' b step (turn ∷ r1) i2 n2 (one code labels t' u b turn r1 i3 n3 w1))) in
    let all = behind code labels a c b first (lim ++ head) p w0 in
    let v1 = subst (λ (z : ℕ). Part code labels a (loop_form place first lim idx out f g z w x q e) b) e1 all in
    let v2 = subst (λ (z : ℕ). Part code labels a (loop_form place first lim idx out f g S z x q e) b) e2 v1 in
    let v3 = subst (λ (z : ℕ). Part code labels a (loop_form place first lim idx out f g S Y z q e) b) e3 v2 in
    let v4 = subst (λ (z : ℕ). Part code labels a (loop_form place first lim idx out f g S Y Z z e) b) e4 v3 in
    subst (λ (z : ℕ). Part code labels a (loop_form place first lim idx out f g S Y Z R z) b) e5 v4

-- ---- labels about a tree

-- each label about a tree has the place of the step behind it
abbrev pub Answers : Lie → (labels : List (ℕ × ℕ)) → Type 0
Answers lie labels = (label : ℕ) (c : Around) (to : ℕ) → about label lie.around ≡ Some c → place_of label c.steps c.places ≡ Some to → number_of labels label ≡ Some to

answers_first : Answers outermost []
answers_first label c to is at = absurd (cc)

answers_over : (g : Bool) (lie : Lie) (labels : List (ℕ × ℕ)) → Answers lie labels → Answers (above g lie) labels
answers_over true lie labels q = q
answers_over false lie labels q = q

answers_further : (n : ℕ) (lie : Lie) (labels : List (ℕ × ℕ)) → Answers lie labels → Answers (deeper_by n lie) labels
answers_further n lie labels q label c to is at =
    let d = about_nearer n label c lie.around is in q label d.nearer to d.is (subst (λ (x : Around). place_of label x.steps x.places ≡ Some to) d.same at)

answers_clause : (steps : Steps) (at : ℕ) (lie : Lie) (labels : List (ℕ × ℕ)) → Answers lie labels → Answers (in_clause steps (step_places steps at) lie) (label_places steps at ++ labels)
answers_clause steps at lie labels q label c to is stands = go (has_label label steps) refl is
  where
    here : Around
    here = record { frames = 0; height = lie.height; steps = steps; places = step_places steps at }

    go : (b : Bool) → has_label label steps ≡ b → (if b then Some here else about label lie.around) ≡ Some c → number_of (label_places steps at ++ labels) label ≡ Some to
    go true has e =
        let placed = subst (λ (x : Around). place_of label x.steps x.places ≡ Some to) (sym (same_Some here c e)) stands in
        number_front (label_places steps at) labels label to (number_is label steps at ∙ placed)
    go false has e = number_past (label_places steps at) labels label (number_is label steps at ∙ place_none label steps at has) ∙ q label c to e stands

-- the labels of a clause have their places too
laid_twice : (code : Code) (labels own : List (ℕ × ℕ)) (xs : List Instr) → AreNear own → map (laid code (own ++ labels)) xs ≡ map (laid code labels) (map (settled own) xs)
laid_twice code labels own [] near = refl
laid_twice code labels own (x ∷ xs) near =
    ap (λ (y : Instr). linked code.units y ∷ map (laid code (own ++ labels)) xs) (sym (settled_twice own labels x near))
    ∙ ap (λ (l : List Instr). laid code labels (settled own x) ∷ l) (laid_twice code labels own xs near)

clause_part : (code : Code) (labels own : List (ℕ × ℕ)) (a : ℕ) (xs : List Instr) (b : ℕ) → AreNear own → Part code (own ++ labels) a xs b → Part code labels a (map (settled own) xs) b
clause_part code labels own a xs b near p = record {
  upto = p.upto ∙ ap (λ (l : List Instr). l ++ drop b code.list) (laid_twice code labels own xs near);
  ends = p.ends ∙ ap (λ (n : ℕ). a + n) (sym (length-map xs (settled own)));
}

-- ---- where parts stand

arms_places : (code : Code) (lie : Lie) (gives : Bool) (place e : ℕ) (trees : Trees) (ps : List ℕ) (a b : ℕ) → StandArms code lie gives place e trees ps a b → ps ≡ arm_places trees a
arms_places code lie gives place e no_trees [] a b s = refl
arms_places code lie gives place e no_trees (p ∷ ps) a b s = absurd s
arms_places code lie gives place e (tree and_tree trees) [] a b s = absurd s
arms_places code lie gives place e (tree and_tree trees) (p ∷ ps) a b s =
    let end = ends code lie gives tree a s.0 s.3 in
    let next = s.4.1 in
    let same : s.1 ≡ a + size tree + 1 = omega arith in
    ap (λ (x : ℕ). x ∷ ps) s.2 ∙ ap (λ (l : List ℕ). a ∷ l) (arms_places code lie gives place e trees ps s.1 b s.5) ∙ ap (λ (z : ℕ). a ∷ arm_places trees z) same

specs_places : (code : Code) (lie : Lie) (gives : Bool) (place e : ℕ) (specs : Specs) (ps : List ℕ) (a b : ℕ) → StandSpecs code lie gives place e specs ps a b → ps ≡ spec_places specs a
specs_places code lie gives place e no_specs [] a b s = refl
specs_places code lie gives place e no_specs (p ∷ ps) a b s = absurd s
specs_places code lie gives place e (spec takes true united tree others) [] a b s = absurd s
specs_places code lie gives place e (spec takes false united tree others) [] a b s = absurd s
specs_places code lie gives place e (spec takes true united tree others) (p ∷ ps) a b s =
    let end = ends code (deeper_by 1 lie) gives tree s.1 s.2 s.8 in
    let x = s.6.1 in let y = s.7.1 in let z = s.9.1 in let w = s.10.1 in
    let same : s.4 ≡ a + (3 + size tree + 1) = omega arith in
    ap (λ (x : ℕ). x ∷ ps) s.5 ∙ ap (λ (l : List ℕ). a ∷ l) (specs_places code lie gives place e others ps s.4 b s.11) ∙ ap (λ (z : ℕ). a ∷ spec_places others z) same
specs_places code lie gives place e (spec takes false united tree others) (p ∷ ps) a b s =
    let end = ends code lie gives tree s.0 s.1 s.5 in
    let x = s.4.1 in let w = s.6.1 in
    let same : s.2 ≡ a + (1 + size tree + 1) = omega arith in
    ap (λ (x : ℕ). x ∷ ps) s.3 ∙ ap (λ (l : List ℕ). a ∷ l) (specs_places code lie gives place e others ps s.2 b s.7) ∙ ap (λ (z : ℕ). a ∷ spec_places others z) same

steps_places : (code : Code) (lie : Lie) (gives : Bool) (place e : ℕ) (steps : Steps) (ps : List ℕ) (a b : ℕ) → StandSteps code lie gives place e steps ps a b → ps ≡ step_places steps a
steps_places code lie gives place e (last_step ls tree) [] a b s = absurd s
steps_places code lie gives place e (step ls tree more) [] a b s = absurd s
steps_places code lie gives place e (exit ls tree more) [] a b s = absurd s
steps_places code lie gives place e (last_step ls tree) (p ∷ (r ∷ ps)) a b s = absurd s
steps_places code lie gives place e (last_step ls tree) (p ∷ []) a b s = ap (λ (x : ℕ). x ∷ []) s.0
steps_places code lie gives place e (step ls tree more) (p ∷ ps) a b s =
    let same : s.0 ≡ a + size tree = ends code lie false tree a s.0 s.2 in
    ap (λ (x : ℕ). x ∷ ps) s.1 ∙ ap (λ (l : List ℕ). a ∷ l) (steps_places code lie gives place e more ps s.0 b s.3) ∙ ap (λ (z : ℕ). a ∷ step_places more z) same
steps_places code lie gives place e (exit ls tree more) (p ∷ ps) a b s =
    let end = ends code lie gives tree a s.0 s.3 in
    let next = s.4.1 in
    let same : s.1 ≡ a + size tree + 1 = omega arith in
    ap (λ (x : ℕ). x ∷ ps) s.2 ∙ ap (λ (l : List ℕ). a ∷ l) (steps_places code lie gives place e more ps s.1 b s.5) ∙ ap (λ (z : ℕ). a ∷ step_places more z) same

-- the places of a loop within the code
loop_near : (code : Code) (lie : Lie) (g : Bool) (p : ℕ) (controls : Trees) (limited counts : Bool) (test : Test) (body : Tree) (a b : ℕ) (s : Stands code lie g (loop p controls limited counts test body) a b)
    → b < far → (s.0 < far) × (s.6 < far) × (s.7 < far)
loop_near code lie g p controls limited counts test body a b s near =
    let y = forward_limit code limited p s.0 s.1 s.15 in let i = forward_index code counts p s.4 s.5 s.19 in
    let o = forward_test code (deeper_by (if counts then 1 else 0) (above true lie)) test p s.10 s.5 s.6 s.20 in
    let z = forward code (deeper_by (depth_of counts test) (above true lie)) false body s.6 s.7 s.21 in
    let l = forward_leaves code p (depth_of counts test) s.7 s.8 s.22 in let r = forward_leaves code p (depth_of counts test) s.10 s.11 s.25 in
    let p1 = s.16.1 in let p2 = s.17.1 in let p3 = s.18.1 in let p4 = s.23.1 in let p5 = s.24.1 in let p6 = s.26.1 in
    (omega (arith, near), omega (arith, near), omega (arith, near))

-- ---- trees

mutual
  part : (code : Code) (lie : Lie) (labels : List (ℕ × ℕ)) (gives : Bool) (tree : Tree) (a b : ℕ) → Answers lie labels → b < far → Stands code lie gives tree a b → Part code labels a (stretch tree a) b
  part code lie labels gives (operation place op order parts) a b q near s =
      let i = instr place (does_of op (count parts)) in
      let next = s.4.1 in
      behind code labels a s.0 b (stretches parts a) (i ∷ []) (all_part code lie labels true parts a s.0 q (omega (arith, near)) s.3)
      (last code labels s.0 b i
      (s.4.0 ∙ ap (λ (d : Does). Some (instr place d)) (sym (ap (linked_does code.units) (unsettled labels op (count parts)) ∙ unlinked code.units op (count parts)))) s.4.1)
  part code lie labels gives (together parts) a b q near s = all_part code lie labels false parts a b q near s.1
  part code lie labels gives (phrases place before final) a b q near s =
      let f = forward code lie gives final s.0 b s.2 in
      both_part code labels a s.0 b (sizes before) (stretches before a) (λ z. stretch final z) (size_stretches before a) (all_part code lie labels false before a s.0 q (omega (arith, near)) s.1)
      (part code lie labels gives final s.0 b q near s.2)
  part code lie labels gives (labelled place steps) a b q near s =
      let own = label_places steps a in
      let end = ends_steps code (in_clause steps s.0 lie) gives place b steps s.0 a b s.1 in
      let inner : Answers (in_clause steps s.0 lie) (own ++ labels) =
      subst (λ (ps : List ℕ). Answers (in_clause steps ps lie) (own ++ labels)) (sym (steps_places code (in_clause steps s.0 lie) gives place b steps s.0 a b s.1)) (answers_clause steps a lie labels q) in
      let within = steps_part code (in_clause steps s.0 lie) (own ++ labels) gives place b steps s.0 a b inner near s.1 in
      subst (λ (e : ℕ). Part code labels a (map (settled own) (step_stretches place e steps a)) b) end
      (clause_part code labels own a (step_stretches place b steps a) b (near_places steps a (omega (arith, end, near))) within)
  part code lie labels gives (jump place label frames height yields) a b q near s =
      last code labels a b (instr place (does.Goto (far + label) frames height yields))
      (s.7.0 ∙ ap (λ (n : ℕ). Some (instr place (does.Goto n frames height yields))) (sym (goes_to labels label s.1 (q label s.0 s.1 s.2 s.3)))) s.7.1
  part code lie labels gives (range place out slots yields within) a b q near s =
      let next = s.5.1 in
      range_part code labels a s.0 s.1 b (instr place (does.Enter slots)) (instr out (leave yields)) (λ z. stretch within z) s.3.0 s.3.1
      (part code (deeper_by 1 lie) labels gives within s.0 s.1 (answers_further 1 lie labels q) (omega (arith, near)) s.4)
      (s.5.0 ∙ ap (λ (x : Bool). Some (instr out (leave x))) s.2) s.5.1
  part code lie labels gives (choice place enquiry if_true if_false) a b q near s =
      let y = forward code lie gives if_true s.1 s.2 s.6 in let z = forward code lie gives if_false s.3 b s.8 in
      let v = s.5.1 in let w = s.7.1 in
      choice_part code labels place a s.0 s.1 s.2 s.3 b (size enquiry) (size if_true) (size if_false) (stretch enquiry a) (λ z. stretch if_true z) (λ z. stretch if_false z)
      (size_stretch enquiry a) (λ z. size_stretch if_true z) (λ z. size_stretch if_false z) (part code lie labels true enquiry a s.0 q (omega (arith, near)) s.4) s.5.0 s.5.1
      (part code lie labels gives if_true s.1 s.2 q (omega (arith, near)) s.6) s.7.0 s.7.1 (part code lie labels gives if_false s.3 b q near s.8)
  part code lie labels gives (cases place enquiry arms out) a b q near s =
      let y = forward_arms code lie gives place b arms s.3 s.1 s.2 s.6 in let z = forward code lie gives out s.2 b s.7 in
      let v = s.5.1 in
      cases_part code labels place a s.0 s.1 s.2 b (size enquiry) (sizes arms) (count arms) (size out) s.3 (arm_places arms) (stretch enquiry a) (λ y z. arm_stretches place y arms z) (λ z. stretch out z)
      (size_stretch enquiry a) (λ y z. size_arms place y arms z) (λ z. size_stretch out z) (arms_places code lie gives place b arms s.3 s.1 s.2 s.6)
      (part code lie labels true enquiry a s.0 q (omega (arith, near)) s.4) s.5.0 s.5.1 (arms_part code lie labels gives place b arms s.3 s.1 s.2 q (omega (arith, near)) s.6) (part code lie labels gives out s.2 b q near s.7)
  part code lie labels gives (conformity place union members yields enquiry specs out) a b q near s =
      let y = forward_specs code lie gives place b specs s.3 s.1 s.2 s.8 in let z = forward code lie gives out s.2 b s.9 in
      let v = s.7.1 in
      specs_whole code labels place a s.0 s.1 s.2 b (size enquiry) (spec_sizes specs) (size out) s.3 (spec_places specs) (stretch enquiry a)
      (λ ps x. does.Member union (member_places members specs ps x) (wholes_of members specs)) (λ y z. spec_stretches place y yields specs z) (λ z. stretch out z)
      (size_stretch enquiry a) (λ y z. size_specs place y yields specs z) (λ z. size_stretch out z) (specs_places code lie gives place b specs s.3 s.1 s.2 s.8)
      (part code lie labels true enquiry a s.0 q (omega (arith, near)) s.6) s.7.0 s.7.1 (specs_part code lie labels gives yields place b specs s.3 s.1 s.2 q (omega (arith, near)) s.4 s.8)
      (part code lie labels gives out s.2 b q near s.9)
  part code lie labels gives (loop place controls limited counts test body) a b q near s =
      let k = depth_of counts test in
      let bounds = loop_near code lie gives place controls limited counts test body a b s near in
      let over = answers_over true lie labels q in
      loop_part code labels place a s.0 s.1 s.2 s.3 s.4 s.5 s.6 s.7 s.8 s.9 s.10 s.11 b (sizes controls) (test_size test) (size body) k
      (stretches controls a) (limits limited place) (indexes counts place) (leaves place k) (λ y z. test_stretch place y test z) (λ z. stretch body z)
      (size_stretches controls a) (λ y z. size_test place y test z) (λ z. size_stretch body z) (size_leaves place k)
      (all_part code lie labels true controls a s.0 q bounds.0 s.14) (limit_part code labels limited place s.0 s.1 s.15) s.16.0 s.16.1 s.17.0 s.17.1 s.18.0 s.18.1 (index_part code labels counts place s.4 s.5 s.19)
      (test_part code (deeper_by (if counts then 1 else 0) (above true lie)) labels test place s.10 s.5 s.6 (answers_further (if counts then 1 else 0) (above true lie) labels over) bounds.1 s.20)
      (part code (deeper_by k (above true lie)) labels false body s.6 s.7 (answers_further k (above true lie) labels over) bounds.2 s.21) (leave_part code labels place k s.7 s.8 s.22) s.23.0 s.23.1 s.24.0 s.24.1
      (leave_part code labels place k s.10 s.11 s.25) s.26.0 s.26.1
  part code lie labels gives (call place yields no_trees) a b q near s = absurd s
  part code lie labels gives (call place yields (primary and_tree parts)) a b q near s =
      let i = instr place (does.Call (count parts) yields) in
      let next = s.3.1 in
      behind code labels a s.0 b (stretches (primary and_tree parts) a) (i ∷ []) (all_part code lie labels true (primary and_tree parts) a s.0 q (omega (arith, near)) s.2) (last code labels s.0 b i s.3.0 s.3.1)
  part code lie labels gives (parallel place numbers) a b q near s =
      let fork = instr place (does.Fork numbers) in
      last code labels a b fork (s.4.0 ∙ ap (λ (es : List ℕ). Some (instr place (does.Fork es))) (entrances_are code.units numbers s.0 s.3)) s.4.1
  part code lie labels gives meaningless a b q near s = absurd s

  all_part : (code : Code) (lie : Lie) (labels : List (ℕ × ℕ)) (gives : Bool) (trees : Trees) (a b : ℕ) → Answers lie labels → b < far → StandAll code lie gives trees a b → Part code labels a (stretches trees a) b
  all_part code lie labels gives no_trees a b q near s = none code labels a b s
  all_part code lie labels gives (tree and_tree trees) a b q near s =
      let f = forward_all code (above gives lie) gives trees s.0 b s.2 in
      both_part code labels a s.0 b (size tree) (stretch tree a) (λ z. stretches trees z) (size_stretch tree a) (part code lie labels gives tree a s.0 q (omega (arith, near)) s.1)
      (all_part code (above gives lie) labels gives trees s.0 b (answers_over gives lie labels q) near s.2)

  arms_part : (code : Code) (lie : Lie) (labels : List (ℕ × ℕ)) (gives : Bool) (place e : ℕ) (trees : Trees) (ps : List ℕ) (a b : ℕ) → Answers lie labels → b < far → StandArms code lie gives place e trees ps a b
      → Part code labels a (arm_stretches place e trees a) b
  arms_part code lie labels gives place e no_trees [] a b q near s = none code labels a b s
  arms_part code lie labels gives place e no_trees (p ∷ ps) a b q near s = absurd s
  arms_part code lie labels gives place e (tree and_tree trees) [] a b q near s = absurd s
  arms_part code lie labels gives place e (tree and_tree trees) (p ∷ ps) a b q near s =
      let jump = instr place (does.Jump e) in
      let f = forward_arms code lie gives place e trees ps s.1 b s.5 in
      let next = s.4.1 in
      let rest : Part code labels s.1 (arm_stretches place e trees (s.0 + 1)) b =
      subst (λ (z : ℕ). Part code labels s.1 (arm_stretches place e trees z) b) (sym s.4.1) (arms_part code lie labels gives place e trees ps s.1 b q near s.5) in
      both_part code labels a s.0 b (size tree) (stretch tree a) (λ z. jump ∷ arm_stretches place e trees (z + 1)) (size_stretch tree a) (part code lie labels gives tree a s.0 q (omega (arith, near)) s.3)
      (one code labels s.0 s.1 b jump (arm_stretches place e trees (s.0 + 1)) s.4.0 s.4.1 rest)

  specs_part : (code : Code) (lie : Lie) (labels : List (ℕ × ℕ)) (gives yields : Bool) (place e : ℕ) (specs : Specs) (ps : List ℕ) (a b : ℕ) → Answers lie labels → b < far → gives ≡ yields
      → StandSpecs code lie gives place e specs ps a b → Part code labels a (spec_stretches place e yields specs a) b
  specs_part code lie labels gives yields place e no_specs [] a b q near eg s = none code labels a b s
  specs_part code lie labels gives yields place e no_specs (p ∷ ps) a b q near eg s = absurd s
  specs_part code lie labels gives yields place e (spec takes true united tree others) [] a b q near eg s = absurd s
  specs_part code lie labels gives yields place e (spec takes false united tree others) [] a b q near eg s = absurd s
  specs_part code lie labels gives yields place e (spec takes true united tree others) (p ∷ ps) a b q near eg s =
      let l = instr place (leave yields) in
      let jump = instr place (does.Jump e) in
      let f = forward_specs code lie gives place e others ps s.4 b s.11 in
      let n : s.1 ≡ a + 2 = (let x = s.6.1 in let y = s.7.1 in omega arith) in
      let body = part code (deeper_by 1 lie) labels gives tree s.1 s.2 (answers_further 1 lie labels q) (let y = s.9.1 in let z = s.10.1 in omega (arith, near, f)) s.8 in
      let next : s.4 ≡ a + (3 + size tree + 1) = (let x = body.ends in let k = size_stretch tree s.1 in let y = s.9.1 in let z = s.10.1 in omega arith) in
      let rest : Part code labels s.4 (spec_stretches place e yields others (a + (3 + size tree + 1))) b =
      subst (λ (z : ℕ). Part code labels s.4 (spec_stretches place e yields others z) b) next (specs_part code lie labels gives yields place e others ps s.4 b q near eg s.11) in
      let behind_part = spec_stretches place e yields others (a + (3 + size tree + 1)) in
      let left : slice_get code.list s.2 ≡ Some l = s.9.0 ∙ ap (λ (x : Bool). Some (instr place (leave x))) eg in
      let tail = behind code labels s.1 s.2 b (stretch tree s.1) (l ∷ jump ∷ behind_part) body (one code labels s.2 s.3 b l (jump ∷ behind_part) left s.9.1 (one code labels s.3 s.4 b jump behind_part s.10.0 s.10.1 rest)) in
      let placed = subst (λ (z : ℕ). Part code labels s.1 (stretch tree z ++ (l ∷ jump ∷ behind_part)) b) n tail in
      one code labels a s.0 b (instr place (does.Enter 1)) (instr place (does.Bind 0) ∷ (stretch tree (a + 2) ++ (l ∷ jump ∷ behind_part))) s.6.0 s.6.1
      (one code labels s.0 s.1 b (instr place (does.Bind 0)) (stretch tree (a + 2) ++ (l ∷ jump ∷ behind_part)) s.7.0 s.7.1 placed)
  specs_part code lie labels gives yields place e (spec takes false united tree others) (p ∷ ps) a b q near eg s =
      let jump = instr place (does.Jump e) in
      let f = forward_specs code lie gives place e others ps s.2 b s.7 in
      let n : s.0 ≡ a + 1 = (let x = s.4.1 in omega arith) in
      let body = part code lie labels gives tree s.0 s.1 q (let z = s.6.1 in omega (arith, near, f)) s.5 in
      let next : s.2 ≡ a + (1 + size tree + 1) = (let x = body.ends in let k = size_stretch tree s.0 in let z = s.6.1 in omega arith) in
      let behind_part = spec_stretches place e yields others (a + (1 + size tree + 1)) in
      let rest : Part code labels s.2 behind_part b =
      subst (λ (z : ℕ). Part code labels s.2 (spec_stretches place e yields others z) b) next (specs_part code lie labels gives yields place e others ps s.2 b q near eg s.7) in
      let tail = behind code labels s.0 s.1 b (stretch tree s.0) (jump ∷ behind_part) body (one code labels s.1 s.2 b jump behind_part s.6.0 s.6.1 rest) in
      let placed = subst (λ (z : ℕ). Part code labels s.0 (stretch tree z ++ (jump ∷ behind_part)) b) n tail in
      one code labels a s.0 b (instr place does.Drop) (stretch tree (a + 1) ++ (jump ∷ behind_part)) s.4.0 s.4.1 placed

  steps_part : (code : Code) (lie : Lie) (labels : List (ℕ × ℕ)) (gives : Bool) (place e : ℕ) (steps : Steps) (ps : List ℕ) (a b : ℕ) → Answers lie labels → b < far → StandSteps code lie gives place e steps ps a b
      → Part code labels a (step_stretches place e steps a) b
  steps_part code lie labels gives place e (last_step ls tree) [] a b q near s = absurd s
  steps_part code lie labels gives place e (step ls tree more) [] a b q near s = absurd s
  steps_part code lie labels gives place e (exit ls tree more) [] a b q near s = absurd s
  steps_part code lie labels gives place e (last_step ls tree) (p ∷ (r ∷ ps)) a b q near s = absurd s
  steps_part code lie labels gives place e (last_step ls tree) (p ∷ []) a b q near s = part code lie labels gives tree a b q near s.1
  steps_part code lie labels gives place e (step ls tree more) (p ∷ ps) a b q near s =
      let f = forward_steps code lie gives place e more ps s.0 b s.3 in
      both_part code labels a s.0 b (size tree) (stretch tree a) (λ z. step_stretches place e more z) (size_stretch tree a) (part code lie labels false tree a s.0 q (omega (arith, near)) s.2)
      (steps_part code lie labels gives place e more ps s.0 b q near s.3)
  steps_part code lie labels gives place e (exit ls tree more) (p ∷ ps) a b q near s =
      let jump = instr place (does.Jump e) in
      let f = forward_steps code lie gives place e more ps s.1 b s.5 in
      let next = s.4.1 in
      let rest : Part code labels s.1 (step_stretches place e more (s.0 + 1)) b =
      subst (λ (z : ℕ). Part code labels s.1 (step_stretches place e more z) b) (sym s.4.1) (steps_part code lie labels gives place e more ps s.1 b q near s.5) in
      both_part code labels a s.0 b (size tree) (stretch tree a) (λ z. jump ∷ step_stretches place e more (z + 1)) (size_stretch tree a) (part code lie labels gives tree a s.0 q (omega (arith, near)) s.3)
      (one code labels s.0 s.1 b jump (step_stretches place e more (s.0 + 1)) s.4.0 s.4.1 rest)

  test_part : (code : Code) (lie : Lie) (labels : List (ℕ × ℕ)) (test : Test) (place f a b : ℕ) → Answers lie labels → b < far → Tests code lie test place f a b → Part code labels a (test_stretch place f test a) b
  test_part code lie labels no_test place f a b q near s = none code labels a b s
  test_part code lie labels (while_in begin slots test) place f a b q near s =
      let unless = instr place (does.Unless f) in
      let next = s.4.1 in
      both_part code labels a s.0 b (length (opens slots begin)) (opens slots begin) (λ z. stretch test z ++ unless ∷ []) refl (open_part code labels slots begin a s.0 s.2)
      (behind code labels s.0 s.1 b (stretch test s.0) (unless ∷ [])
      (part code (deeper_by (deeper slots 0) lie) labels true test s.0 s.1 (answers_further (deeper slots 0) lie labels q) (omega (arith, near)) s.3) (last code labels s.1 b unless s.4.0 s.4.1))

-- ---- what stands apart

-- where the stretch behind one begins
next_one : (code : Code) (gives : Bool) (tree : Tree) (a m n : ℕ) → Stands code outermost gives tree a m → m + 1 ≡ n → n ≡ a + (size tree + 1)
next_one code gives tree a m n s e = let end = ends code outermost gives tree a m s in omega arith

-- a stretch and its end
one_part : (code : Code) (gives : Bool) (tree : Tree) (x : Instr) (a m n b : ℕ) (f : ℕ → List Instr) → m < far → Stands code outermost gives tree a m → slice_get code.list m ≡ Some (laid code [] x)
    → m + 1 ≡ n → Part code [] n (f n) b → Part code [] a ((stretch tree a ++ x ∷ []) ++ f (a + (size tree + 1))) b
one_part code gives tree x a m n b f near s g e p =
    behind code [] a n b (stretch tree a ++ x ∷ []) (f (a + (size tree + 1)))
    (behind code [] a m n (stretch tree a) (x ∷ []) (part code outermost [] gives tree a m answers_first near s) (last code [] m n x g e))
    (subst (λ (z : ℕ). Part code [] n (f z) b) (next_one code gives tree a m n s e) p)

apart_part : (code : Code) (xs : List Apart) (es : List RoutineEntrance) (us : List ℕ) (a b : ℕ) → b ≤ far → StandApart code xs es us a b → Part code [] a (apart_stretches xs a) b
apart_part code [] [] [] a b near s = none code [] a b s
apart_part code [] [] (u ∷ us) a b near s = absurd s
apart_part code [] (e ∷ es) us a b near s = absurd s
apart_part code (routine_text body ∷ more) [] us a b near s = absurd s
apart_part code (routine_text body ∷ more) (e ∷ es) us a b near s =
    let x = ends_apart code more es us s.1 b s.5 in let y = s.4.1 in
    one_part code body.yields body.tree (instr body.place does.Return) a s.0 s.1 b (λ z. apart_stretches more z) (omega (arith, near)) s.3 s.4.0 s.4.1 (apart_part code more es us s.1 b near s.5)
apart_part code (parallel_unit unit ∷ more) es [] a b near s = absurd s
apart_part code (parallel_unit unit ∷ more) es (u ∷ us) a b near s =
    let x = ends_apart code more es us s.1 b s.5 in let y = s.4.1 in
    one_part code false unit.tree (instr unit.place does.Close) a s.0 s.1 b (λ z. apart_stretches more z) (omega (arith, near)) s.3 s.4.0 s.4.1 (apart_part code more es us s.1 b near s.5)

apart_texts : (code : Code) (xs : List Apart) (es : List RoutineEntrance) (us : List ℕ) (a b : ℕ) → StandApart code xs es us a b → es ≡ text_entrances xs a
apart_texts code [] [] [] a b s = refl
apart_texts code [] [] (u ∷ us) a b s = absurd s
apart_texts code [] (e ∷ es) us a b s = absurd s
apart_texts code (routine_text body ∷ more) [] us a b s = absurd s
apart_texts code (routine_text body ∷ more) (e ∷ es) us a b s =
    let first : RoutineEntrance = record { at = a; yields = body.yields } in
    ap (λ (x : RoutineEntrance). x ∷ es) s.2 ∙ ap (λ (l : List RoutineEntrance). first ∷ l) (apart_texts code more es us s.1 b s.5)
    ∙ ap (λ (z : ℕ). first ∷ text_entrances more z) (next_one code body.yields body.tree a s.0 s.1 s.3 s.4.1)
apart_texts code (parallel_unit unit ∷ more) es [] a b s = absurd s
apart_texts code (parallel_unit unit ∷ more) es (u ∷ us) a b s =
    apart_texts code more es us s.1 b s.5 ∙ ap (λ (z : ℕ). text_entrances more z) (next_one code false unit.tree a s.0 s.1 s.3 s.4.1)

apart_units : (code : Code) (xs : List Apart) (es : List RoutineEntrance) (us : List ℕ) (a b : ℕ) → StandApart code xs es us a b → us ≡ unit_entrances xs a
apart_units code [] [] [] a b s = refl
apart_units code [] [] (u ∷ us) a b s = absurd s
apart_units code [] (e ∷ es) us a b s = absurd s
apart_units code (routine_text body ∷ more) [] us a b s = absurd s
apart_units code (routine_text body ∷ more) (e ∷ es) us a b s =
    apart_units code more es us s.1 b s.5 ∙ ap (λ (z : ℕ). unit_entrances more z) (next_one code body.yields body.tree a s.0 s.1 s.3 s.4.1)
apart_units code (parallel_unit unit ∷ more) es [] a b s = absurd s
apart_units code (parallel_unit unit ∷ more) es (u ∷ us) a b s =
    ap (λ (x : ℕ). x ∷ us) s.2 ∙ ap (λ (l : List ℕ). a ∷ l) (apart_units code more es us s.1 b s.5)
    ∙ ap (λ (z : ℕ). a ∷ unit_entrances more z) (next_one code false unit.tree a s.0 s.1 s.3 s.4.1)

-- End is behind the program
at_end : (program : Program) (code : Code) (t : Translates program code) → t.end ≡ size program.tree
at_end program code t =
    let end = ends code outermost false program.tree 0 t.end t.stands in omega arith

-- the entrances of a program are those that are listed
pub texts_listed : (program : Program) (code : Code) → Translates program code → code.texts ≡ texts_entered program
texts_listed program code t =
    apart_texts code program.apart code.texts code.units (t.end + 1) t.last t.apart ∙ ap (λ (z : ℕ). text_entrances program.apart (z + 1)) (at_end program code t)

pub units_listed : (program : Program) (code : Code) → Translates program code → code.units ≡ units_entered program
units_listed program code t =
    apart_units code program.apart code.texts code.units (t.end + 1) t.last t.apart ∙ ap (λ (z : ℕ). unit_entrances program.apart (z + 1)) (at_end program code t)

-- without labels instructions have the entrances of units alone
laid_none : (code : Code) (xs : List Instr) → map (laid code []) xs ≡ map (linked code.units) xs
laid_none code [] = refl
laid_none code (x ∷ xs) =
    ap (λ (y : Instr). linked code.units y ∷ map (laid code []) xs) (settled_none x) ∙ ap (λ (l : List Instr). linked code.units x ∷ l) (laid_none code xs)

-- and its code is its listing
pub listed : (program : Program) (code : Code) → Translates program code → code.list ≡ listing program
listed program code t =
    let end = instr program.place does.End in
    let rest = apart_stretches program.apart (size program.tree + 1) in
    let most = far_is in
    let no_more = t.no_more in
    let short = t.short in
    let onward = ends_apart code program.apart code.texts code.units (t.end + 1) t.last t.apart in
    let near : t.last ≤ far = omega (arith, most, no_more, short) in
    let before : t.end < far = omega (arith, near, onward) in
    let apart : Part code [] (t.end + 1) rest t.last =
    subst (λ (z : ℕ). Part code [] (t.end + 1) (apart_stretches program.apart (z + 1)) t.last) (at_end program code t)
    (apart_part code program.apart code.texts code.units (t.end + 1) t.last near t.apart) in
    let p = behind code [] 0 t.end t.last (stretch program.tree 0) (end ∷ rest) (part code outermost [] false program.tree 0 t.end answers_first before t.stands)
    (one code [] t.end (t.end + 1) t.last end rest t.ends.0 refl apart) in
    let nothing : drop t.last code.list ≡ [] = (let n = t.no_more in drop_all t.last code.list (omega arith)) in
    p.upto ∙ ap (λ (l : List Instr). l ++ drop t.last code.list) (laid_none code (written program)) ∙ ap (λ (l : List Instr). map (linked code.units) (written program) ++ l) nothing
    ∙ append-nil (map (linked code.units) (written program)) ∙ ap (λ (us : List ℕ). map (linked us) (written program)) (units_listed program code t)

-- a program has one code
pub one_code : (program : Program) (code other : Code) → Translates program code → Translates program other → other ≡ code
one_code program code other t u =
    let list : other.list ≡ code.list = listed program other u ∙ sym (listed program code t) in
    let texts : other.texts ≡ code.texts = texts_listed program other u ∙ sym (texts_listed program code t) in
    let units : other.units ≡ code.units = units_listed program other u ∙ sym (units_listed program code t) in
    let modes : other.modes ≡ code.modes = u.modes ∙ sym t.modes in
    ap {A = List Instr} {B = Code} (λ x. record { list = x; texts = other.texts; units = other.units; modes = other.modes }) list
    ∙ ap {A = List RoutineEntrance} {B = Code} (λ x. record { list = code.list; texts = x; units = other.units; modes = other.modes }) texts
    ∙ ap {A = List ℕ} {B = Code} (λ x. record { list = code.list; texts = code.texts; units = x; modes = other.modes }) units
    ∙ ap {A = List Shape} {B = Code} (λ x. record { list = code.list; texts = code.texts; units = code.units; modes = x }) modes

-- a list that is too long has more instructions than a program may have
pub not_short : (list : List Instr) (refusal : Refusal) → IsTooLong list refusal → length list ≤ most → ⊥
not_short list refusal t few =
    let within = slice_get_within (places list) most refusal.place t.place in
    let long = length-map list (λ (i : Instr). i.place) in
    omega (arith, within, long)
