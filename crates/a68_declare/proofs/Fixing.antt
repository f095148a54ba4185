-- The nodes of declarers without their FLEX, and what stands within them.
use Rattle.std.proofs.Common.{◌≡◌, ◌<◌, ◌≤◌, ◌+◌, ◌-◌, ◌*◌, ◌%◌, ◌⊎◌, ℕ, zero, suc, List, [], ◌∷◌, Bool as Truth, true, false, Option, Some, None, length, get_or, refl, sym, ap, ◌∙◌, arith, subst, inl, inr, ⊎_elim}
use Rattle.std.specs.Prelude.{map, slice_get, nat_eq, nat_lt, if◌then◌else◌}
use Rattle.std.specs.List.{All, Contains}
use Rattle.std.specs.Option.{option_map_or}
use Rattle.std.proofs.lemmas.Bool.{false≢true}
use Rattle.std.proofs.lemmas.Bool.{cases_eq}
use Rattle.std.proofs.lemmas.Bool.Decides.{nat_tests}
use Rattle.std.proofs.lemmas.List.Elements.{All-contains, All-from_recursion}
use Rattle.a68_declare.proofs.Cleaning.{alike_itself}
use Rattle.a68_declare.proofs.Imaging.{at_other, other_at, at_union, union_at, passes_none}
use Rattle.a68_declare.proofs.One.{word_one}
use Rattle.a68_declare.proofs.Rising.{steps_in}
use Rattle.a68_declare.proofs.Standing.{standard_at}
use Rattle.a68_declare.proofs.Words.{way_moved}
use Rattle.a68_declare.specs.Clean.{UnionsHaveNoFlex}
use Rattle.a68_declare.specs.Numbering.{HaveTwins}
use Rattle.a68_declarers.specs.declared.form.DeclarerForm.{DeclarerForm}
use Rattle.a68_declarers.specs.declared.form.DeclarerForm.TheVariants as forms
use Rattle.a68_declarers.proofs.Counting.{first_is, two}
use Rattle.a68_declarers.proofs.Shaping.{AllForms, IsFlexless, IsLow, form_low, found_form, one_holds, last_holds, map_holds, fields_hold}
use Rattle.a68_declarers.specs.Declarers.{form_at, is_declarer, is_field, known_forms, IsDeclarerAt}
use Rattle.a68_declarers.specs.Modes.{ModesAreDeclared, AreOrdered}
use Rattle.a68_declarers.specs.Numbers.{declarers, mode_number, of_two, one_if, twin_of}
use Rattle.a68_declarers.specs.Shapes.{last_mode, defined_mode, fields, IsShapeOf}
use Rattle.a68_equiv.proofs.Grasp.{behind_below}
use Rattle.a68_equiv.proofs.Growing.{way_below, part_below}
use Rattle.a68_equiv.proofs.Numbers.{same_mode}
use Rattle.a68_equiv.proofs.Spreading.{members_behind}
use Rattle.a68_equiv.proofs.Stepping.{row_of_map}
use Rattle.a68_equiv.specs.declared.mode.Mode.{Mode}
use Rattle.a68_equiv.specs.Related.{as_it_stands, without_flex}
use Rattle.a68_equiv.specs.declared.steps.Inward.TheVariants.{WithinUnions}
use Rattle.a68_equiv.specs.Unfolding.{behind, word_or, unfolded, constructor, passes_on, is_union, IsMember, IsInMode, IsModePart, Alike}
use Rattle.a68_equiv.specs.Ways.{steps_of, row, Way}
use Rattle.a68_equiv.specs.Ways.Way.{last_step, more_steps}
use Rattle.a68_modes.specs.declared.shape.Shape.{Shape}
use Rattle.a68_modes.specs.declared.shape.Shape.TheVariants.{Struct, Union, Same}
use Rattle.a68_modes.specs.Nodes.{shape_at, standard_shapes, parts_of, ShapeIsWithin, HoldsNodes}
use Rattle.a68_ranges.proofs.Taking.{below_or}
use Rattle.a68_ranges.specs.Nodes.{kind_at, name_at, parts_at, spelling_at}
use Rattle.a68_ranges.specs.Twice.{IsTwice}
use Rattle.a68_tree.specs.Trees.{Built}

-- steps within unions lead from shapes that hand on that FLEX is taken away
hands_on : (s : Shape) (b : ℕ) → Contains (steps_of WithinUnions s) b → passes_on true s ≡ true
hands_on (Same m) b c = refl
hands_on (Union ms) b c = refl
hands_on _ b c = absurd (let l = c.1 in omega arith)

module _ (tree : Built) (nodes : List Shape) (number : ℕ → Truth → ℕ) (holds : HoldsNodes nodes) (declared : ModesAreDeclared tree nodes number) (ordered : AreOrdered tree nodes number) where
  -- a standard mode but STRING, or the mode of a declarer without its FLEX
  abbrev pub IsFree : ℕ → Type 0
  IsFree m = IsFlexless m ⊎ ((d : ℕ) × IsDeclarerAt tree d × (m ≡ number d true))

  record IsStill (s : Shape) : Type 0 where
    same : constructor true s ≡ constructor false s
    parts : (passes_on true s ≡ false) ⊎ All IsFree (parts_of s)

  each_free : (e : ℕ) → IsFree (number e true)
  each_free e = go (is_declarer (kind_at tree e)) refl
    where
      go : (b : Truth) → is_declarer (kind_at tree e) ≡ b → IsFree (number e true)
      go true is = inr (e, is, refl)
      go false is = let none = ordered.none e true (λ t. false≢true (sym is ∙ t)) in inl (omega arith, λ e. omega arith)

  void_free : IsFree 0
  void_free = inl (omega arith, λ e. omega arith)

  last_free : (parts : List ℕ) → IsFree (last_mode (λ e. number e true) parts)
  last_free parts = last_holds IsFree void_free (λ e. number e true) parts (λ e c. each_free e)

  shape_still : (d : ℕ) (form : DeclarerForm) (shape : Shape) → IsLow form → IsShapeOf tree number d true form shape → IsStill shape
  shape_still d (forms.Standard m n) shape low is = rw is (record { same = refl; parts = inr (one_holds IsFree n (inl low.1)) })
  shape_still d forms.Name shape low is = rw is (record { same = refl; parts = inl refl })
  shape_still d (forms.Row flex) shape low is = rw is (record { same = refl; parts = inr (one_holds IsFree (last_mode (λ e. number e true) (parts_at tree d)) (last_free (parts_at tree d))) })
  shape_still d forms.Structure shape low is = rw is (record { same = refl; parts = inr (fields_hold IsFree void_free tree (λ e. number e true) 0 (parts_at tree d) void_free (λ e c. each_free e)) })
  shape_still d forms.Union shape low is = rw is (record { same = refl; parts = inr (map_holds IsFree void_free (λ e. number e true) (parts_at tree d) (λ e c. each_free e)) })
  shape_still d forms.Procedure shape low is = rw is (record { same = refl; parts = inl refl })
  shape_still d forms.Word shape low (definition, of, is) = rw is (record { same = refl; parts = inr (one_holds IsFree _ (word_free definition)) })
    where
      word_free : (o : Option ℕ) → IsFree (defined_mode tree (λ e. number e true) o)
      word_free None = void_free
      word_free (Some x) = last_free (parts_at tree x)

  standard_still : (m : ℕ) → IsFlexless m → IsStill (shape_at standard_shapes m)
  standard_still zero h = record { same = refl; parts = inr (λ j e l. absurd (omega arith)) }
  standard_still (suc zero) h = record { same = refl; parts = inr (λ j e l. absurd (omega arith)) }
  standard_still (suc (suc zero)) h = record { same = refl; parts = inr (λ j e l. absurd (omega arith)) }
  standard_still (suc (suc (suc zero))) h = record { same = refl; parts = inr (λ j e l. absurd (omega arith)) }
  standard_still (suc (suc (suc (suc zero)))) h = record { same = refl; parts = inr (λ j e l. absurd (omega arith)) }
  standard_still (suc (suc (suc (suc (suc zero))))) h = record { same = refl; parts = inr (λ j e l. absurd (omega arith)) }
  standard_still (suc (suc (suc (suc (suc (suc zero)))))) h = record { same = refl; parts = inr (λ j e l. absurd (omega arith)) }
  standard_still (suc (suc (suc (suc (suc (suc (suc zero))))))) h = record { same = refl; parts = inr (All-from_recursion IsFree (3 ∷ []) (inl (omega arith, λ e. omega arith), tt)) }
  standard_still (suc (suc (suc (suc (suc (suc (suc (suc zero)))))))) h = record { same = refl; parts = inr (All-from_recursion IsFree (1 ∷ 13 ∷ 2 ∷ 3 ∷ 4 ∷ 7 ∷ 6 ∷ []) (inl (omega arith, λ e. omega arith), (inl (omega arith, λ e. omega arith), (inl (omega arith, λ e. omega arith), (inl (omega arith, λ e. omega arith), (inl (omega arith, λ e. omega arith), (inl (omega arith, λ e. omega arith), (inl (omega arith, λ e. omega arith), tt)))))))) }
  standard_still (suc (suc (suc (suc (suc (suc (suc (suc (suc zero))))))))) h = record { same = refl; parts = inl refl }
  standard_still (suc (suc (suc (suc (suc (suc (suc (suc (suc (suc zero)))))))))) h = record { same = refl; parts = inl refl }
  standard_still (suc (suc (suc (suc (suc (suc (suc (suc (suc (suc (suc zero))))))))))) h = record { same = refl; parts = inr (All-from_recursion IsFree (2 ∷ []) (inl (omega arith, λ e. omega arith), tt)) }
  standard_still (suc (suc (suc (suc (suc (suc (suc (suc (suc (suc (suc (suc zero)))))))))))) h = absurd (h.1 refl)
  standard_still (suc (suc (suc (suc (suc (suc (suc (suc (suc (suc (suc (suc (suc zero))))))))))))) h = record { same = refl; parts = inr (λ j e l. absurd (omega arith)) }
  standard_still (suc (suc (suc (suc (suc (suc (suc (suc (suc (suc (suc (suc (suc (suc zero)))))))))))))) h = record { same = refl; parts = inl refl }
  standard_still (suc (suc (suc (suc (suc (suc (suc (suc (suc (suc (suc (suc (suc (suc (suc m))))))))))))))) h = absurd (let l = h.0 in omega arith)

  node_still : (m : ℕ) → IsFree m → IsStill (shape_at nodes m)
  node_still m free = ⊎_elim
      (λ low. subst IsStill (sym (standard_at nodes holds m low.0)) (standard_still m low))
      (λ w. subst (λ k. IsStill (shape_at nodes k)) (sym w.2) (shape_still w.0 (form_at tree w.0) (shape_at nodes (number w.0 true)) (form_low tree w.0) (declared.shapes w.0 true w.1)))
      free

  -- a step within unions leads to such a mode
  step_free : (a b : ℕ) → a < length nodes → IsFree a → Contains (row (map (steps_of WithinUnions) nodes) a) b → IsFree b
  step_free a b h free c =
      let d : Contains (steps_of WithinUnions (shape_at nodes a)) b = rw (row_of_map (steps_of WithinUnions) nodes a h) at c in
      ⊎_elim
      (λ none. absurd (false≢true (sym none ∙ hands_on (shape_at nodes a) b d)))
      (λ all. All-contains IsFree (parts_of (shape_at nodes a)) b all (steps_in WithinUnions (shape_at nodes a) b d))
      (node_still a free).parts

  way_free : (a b : ℕ) → a < length nodes → IsFree a → Way (map (steps_of WithinUnions) nodes) a b → IsFree b
  way_free a b h free (last_step c) = step_free a b h free c
  way_free a b h free (more_steps {b = k} c w) = way_free k b (way_below nodes holds WithinUnions a k h (last_step c)) (step_free a k h free c) w

  behind_free : (k m : ℕ) → m < length nodes → IsFree m → IsFree (behind nodes k m)
  behind_free zero m h free = free
  behind_free (suc k) m h free = go (shape_at nodes m) (node_still m free) (holds.within m h) (behind_free k)
    where
      go : (s : Shape) → IsStill s → ShapeIsWithin (length nodes) s → ((t : ℕ) → t < length nodes → IsFree t → IsFree (behind nodes k t)) → IsFree (word_or (behind nodes k) m s)
      go (Same t) still within ih = ⊎_elim (λ none. absurd (false≢true (sym none))) (λ all. ih t (within 0 0 (omega arith)) (all 0 0 (omega arith))) still.parts
      go _ still within ih = free

  unfolded_still : (m : ℕ) → m < length nodes → IsFree m → IsStill (unfolded nodes m)
  unfolded_still m h free = node_still (behind nodes (length nodes) m) (behind_free (length nodes) m h free)

  pub same_free : (m : ℕ) → m < length nodes → IsFree m → constructor true (unfolded nodes m) ≡ constructor false (unfolded nodes m)
  same_free m h free = (unfolded_still m h free).same

  -- the members of a union are such modes
  standard_union : (m : ℕ) → m < 15 → is_union (shape_at standard_shapes m) ≡ true → All IsFree (parts_of (shape_at standard_shapes m))
  standard_union zero h u = absurd (false≢true u)
  standard_union (suc zero) h u = absurd (false≢true u)
  standard_union (suc (suc zero)) h u = absurd (false≢true u)
  standard_union (suc (suc (suc zero))) h u = absurd (false≢true u)
  standard_union (suc (suc (suc (suc zero)))) h u = absurd (false≢true u)
  standard_union (suc (suc (suc (suc (suc zero))))) h u = absurd (false≢true u)
  standard_union (suc (suc (suc (suc (suc (suc zero)))))) h u = absurd (false≢true u)
  standard_union (suc (suc (suc (suc (suc (suc (suc zero))))))) h u = absurd (false≢true u)
  standard_union (suc (suc (suc (suc (suc (suc (suc (suc zero)))))))) h u = All-from_recursion IsFree (1 ∷ 13 ∷ 2 ∷ 3 ∷ 4 ∷ 7 ∷ 6 ∷ []) (inl (omega arith, λ e. omega arith), (inl (omega arith, λ e. omega arith), (inl (omega arith, λ e. omega arith), (inl (omega arith, λ e. omega arith), (inl (omega arith, λ e. omega arith), (inl (omega arith, λ e. omega arith), (inl (omega arith, λ e. omega arith), tt)))))))
  standard_union (suc (suc (suc (suc (suc (suc (suc (suc (suc zero))))))))) h u = absurd (false≢true u)
  standard_union (suc (suc (suc (suc (suc (suc (suc (suc (suc (suc zero)))))))))) h u = absurd (false≢true u)
  standard_union (suc (suc (suc (suc (suc (suc (suc (suc (suc (suc (suc zero))))))))))) h u = absurd (false≢true u)
  standard_union (suc (suc (suc (suc (suc (suc (suc (suc (suc (suc (suc (suc zero)))))))))))) h u = absurd (false≢true u)
  standard_union (suc (suc (suc (suc (suc (suc (suc (suc (suc (suc (suc (suc (suc zero))))))))))))) h u = absurd (false≢true u)
  standard_union (suc (suc (suc (suc (suc (suc (suc (suc (suc (suc (suc (suc (suc (suc zero)))))))))))))) h u = absurd (false≢true u)
  standard_union (suc (suc (suc (suc (suc (suc (suc (suc (suc (suc (suc (suc (suc (suc (suc m))))))))))))))) h u = absurd (omega arith)

  shape_union : (d : ℕ) (fixed : Truth) (form : DeclarerForm) (shape : Shape) → IsShapeOf tree number d fixed form shape → is_union shape ≡ true → All IsFree (parts_of shape)
  shape_union d fixed (forms.Standard m n) shape is u = absurd (false≢true (sym (ap is_union is) ∙ u))
  shape_union d fixed forms.Name shape is u = absurd (false≢true (sym (ap is_union is) ∙ u))
  shape_union d fixed (forms.Row flex) shape is u = absurd (false≢true (sym (ap is_union is) ∙ u))
  shape_union d fixed forms.Structure shape is u = absurd (false≢true (sym (ap is_union is) ∙ u))
  shape_union d fixed forms.Union shape is u = rw is (map_holds IsFree void_free (λ e. number e true) (parts_at tree d) (λ e c. each_free e))
  shape_union d fixed forms.Procedure shape is u = absurd (false≢true (sym (ap is_union is) ∙ u))
  shape_union d fixed forms.Word shape is u = absurd (false≢true (sym (ap is_union is.2) ∙ u))

  union_free : (m : ℕ) → m < length nodes → is_union (shape_at nodes m) ≡ true → All IsFree (parts_of (shape_at nodes m))
  union_free m h u = ⊎_elim
      (λ low. subst (λ s. All IsFree (parts_of s)) (sym (standard_at nodes holds m low)) (standard_union m low (ap is_union (sym (standard_at nodes holds m low)) ∙ u)))
      (λ high.
      let o = ordered.onto m high h in
      subst (λ k. All IsFree (parts_of (shape_at nodes k))) o.3
      (shape_union o.0 o.1 (form_at tree o.0) (shape_at nodes (number o.0 o.1)) (declared.shapes o.0 o.1 o.2) (ap (λ k. is_union (shape_at nodes k)) o.3 ∙ u)))
      (below_or m 15)

  pub member_free : (m x : ℕ) → m < length nodes → is_union (unfolded nodes m) ≡ true → IsMember nodes m x → IsFree x
  member_free m x h u i = go ((members_behind nodes holds (length nodes) m x h u).0 i).way
    where
      lt : behind nodes (length nodes) m < length nodes
      lt = behind_below nodes holds (length nodes) m h

      first : (b : ℕ) → Contains (row (map (steps_of WithinUnions) nodes) (behind nodes (length nodes) m)) b → IsFree b
      first b c =
          let d : Contains (steps_of WithinUnions (unfolded nodes m)) b = rw (row_of_map (steps_of WithinUnions) nodes (behind nodes (length nodes) m) lt) at c in
          All-contains IsFree (parts_of (unfolded nodes m)) b (union_free (behind nodes (length nodes) m) lt u) (steps_in WithinUnions (unfolded nodes m) b d)

      go : Way (map (steps_of WithinUnions) nodes) (behind nodes (length nodes) m) x → IsFree x
      go (last_step c) = first x c
      go (more_steps {b = b} c w) = way_free b x (way_below nodes holds WithinUnions (behind nodes (length nodes) m) b lt (last_step c)) (first b c) w

  pub parts_free : (m : ℕ) → m < length nodes → IsFree m → (place y : ℕ) → IsInMode nodes m (unfolded nodes m) place y → (passes_on true (unfolded nodes m) ≡ false) ⊎ IsFree y
  parts_free m h free place y at = go (is_union (unfolded nodes m)) refl
    where
      go : (t : Truth) → is_union (unfolded nodes m) ≡ t → (passes_on true (unfolded nodes m) ≡ false) ⊎ IsFree y
      go true u = inr (member_free m y h u (at_union nodes m (unfolded nodes m) place y u at).1)
      go false u =
          let a = at_other nodes m (unfolded nodes m) place y u at in
          ⊎_elim inl (λ all. inr (subst IsFree a.1 (all place 0 a.0))) (unfolded_still m h free).parts

  like : (depth x : ℕ) → x < length nodes → IsFree x → ((y : ℕ) → y < length nodes → IsFree y → Alike nodes depth (without_flex y) (as_it_stands y))
      → (place : ℕ) (p : Mode) → IsModePart nodes (without_flex x) place p → Alike nodes depth p (as_it_stands p.id)
  like depth x h free ih place p part = go p.fixed refl
    where
      go : (b : Truth) → p.fixed ≡ b → Alike nodes depth p (as_it_stands p.id)
      go false e = subst (λ m. Alike nodes depth m (as_it_stands p.id)) (sym (same_mode p (as_it_stands p.id) refl e)) (alike_itself nodes depth (as_it_stands p.id))
      go true e = ⊎_elim
          (λ none. absurd (false≢true (sym (part.flex ∙ none) ∙ e)))
          (λ frees. subst (λ m. Alike nodes depth m (as_it_stands p.id)) (sym (same_mode p (without_flex p.id) refl e)) (ih p.id (part_below nodes holds (without_flex x) p place h part) frees))
          (parts_free x h free place p.id part.at)

  free_alike : (depth x : ℕ) → x < length nodes → IsFree x → Alike nodes depth (without_flex x) (as_it_stands x)
  free_alike zero x h free = tt
  free_alike (suc depth) x h free = (
    same_free x h free,
    (
      λ place p part. (as_it_stands p.id, record { at = part.at; flex = sym (passes_none (unfolded nodes x)) }, like depth x h free (free_alike depth) place p part),
      λ place q part.
          let qq : q ≡ as_it_stands q.id = same_mode q (as_it_stands q.id) refl (part.flex ∙ passes_none (unfolded nodes x)) in
          let p : Mode = record { id = q.id; fixed = passes_on true (unfolded nodes x) } in
          let here : IsModePart nodes (without_flex x) place p = record { at = part.at; flex = refl } in
          (p, here, subst (λ m. Alike nodes depth p m) (sym qq) (like depth x h free (free_alike depth) place p here)),
    ),
  )

  -- the members of unions have no FLEX
  pub raw_fixed : UnionsHaveNoFlex nodes
  raw_fixed m x h u i depth = free_alike depth x (way_below nodes holds WithinUnions m x h i.way) (member_free m x h u i)

  -- ---- the node of a mode without its FLEX

  -- x is the node of the mode of y without its FLEX: the same one where it has none, [] CHAR for STRING, and the second for the first
  -- of the two nodes of a declarer
  abbrev IsTwin : ℕ → ℕ → Type 0
  IsTwin x y = ((x ≡ y) × IsFree y) ⊎ (((x ≡ 7) × (y ≡ 12)) ⊎ ((d : ℕ) × IsDeclarerAt tree d × (x ≡ number d true) × (y ≡ number d false)))

  abbrev AreTwinned : List ℕ → List ℕ → Type 0
  AreTwinned [] [] = Unit {0}
  AreTwinned [] (y ∷ ys) = ⊥
  AreTwinned (x ∷ xs) [] = ⊥
  AreTwinned (x ∷ xs) (y ∷ ys) = IsTwin x y × AreTwinned xs ys

  twin_down : (xs ys : List ℕ) (k : ℕ) → AreTwinned xs ys → k < length xs → (k < length ys) × IsTwin (get_or xs k 0) (get_or ys k 0)
  twin_down [] ys k t h = absurd (omega arith)
  twin_down (x ∷ xs) [] k t h = absurd t
  twin_down (x ∷ xs) (y ∷ ys) zero t h = (omega arith, t.0)
  twin_down (x ∷ xs) (y ∷ ys) (suc k) t h = let r = twin_down xs ys k t.1 (omega arith) in let l = r.0 in (omega arith, r.1)

  twin_up : (xs ys : List ℕ) (k : ℕ) → AreTwinned xs ys → k < length ys → (k < length xs) × IsTwin (get_or xs k 0) (get_or ys k 0)
  twin_up xs [] k t h = absurd (omega arith)
  twin_up [] (y ∷ ys) k t h = absurd t
  twin_up (x ∷ xs) (y ∷ ys) zero t h = (omega arith, t.0)
  twin_up (x ∷ xs) (y ∷ ys) (suc k) t h = let r = twin_up xs ys k t.1 (omega arith) in let l = r.0 in (omega arith, r.1)

  all_free : (xs : List ℕ) → All IsFree xs → AreTwinned xs xs
  all_free [] all = tt
  all_free (x ∷ xs) all = (inl (refl, all 0 0 (omega arith)), all_free xs (λ k d h. all (suc k) d (omega arith)))

  -- two shapes of twins with other modes within them, from which FLEX is taken away
  record ArePaired (s t : Shape) : Type 0 where
    plain : is_union s ≡ false
    plain_too : is_union t ≡ false
    passes : passes_on true t ≡ true
    pairs : AreTwinned (parts_of s) (parts_of t)

  -- the shapes of twins: one from whose modes no FLEX is taken away, one union, or two with twins within them
  record AreAkin (s t : Shape) : Type 0 where
    same : constructor false s ≡ constructor true t
    parts : ((s ≡ t) × (passes_on true t ≡ false)) ⊎ (((s ≡ t) × (is_union t ≡ true)) ⊎ ArePaired s t)

  free_akin : (s : Shape) → IsStill s → AreAkin s s
  free_akin s still = record { same = sym still.same; parts = go (is_union s) (passes_on true s) refl refl }
    where
      go : (u b : Truth) → is_union s ≡ u → passes_on true s ≡ b → ((s ≡ s) × (passes_on true s ≡ false)) ⊎ (((s ≡ s) × (is_union s ≡ true)) ⊎ ArePaired s s)
      go true b e f = inr (inl (refl, e))
      go false false e f = inl (refl, f)
      go false true e f = ⊎_elim
          (λ none. absurd (false≢true (sym none ∙ f)))
          (λ all. inr (inr (record { plain = e; plain_too = e; passes = f; pairs = all_free (parts_of s) all })))
          still.parts

  module _ (once : (id : ℕ) → IsTwice tree id → ⊥) where
    twin_of_part : (e : ℕ) → IsTwin (number e true) (number e false)
    twin_of_part e = go (is_declarer (kind_at tree e)) refl
      where
        go : (b : Truth) → is_declarer (kind_at tree e) ≡ b → IsTwin (number e true) (number e false)
        go true is = inr (inr (e, is, refl, refl))
        go false is =
            let first = ordered.none e false (λ t. false≢true (sym is ∙ t)) in
            let second = ordered.none e true (λ t. false≢true (sym is ∙ t)) in
            inl (second ∙ sym first, inl (omega arith, λ e. omega arith))

    void_twin : IsTwin 0 0
    void_twin = inl (refl, void_free)

    last_twin : (parts : List ℕ) → IsTwin (last_mode (λ e. number e true) parts) (last_mode (λ e. number e false) parts)
    last_twin parts = go (slice_get parts (length parts - 1))
      where
        go : (o : Option ℕ) → IsTwin (option_map_or (λ e. number e true) o 0) (option_map_or (λ e. number e false) o 0)
        go None = void_twin
        go (Some e) = twin_of_part e

    each_twin : (parts : List ℕ) → AreTwinned (map (λ e. number e true) parts) (map (λ e. number e false) parts)
    each_twin [] = tt
    each_twin (e ∷ es) = (twin_of_part e, each_twin es)

    abbrev AreTwinFields : (one other : List (ℕ × ℕ)) → Type 0
    AreTwinFields one other =
        AreTwinned (map (λ (field : ℕ × ℕ). field.1) one) (map (λ (field : ℕ × ℕ). field.1) other)
        × (map {B = ℕ × ℕ} (λ (field : ℕ × ℕ). (field.0, 0)) one ≡ map {B = ℕ × ℕ} (λ (field : ℕ × ℕ). (field.0, 0)) other)

    fields_twin : (a b : ℕ) (parts : List ℕ) → IsTwin a b → AreTwinFields (fields tree (λ e. number e true) a parts) (fields tree (λ e. number e false) b parts)
    fields_twin a b [] t = (tt, refl)
    fields_twin a b (p ∷ ps) t = go (is_field (kind_at tree p)) (fields_twin a b ps t) (fields_twin (number p true) (number p false) ps (twin_of_part p))
      where
        go : (c : Truth) → AreTwinFields (fields tree (λ e. number e true) a ps) (fields tree (λ e. number e false) b ps)
            → AreTwinFields (fields tree (λ e. number e true) (number p true) ps) (fields tree (λ e. number e false) (number p false) ps)
            → AreTwinFields (if c then (name_at tree p, a) ∷ fields tree (λ e. number e true) a ps else fields tree (λ e. number e true) (number p true) ps)
            (if c then (name_at tree p, b) ∷ fields tree (λ e. number e false) b ps else fields tree (λ e. number e false) (number p false) ps)
        go true rest other = ((t, rest.0), ap (λ (xs : List (ℕ × ℕ)). (name_at tree p, 0) ∷ xs) rest.1)
        go false rest other = other

    defined_twin : (o : Option ℕ) → IsTwin (defined_mode tree (λ e. number e true) o) (defined_mode tree (λ e. number e false) o)
    defined_twin None = void_twin
    defined_twin (Some x) = last_twin (parts_at tree x)

    -- the modes of a standard declarer are twins
    abbrev HasTwins : DeclarerForm → Type 0
    HasTwins (forms.Standard m n) = IsTwin n m
    HasTwins _ = Unit {0}

    known_twins : AllForms HasTwins known_forms
    unfolding known_forms
    known_twins =
        (inl (refl, inl (omega arith, λ e. omega arith)), (inl (refl, inl (omega arith, λ e. omega arith)), (inl (refl, inl (omega arith, λ e. omega arith)), (inl (refl, inl (omega arith, λ e. omega arith)), (inl (refl, inl (omega arith, λ e. omega arith)), (inr (inl (refl, refl)), (inl (refl, inl (omega arith, λ e. omega arith)), (tt, (tt, (tt, (tt, (tt, (tt, tt)))))))))))))

    form_akin : (d : ℕ) (form : DeclarerForm) (s t : Shape) → HasTwins form → IsShapeOf tree number d true form s → IsShapeOf tree number d false form t → AreAkin s t
    form_akin d (forms.Standard m n) s t twins p q = rw (p, q) (record { same = refl; parts = inr (inr (record { plain = refl; plain_too = refl; passes = refl; pairs = (twins, tt) })) })
    form_akin d forms.Name s t twins p q = rw (p, q) (record { same = refl; parts = inl (refl, refl) })
    form_akin d (forms.Row flex) s t twins p q =
        rw (p, q) (record { same = refl; parts = inr (inr (record { plain = refl; plain_too = refl; passes = refl; pairs = (last_twin (parts_at tree d), tt) })) })
    form_akin d forms.Structure s t twins p q =
        let all = fields_twin 0 0 (parts_at tree d) void_twin in
        rw (p, q) (record { same = ap Struct all.1; parts = inr (inr (record { plain = refl; plain_too = refl; passes = refl; pairs = all.0 })) })
    form_akin d forms.Union s t twins p q = rw (p, q) (record { same = refl; parts = inr (inl (refl, refl)) })
    form_akin d forms.Procedure s t twins p q = rw (p, q) (record { same = refl; parts = inl (refl, refl) })
    form_akin d forms.Word s t twins p q =
        let one = word_one tree once d (name_at tree d) q.0 p.0 q.1 p.1 in
        let t_is : t ≡ Same (defined_mode tree (λ e. number e false) p.0) = q.2 ∙ ap (λ o. Same (defined_mode tree (λ e. number e false) o)) one in
        rw (p.2, t_is) (record { same = refl; parts = inr (inr (record { plain = refl; plain_too = refl; passes = refl; pairs = (defined_twin p.0, tt) })) })

    -- the shapes of twins are akin
    node_akin : (x y : ℕ) → IsTwin x y → AreAkin (shape_at nodes x) (shape_at nodes y)
    node_akin x y (inl (e, free)) = subst (λ k. AreAkin (shape_at nodes k) (shape_at nodes y)) (sym e) (free_akin (shape_at nodes y) (node_still y free))
    node_akin x y (inr (inl (e, f))) =
        subst (λ k. AreAkin (shape_at nodes k) (shape_at nodes y)) (sym e) (subst (λ k. AreAkin (shape_at nodes 7) (shape_at nodes k)) (sym f)
        (rw (standard_at nodes holds 7 (omega arith), standard_at nodes holds 12 (omega arith))
        (record { same = refl; parts = inr (inr (record { plain = refl; plain_too = refl; passes = refl; pairs = (inl (refl, inl (omega arith, λ e. omega arith)), tt) })) })))
    node_akin x y (inr (inr (d, is, e, f))) =
        subst (λ k. AreAkin (shape_at nodes k) (shape_at nodes y)) (sym e) (subst (λ k. AreAkin (shape_at nodes (number d true)) (shape_at nodes k)) (sym f)
        (form_akin d (form_at tree d) (shape_at nodes (number d true)) (shape_at nodes (number d false)) (found_form HasTwins known_forms (spelling_at tree d) tt known_twins) (declared.shapes d true is) (declared.shapes d false is)))

    -- what stands behind the mode words of twins are twins
    word_back : (fixed : Truth) (s : Shape) → constructor fixed s ≡ Same 0 → (a : ℕ) × (s ≡ Same a)
    word_back fixed (Same a) e = (a, refl)
    word_back fixed _ e = absurd (cc)

    word_akin : (a b : ℕ) → AreAkin (Same a) (Same b) → IsTwin a b
    word_akin a b akin = go akin.parts
      where
        go : ((Same a ≡ Same b) × (true ≡ false)) ⊎ (((Same a ≡ Same b) × (false ≡ true)) ⊎ ArePaired (Same a) (Same b)) → IsTwin a b
        go (inl (e, f)) = absurd (false≢true (sym f))
        go (inr (inl (e, f))) = absurd (false≢true f)
        go (inr (inr p)) = p.pairs.0

    behind_twin : (k x y : ℕ) → IsTwin x y → IsTwin (behind nodes k x) (behind nodes k y)
    behind_twin zero x y t = t
    behind_twin (suc k) x y t = go (shape_at nodes x) refl (behind_twin k)
      where
        akin : AreAkin (shape_at nodes x) (shape_at nodes y)
        akin = node_akin x y t

        no_word : (s : Shape) → shape_at nodes x ≡ s → (constructor false s ≡ Same 0 → ⊥) → (b : ℕ) → shape_at nodes y ≡ Same b → ⊥
        no_word s e none b f = none (ap (constructor false) (sym e) ∙ akin.same ∙ ap (constructor true) f)

        stays_there : (s : Shape) → ((b : ℕ) → s ≡ Same b → ⊥) → word_or (behind nodes k) y s ≡ y
        stays_there (Same b) none = absurd (none b refl)
        stays_there _ none = refl

        go : (s : Shape) → shape_at nodes x ≡ s → ((x y : ℕ) → IsTwin x y → IsTwin (behind nodes k x) (behind nodes k y)) → IsTwin (word_or (behind nodes k) x s) (word_or (behind nodes k) y (shape_at nodes y))
        go (Same a) e ih =
            let b = word_back true (shape_at nodes y) (sym akin.same ∙ ap (constructor false) e) in
            let both = word_akin a b.0 (subst (AreAkin (Same a)) b.1 (subst (λ s. AreAkin s (shape_at nodes y)) e akin)) in
            subst (λ s. IsTwin (behind nodes k a) (word_or (behind nodes k) y s)) (sym b.1) (ih a b.0 both)
        go s e ih = subst (IsTwin x) (sym (stays_there (shape_at nodes y) (no_word s e (λ f. cc)))) t

    unfolded_akin : (x y : ℕ) → IsTwin x y → AreAkin (unfolded nodes x) (unfolded nodes y)
    unfolded_akin x y t = node_akin (behind nodes (length nodes) x) (behind nodes (length nodes) y) (behind_twin (length nodes) x y t)

    -- two unions of one shape have the same members
    same_members : (x y z : ℕ) → x < length nodes → y < length nodes → is_union (unfolded nodes y) ≡ true → unfolded nodes x ≡ unfolded nodes y → IsMember nodes x z → IsMember nodes y z
    same_members x y z hx hy u e i =
        let a = behind nodes (length nodes) x in
        let b = behind nodes (length nodes) y in
        let ha = behind_below nodes holds (length nodes) x hx in
        let hb = behind_below nodes holds (length nodes) y hy in
        let rows = row_of_map (steps_of WithinUnions) nodes a ha ∙ ap (steps_of WithinUnions) e ∙ sym (row_of_map (steps_of WithinUnions) nodes b hb) in
        let m = (members_behind nodes holds (length nodes) x z hx (ap is_union e ∙ u)).0 i in
        (members_behind nodes holds (length nodes) y z hy u).1 (record { way = way_moved (map (steps_of WithinUnions) nodes) a b z rows m.way; last = m.last })

    -- what stands in one of the twins, and in the other
    abbrev IsKin : ℕ → Mode → Type 0
    IsKin z q = (q ≡ as_it_stands z) ⊎ ((w : ℕ) × (q ≡ without_flex w) × IsTwin z w)

    passes_on_union : (s : Shape) → is_union s ≡ true → passes_on true s ≡ true
    passes_on_union (Union ms) u = refl
    passes_on_union _ u = absurd (false≢true u)

    not_union : (s : Shape) → passes_on true s ≡ false → is_union s ≡ false
    not_union (Union ms) e = absurd (false≢true (sym e))
    not_union _ e = refl

    module _ (x y : ℕ) (hx : x < length nodes) (hy : y < length nodes) (t : IsTwin x y) where
      kin_down : (place z : ℕ) → IsInMode nodes x (unfolded nodes x) place z → (q : Mode) × IsModePart nodes (without_flex y) place q × IsKin z q
      kin_down place z at = go (unfolded_akin x y t).parts
        where
          go : ((unfolded nodes x ≡ unfolded nodes y) × (passes_on true (unfolded nodes y) ≡ false)) ⊎ (((unfolded nodes x ≡ unfolded nodes y) × (is_union (unfolded nodes y) ≡ true)) ⊎ ArePaired (unfolded nodes x) (unfolded nodes y))
              → (q : Mode) × IsModePart nodes (without_flex y) place q × IsKin z q
          go (inl (e, none)) =
              let u = not_union (unfolded nodes y) none in
              let a = at_other nodes x (unfolded nodes x) place z (ap is_union e ∙ u) at in
              let b : (place < length (parts_of (unfolded nodes y))) × (get_or (parts_of (unfolded nodes y)) place 0 ≡ z) = subst (λ s. (place < length (parts_of s)) × (get_or (parts_of s) place 0 ≡ z)) e a in
              (as_it_stands z, record { at = other_at nodes y (unfolded nodes y) place z u b; flex = sym none }, inl refl)
          go (inr (inl (e, u))) =
              let a = at_union nodes x (unfolded nodes x) place z (ap is_union e ∙ u) at in (
                without_flex z,
                record { at = union_at nodes y (unfolded nodes y) place z u (a.0, same_members x y z hx hy u e a.1); flex = sym (passes_on_union (unfolded nodes y) u) },
                inr (z, refl, inl (refl, member_free x z hx (ap is_union e ∙ u) a.1)),
              )
          go (inr (inr p)) =
              let a = at_other nodes x (unfolded nodes x) place z p.plain at in
              let r = twin_down (parts_of (unfolded nodes x)) (parts_of (unfolded nodes y)) place p.pairs a.0 in
              let w = get_or (parts_of (unfolded nodes y)) place 0 in (
                without_flex w,
                record { at = other_at nodes y (unfolded nodes y) place w p.plain_too (r.0, refl); flex = sym p.passes },
                inr (w, refl, subst (λ k. IsTwin k w) a.1 r.1),
              )

      kin_up : (place : ℕ) (q : Mode) → IsModePart nodes (without_flex y) place q → (z : ℕ) × IsInMode nodes x (unfolded nodes x) place z × IsKin z q
      kin_up place q part = go (unfolded_akin x y t).parts
        where
          go : ((unfolded nodes x ≡ unfolded nodes y) × (passes_on true (unfolded nodes y) ≡ false)) ⊎ (((unfolded nodes x ≡ unfolded nodes y) × (is_union (unfolded nodes y) ≡ true)) ⊎ ArePaired (unfolded nodes x) (unfolded nodes y))
              → (z : ℕ) × IsInMode nodes x (unfolded nodes x) place z × IsKin z q
          go (inl (e, none)) =
              let u = not_union (unfolded nodes y) none in
              let a = at_other nodes y (unfolded nodes y) place q.id u part.at in
              let b : (place < length (parts_of (unfolded nodes x))) × (get_or (parts_of (unfolded nodes x)) place 0 ≡ q.id) = subst (λ s. (place < length (parts_of s)) × (get_or (parts_of s) place 0 ≡ q.id)) (sym e) a in
              (q.id, other_at nodes x (unfolded nodes x) place q.id (ap is_union e ∙ u) b, inl (same_mode q (as_it_stands q.id) refl (part.flex ∙ none)))
          go (inr (inl (e, u))) =
              let a = at_union nodes y (unfolded nodes y) place q.id u part.at in
              let ux = ap is_union e ∙ u in
              let i = same_members y x q.id hy hx ux (sym e) a.1 in (
                q.id,
                union_at nodes x (unfolded nodes x) place q.id ux (a.0, i),
                inr (q.id, same_mode q (without_flex q.id) refl (part.flex ∙ passes_on_union (unfolded nodes y) u), inl (refl, member_free x q.id hx ux i)),
              )
          go (inr (inr p)) =
              let a = at_other nodes y (unfolded nodes y) place q.id p.plain_too part.at in
              let r = twin_up (parts_of (unfolded nodes x)) (parts_of (unfolded nodes y)) place p.pairs a.0 in
              let z = get_or (parts_of (unfolded nodes x)) place 0 in (
                z,
                other_at nodes x (unfolded nodes x) place z p.plain (r.0, refl),
                inr (q.id, same_mode q (without_flex q.id) refl (part.flex ∙ p.passes), subst (IsTwin z) a.1 r.1),
              )

    kin_alike : (depth z : ℕ) (q : Mode) → z < length nodes → q.id < length nodes → ((x y : ℕ) → x < length nodes → y < length nodes → IsTwin x y → Alike nodes depth (as_it_stands x) (without_flex y))
        → IsKin z q → Alike nodes depth (as_it_stands z) q
    kin_alike depth z q hz hq ih (inl e) = subst (Alike nodes depth (as_it_stands z)) (sym e) (alike_itself nodes depth (as_it_stands z))
    kin_alike depth z q hz hq ih (inr (w, e, t)) =
        let hw : w < length nodes = subst (λ (m : Mode). m.id < length nodes) e hq in
        subst (Alike nodes depth (as_it_stands z)) (sym e) (ih z w hz hw t)

    twin_alike : (depth x y : ℕ) → x < length nodes → y < length nodes → IsTwin x y → Alike nodes depth (as_it_stands x) (without_flex y)
    twin_alike zero x y hx hy t = tt
    twin_alike (suc depth) x y hx hy t = (
      (unfolded_akin x y t).same,
      (
        λ place p part.
            let plain = same_mode p (as_it_stands p.id) refl (part.flex ∙ passes_none (unfolded nodes x)) in
            let q = kin_down x y hx hy t place p.id part.at in
            let hp = part_below nodes holds (as_it_stands x) p place hx part in
            let hq = part_below nodes holds (without_flex y) q.0 place hy q.1 in
            (q.0, q.1, subst (λ m. Alike nodes depth m q.0) (sym plain) (kin_alike depth p.id q.0 hp hq (twin_alike depth) q.2)),
        λ place q part.
            let z = kin_up x y hx hy t place q part in
            let here : IsModePart nodes (as_it_stands x) place (as_it_stands z.0) = record { at = z.1; flex = sym (passes_none (unfolded nodes x)) } in
            let hz = part_below nodes holds (as_it_stands x) (as_it_stands z.0) place hx here in
            let hq = part_below nodes holds (without_flex y) q place hy part in
            (as_it_stands z.0, here, kin_alike depth z.0 q hz hq (twin_alike depth) z.2),
      ),
    )

    -- the node of each mode without its FLEX
    low_twin : (m : ℕ) → IsFlexless m → twin_of m ≡ m
    low_twin m h = grind (arith, nat_tests, h.0, h.1)

    high_twin : (m : ℕ) → 15 ≤ m → twin_of m ≡ m + m % 2
    high_twin m h =
        let e : nat_lt m 12 ≡ false = grind (arith, nat_tests) in
        let f : nat_eq m 12 ≡ false = grind (arith, nat_tests) in
        let g : nat_lt m 15 ≡ false = grind (arith, nat_tests) in
        rw (e, f, g) refl

    module _ (numbered : (d : ℕ) (fixed : Truth) → number d fixed ≡ mode_number tree d fixed) where
      place_of : (d : ℕ) (fixed : Truth) → IsDeclarerAt tree d → number d fixed ≡ 15 + 2 * declarers tree d + one_if fixed
      place_of d fixed is = numbered d fixed ∙ ap (of_two fixed) (first_is tree d is) ∙ two tree fixed (2 * declarers tree d)

      second_of : (d : ℕ) (fixed : Truth) → IsDeclarerAt tree d → twin_of (number d fixed) ≡ number d true
      second_of d false is =
          let one = place_of d false is in
          let other = place_of d true is in
          high_twin (number d false) (omega arith) ∙ omega arith
      second_of d true is =
          let other = place_of d true is in
          high_twin (number d true) (omega arith) ∙ omega arith

      twins : (d : ℕ) (fixed : Truth) → IsDeclarerAt tree d → IsTwin (number d true) (number d fixed)
      twins d false is = inr (inr (d, is, refl, refl))
      twins d true is = inl (refl, inr (d, is, refl))

      a_twin : (m : ℕ) → m < length nodes → (twin_of m < length nodes) × IsTwin (twin_of m) m
      a_twin m h = ⊎_elim
          (λ low. ⊎_elim
          (λ twelve. let f : twin_of m ≡ 7 = ap twin_of twelve in (omega arith, inr (inl (f, twelve))))
          (λ other. let e = low_twin m (low, other) in (omega arith, inl (e, inl (low, other))))
          (cases_eq m 12))
          (λ higher.
          let o = ordered.onto m higher h in
          let there = declared.there o.0 true in
          let e : twin_of m ≡ number o.0 true = ap twin_of (sym o.3) ∙ second_of o.0 o.1 o.2 in
          (omega arith, subst (λ k. IsTwin k m) (sym e) (subst (IsTwin (number o.0 true)) o.3 (twins o.0 o.1 o.2))))
          (below_or m 15)

      pub have_twins : HaveTwins nodes
      have_twins m h = let t = a_twin m h in record { there = t.0; equivalent = λ depth. twin_alike depth (twin_of m) m t.0 h t.1 }
