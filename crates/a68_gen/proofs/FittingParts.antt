-- Constructs fit whose parts do.
use Rattle.std.proofs.Common.{◌≡◌, ℕ, ◌<◌, Bool, true, false, List, [], ◌∷◌, ◌++◌, length, refl, sym, ◌∙◌, ap, subst, None, Some}
use Rattle.std.proofs.lemmas.Bool.{false≢true, eqb-true}
use Rattle.std.specs.List.{list_all}
use Rattle.std.specs.Option.{option_map_or}
use Rattle.std.specs.Prelude.{IsTrue, not, pos, nat_eq, nat_lt, ◌&&◌, ◌||◌, ◌==◌, if◌then◌else◌}
use Rattle.std.specs.declared.option.Option.{Option}
use Rattle.a68_acts.specs.Operations.{Operation, constant, skip, bind, store, apply, display, compose, select, print, whole, leaves}
use Rattle.a68_annot.specs.declared.annotated.Annotated.{Annotated}
use Rattle.a68_annot.specs.declared.note.Note.{Note}
use Rattle.a68_base.specs.declared.limits.TheConstants.{MOST_INSTRUCTIONS}
use Rattle.a68_code.specs.Flow.{operands_of, takes}
use Rattle.a68_code.specs.Operands.{is_well_made}
use Rattle.a68_elab.specs.Made as made
use Rattle.a68_elab.specs.Made.{all_but_last, before_out, behind_all, behind_heap, behind_proc, behind_ref, begins_with, called, coerced, field_in, fields_at, first_bounds, first_goal, form_of, forms_of, if_first, index_units, is_by, is_collateral, is_declarer, is_for, is_from, is_heap, is_one_of, is_out, is_routine_text, is_to, is_while, isnt, items_at, kind_at, last_id, last_tree, leaf, mode_of, new_name, only, only_id, out_of, parts_at, past, printers, rowed_to, spelling_of, standard_of, tag_of, text_among, text_number, texts_before, texts_in, units_in, trees_at, wholes, has_tag, is_exit, is_label, is_labelled, spec_mode, specs_of, steps_of}
use Rattle.a68_elab.specs.declared.bound.Bound.{Bound}
use Rattle.a68_elab.specs.declared.bound.Bound.TheVariants as bound
use Rattle.a68_elab.specs.Trees.{Order, collateral, serial, Tree, operation, call, ◌and_tree◌, count, Specs, exit, labelled, step}
use Rattle.a68_emit.proofs.Taking.{spec_is}
use Rattle.a68_constructs.proofs.Constructs.{count_trees}
use Rattle.a68_elab.specs.Runs.{all_leave, applies, are_phrases, are_values, bounds_run, collateral_leaves, declared_leaves, declared_runs, formula_leaves, formula_runs, gives, if_so, is_bounding, is_outcome, is_row, are_steps, last_outcome, new_runs, only_outcome, out_runs, outcome, refers, routine_runs, selects, source_runs, variable_runs, specs_run}
use Rattle.a68_emit.specs.Stretches.{does_of}
use Rattle.a68_layout.specs.Rooms.{bounds_needed}
use Rattle.a68_modes.specs.Nodes.{shape_at, is_void}
use Rattle.a68_modes.specs.declared.shape.Shape.{Shape}
use Rattle.a68_modes.specs.declared.shape.Shape.TheVariants as shape
use Rattle.a68_tree.specs.Trees.{AllBetween}
use Rattle.a68_values.specs.Content.{plain}
use Rattle.a68_values.specs.declared.plain.Plain.TheVariants as value
use Rattle.a68_gen.proofs.Fitted.{AreFit, IsFit, StepsAreFit, first, fit-all, fit-none, fit-one, fit-two, framed-fits, is-wanted, new-fits, second, selected-there, so-holds, so-is, tag-fits, wanted-is, SpecsAreFit}

-- ---- parts

abbrev pub texts_of : Annotated → ℕ
texts_of a = length (texts_in a)

abbrev pub all_units : Annotated → ℕ
all_units a = length (units_in a)

either : (x y z : Bool) → ((x || y) || z) ≡ false → (x ≡ false) × (y ≡ false) × (z ≡ false)
either false false z e = (refl, refl, e)
either false true z e = absurd (false≢true (sym e))
either true y z e = absurd (false≢true (sym e))

-- the steps of a clause without labels are its phrases
plain_steps : (a : Annotated) (wanted : Bool) (ids : List ℕ) → is_labelled a ids ≡ false → are_steps a wanted ids ≡ are_phrases a wanted ids
plain_steps a wanted [] none = refl
plain_steps a wanted (x ∷ []) none = refl
plain_steps a wanted (x ∷ (y ∷ ids)) none =
    let here = either (is_label (kind_at a x)) (is_exit (kind_at a x)) (is_labelled a (y ∷ ids)) none in
    let next = either (is_label (kind_at a y)) (is_exit (kind_at a y)) (is_labelled a ids) here.2 in
    let on = is_outcome false (outcome a x) && are_steps a wanted (y ∷ ids) in
    let ends = is_outcome wanted (outcome a x) && are_steps a wanted ids in
    ap (λ (b : Bool). if b then are_steps a wanted (y ∷ ids) else (if is_exit (kind_at a y) then ends else on)) here.0 ∙ ap (λ (b : Bool). if b then ends else on) next.1
    ∙ ap (λ (b : Bool). is_outcome false (outcome a x) && b) (plain_steps a wanted (y ∷ ids) here.2)

-- bounds that are written stand behind a node
abbrev pub AreBehind : (id : ℕ) → List Bound → Type 0
AreBehind id [] = Unit {0}
AreBehind id (bound.Written k ∷ bounds) = (id < k) × AreBehind id bounds
AreBehind id (bound.Meant n ∷ bounds) = AreBehind id bounds
AreBehind id (bound.Defined frames k ∷ bounds) = AreBehind id bounds

-- the trees of the nodes behind a node fit, as far as these are constructs
abbrev pub Given : (a : Annotated) (id : ℕ) (f : ℕ → Tree) → Type 0
Given a id f = (p : ℕ) (wanted : Bool) → id < p → IsTrue (is_outcome wanted (outcome a p)) → IsFit a.modes (texts_of a) (all_units a) wanted (f p)

-- so do those of the bounds of definitions
abbrev pub GivenBounds : (a : Annotated) (g : (frames id : ℕ) → Tree) → Type 0
GivenBounds a g = (frames p : ℕ) → IsTrue (is_outcome true (outcome a p)) → IsFit a.modes (texts_of a) (all_units a) true (g frames p)

module _ (a : Annotated) (id end : ℕ) (f : ℕ → Tree) (given : Given a id f) where
  pub all-fit : (wanted : Bool) (ids : List ℕ) → AllBetween id end ids → IsTrue (all_leave a wanted ids) → AreFit a.modes (texts_of a) (all_units a) wanted (trees_at f ids)
  all-fit wanted [] b e = record { fits = tt; operands = tt }
  all-fit wanted (x ∷ xs) b e =
      let here = given x wanted b.0 (first (is_outcome wanted (outcome a x)) (all_leave a wanted xs) e) in
      let rest = all-fit wanted xs b.2 (second (is_outcome wanted (outcome a x)) (all_leave a wanted xs) e) in
      record { fits = (here.fits, rest.fits); operands = (here.operands, rest.operands) }

  -- an operation on the values of so many parts
  pub values-fit : (n : ℕ) (gives : Bool) (place : ℕ) (op : Operation) (order : Order) (ids : List ℕ) → AllBetween id end ids → IsTrue (are_values a n ids) → gives ≡ leaves a.modes op
      → takes (does_of op n) ≡ n → IsTrue (is_well_made a.modes (texts_of a) 0 (does_of op n)) → IsFit a.modes (texts_of a) (all_units a) gives (operation place op order (trees_at f ids))
  values-fit n gives place op order ids b e l t w =
      let long : length ids ≡ n = eqb-true (length ids) n (first (length ids == n) (all_leave a true ids) e) in
      fit-all a.modes (texts_of a) (all_units a) n gives place op order (trees_at f ids) (count_trees f ids ∙ long) l t w (all-fit true ids b (second (length ids == n) (all_leave a true ids) e))

  pub last-fits : (left : Bool) (ids : List ℕ) → AllBetween id end ids → last_outcome a ids ≡ Some left → IsFit a.modes (texts_of a) (all_units a) left (last_tree (trees_at f ids))
  last-fits left [] b e = absurd (cc)
  last-fits left (x ∷ []) b e = given x left b.0 (is-wanted left (outcome a x) e)
  last-fits left (x ∷ (y ∷ xs)) b e = last-fits left (y ∷ xs) b.2 e

  pub only-fits : (left : Bool) (ids : List ℕ) → AllBetween id end ids → only_outcome a ids ≡ Some left → IsFit a.modes (texts_of a) (all_units a) left (made.only_of (trees_at f ids))
  only-fits left [] b e = absurd (cc)
  only-fits left (x ∷ []) b e = given x left b.0 (is-wanted left (outcome a x) e)
  only-fits left (x ∷ (y ∷ xs)) b e = absurd (cc)

  -- phrases before the last
  pub before-fit : (wanted : Bool) (x : ℕ) (xs : List ℕ) → AllBetween id end (x ∷ xs) → IsTrue (are_phrases a wanted (x ∷ xs)) → AreFit a.modes (texts_of a) (all_units a) false (all_but_last (f x and_tree trees_at f xs))
  before-fit wanted x [] b e = record { fits = tt; operands = tt }
  before-fit wanted x (y ∷ xs) b e =
      let here = given x false b.0 (first (is_outcome false (outcome a x)) (are_phrases a wanted (y ∷ xs)) e) in
      let rest = before-fit wanted y xs b.2 (second (is_outcome false (outcome a x)) (are_phrases a wanted (y ∷ xs)) e) in
      record { fits = (here.fits, rest.fits); operands = (here.operands, rest.operands) }

  pub final-fits : (wanted : Bool) (x : ℕ) (xs : List ℕ) → AllBetween id end (x ∷ xs) → IsTrue (are_phrases a wanted (x ∷ xs)) → IsFit a.modes (texts_of a) (all_units a) wanted (last_tree (f x and_tree trees_at f xs))
  final-fits wanted x [] b e = given x wanted b.0 e
  final-fits wanted x (y ∷ xs) b e = final-fits wanted y xs b.2 (second (is_outcome false (outcome a x)) (are_phrases a wanted (y ∷ xs)) e)

  pub phrases-fit : (wanted : Bool) (place : ℕ) (ids : List ℕ) → AllBetween id end ids → IsTrue (are_phrases a wanted ids) → IsFit a.modes (texts_of a) (all_units a) wanted (made.phrases_of place (trees_at f ids))
  phrases-fit wanted place [] b e = absurd (false≢true e)
  phrases-fit wanted place (x ∷ xs) b e =
      let before = before-fit wanted x xs b e in
      let final = final-fits wanted x xs b e in
      record { fits = (before.fits, final.fits); operands = (before.operands, final.operands) }

  pub serial-fits : (wanted : Bool) (place slots : ℕ) (ids : List ℕ) → AllBetween id end ids → IsTrue (are_phrases a wanted ids)
      → IsFit a.modes (texts_of a) (all_units a) wanted (made.serial_of place slots wanted (trees_at f ids))
  serial-fits wanted place slots [] b e = absurd (false≢true e)
  serial-fits wanted place slots (x ∷ xs) b e = framed-fits a.modes (texts_of a) (all_units a) place place slots wanted _ (phrases-fit wanted place (x ∷ xs) b e)

  -- steps: all but those that end the clause leave nothing
  pub steps-fit : (wanted : Bool) (labels ids : List ℕ) → AllBetween id end ids → IsTrue (are_steps a wanted ids) → StepsAreFit a.modes (texts_of a) (all_units a) wanted (steps_of a f labels ids)
  steps-fit wanted labels [] b e = absurd (false≢true e)
  steps-fit wanted labels (x ∷ []) b e = let t = given x wanted b.0 e in record { fits = t.fits; operands = t.operands }
  steps-fit wanted labels (x ∷ (y ∷ ids)) b e =
      go (is_label (kind_at a x)) (is_exit (kind_at a y)) e (steps-fit wanted (labels ++ x ∷ []) (y ∷ ids) b.2) (steps-fit wanted [] ids b.2.2) (steps-fit wanted [] (y ∷ ids) b.2)
    where
      go : (l z : Bool)
          → IsTrue (if l then are_steps a wanted (y ∷ ids)
          else (if z then is_outcome wanted (outcome a x) && are_steps a wanted ids else is_outcome false (outcome a x) && are_steps a wanted (y ∷ ids)))
          → (IsTrue (are_steps a wanted (y ∷ ids)) → StepsAreFit a.modes (texts_of a) (all_units a) wanted (steps_of a f (labels ++ x ∷ []) (y ∷ ids)))
          → (IsTrue (are_steps a wanted ids) → StepsAreFit a.modes (texts_of a) (all_units a) wanted (steps_of a f [] ids))
          → (IsTrue (are_steps a wanted (y ∷ ids)) → StepsAreFit a.modes (texts_of a) (all_units a) wanted (steps_of a f [] (y ∷ ids)))
          → StepsAreFit a.modes (texts_of a) (all_units a) wanted
          (if l then steps_of a f (labels ++ x ∷ []) (y ∷ ids) else (if z then exit labels (f x) (steps_of a f [] ids) else step labels (f x) (steps_of a f [] (y ∷ ids))))
      go true z e p q r = p e
      go false true e p q r =
          let t = given x wanted b.0 (first (is_outcome wanted (outcome a x)) (are_steps a wanted ids) e) in
          let more = q (second (is_outcome wanted (outcome a x)) (are_steps a wanted ids) e) in
          record { fits = (t.fits, more.fits); operands = (t.operands, more.operands) }
      go false false e p q r =
          let t = given x false b.0 (first (is_outcome false (outcome a x)) (are_steps a wanted (y ∷ ids)) e) in
          let more = r (second (is_outcome false (outcome a x)) (are_steps a wanted (y ∷ ids)) e) in
          record { fits = (t.fits, more.fits); operands = (t.operands, more.operands) }

  -- a serial clause, with labels or without
  pub clause-fits : (wanted : Bool) (place slots : ℕ) (ids : List ℕ) → AllBetween id end ids → IsTrue (are_steps a wanted ids)
      → IsFit a.modes (texts_of a) (all_units a) wanted (made.clause_of a f place slots wanted ids)
  clause-fits wanted place slots ids b e = go (is_labelled a ids) refl
    where
      go : (l : Bool) → is_labelled a ids ≡ l
          → IsFit a.modes (texts_of a) (all_units a) wanted
          (if l then made.framed place place slots wanted (labelled place (steps_of a f [] ids)) else made.serial_of place slots wanted (trees_at f ids))
      go true is =
          let all = steps-fit wanted [] ids b e in
          framed-fits a.modes (texts_of a) (all_units a) place place slots wanted (labelled place (steps_of a f [] ids)) (record { fits = all.fits; operands = all.operands })
      go false is = serial-fits wanted place slots ids b (subst IsTrue (plain_steps a wanted ids is) e)

  -- ---- rows with parts

  pub declared-formula-fits : (place : ℕ) (yields left : Bool) (note : Note) (definition : Option ℕ) (ids : List ℕ) → AllBetween id end ids → declared_leaves a yields definition ids ≡ Some left
      → IsFit a.modes (texts_of a) (all_units a) left (made.declared_formula place yields note definition (trees_at f ids))
  declared-formula-fits place yields left note None ids b e = absurd (cc)
  declared-formula-fits place yields left note (Some d) ids b e =
      let all = all-fit true ids b (so-holds (all_leave a true ids) yields left e) in
      let named = tag-fits a.modes (texts_of a) (all_units a) place None note.step.hops note.step.slot in
      record { fits = (sym (so-is (all_leave a true ids) yields left e), (named.fits, all.fits)); operands = (named.operands, all.operands) }

  pub formula-fits : (place : ℕ) (yields left : Bool) (note : Note) (op : Option ℕ) (ids : List ℕ) → AllBetween id end ids → formula_leaves a yields op note.definition ids ≡ Some left
      → IsFit a.modes (texts_of a) (all_units a) left (made.formula_by place yields note op (trees_at f ids))
  formula-fits place yields left note None ids b e = declared-formula-fits place yields left note note.definition ids b e
  formula-fits place yields left note (Some row) ids b e =
      let runs_so = so-holds (formula_runs a row ids) (gives row) left e in
      let applies_so = first (applies row) (are_values a (operands_of row) ids) runs_so in
      let v = second (applies row) (are_values a (operands_of row) ids) runs_so in
      subst (λ g. IsFit a.modes (texts_of a) (all_units a) g (operation place (apply row) collateral (trees_at f ids))) (so-is (formula_runs a row ids) (gives row) left e)
      (values-fit (operands_of row) (gives row) place (apply row) collateral ids b v refl refl applies_so)

  pub definition-fits : (place slot : ℕ) (ids : List ℕ) → AllBetween id end ids → IsTrue (is_outcome true (last_outcome a ids))
      → IsFit a.modes (texts_of a) (all_units a) false (operation place (bind slot) serial (only (last_tree (trees_at f ids))))
  definition-fits place slot ids b e =
      fit-one a.modes (texts_of a) (all_units a) false place (bind slot) serial _ refl refl refl (last-fits true ids b (wanted-is true (last_outcome a ids) e))

  pub declared-fits : (new : Tree) (begins : Bool) (place mode slot : ℕ) (ids : List ℕ) → AllBetween id end ids → IsTrue (nat_lt mode (length a.modes))
      → IsFit a.modes (texts_of a) (all_units a) true new → IsTrue (if begins then source_runs a ids else routine_runs a ids)
      → IsFit a.modes (texts_of a) (all_units a) false (made.variable_of new begins place mode slot (trees_at f ids))
  declared-fits new false place mode slot [] b p n e = absurd (false≢true e)
  declared-fits new false place mode slot (s ∷ []) b p n e =
      fit-one a.modes (texts_of a) (all_units a) false place (bind slot) serial _ refl refl refl (fit-two a.modes (texts_of a) (all_units a) true place (store mode) serial _ _ refl refl p n (given s true b.0 e))
  declared-fits new false place mode slot (s ∷ (x ∷ xs)) b p n e = absurd (false≢true e)
  declared-fits new true place mode slot [] b p n e = absurd (false≢true e)
  declared-fits new true place mode slot (d ∷ []) b p n e = fit-one a.modes (texts_of a) (all_units a) false place (bind slot) serial _ refl refl refl n
  declared-fits new true place mode slot (d ∷ (s ∷ [])) b p n e =
      fit-one a.modes (texts_of a) (all_units a) false place (bind slot) serial _ refl refl refl (fit-two a.modes (texts_of a) (all_units a) true place (store mode) serial _ _ refl refl p n (given s true b.2.0 e))
  declared-fits new true place mode slot (d ∷ (s ∷ (x ∷ xs))) b p n e = absurd (false≢true e)

  pub behind-between : (has : Bool) (ids : List ℕ) → AllBetween id end ids → AllBetween id end (behind_heap has ids)
  behind-between true [] b = b
  behind-between true (x ∷ xs) b = b.2
  behind-between false ids b = b

  pub bounds-fit : (g : (frames id : ℕ) → Tree) → GivenBounds a g → (place : ℕ) (bounds : List Bound) → AreBehind id bounds → IsTrue (list_all (is_bounding a) bounds)
      → AreFit a.modes (texts_of a) (all_units a) true (made.bound_trees g f place bounds)
  bounds-fit g defined place [] h e = record { fits = tt; operands = tt }
  bounds-fit g defined place (bound.Written p ∷ bounds) h e =
      let here = given p true h.0 (first (is_outcome true (outcome a p)) (list_all (is_bounding a) bounds) e) in
      let rest = bounds-fit g defined place bounds h.1 (second (is_outcome true (outcome a p)) (list_all (is_bounding a) bounds) e) in
      record { fits = (here.fits, rest.fits); operands = (here.operands, rest.operands) }
  bounds-fit g defined place (bound.Meant n ∷ bounds) h e =
      let here = fit-none a.modes (texts_of a) (all_units a) true place (constant (plain (value.Int (pos n)))) serial refl refl refl in
      let rest = bounds-fit g defined place bounds h e in
      record { fits = (here.fits, rest.fits); operands = (here.operands, rest.operands) }
  bounds-fit g defined place (bound.Defined frames p ∷ bounds) h e =
      let here = defined frames p (first (is_outcome true (outcome a p)) (list_all (is_bounding a) bounds) e) in
      let rest = bounds-fit g defined place bounds h (second (is_outcome true (outcome a p)) (list_all (is_bounding a) bounds) e) in
      record { fits = (here.fits, rest.fits); operands = (here.operands, rest.operands) }

  -- a new name with the bounds of a declarer
  pub named-fits : (g : (frames id : ℕ) → Tree) → GivenBounds a g → (in_heap : Bool) (place mode : ℕ) (ids : List ℕ) → AreBehind id (first_bounds a ids) → IsTrue (new_runs a mode ids)
      → IsFit a.modes (texts_of a) (all_units a) true (new_name in_heap place (behind_ref (shape_at a.modes mode)) (made.bound_trees g f place (first_bounds a ids)))
  named-fits g defined in_heap place mode ids h e =
      let to = behind_ref (shape_at a.modes mode) in
      let bounds = first_bounds a ids in
      let there = first (refers a mode) (bounds_run a to bounds) e in
      let run = second (refers a mode) (bounds_run a to bounds) e in
      new-fits a.modes (texts_of a) (all_units a) in_heap place to (made.bound_trees g f place bounds) there
      (bounds-fit g defined place bounds h (first (list_all (is_bounding a) bounds) (nat_lt MOST_INSTRUCTIONS (length bounds) || nat_eq (length bounds) (bounds_needed a.modes to)) run))

  pub variable-fits : (g : (frames id : ℕ) → Tree) → GivenBounds a g → (place mode slot : ℕ) (ids : List ℕ) → AllBetween id end ids
      → AreBehind id (first_bounds a (behind_heap (begins_with is_heap a ids) ids)) → IsTrue (variable_runs a mode ids)
      → IsFit a.modes (texts_of a) (all_units a) false (made.variable a g f place (behind_ref (shape_at a.modes mode)) slot ids)
  variable-fits g defined place mode slot ids b h e =
      let in_heap = begins_with is_heap a ids in
      let rest = behind_heap in_heap ids in
      let to = behind_ref (shape_at a.modes mode) in
      let new = first (new_runs a mode rest) (declared_runs a rest) e in
      declared-fits _ (begins_with is_declarer a rest) place to slot rest (behind-between in_heap ids b) (first (refers a mode) (bounds_run a to (first_bounds a rest)) new)
      (named-fits g defined in_heap place mode rest h new) (second (new_runs a mode rest) (declared_runs a rest) e)

  -- a call, by what is called
  pub call-by : (prints words yields left : Bool) (place primary : ℕ) (items ids : List ℕ) → AllBetween id end items → AllBetween id end (primary ∷ ids)
      → (if prints then if_so (all_leave a true items) false else (if words then if_so (are_values a 2 ids) true else if_so (all_leave a true (primary ∷ ids)) yields)) ≡ Some left
      → IsFit a.modes (texts_of a) (all_units a) left
      (if prints then operation place print collateral (trees_at f items)
      else (if words then operation place whole collateral (trees_at f ids) else call place yields (f primary and_tree trees_at f ids)))
  call-by true words yields left place primary items ids bi b e =
      let none = so-is (all_leave a true items) false left e in
      subst (λ g. IsFit a.modes (texts_of a) (all_units a) g (operation place print collateral (trees_at f items))) none
      (fit-all a.modes (texts_of a) (all_units a) (count (trees_at f items)) false place print collateral (trees_at f items) refl refl refl refl (all-fit true items bi (so-holds (all_leave a true items) false left e)))
  call-by false true yields left place primary items ids bi b e =
      let some = so-is (are_values a 2 ids) true left e in
      subst (λ g. IsFit a.modes (texts_of a) (all_units a) g (operation place whole collateral (trees_at f ids))) some
      (values-fit 2 true place whole collateral ids b.2 (so-holds (are_values a 2 ids) true left e) refl refl refl)
  call-by false false yields left place primary items ids bi b e =
      let all = all-fit true (primary ∷ ids) b (so-holds (all_leave a true (primary ∷ ids)) yields left e) in
      record { fits = (sym (so-is (all_leave a true (primary ∷ ids)) yields left e), all.fits); operands = all.operands }

  -- what stands before OUT stands behind the node
  pub before-between : (ids : List ℕ) → AllBetween id end ids → AllBetween id end (before_out a ids)
  before-between [] b = b
  before-between (x ∷ []) b = one-between (is_out (kind_at a x)) b
    where
      one-between : (t : Bool) → AllBetween id end (x ∷ []) → AllBetween id end (if t then [] else x ∷ [])
      one-between true b = tt
      one-between false b = b
  before-between (x ∷ (y ∷ ids)) b = (b.0, b.1, before-between (y ∷ ids) b.2)

  pub before-fits : (wanted : Bool) (ids : List ℕ) → AllBetween id end ids → IsTrue (all_leave a wanted (before_out a ids)) → AreFit a.modes (texts_of a) (all_units a) wanted (trees_at f (before_out a ids))
  before-fits wanted ids b e = all-fit wanted (before_out a ids) (before-between ids b) e

  -- specifications whose parts leave what is wanted
  pub specs-fit : (wanted : Bool) (ids : List ℕ) → AllBetween id end ids → IsTrue (specs_run a wanted ids) → SpecsAreFit a.modes (texts_of a) (all_units a) wanted (specs_of a f ids)
  specs-fit wanted [] b e = record { fits = tt; operands = tt }
  specs-fit wanted (s ∷ []) b e = absurd (false≢true e)
  specs-fit wanted (s ∷ (part ∷ ids)) b e =
      let m = spec_mode a (parts_at a s) in
      let here = given part wanted b.2.0 (first (is_outcome wanted (outcome a part)) (specs_run a wanted ids) e) in
      let rest = specs-fit wanted ids b.2.2 (second (is_outcome wanted (outcome a part)) (specs_run a wanted ids) e) in
      subst (λ (z : Specs). SpecsAreFit a.modes (texts_of a) (all_units a) wanted z) (sym (spec_is (shape_at a.modes m) m (has_tag (parts_at a s)) (f part) (specs_of a f ids)))
      (record { fits = (here.fits, rest.fits); operands = (here.operands, rest.operands) })

  -- the part for no number, or the skip in its place
  pub out-fits : (place goal : ℕ) (ids : List ℕ) → AllBetween id end ids → IsTrue (out_runs a goal (not (is_void (shape_at a.modes goal))) (out_of a ids))
      → IsFit a.modes (texts_of a) (all_units a) (not (is_void (shape_at a.modes goal))) (option_map_or f (out_of a ids) (made.left_out place goal))
  out-fits place goal [] b e = fit-none a.modes (texts_of a) (all_units a) (not (is_void (shape_at a.modes goal))) place (skip goal) serial refl refl e
  out-fits place goal (x ∷ []) b e = go (is_out (kind_at a x)) e
    where
      go : (t : Bool) → IsTrue (out_runs a goal (not (is_void (shape_at a.modes goal))) (if t then Some x else None))
          → IsFit a.modes (texts_of a) (all_units a) (not (is_void (shape_at a.modes goal))) (option_map_or f (if t then Some x else None) (made.left_out place goal))
      go true e = given x (not (is_void (shape_at a.modes goal))) b.0 e
      go false e = fit-none a.modes (texts_of a) (all_units a) (not (is_void (shape_at a.modes goal))) place (skip goal) serial refl refl e
  out-fits place goal (x ∷ (y ∷ ids)) b e = out-fits place goal (y ∷ ids) b.2 e

  pub collateral-fits : (place mode : ℕ) (left : Bool) (s : Shape) (ids : List ℕ) → (IsTrue (is_row s) → IsTrue (nat_lt mode (length a.modes))) → AllBetween id end ids
      → collateral_leaves a s ids ≡ Some left → IsFit a.modes (texts_of a) (all_units a) left (made.collateral_of s place mode (trees_at f ids))
  collateral-fits place mode left shape.Void ids there b e =
      let all = all-fit false ids b (so-holds (all_leave a false ids) false left e) in
      record { fits = (sym (so-is (all_leave a false ids) false left e), all.fits); operands = all.operands }
  collateral-fits place mode left (shape.Struct fields) ids there b e =
      let ts = trees_at f ids in
      let test = nat_lt 0 (length ids) && all_leave a true ids in
      let holds = so-holds test true left e in
      let all = all-fit true ids b (second (nat_lt 0 (length ids)) (all_leave a true ids) holds) in
      let some : IsTrue (nat_lt 0 (count ts)) = subst (λ (n : ℕ). IsTrue (nat_lt 0 n)) (sym (count_trees f ids)) (first (nat_lt 0 (length ids)) (all_leave a true ids) holds) in
      subst (λ (g : Bool). IsFit a.modes (texts_of a) (all_units a) g (operation place (compose (count ts)) collateral ts)) (so-is test true left e)
      (fit-all a.modes (texts_of a) (all_units a) (count ts) true place (compose (count ts)) collateral ts refl refl refl some all)
  collateral-fits place mode left (shape.Rows dims flex of) ids there b e =
      let ts = trees_at f ids in
      let all = all-fit true ids b (so-holds (all_leave a true ids) true left e) in
      subst (λ (g : Bool). IsFit a.modes (texts_of a) (all_units a) g (operation place (display (count ts) mode) collateral ts)) (so-is (all_leave a true ids) true left e)
      (fit-all a.modes (texts_of a) (all_units a) (count ts) true place (display (count ts) mode) collateral ts refl refl refl (there refl) all)
  collateral-fits place mode left _ ids there b e = absurd (cc)

  pub selection-fits : (place name : ℕ) (ids : List ℕ) → AllBetween id end ids → IsTrue (selects a name ids && is_outcome true (last_outcome a ids))
      → IsFit a.modes (texts_of a) (all_units a) true (made.selection_of a.modes place (first_goal a ids) name (trees_at f ids))
  selection-fits place name ids b e =
      let m = first_goal a ids in
      let there = selected-there a.modes m (field_in name (fields_at a.modes m)) (first (selects a name ids) (is_outcome true (last_outcome a ids)) e) in
      fit-one a.modes (texts_of a) (all_units a) true place (select m (field_in name (fields_at a.modes m))) serial _ refl refl there
      (last-fits true ids b (wanted-is true (last_outcome a ids) (second (selects a name ids) (is_outcome true (last_outcome a ids)) e)))
