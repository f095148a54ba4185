-- The constructs of a program begin where its nodes do.
use Rattle.std.proofs.Common.{◌≡◌, ℕ, zero, suc, ◌≤◌, Bool, true, false, List, [], ◌∷◌, Some, None, slice_get, refl, arith, nat_eq}
use Rattle.std.specs.Option.{is_some, option_map_or, option_and_then}
use Rattle.std.specs.Prelude.{if◌then◌else◌, map, not, ◌++◌}
use Rattle.std.specs.declared.option.Option.{Option}
use Rattle.a68_annot.specs.declared.annotated.Annotated.{Annotated}
use Rattle.a68_annot.specs.declared.note.Note.{Note}
use Rattle.a68_elab.specs.Constants.{long_value_in, value_in}
use Rattle.a68_elab.specs.Made as made
use Rattle.a68_elab.specs.Programs as programs
use Rattle.a68_elab.specs.Made.{bytes_of, seen, last_id, parts_at, trees_at, coerced, behind_proc, behind_ref, all_but_last, last_tree, spelling_of, is_one_of, called, printers, wholes, items_at, begins_with, is_heap, is_declarer, behind_heap, first_bounds, new_name}
use Rattle.a68_elab.specs.Runs.{agrees, is_outcome, left_by, outcome, outcome_by}
use Rattle.a68_elab.specs.Programs.{Mark, Seat, first_seat, over, further_in, in_clause, mark_of, jump_by, one_if, seated, all_seated, specs_seated, test_seated, steps_seated, asked_tree, body_yields, fitting, misfit, place_of, body_of, defined_bound, no_bound, tree_in, parallel_unit_of, program_of, tree_at, tree_from, unit}
use Rattle.a68_elab.specs.Places.{BeginsBy, AllBeginBy, StepsBeginBy, SpecsBeginBy, TestBeginsBy, ApartBeginBy, ProgramBeginsBy}
use Rattle.a68_elab.specs.declared.bound.Bound.{Bound}
use Rattle.a68_elab.specs.declared.bound.Bound.TheVariants as bound
use Rattle.a68_elab.specs.declared.sight.Sight.{Sight}
use Rattle.a68_elab.specs.declared.sight.Sight.TheVariants as sight
use Rattle.a68_base.specs.declared.refusal.Span.{Span}
use Rattle.a68_elab.specs.Trees.{Tree, Trees, operation, together, phrases, labelled, jump, range, choice, cases, conformity, loop, call, parallel, no_trees, ◌and_tree◌, Specs, no_specs, spec, Test, no_test, while_in, Steps, last_step, step, exit, labels_of, deeper, depth_of, meaningless, Apart, routine_text, parallel_unit}
use Rattle.a68_modes.specs.Nodes.{shape_at, is_void}
use Rattle.a68_modes.specs.declared.coercion.Coercion.{Coercion}
use Rattle.a68_modes.specs.declared.coercion.Coercion.TheVariants as coercion
use Rattle.a68_modes.specs.declared.shape.Shape.{Shape}
use Rattle.a68_modes.specs.declared.shape.Shape.TheVariants as shape
use Rattle.a68_tree.specs.declared.kind.NodeKind.{NodeKind}
use Rattle.a68_tree.specs.declared.kind.NodeKind.TheVariants as kind
use Rattle.a68_tree.specs.declared.node.Node.{Node}
use Rattle.a68_values.specs.Content.{Content}

module _ (end : ℕ) where
  found_begins : (o : Option ℕ) (go : ℕ → Tree) → ((m : ℕ) → BeginsBy end (go m)) → BeginsBy end (option_map_or go o meaningless)
  found_begins None go h = tt
  found_begins (Some m) go h = h m

  coerced_begins : (modes : List Shape) (place goal mode : ℕ) (path : List Coercion) (t : Tree) → place ≤ end → BeginsBy end t → BeginsBy end (coerced modes place goal mode path t)
  coerced_begins modes place goal mode [] t p b = b
  coerced_begins modes place goal mode (coercion.Deref ∷ path) t p b = coerced_begins modes place goal (behind_ref (shape_at modes mode)) path _ p (p, (b, tt))
  coerced_begins modes place goal mode (coercion.Deproc ∷ path) t p b = coerced_begins modes place goal (behind_proc (shape_at modes mode)) path _ p (p, (b, tt))
  coerced_begins modes place goal mode (coercion.Unite m ∷ path) t p b = coerced_begins modes place goal m path _ p (p, (b, tt))
  coerced_begins modes place goal mode (coercion.Widen ∷ path) t p b = coerced_begins modes place goal 11 path _ p (p, (b, tt))
  coerced_begins modes place goal mode (coercion.RowUp ∷ path) t p b =
      found_begins (made.rowed_to modes goal path) _ (λ m. coerced_begins modes place goal m path _ p (p, (b, tt)))
  coerced_begins modes place goal mode (coercion.RowUpName ∷ path) t p b =
      found_begins (made.rowed_to modes goal path) _ (λ m. coerced_begins modes place goal m path _ p (p, (b, tt)))
  coerced_begins modes place goal mode (coercion.Drop ∷ path) t p b = coerced_begins modes place goal 0 path _ p (p, (b, tt))

  all_but_last_begin : (ts : Trees) → AllBeginBy end ts → AllBeginBy end (all_but_last ts)
  all_but_last_begin no_trees b = tt
  all_but_last_begin (t and_tree no_trees) b = tt
  all_but_last_begin (t and_tree (u and_tree ts)) b = (b.0, all_but_last_begin (u and_tree ts) b.1)

  last_begins : (ts : Trees) → AllBeginBy end ts → BeginsBy end (last_tree ts)
  last_begins no_trees b = tt
  last_begins (t and_tree no_trees) b = b.0
  last_begins (t and_tree (u and_tree ts)) b = last_begins (u and_tree ts) b.1

  new_begins : (in_heap : Bool) (place mode : ℕ) (bounds : Trees) → place ≤ end → AllBeginBy end bounds → BeginsBy end (new_name in_heap place mode bounds)
  new_begins true place mode bounds p b = (p, b)
  new_begins false place mode bounds p b = (p, b)

  variable_begins : (new : Tree) (begins : Bool) (place mode slot : ℕ) (ts : Trees) → place ≤ end → BeginsBy end new → AllBeginBy end ts → BeginsBy end (made.variable_of new begins place mode slot ts)
  variable_begins new true place mode slot (d and_tree (source and_tree no_trees)) p n b = (p, ((p, (n, (b.1.0, tt))), tt))
  variable_begins new true place mode slot (d and_tree no_trees) p n b = (p, (n, tt))
  variable_begins new true place mode slot no_trees p n b = tt
  variable_begins new true place mode slot (d and_tree (source and_tree (t and_tree ts))) p n b = tt
  variable_begins new false place mode slot no_trees p n b = tt
  variable_begins new false place mode slot (source and_tree no_trees) p n b = (p, ((p, (n, (b.0, tt))), tt))
  variable_begins new false place mode slot (source and_tree (t and_tree ts)) p n b = tt

  misfit_begins : (place : ℕ) (wanted : Bool) → place ≤ end → BeginsBy end (misfit place wanted)
  misfit_begins place true p = (p, ((p, tt), tt))
  misfit_begins place false p = (p, ((p, ((p, tt), tt)), tt))

  trees_begin : (f : ℕ → Tree) (ids : List ℕ) → ((id : ℕ) → BeginsBy end (f id)) → AllBeginBy end (trees_at f ids)
  trees_begin f [] h = tt
  trees_begin f (id ∷ ids) h = (h id, trees_begin f ids h)

  either_begins : (b : Bool) (t u : Tree) → BeginsBy end t → BeginsBy end u → BeginsBy end (if b then t else u)
  either_begins true t u p q = p
  either_begins false t u p q = q

  bounds_begin : (g : (frames id : ℕ) → Tree) (f : ℕ → Tree) (place : ℕ) (bounds : List Bound) → place ≤ end → ((frames id : ℕ) → BeginsBy end (g frames id)) → ((id : ℕ) → BeginsBy end (f id))
      → AllBeginBy end (made.bound_trees g f place bounds)
  bounds_begin g f place [] p w h = tt
  bounds_begin g f place (bound.Written id ∷ bounds) p w h = (h id, bounds_begin g f place bounds p w h)
  bounds_begin g f place (bound.Meant n ∷ bounds) p w h = ((p, tt), bounds_begin g f place bounds p w h)
  bounds_begin g f place (bound.Defined frames id ∷ bounds) p w h = (w frames id, bounds_begin g f place bounds p w h)

  call_begins : (a : Annotated) (f : ℕ → Tree) (place : ℕ) (yields : Bool) (ids : List ℕ) → place ≤ end → ((id : ℕ) → BeginsBy end (f id)) → BeginsBy end (made.call_of a f place yields ids)
  call_begins a f place yields [] p h = tt
  call_begins a f place yields (primary ∷ ids) p h =
      either_begins (is_one_of printers (called a primary)) _ _ (p, trees_begin f (items_at a ids) h)
      (either_begins (is_one_of wholes (called a primary)) _ _ (p, trees_begin f ids h) (p, (h primary, trees_begin f ids h)))

  collateral_begins : (s : Shape) (place mode : ℕ) (ts : Trees) → place ≤ end → AllBeginBy end ts → BeginsBy end (made.collateral_of s place mode ts)
  collateral_begins shape.Void place mode ts p b = b
  collateral_begins (shape.Struct fields) place mode ts p b = (p, b)
  collateral_begins (shape.Rows dims flex of) place mode ts p b = (p, b)
  collateral_begins _ place mode ts p b = tt

  slice_begins : (a : Annotated) (f : ℕ → Tree) (place : ℕ) (ids : List ℕ) → place ≤ end → ((id : ℕ) → BeginsBy end (f id)) → BeginsBy end (made.slice_of a f place ids)
  slice_begins a f place [] p h = tt
  slice_begins a f place (primary ∷ ids) p h = (p, (h primary, trees_begin f (made.index_units a ids) h))

  framed_begins : (place out slots : ℕ) (yields : Bool) (t : Tree) → place ≤ end → out ≤ end → BeginsBy end t → BeginsBy end (made.framed place out slots yields t)
  framed_begins place out zero yields t p q b = b
  framed_begins place out (suc n) yields t p q b = (p, q, b)

  serial_begins : (place slots : ℕ) (yields : Bool) (ts : Trees) → place ≤ end → AllBeginBy end ts → BeginsBy end (made.serial_of place slots yields ts)
  serial_begins place slots yields no_trees p b = tt
  serial_begins place slots yields (t and_tree ts) p b = framed_begins place place slots yields _ p p (p, all_but_last_begin (t and_tree ts) b, last_begins (t and_tree ts) b)

  only_begins : (ts : Trees) → AllBeginBy end ts → BeginsBy end (made.only_of ts)
  only_begins (t and_tree no_trees) b = b.0
  only_begins _ b = tt

  part_begins : (f : ℕ → Tree) (part : Option ℕ) (left_out : Tree) → BeginsBy end left_out → ((id : ℕ) → BeginsBy end (f id)) → BeginsBy end (option_map_or f part left_out)
  part_begins f (Some id) left_out b h = h id
  part_begins f None left_out b h = b

  either_steps : (x : Bool) (one other : Steps) → StepsBeginBy end one → StepsBeginBy end other → StepsBeginBy end (if x then one else other)
  either_steps true one other p q = p
  either_steps false one other p q = q

  steps_begin : (a : Annotated) (f : ℕ → Tree) (labels ids : List ℕ) → ((id : ℕ) → BeginsBy end (f id)) → StepsBeginBy end (made.steps_of a f labels ids)
  steps_begin a f labels [] h = tt
  steps_begin a f labels (id ∷ []) h = h id
  steps_begin a f labels (id ∷ (i ∷ ids)) h =
      either_steps (made.is_label (made.kind_at a id)) (made.steps_of a f (labels ++ id ∷ []) (i ∷ ids)) _ (steps_begin a f (labels ++ id ∷ []) (i ∷ ids) h)
      (either_steps (made.is_exit (made.kind_at a i)) (exit labels (f id) (made.steps_of a f [] ids)) (step labels (f id) (made.steps_of a f [] (i ∷ ids))) (h id, steps_begin a f [] ids h)
      (h id, steps_begin a f [] (i ∷ ids) h))

  clause_begins : (a : Annotated) (f : ℕ → Tree) (place slots : ℕ) (yields : Bool) (ids : List ℕ) → place ≤ end → ((id : ℕ) → BeginsBy end (f id)) → BeginsBy end (made.clause_of a f place slots yields ids)
  clause_begins a f place slots yields ids p h =
      either_begins (made.is_labelled a ids) (made.framed place place slots yields (labelled place (made.steps_of a f [] ids))) (made.serial_of place slots yields (trees_at f ids))
      (framed_begins place place slots yields (labelled place (made.steps_of a f [] ids)) p p (p, steps_begin a f [] ids h)) (serial_begins place slots yields (trees_at f ids) p (trees_begin f ids h))

  jump_begins : (place : ℕ) (yields : Bool) (definition : Option ℕ) → place ≤ end → BeginsBy end (made.jump_of place yields definition)
  jump_begins place yields None p = tt
  jump_begins place yields (Some label) p = p

  phrases_begin : (place : ℕ) (ts : Trees) → place ≤ end → AllBeginBy end ts → BeginsBy end (made.phrases_of place ts)
  phrases_begin place no_trees p b = tt
  phrases_begin place (t and_tree ts) p b = (p, all_but_last_begin (t and_tree ts) b, last_begins (t and_tree ts) b)

  begun_begins : (f : ℕ → Tree) (out : ℕ) (yields : Bool) (node : Option Node) (noted : Option Note) (go : Tree → Tree) → out ≤ end → ((n : Node) → node ≡ Some n → n.span.from ≤ end)
      → ((id : ℕ) → BeginsBy end (f id)) → ((t : Tree) → BeginsBy end t → BeginsBy end (go t)) → BeginsBy end (made.begun_by f out yields node noted go)
  begun_begins f out yields (Some node) (Some note) go q p h g =
      let at = p node refl in
      framed_begins node.span.from out note.slots yields _ at q (g _ (phrases_begin node.span.from (trees_at f node.parts) at (trees_begin f node.parts h)))
  begun_begins f out yields (Some node) None go q p h g = tt
  begun_begins f out yields None noted go q p h g = tt

  choice_begins : (a : Annotated) (f : ℕ → Tree) (place goal : ℕ) (yields : Bool) (ids : List ℕ) → place ≤ end → ((k : ℕ) (n : Node) → slice_get a.tree.nodes k ≡ Some n → n.span.from ≤ end)
      → ((id : ℕ) → BeginsBy end (f id)) → BeginsBy end (made.choice_of a f place goal yields ids)
  choice_begins a f place goal yields (e ∷ (t ∷ [])) p all h =
      begun_begins f place yields (slice_get a.tree.nodes e) (slice_get a.notes e) _ p (λ n is. all e n is) h (λ u b. (p, b, h t, (p, tt)))
  choice_begins a f place goal yields (e ∷ (t ∷ (o ∷ []))) p all h =
      begun_begins f place yields (slice_get a.tree.nodes e) (slice_get a.notes e) _ p (λ n is. all e n is) h (λ u b. (p, b, h t, h o))
  choice_begins a f place goal yields [] p all h = tt
  choice_begins a f place goal yields (e ∷ []) p all h = tt
  choice_begins a f place goal yields (e ∷ (t ∷ (o ∷ (i ∷ ids)))) p all h = tt

  case_begins : (a : Annotated) (f : ℕ → Tree) (place goal : ℕ) (yields : Bool) (ids : List ℕ) → place ≤ end → ((k : ℕ) (n : Node) → slice_get a.tree.nodes k ≡ Some n → n.span.from ≤ end)
      → ((id : ℕ) → BeginsBy end (f id)) → BeginsBy end (made.case_of a f place goal yields ids)
  case_begins a f place goal yields [] p all h = tt
  case_begins a f place goal yields (e ∷ ids) p all h =
      begun_begins f place yields (slice_get a.tree.nodes e) (slice_get a.notes e) _ p (λ n is. all e n is) h
      (λ u b. (p, b, trees_begin f (made.before_out a ids) h, part_begins f (made.out_of a ids) _ (p, tt) h))

  enquiry_begins : (f : ℕ → Tree) (node : Option Node) (noted : Option Note) → ((n : Node) → node ≡ Some n → n.span.from ≤ end) → ((id : ℕ) → BeginsBy end (f id))
      → TestBeginsBy end (made.enquiry_of f node noted)
  enquiry_begins f (Some node) (Some note) p h = (p node refl, phrases_begin node.span.from (trees_at f node.parts) (p node refl) (trees_begin f node.parts h))
  enquiry_begins f (Some node) None p h = (omega arith, tt)
  enquiry_begins f None noted p h = (omega arith, tt)

  asked_begins : (a : Annotated) (f : ℕ → Tree) (clause : Option ℕ) → ((k : ℕ) (n : Node) → slice_get a.tree.nodes k ≡ Some n → n.span.from ≤ end) → ((id : ℕ) → BeginsBy end (f id))
      → TestBeginsBy end (made.enquiry_at a f clause)
  asked_begins a f (Some clause) all h = enquiry_begins f (slice_get a.tree.nodes clause) (slice_get a.notes clause) (λ n e. all clause n e) h
  asked_begins a f None all h = (omega arith, tt)

  test_begins : (a : Annotated) (f : ℕ → Tree) (test : Option ℕ) → ((k : ℕ) (n : Node) → slice_get a.tree.nodes k ≡ Some n → n.span.from ≤ end)
      → ((id : ℕ) → BeginsBy end (f id)) → TestBeginsBy end (made.test_of a f test)
  test_begins a f (Some id) all h = asked_begins a f (made.only_id (made.parts_at a id)) all h
  test_begins a f None all h = tt

  loop_begins : (a : Annotated) (f : ℕ → Tree) (place : ℕ) (counts : Bool) (from by to test body : Option ℕ) → place ≤ end
      → ((k : ℕ) (n : Node) → slice_get a.tree.nodes k ≡ Some n → n.span.from ≤ end) → ((id : ℕ) → BeginsBy end (f id)) → BeginsBy end (made.loop_by a f place counts from by to test body)
  loop_begins a f place counts from by to test body p all h =
      (p, (part_begins f from _ (p, tt) h, (part_begins f by _ (p, tt) h, (part_begins f to _ (p, tt) h, tt))), test_begins a f test all h, part_begins f body _ tt h)

  spec_begins : (s : Shape) (m : ℕ) (tagged : Bool) (t : Tree) (behind : Specs) → BeginsBy end t → SpecsBeginBy end behind → SpecsBeginBy end (made.spec_of s m tagged t behind)
  spec_begins (shape.Union members) m tagged t behind b bs = (b, bs)
  spec_begins _ m tagged t behind b bs = (b, bs)

  specs_begin : (a : Annotated) (f : ℕ → Tree) (ids : List ℕ) → ((id : ℕ) → BeginsBy end (f id)) → SpecsBeginBy end (made.specs_of a f ids)
  specs_begin a f [] h = tt
  specs_begin a f (s ∷ []) h = tt
  specs_begin a f (s ∷ (part ∷ ids)) h =
      let m = made.spec_mode a (parts_at a s) in
      spec_begins (shape_at a.modes m) m (made.has_tag (parts_at a s)) (f part) (made.specs_of a f ids) (h part) (specs_begin a f ids h)

  conformity_begins : (a : Annotated) (f : ℕ → Tree) (place goal : ℕ) (yields : Bool) (ids : List ℕ) → place ≤ end → ((k : ℕ) (n : Node) → slice_get a.tree.nodes k ≡ Some n → n.span.from ≤ end)
      → ((id : ℕ) → BeginsBy end (f id)) → BeginsBy end (made.conformity_of a f place goal yields ids)
  conformity_begins a f place goal yields [] p all h = tt
  conformity_begins a f place goal yields (e ∷ ids) p all h =
      begun_begins f place yields (slice_get a.tree.nodes e) (slice_get a.notes e) _ p (λ n is. all e n is) h
      (λ u b. (p, b, specs_begin a f (made.before_out a ids) h, part_begins f (made.out_of a ids) (made.left_out place goal) (p, tt) h))

  denoted_begins : (place : ℕ) (o : Option Content) → place ≤ end → BeginsBy end (made.denoted place o)
  denoted_begins place None p = tt
  denoted_begins place (Some v) p = (p, tt)

  declared_begins : (place : ℕ) (yields : Bool) (note : Note) (definition : Option ℕ) (ts : Trees) → place ≤ end → AllBeginBy end ts
      → BeginsBy end (made.declared_formula place yields note definition ts)
  declared_begins place yields note None ts p b = tt
  declared_begins place yields note (Some d) ts p b = (p, ((p, tt), b))

  formula_begins : (place : ℕ) (yields : Bool) (note : Note) (op : Option ℕ) (ts : Trees) → place ≤ end → AllBeginBy end ts → BeginsBy end (made.formula_by place yields note op ts)
  formula_begins place yields note None ts p b = declared_begins place yields note note.definition ts p b
  formula_begins place yields note (Some row) ts p b = (p, b)

  construct_begins : (a : Annotated) (g : (frames id : ℕ) → Tree) (f : ℕ → Tree) (node : Node) (note : Note) (k : NodeKind) → node.span.from ≤ end → ((frames id : ℕ) → BeginsBy end (g frames id)) → ((id : ℕ) → BeginsBy end (f id))
      → ((k : ℕ) (n : Node) → slice_get a.tree.nodes k ≡ Some n → n.span.from ≤ end) → BeginsBy end (made.made a g f node note k)
  construct_begins a g f node note kind.Denotation p w h all = denoted_begins node.span.from (option_and_then value_in (spelling_of a node)) p
  construct_begins a g f node note kind.LongDenotation p w h all = denoted_begins node.span.from (option_and_then long_value_in (spelling_of a node)) p
  construct_begins a g f node note kind.Skip p w h all = (p, tt)
  construct_begins a g f node note kind.Nil p w h all = (p, tt)
  construct_begins a g f node note kind.Tag p w h all = (p, tt)
  construct_begins a g f node note kind.RoutineText p w h all = (p, tt)
  construct_begins a g f node note kind.OpDefinition p w h all = (p, (last_begins (trees_at f node.parts) (trees_begin f node.parts h), tt))
  construct_begins a g f node note kind.Monadic p w h all = formula_begins node.span.from (not (is_void (shape_at a.modes note.mode))) note note.op (trees_at f node.parts) p (trees_begin f node.parts h)
  construct_begins a g f node note kind.Dyadic p w h all = formula_begins node.span.from (not (is_void (shape_at a.modes note.mode))) note note.op (trees_at f node.parts) p (trees_begin f node.parts h)
  construct_begins a g f node note kind.Assignation p w h all = (p, trees_begin f node.parts h)
  construct_begins a g f node note kind.Identity p w h all = (p, trees_begin f node.parts h)
  construct_begins a g f node note kind.Generator p w h all =
      new_begins (is_one_of made.heaps (spelling_of a node)) node.span.from (behind_ref (shape_at a.modes note.mode)) (made.bound_trees g f node.span.from (first_bounds a node.parts)) p
      (bounds_begin g f node.span.from (first_bounds a node.parts) p w h)
  construct_begins a g f node note kind.IdentityDefinition p w h all = (p, (last_begins (trees_at f node.parts) (trees_begin f node.parts h), tt))
  construct_begins a g f node note kind.Variable p w h all =
      let in_heap = begins_with is_heap a node.parts in
      let parts = behind_heap in_heap node.parts in
      let mode = behind_ref (shape_at a.modes note.mode) in
      let bounds = made.bound_trees g f node.span.from (first_bounds a parts) in
      variable_begins (new_name in_heap node.span.from mode bounds) (begins_with is_declarer a parts) node.span.from mode note.step.slot (trees_at f parts) p
      (new_begins in_heap node.span.from mode bounds p (bounds_begin g f node.span.from (first_bounds a parts) p w h)) (trees_begin f parts h)
  construct_begins a g f node note kind.ModeDefinition p w h all = tt
  construct_begins a g f node note kind.Priority p w h all = tt
  construct_begins a g f node note kind.Joined p w h all = trees_begin f node.parts h
  construct_begins a g f node note kind.Call p w h all = call_begins a f node.span.from (not (is_void (shape_at a.modes note.mode))) node.parts p h
  construct_begins a g f node note kind.Cast p w h all = last_begins (trees_at f node.parts) (trees_begin f node.parts h)
  construct_begins a g f node note kind.Collateral p w h all = collateral_begins (shape_at a.modes note.goal) node.span.from note.goal (trees_at f node.parts) p (trees_begin f node.parts h)
  construct_begins a g f node note kind.Vacuum p w h all = (p, tt)
  construct_begins a g f node note kind.Slice p w h all = slice_begins a f node.span.from node.parts p h
  construct_begins a g f node note kind.Selection p w h all = (p, (last_begins (trees_at f node.parts) (trees_begin f node.parts h), tt))
  construct_begins a g f node note kind.Serial p w h all = clause_begins a f node.span.from note.slots (not (is_void (shape_at a.modes note.goal))) node.parts p h
  construct_begins a g f node note kind.GoTo p w h all = jump_begins node.span.from (not (is_void (shape_at a.modes note.goal))) note.definition p
  construct_begins a g f node note kind.Closed p w h all = only_begins (trees_at f node.parts) (trees_begin f node.parts h)
  construct_begins a g f node note kind.Out p w h all = only_begins (trees_at f node.parts) (trees_begin f node.parts h)
  construct_begins a g f node note kind.From p w h all = only_begins (trees_at f node.parts) (trees_begin f node.parts h)
  construct_begins a g f node note kind.By p w h all = only_begins (trees_at f node.parts) (trees_begin f node.parts h)
  construct_begins a g f node note kind.To p w h all = only_begins (trees_at f node.parts) (trees_begin f node.parts h)
  construct_begins a g f node note kind.Lower p w h all = only_begins (trees_at f node.parts) (trees_begin f node.parts h)
  construct_begins a g f node note kind.Upper p w h all = only_begins (trees_at f node.parts) (trees_begin f node.parts h)
  construct_begins a g f node note kind.At p w h all = only_begins (trees_at f node.parts) (trees_begin f node.parts h)
  construct_begins a g f node note kind.While p w h all = only_begins (trees_at f node.parts) (trees_begin f node.parts h)
  construct_begins a g f node note kind.Conditional p w h all = choice_begins a f node.span.from note.goal (not (is_void (shape_at a.modes note.goal))) node.parts p all h
  construct_begins a g f node note kind.Case p w h all = case_begins a f node.span.from note.goal (not (is_void (shape_at a.modes note.goal))) node.parts p all h
  construct_begins a g f node note kind.Conformity p w h all =
      conformity_begins a f node.span.from note.goal (not (is_void (shape_at a.modes note.goal))) node.parts p all h
  construct_begins a g f node note kind.Loop p w h all = loop_begins a f node.span.from (is_some (made.if_first made.is_for a node.parts)) _ _ _ _ _ p all h
  construct_begins a g f node note kind.Parallel p w h all = p
  construct_begins a g f node note _ p w h all = tt

  node_begins : (a : Annotated) (sight : Sight) (g : (frames id : ℕ) → Tree) (base : ℕ) (nodes : List Node) (notes : List Note) → ((frames id : ℕ) → BeginsBy end (g frames id))
      → ((k : ℕ) (n : Node) → slice_get a.tree.nodes k ≡ Some n → n.span.from ≤ end) → ((k : ℕ) (n : Node) → slice_get nodes k ≡ Some n → n.span.from ≤ end) → (id : ℕ)
      → BeginsBy end (tree_from a sight g base nodes notes id)
  node_begins a sight g base [] notes w all h id = tt
  node_begins a sight g base (node ∷ nodes) [] w all h id = tt
  node_begins a sight g base (node ∷ nodes) (note ∷ notes) w all h id =
      let f = tree_from a sight g (suc base) nodes notes in
      let rest : (i : ℕ) → BeginsBy end (f i) = λ i. node_begins a sight g (suc base) nodes notes w all (λ k n e. h (suc k) n e) i in
      let here : node.span.from ≤ end = h 0 node refl in
      let as_seen = seen a sight note in
      let asked = outcome_by a node note node.kind in
      either_begins (nat_eq id base) (fitting a node note (unit a g f node as_seen)) (f id)
      (either_begins (agrees asked (left_by a node note)) (unit a g f node as_seen) (misfit node.span.from (is_outcome true asked))
      (coerced_begins a.modes node.span.from as_seen.goal as_seen.mode as_seen.path (made.made a g f node as_seen node.kind) here (construct_begins a g f node as_seen node.kind here w rest all))
      (misfit_begins node.span.from (is_outcome true asked) here))
      (rest id)

  first_begins : (o : Option Node) → ((n : Node) → o ≡ Some n → n.span.from ≤ end) → option_map_or (λ (n : Node). n.span.from) o 0 ≤ end
  first_begins None h = omega arith
  first_begins (Some n) h = h n refl

  -- what is within the bounds of a definition
  within_begins : (a : Annotated) (frames : ℕ) (bytes : Span) → ((id : ℕ) (n : Node) → slice_get a.tree.nodes id ≡ Some n → n.span.from ≤ end) → (id : ℕ)
      → BeginsBy end (tree_from a (sight.Within frames bytes) no_bound 0 a.tree.nodes a.notes id)
  within_begins a frames bytes h id = node_begins a (sight.Within frames bytes) no_bound 0 a.tree.nodes a.notes (λ hops k. (omega arith, tt)) h h id

  tree_at_begins : (program : Annotated) → ((id : ℕ) (n : Node) → slice_get program.tree.nodes id ≡ Some n → n.span.from ≤ end) → (id : ℕ) → BeginsBy end (tree_at program id)
  unfolding tree_in
  tree_at_begins program h id =
      node_begins program sight.Here (defined_bound program sight.Here) 0 program.tree.nodes program.notes (λ frames k. within_begins program frames (bytes_of program k) h k) h h id

  -- the numbers of jumps are no places
  jump_by_begins : (place label : ℕ) (yields : Bool) (depth : ℕ) (o : Option Mark) → place ≤ end → BeginsBy end (jump_by place label yields depth o)
  jump_by_begins place label yields depth None p = misfit_begins place yields p
  jump_by_begins place label yields depth (Some m) p = p

  mutual
    seated_begins : (s : Seat) (t : Tree) → BeginsBy end t → BeginsBy end (seated s t)
    seated_begins s (operation place op order parts) b = (b.0, all_seated_begin s true parts b.1)
    seated_begins s (together parts) b = all_seated_begin s false parts b
    seated_begins s (phrases place before final) b = (b.0, all_seated_begin s false before b.1, seated_begins s final b.2)
    seated_begins s (labelled place steps) b = (b.0, steps_seated_begin (in_clause (labels_of steps) s) steps b.1)
    seated_begins s (jump place label frames height yields) b = jump_by_begins place label yields s.depth (mark_of label s.marks) b
    seated_begins s (range place out slots yields within) b = (b.0, b.1, seated_begins (further_in 1 s) within b.2)
    seated_begins s (choice place enquiry if_true if_false) b = (b.0, seated_begins s enquiry b.1, seated_begins s if_true b.2, seated_begins s if_false b.3)
    seated_begins s (cases place enquiry arms out) b = (b.0, seated_begins s enquiry b.1, all_seated_begin s false arms b.2, seated_begins s out b.3)
    seated_begins s (conformity place union members yields enquiry specs out) b = (b.0, seated_begins s enquiry b.1, specs_seated_begin s specs b.2, seated_begins s out b.3)
    seated_begins s (loop place controls limited counts test body) b =
        (b.0, all_seated_begin s true controls b.1, test_seated_begins (further_in (one_if counts) (over true s)) test b.2, seated_begins (further_in (depth_of counts test) (over true s)) body b.3)
    seated_begins s (call place yields parts) b = (b.0, all_seated_begin s true parts b.1)
    seated_begins s (parallel place units) b = b
    seated_begins s meaningless b = tt

    all_seated_begin : (s : Seat) (leave : Bool) (ts : Trees) → AllBeginBy end ts → AllBeginBy end (all_seated s leave ts)
    all_seated_begin s leave no_trees b = tt
    all_seated_begin s leave (t and_tree ts) b = (seated_begins s t b.0, all_seated_begin (over leave s) leave ts b.1)

    specs_seated_begin : (s : Seat) (specs : Specs) → SpecsBeginBy end specs → SpecsBeginBy end (specs_seated s specs)
    specs_seated_begin s no_specs b = tt
    specs_seated_begin s (spec takes tagged united part behind) b = (seated_begins (further_in (one_if tagged) s) part b.0, specs_seated_begin s behind b.1)

    test_seated_begins : (s : Seat) (test : Test) → TestBeginsBy end test → TestBeginsBy end (test_seated s test)
    test_seated_begins s no_test b = tt
    test_seated_begins s (while_in at slots test) b = (b.0, seated_begins (further_in (deeper slots 0) s) test b.1)

    steps_seated_begin : (s : Seat) (steps : Steps) → StepsBeginBy end steps → StepsBeginBy end (steps_seated s steps)
    steps_seated_begin s (last_step labels t) b = seated_begins s t b
    steps_seated_begin s (step labels t more) b = (seated_begins s t b.0, steps_seated_begin s more b.1)
    steps_seated_begin s (exit labels t more) b = (seated_begins s t b.0, steps_seated_begin s more b.1)

  asked_begins_by : (a : Annotated) (wanted : Bool) (id : ℕ) → ((id : ℕ) (n : Node) → slice_get a.tree.nodes id ≡ Some n → n.span.from ≤ end) → BeginsBy end (asked_tree a wanted id)
  asked_begins_by a wanted id h =
      seated_begins first_seat (if is_outcome wanted (outcome a id) then tree_at a id else misfit (place_of a id) wanted)
      (either_begins (is_outcome wanted (outcome a id)) (tree_at a id) (misfit (place_of a id) wanted) (tree_at_begins a h id)
      (misfit_begins (place_of a id) wanted (first_begins (slice_get a.tree.nodes id) (λ n e. h id n e))))

  joined_begin : (xs ys : List Apart) → ApartBeginBy end xs → ApartBeginBy end ys → ApartBeginBy end (xs ++ ys)
  joined_begin [] ys p q = q
  joined_begin (routine_text body ∷ xs) ys p q = (p.0, joined_begin xs ys p.1 q)
  joined_begin (parallel_unit unit ∷ xs) ys p q = (p.0, joined_begin xs ys p.1 q)

  texts_begin : (a : Annotated) (ids : List ℕ) → ((id : ℕ) (n : Node) → slice_get a.tree.nodes id ≡ Some n → n.span.from ≤ end)
      → ApartBeginBy end (map (λ id. routine_text (body_of a id)) ids)
  texts_begin a [] h = tt
  texts_begin a (id ∷ ids) h = ((first_begins (slice_get a.tree.nodes id) (λ n e. h id n e), asked_begins_by a (body_yields a id) (last_id (parts_at a id)) h), texts_begin a ids h)

  -- the units that nodes have which begin by that byte
  placed_begin : (a : Annotated) (place : ℕ) (ids : List ℕ) → place ≤ end → ((id : ℕ) (n : Node) → slice_get a.tree.nodes id ≡ Some n → n.span.from ≤ end)
      → ApartBeginBy end (map (λ u. parallel_unit (parallel_unit_of a u)) (map (λ id. (place, id)) ids))
  placed_begin a place [] p h = tt
  placed_begin a place (id ∷ ids) p h = ((p, asked_begins_by a false id h), placed_begin a place ids p h)

  unit_begins : (a : Annotated) (byte : ℕ) (n : Node) (b : Bool) → n.span.from ≤ end → ((id : ℕ) (m : Node) → slice_get a.tree.nodes id ≡ Some m → m.span.from ≤ end)
      → ApartBeginBy end (map (λ u. parallel_unit (parallel_unit_of a u)) (if b then map (λ id. (n.span.from, id)) (made.beginning_at a byte n.parts) else []))
  unit_begins a byte n true p h = placed_begin a n.span.from (made.beginning_at a byte n.parts) p h
  unit_begins a byte n false p h = tt

  either_of : (a : Annotated) (xs ys : List (ℕ × ℕ)) → ApartBeginBy end (map (λ u. parallel_unit (parallel_unit_of a u)) xs)
      → ApartBeginBy end (map (λ u. parallel_unit (parallel_unit_of a u)) ys) → ApartBeginBy end (map (λ u. parallel_unit (parallel_unit_of a u)) (made.or_other xs ys))
  either_of a [] ys p q = q
  either_of a (x ∷ xs) ys p q = p

  units_begin : (a : Annotated) (byte : ℕ) (nodes : List Node) → ((k : ℕ) (n : Node) → slice_get nodes k ≡ Some n → n.span.from ≤ end)
      → ((id : ℕ) (n : Node) → slice_get a.tree.nodes id ≡ Some n → n.span.from ≤ end) → ApartBeginBy end (map (λ u. parallel_unit (parallel_unit_of a u)) (made.unit_among a byte nodes))
  units_begin a byte [] all h = tt
  units_begin a byte (n ∷ ns) all h =
      either_of a (made.unit_in a byte n) (made.unit_among a byte ns) (unit_begins a byte n (made.is_parallel n.kind) (all 0 n refl) h)
      (units_begin a byte ns (λ k m e. all (suc k) m e) h)

  apart_begins : (a : Annotated) (byte : ℕ) → ((id : ℕ) (n : Node) → slice_get a.tree.nodes id ≡ Some n → n.span.from ≤ end) → ApartBeginBy end (programs.apart_before a byte)
  apart_begins a zero h = tt
  apart_begins a (suc byte) h =
      joined_begin (programs.apart_before a byte) (programs.apart_at a byte) (apart_begins a byte h)
      (joined_begin (map (λ u. parallel_unit (parallel_unit_of a u)) (made.unit_among a byte a.tree.nodes)) (map (λ id. routine_text (body_of a id)) (made.text_among byte 0 a.tree.nodes))
      (units_begin a byte a.tree.nodes h h) (texts_begin a (made.text_among byte 0 a.tree.nodes) h))

-- where all nodes begin by a byte, the constructs do
pub program_begins : (program : Annotated) (end : ℕ) → ((id : ℕ) (n : Node) → slice_get program.tree.nodes id ≡ Some n → n.span.from ≤ end) → ProgramBeginsBy end (program_of program)
program_begins program end h = record { place = first_begins end (slice_get program.tree.nodes 0) (λ n e. h 0 n e); tree = asked_begins_by end program false 0 h; apart = apart_begins end program (made.behind_all program.tree.nodes) h }
