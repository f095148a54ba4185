mod Chosen
mod Repeated
mod Specified
mod Stepped
use Rattle.a68_constructs.proofs.+units.Answers.Chosen as chosen
use Rattle.a68_constructs.proofs.+units.Answers.Repeated as repeated
use Rattle.a68_constructs.proofs.+units.Answers.Specified as specified
use Rattle.a68_constructs.proofs.+units.Answers.Stepped as stepped
use Rattle.std.proofs.Common.{slice_get, ◌≡◌, ℕ, Bool, List, Option, ◌+◌, ◌-◌, ◌++◌, [], ◌∷◌, length, true, refl, sym, ◌∙◌, ap, subst, drop, take, get_or, arith, length-drop}
use Rattle.std.specs.Option.{option_and_then, option_map, option_map_or}
use Rattle.a68_elab.specs.Constants.{long_value_in, value_in}
use Rattle.std.proofs.lemmas.Option.{same_Some}
use Rattle.a68_parts.proofs.Selecting.{taken_is}
use Rattle.std.proofs.lemmas.List.{drop_all, nil_from_length, take_all}
use Rattle.a68_annot.specs.declared.annotated.Annotated.{Annotated}
use Rattle.a68_code.specs.declared.does.Does.TheVariants as does
use Rattle.a68_base.specs.declared.refusal.Span.{Span}
use Rattle.a68_elab.proofs.Nodes.{behind_is, defined_is}
use Rattle.a68_elab.specs.declared.sight.Sight.TheVariants as sight
use Rattle.a68_emit.proofs.Linking.{tree_misfit, tree_run}
use Rattle.a68_elab.specs.Made as made
use Rattle.a68_elab.specs.Programs as programs
use Rattle.a68_elab.specs.declared.bound.Bound.{Bound}
use Rattle.a68_elab.specs.declared.bound.Bound.TheVariants as bound
use Rattle.a68_layout.specs.declared.types.TrimForm.{TrimForm}
use Rattle.a68_elab.specs.Trees.{Tree, Trees, operation, call, serial, collateral, together, meaningless, ◌and_tree◌, count}
use Rattle.a68_elab.specs.Made.{trees_at, behind_ref}
use Rattle.a68_elab.specs.Programs.{behind}
use Rattle.a68_emit.specs.Coercing.{coercions}
use Rattle.a68_emit.specs.Listing.{instr, stretch, stretches}
use Rattle.a68_code.specs.declared.code.Instr.{Instr}
use Rattle.a68_emit.specs.Writing.{Writes}
use Rattle.a68_constructs.specs.Sources.{assigned_tree, named}
use Rattle.a68_emit.specs.Views.{behind_values, bound_of, deeper, extra, laid_of, note_of, lying, raised, rising, rising_bounds, seat_of, tree_of}
use Rattle.a68_constructs.proofs.Awaiting.{between-rest}
use Rattle.a68_constructs.proofs.Calling.{prints_lie, routines_lie, wholes_lie}
use Rattle.a68_constructs.proofs.Lying.{IsOver, over_is_alike, still_between, still_within, assigned_lies, coerced_lies, count_lie, last_lies, only_lies, count_rising, denoted_lies, count_rising_bounds, level, misfit_lies, new_lies, plain_lies, rises, rising-bounds-cons, rising-cons, serial_is, slice_whole, still_behind, still_over, units-next, values_on, within_none, within_some}
use Rattle.a68_emit.specs.declared.view.View.{View}
use Rattle.a68_modes.specs.declared.shape.Shape.{Shape}
use Rattle.a68_constructs.proofs.Constructs.{coerced_list, coerced_meaningless, part-cons, one_part, some_parts, definition_whole, last_is, count_trees, new_does, new_list, count_bounds, bound-cons, none_laid, none-past, stands-behind, index-units-next, slice_list, plain_serial, framed_serial, declared_plain, declared_none, begun_none, begun_tree, declared_tree, assigned_list, applied_list, call_list, void_collateral, structure_collateral, row_collateral, other_collateral, select_whole, only_none, stopped_writes}
use Rattle.a68_parts.proofs.Between.{between-each, between-above}
use Rattle.a68_emit.proofs.Ordered.{all-before}
use Rattle.a68_emit.proofs.Writing.{and_behind, nothing-written, writes-as}
use Rattle.a68_constructs.proofs.+units.Goals as goal
use Rattle.std.specs.Prelude.{not, false, if◌then◌else◌}
use Rattle.a68_acts.specs.Operations.{bind, compose, display, print, same, select, store, tag, whole}
use Rattle.a68_annot.specs.declared.note.Note.{Note}
use Rattle.a68_base.specs.declared.refusal.Stop.{Stop}
use Rattle.a68_tree.specs.Trees.{AllBetween}
use Rattle.a68_tree.specs.declared.kind.NodeKind.{NodeKind}
use Rattle.a68_tree.specs.declared.kind.NodeKind.TheVariants as kind
use Rattle.a68_tree.specs.declared.node.Node.{Node}
use Rattle.a68_modes.specs.Nodes.{shape_at, is_void}

pub rows::unit-returns-then-has_stopped : goal.rows::unit-returns-then-has_stopped
rows::unit-returns-then-has_stopped t c = stopped_writes c.args.out.now.stop c.args.out.now.list c.args.out.now.list _ (sym c.has_stopped.ensures ∙ c.if-has_stopped.true)

pub rows::unit-returns-then-not-is_run : goal.rows::unit-returns-then-not-is_run
rows::unit-returns-then-not-is_run t c =
    let v = c.args.program.now in
    let a = v.of.now in
    let tree = tree_misfit a v.sight c.args.id c.node-node.result.now c.note-note.result.now c.node-node.ensures.is c.note-note.ensures (sym c.in-Ok.ensures ∙ c.if-not-is_run.true) in
    let written = rw c.asks_value.ensures at c.misfit.ensures in
    rw (tree, misfit_lies (seat_of v) _ _) written

pub rows::unit-returns-then-not-are_built : goal.rows::unit-returns-then-not-are_built
rows::unit-returns-then-not-are_built t c =
    let v = c.args.program.now in
    let a = v.of.now in
    let note = c.note-note.result.now in
    let node = c.node-node.result.now in
    let tree = tree_run a v.sight c.args.id node note c.node-node.ensures.is c.note-note.ensures (sym c.in-Ok.ensures ∙ c.if-not-is_run.false) in
    let built = rw c.modes.ensures at c.are_built.ensures in
    rw (tree, coerced_meaningless a.modes node.span.from note.goal note.mode note.path _ (sym built ∙ c.if-not-are_built.true)) c.meaningless.ensures

pub rows::unit-returns : goal.rows::unit-returns
rows::unit-returns t c =
    let a = c.args.program.now.of.now in
    let note = c.note-note.result.now in
    let node = c.node-node.result.now in
    let tree = tree_run a c.args.program.now.sight c.args.id node note c.node-node.ensures.is c.note-note.ensures (sym c.in-Ok.ensures ∙ c.if-not-is_run.false) in
    let path = coercions a.modes node.span.from note.goal note.mode note.path in
    let built = rw c.modes.ensures at c.are_built.ensures in
    let coerced : Writes c.construct.new.out.stop c.coerce.new.out.stop c.construct.new.out.list c.coerce.new.out.list path = rw c.modes-2.ensures at c.coerce.ensures in
    rw (tree, coerced_lies (seat_of c.args.program.now) a.modes node.span.from note.goal note.mode note.path _, coerced_list a.modes node.span.from note.goal note.mode (length c.args.out.now.list) note.path _ (sym built ∙ c.if-not-are_built.false))
    (and_behind c.args.out.now.stop c.construct.new.out.stop c.coerce.new.out.stop c.args.out.now.list c.construct.new.out.list c.coerce.new.out.list _ (λ n. path) c.construct.ensures coerced)

pub rows::unit-construct-requires : goal.rows::unit-construct-requires
rows::unit-construct-requires t c =
    let begins = all-before c.args.program.now.of.now.tree.nodes c.args.id c.node-node.result.now c.node-node.ensures.is in
    (omega arith, (c.requires, (c.node-node.ensures.is, (c.node-node.ensures.behind, (c.node-node.ensures.named, begins)))))

pub calls::applied-returns-in-Ok : goal.calls::applied-returns-in-Ok
calls::applied-returns-in-Ok t c =
    let v = c.args.program.now in
    let ts = rising (raised v) c.args.id c.args.parts.now in
    let place = c.args.place in
    let note = c.args.note.now in
    let yields = not (is_void (shape_at v.of.now.modes note.mode)) in
    let hops = made.hops_seen v.of.now v.sight note in
    let tag_first = instr place (does.Tag hops note.step.slot) ∷ [] in
    let w0 = c.args.out.now in
    let w1 = c.emit.new.self in
    let w2 = c.operation.new.out in
    let over : Writes w1.stop w2.stop w1.list w2.list (stretches ts (length w1.list) ++ instr place (does.Call c.in-Ok.count (not c.is_void-gives.result)) ∷ []) =
    subst (λ (w : View). Writes w1.stop w2.stop w1.list w2.list (stretches (rising w c.args.id c.args.parts.now) (length w1.list) ++ instr place (does.Call c.in-Ok.count (not c.is_void-gives.result)) ∷ [])) c.raised.ensures.view c.operation.ensures in
    let behind_tag : Writes w1.stop w2.stop w1.list w2.list (stretches ts (length w1.list) ++ instr place (does.Call c.in-Ok.count yields) ∷ []) =
    subst (λ (b : Bool). Writes w1.stop w2.stop w1.list w2.list (stretches ts (length w1.list) ++ instr place (does.Call c.in-Ok.count (not b)) ∷ [])) c.is_void-gives.ensures over in
    let tagged : Writes w0.stop w1.stop w0.list w1.list tag_first = rw c.hops.ensures at c.emit.ensures in
    writes-as w0.stop w2.stop w0.list w2.list _ _ (applied_list ts place hops note.step.slot c.in-Ok.count (length w0.list) yields (c.in-Ok.ensures.1 ∙ sym (count_rising (raised v) c.args.id c.args.parts.now)))
    (and_behind w0.stop w1.stop w2.stop w0.list w1.list w2.list tag_first (λ n. stretches ts n ++ instr place (does.Call c.in-Ok.count yields) ∷ []) tagged behind_tag)

pub calls::routine-returns-in-Ok : goal.calls::routine-returns-in-Ok
calls::routine-returns-in-Ok t c =
    let v = c.args.program.now in
    let ts = rising v c.args.id c.args.parts.now in
    let place = c.args.place in
    let yields = not (is_void (shape_at v.of.now.modes c.args.note.now.mode)) in
    let w0 = c.args.out.now in
    let w1 = c.operation.new.out in
    let all : Writes w0.stop w1.stop w0.list w1.list (stretches ts (length w0.list) ++ instr place (does.Call c.in-Ok.count yields) ∷ []) =
    subst (λ (b : Bool). Writes w0.stop w1.stop w0.list w1.list (stretches ts (length w0.list) ++ instr place (does.Call c.in-Ok.count (not b)) ∷ [])) c.is_void-gives.ensures c.operation.ensures in
    writes-as w0.stop w1.stop w0.list w1.list _ _ (call_list v c.args.id c.args.parts.now place c.in-Ok.count (length w0.list) yields c.requires.some c.in-Ok.ensures.1) all

pub rows::write_part-unit-requires : goal.rows::write_part-unit-requires
rows::write_part-unit-requires t c = let less = c.requires.0 in (omega arith, c.requires.1)

pub rows::write_part-returns : goal.rows::write_part-returns
rows::write_part-returns t c = rw (behind_is c.args.id c.args.part (laid_of c.args.program.now) c.requires.0) c.unit.ensures

pub rows::all-write_part-requires : goal.rows::all-write_part-requires
rows::all-write_part-requires t c =
    let b = between-each c.args.id (length c.args.program.now.of.now.tree.nodes) c.loop-part.part-index c.args.parts.now c.requires c.loop-part-test.true in
    let below = b.0 in
    (omega arith, b)

pub rows::all-loop-part-preserved : goal.rows::all-loop-part-preserved
rows::all-loop-part-preserved t c =
    let f = behind c.args.id (laid_of c.args.program.now) in
    let at = length c.loop-part.out.list in
    let i = c.loop-part.part-index in
    let one = get_or c.args.parts.now i 0 in
    let step = part-cons f at i c.args.parts.now c.loop-part-test.true in
    λ s end w. c.loop-part.invariant s end (rw step
    (and_behind c.loop-part.out.stop c.write_part.new.out.stop s c.loop-part.out.list c.write_part.new.out.list end (stretch (f one) at) (λ n. stretches (trees_at f (drop (i + 1) c.args.parts.now)) n) c.write_part.ensures w))

pub rows::only-write_part-requires : goal.rows::only-write_part-requires
rows::only-write_part-requires t c =
    let b = between-each c.args.id (length c.args.program.now.of.now.tree.nodes) 0 c.args.parts.now c.requires (omega arith) in
    let below = b.0 in
    (omega arith, b)

pub rows::all-returns : goal.rows::all-returns
rows::all-returns t c =
    let end : drop c.loop-part.part-index c.args.parts.now ≡ [] = drop_all c.loop-part.part-index c.args.parts.now (omega arith) in
    c.loop-part.invariant c.loop-part.out.stop c.loop-part.out.list (rw end (nothing-written c.loop-part.out.stop c.loop-part.out.list))

pub rows::values-write_part-requires : goal.rows::values-write_part-requires
rows::values-write_part-requires t c =
    let v = c.args.program.now in
    let over = c.loop-part.invariant.0 in
    let nodes : length c.loop-part.over.of.now.tree.nodes ≡ length v.of.now.tree.nodes = ap (λ (w : View). length w.of.now.tree.nodes) over in
    let left : extra c.loop-part.over ≡ extra v = ap extra over in
    let b = between-each c.args.id (length v.of.now.tree.nodes) c.loop-part.part-index c.args.parts.now c.requires c.loop-part-test.true in
    let below = b.0 in
    let less = b.1 in
    (omega arith, (below, omega arith))

pub rows::values-loop-part-init : goal.rows::values-loop-part-init
rows::values-loop-part-init t c = (refl, refl, λ s end w. w)

pub rows::values-loop-part-preserved : goal.rows::values-loop-part-preserved
rows::values-loop-part-preserved t c =
    let v = c.loop-part.over in
    let id = c.args.id in
    let at = length c.loop-part.out.list in
    let i = c.loop-part.part-index in
    let ids = c.args.parts.now in
    let one = behind id (laid_of v) (get_or ids i 0) in
    let step = rising-cons v id at i ids c.loop-part-test.true in
    let next = c.raised-over.ensures.view in (
      still_over c.args.program.now v c.raised-over.result c.loop-part.invariant.0 next,
      c.loop-part.invariant.1 ∙ values_on v i ids c.loop-part-test.true ∙ ap (λ (w : View). behind_values w (drop (i + 1) ids)) (sym next),
      λ s end w. c.loop-part.invariant.2 s end (rw step
          (and_behind c.loop-part.out.stop c.write_part.new.out.stop s c.loop-part.out.list c.write_part.new.out.list end (stretch one at)
          (λ n. stretches (rising (raised v) id (drop (i + 1) ids)) n) c.write_part.ensures (rw next at w))),
    )

pub rows::values-returns-clause-writes : goal.rows::values-returns-clause-writes
rows::values-returns-clause-writes t c =
    let end : drop c.loop-part.part-index c.args.parts.now ≡ [] = drop_all c.loop-part.part-index c.args.parts.now (omega arith) in
    c.loop-part.invariant.2 c.loop-part.out.stop c.loop-part.out.list (rw end (nothing-written c.loop-part.out.stop c.loop-part.out.list))

pub rows::values-returns-clause-over : goal.rows::values-returns-clause-over
rows::values-returns-clause-over t c =
    let end : drop c.loop-part.part-index c.args.parts.now ≡ [] = drop_all c.loop-part.part-index c.args.parts.now (omega arith) in
    sym (c.loop-part.invariant.1 ∙ ap (λ (ids : List ℕ). behind_values c.loop-part.over ids) end)

pub calls::formula-returns-in-Some : goal.calls::formula-returns-in-Some
calls::formula-returns-in-Some t c =
    let v = c.args.program.now in
    let place = c.args.place in
    let note = c.args.note.now in
    let yields = not (is_void (shape_at v.of.now.modes note.mode)) in
    let ts = trees_at (behind c.args.id (tree_of v)) c.args.parts.now in
    let w0 = c.args.out.now in
    let w1 = c.standard_formula.new.out in
    subst (λ (o : Option ℕ). Writes w0.stop w1.stop w0.list w1.list (stretch (lying v (made.formula_by place yields (note_of v note) o ts)) (length w0.list))) (sym c.in-Some.is)
    (subst (λ (xs : Trees). Writes w0.stop w1.stop w0.list w1.list (stretches xs (length w0.list) ++ instr place (does.Apply c.in-Some.row) ∷ [])) (sym (rises v c.args.id c.args.parts.now)) c.standard_formula.ensures)

pub calls::formula-returns-in-None : goal.calls::formula-returns-in-None
calls::formula-returns-in-None t c =
    let v = c.args.program.now in
    let place = c.args.place in
    let note = c.args.note.now in
    let yields = not (is_void (shape_at v.of.now.modes note.mode)) in
    let ts = trees_at (behind c.args.id (tree_of v)) c.args.parts.now in
    let w0 = c.args.out.now in
    let w1 = c.declared_formula.new.out in
    subst (λ (o : Option ℕ). Writes w0.stop w1.stop w0.list w1.list (stretch (lying v (made.formula_by place yields (note_of v note) o ts)) (length w0.list))) (sym c.in-None.is) c.declared_formula.ensures

pub calls::declared_formula-returns-in-Some : goal.calls::declared_formula-returns-in-Some
calls::declared_formula-returns-in-Some t c =
    let v = c.args.program.now in
    let place = c.args.place in
    let note = c.args.note.now in
    let yields = not (is_void (shape_at v.of.now.modes note.mode)) in
    let ts = trees_at (behind c.args.id (tree_of v)) c.args.parts.now in
    let first = made.leaf place (tag (made.hops_seen v.of.now v.sight note) note.step.slot) in
    let w0 = c.args.out.now in
    let w1 = c.applied.new.out in
    subst (λ (o : Option ℕ). Writes w0.stop w1.stop w0.list w1.list (stretch (lying v (made.declared_formula place yields (note_of v note) o ts)) (length w0.list))) (sym c.in-Some.is)
    (subst (λ (xs : Trees). Writes w0.stop w1.stop w0.list w1.list (stretch (call place yields (first and_tree xs)) (length w0.list))) (sym (rises (raised v) c.args.id c.args.parts.now)) c.applied.ensures)

-- a row for a kind of node
row_is : (v : View) (id : ℕ) (node : Node) (note : Note) (k : NodeKind) (t : Tree) (s0 s1 : Option Stop) (l0 l1 : List Instr) → node.kind ≡ k
    → lying v (made.made v.of.now (bound_of v) (behind id (tree_of v)) node (note_of v note) k) ≡ t → Writes s0 s1 l0 l1 (stretch t (length l0))
    → Writes s0 s1 l0 l1 (stretch (lying v (made.made v.of.now (bound_of v) (behind id (tree_of v)) node (note_of v note) node.kind)) (length l0))
row_is v id node note k t s0 s1 l0 l1 e lies w =
    subst (λ (x : NodeKind). Writes s0 s1 l0 l1 (stretch (lying v (made.made v.of.now (bound_of v) (behind id (tree_of v)) node (note_of v note) x)) (length l0))) (sym e)
    (subst (λ (u : Tree). Writes s0 s1 l0 l1 (stretch u (length l0))) (sym lies) w)

-- the byte and the parts of a node are those of what is seen of it
of_node : (F : ℕ → List ℕ → Type 0) (x y : Node) (ids : List ℕ) → x ≡ y → ids ≡ x.parts → F x.span.from ids → F y.span.from y.parts
of_node F x y ids is parts w = subst (λ (n : Node). F n.span.from n.parts) is (subst (λ (l : List ℕ). F x.span.from l) parts w)

pub rows::construct-returns-in-Denotation : goal.rows::construct-returns-in-Denotation
rows::construct-returns-in-Denotation t c =
    let v = c.args.program.now in
    let node = c.args.node.now in
    let o = option_and_then value_in (made.spelling_of v.of.now node) in
    row_is v c.args.id node c.args.note.now kind.Denotation (made.denoted node.span.from o) c.args.out.now.stop c.denotation.new.out.stop c.args.out.now.list c.denotation.new.out.list (ap (λ (n : Node). n.kind) (sym c.node.view_is) ∙ c.in-Denotation.is)
    (denoted_lies (seat_of v) node.span.from o) c.denotation.ensures

pub rows::construct-returns-in-LongDenotation : goal.rows::construct-returns-in-LongDenotation
rows::construct-returns-in-LongDenotation t c =
    let v = c.args.program.now in
    let node = c.args.node.now in
    let o = option_and_then long_value_in (made.spelling_of v.of.now node) in
    row_is v c.args.id node c.args.note.now kind.LongDenotation (made.denoted node.span.from o) c.args.out.now.stop c.long_denotation.new.out.stop c.args.out.now.list c.long_denotation.new.out.list (ap (λ (n : Node). n.kind) (sym c.node.view_is) ∙ c.in-LongDenotation.is)
    (denoted_lies (seat_of v) node.span.from o) c.long_denotation.ensures

pub rows::construct-returns-in-Assignation : goal.rows::construct-returns-in-Assignation
rows::construct-returns-in-Assignation t c =
    let v = c.args.program.now in
    let id = c.args.id in
    let node = c.args.node.now in
    let note = c.args.note.now in
    let place = node.span.from in
    let ts = trees_at (behind id (tree_of v)) node.parts in
    row_is v id node note kind.Assignation (operation place (store (behind_ref (shape_at v.of.now.modes note.mode))) collateral (rising v id node.parts)) c.args.out.now.stop c.assignation.new.out.stop c.args.out.now.list c.assignation.new.out.list (ap (λ (n : Node). n.kind) (sym c.node.view_is) ∙ c.in-Assignation.is)
    (ap (λ (x : Trees). operation place (store (behind_ref (shape_at v.of.now.modes note.mode))) collateral x) (rises v id node.parts))
    (of_node (λ (from : ℕ) (ids : List ℕ). Writes c.args.out.now.stop c.assignation.new.out.stop c.args.out.now.list c.assignation.new.out.list (stretch (operation from (store (behind_ref (shape_at v.of.now.modes note.mode))) collateral (rising v id ids)) (length c.args.out.now.list))) _ node c.deref-in-Assignation.result.now c.node.view_is c.deref-in-Assignation.ensures.value c.assignation.ensures)

pub rows::construct-returns-in-Identity : goal.rows::construct-returns-in-Identity
rows::construct-returns-in-Identity t c =
    let v = c.args.program.now in
    let id = c.args.id in
    let node = c.args.node.now in
    let note = c.args.note.now in
    let place = node.span.from in
    let ts = trees_at (behind id (tree_of v)) node.parts in
    row_is v id node note kind.Identity (operation place (same (made.negated (made.is_one_of made.isnt (made.spelling_of v.of.now node)))) collateral (rising v id node.parts)) c.args.out.now.stop c.identity.new.out.stop c.args.out.now.list c.identity.new.out.list (ap (λ (n : Node). n.kind) (sym c.node.view_is) ∙ c.in-Identity.is)
    (ap (λ (x : Trees). operation place (same (made.negated (made.is_one_of made.isnt (made.spelling_of v.of.now node)))) collateral x) (rises v id node.parts))
    (of_node (λ (from : ℕ) (ids : List ℕ). Writes c.args.out.now.stop c.identity.new.out.stop c.args.out.now.list c.identity.new.out.list (stretch (operation from (same (made.negated (made.is_one_of made.isnt (made.spelling_of v.of.now node)))) collateral (rising v id ids)) (length c.args.out.now.list))) _ node c.deref-in-Identity.result.now c.node.view_is c.deref-in-Identity.ensures.value c.identity.ensures)

pub rows::construct-returns-in-Joined : goal.rows::construct-returns-in-Joined
rows::construct-returns-in-Joined t c =
    let v = c.args.program.now in
    let id = c.args.id in
    let node = c.args.node.now in
    let note = c.args.note.now in
    let place = node.span.from in
    let ts = trees_at (behind id (tree_of v)) node.parts in
    row_is v id node note kind.Joined (together (trees_at (behind id (laid_of v)) node.parts)) c.args.out.now.stop c.all.new.out.stop c.args.out.now.list c.all.new.out.list (ap (λ (n : Node). n.kind) (sym c.node.view_is) ∙ c.in-Joined.is)
    (ap (λ (x : Trees). together x) (level v id node.parts))
    (of_node (λ (from : ℕ) (ids : List ℕ). Writes c.args.out.now.stop c.all.new.out.stop c.args.out.now.list c.all.new.out.list (stretch (together (trees_at (behind id (laid_of v)) ids)) (length c.args.out.now.list))) _ node c.deref-in-Joined.result.now c.node.view_is c.deref-in-Joined.ensures.value c.all.ensures)

pub rows::construct-returns-in-Cast : goal.rows::construct-returns-in-Cast
rows::construct-returns-in-Cast t c =
    let v = c.args.program.now in
    let id = c.args.id in
    let node = c.args.node.now in
    let note = c.args.note.now in
    let place = node.span.from in
    let ts = trees_at (behind id (tree_of v)) node.parts in
    row_is v id node note kind.Cast (made.last_tree (trees_at (behind id (laid_of v)) node.parts)) c.args.out.now.stop c.last.new.out.stop c.args.out.now.list c.last.new.out.list (ap (λ (n : Node). n.kind) (sym c.node.view_is) ∙ c.in-Cast.is)
    (last_lies (seat_of v) ts ∙ ap (λ (x : Trees). made.last_tree x) (level v id node.parts))
    (of_node (λ (from : ℕ) (ids : List ℕ). Writes c.args.out.now.stop c.last.new.out.stop c.args.out.now.list c.last.new.out.list (stretch (made.last_tree (trees_at (behind id (laid_of v)) ids)) (length c.args.out.now.list))) _ node c.deref-in-Cast.result.now c.node.view_is c.deref-in-Cast.ensures.value c.last.ensures)

pub rows::construct-returns-in-Selection : goal.rows::construct-returns-in-Selection
rows::construct-returns-in-Selection t c =
    let v = c.args.program.now in
    let id = c.args.id in
    let node = c.args.node.now in
    let note = c.args.note.now in
    let place = node.span.from in
    let ts = trees_at (behind id (tree_of v)) node.parts in
    row_is v id node note kind.Selection (made.selection_of v.of.now.modes place (made.first_goal v.of.now node.parts) node.name (trees_at (behind id (laid_of v)) node.parts)) c.args.out.now.stop c.selection.new.out.stop c.args.out.now.list c.selection.new.out.list (ap (λ (n : Node). n.kind) (sym c.node.view_is) ∙ c.in-Selection.is)
    (ap (λ (u : Tree). operation place (select (made.first_goal v.of.now node.parts) (made.field_in node.name (made.fields_at v.of.now.modes (made.first_goal v.of.now node.parts)))) serial (made.only u)) (last_lies (seat_of v) ts ∙ ap (λ (x : Trees). made.last_tree x) (level v id node.parts)))
    (subst (λ (n : Node). Writes c.args.out.now.stop c.selection.new.out.stop c.args.out.now.list c.selection.new.out.list (stretch (made.selection_of v.of.now.modes n.span.from (made.first_goal v.of.now node.parts) node.name (trees_at (behind id (laid_of v)) node.parts)) (length c.args.out.now.list))) c.node.view_is c.selection.ensures)

pub rows::operation-returns : goal.rows::operation-returns
rows::operation-returns t c =
    and_behind c.args.out.now.stop c.values.new.out.stop c.emit.new.self.stop c.args.out.now.list c.values.new.out.list c.emit.new.self.list
    (stretches (rising c.args.program.now c.args.id c.args.parts.now) (length c.args.out.now.list)) (λ n. instr c.args.place c.args.does ∷ []) c.values.ensures.writes c.emit.ensures

pub calls::standard_formula-returns : goal.calls::standard_formula-returns
calls::standard_formula-returns t c =
    and_behind c.args.out.now.stop c.values.new.out.stop c.apply.new.out.stop c.args.out.now.list c.values.new.out.list c.apply.new.out.list
    (stretches (rising c.args.program.now c.args.id c.args.parts.now) (length c.args.out.now.list)) (λ n. instr c.args.place (does.Apply c.args.row) ∷ []) c.values.ensures.writes c.apply.ensures

pub rows::last-write_part-requires : goal.rows::last-write_part-requires
rows::last-write_part-requires t c =
    let b = between-each c.args.id (length c.args.program.now.of.now.tree.nodes) (length c.args.parts.now - 1) c.args.parts.now c.requires (omega arith) in
    let below = b.0 in
    (omega arith, b)

pub rows::last-returns-then-parts-eq0 : goal.rows::last-returns-then-parts-eq0
rows::last-returns-then-parts-eq0 t c = rw (nil_from_length c.args.parts.now (omega arith)) c.meaningless.ensures

pub rows::last-returns : goal.rows::last-returns
rows::last-returns t c =
    let f = behind c.args.id (laid_of c.args.program.now) in
    subst (λ (u : Tree). Writes c.args.out.now.stop c.write_part.new.out.stop c.args.out.now.list c.write_part.new.out.list (stretch u (length c.args.out.now.list)))
    (sym (last_is f c.args.parts.now (omega arith))) c.write_part.ensures

pub rows::definition-returns : goal.rows::definition-returns
rows::definition-returns t c =
    let v = c.args.program.now in
    let place = c.args.place in
    let slot = c.args.note.now.step.slot in
    let u = made.last_tree (trees_at (behind c.args.id (laid_of v)) c.args.parts.now) in
    let ts = trees_at (behind c.args.id (tree_of v)) c.args.parts.now in
    let at = length c.args.out.now.list in
    let is : lying v (operation place (bind slot) serial (made.only (made.last_tree ts))) ≡ operation place (bind slot) serial (made.only u) =
    ap (λ (x : Tree). operation place (bind slot) serial (made.only x)) (last_lies (seat_of v) ts ∙ ap (λ (x : Trees). made.last_tree x) (level v c.args.id c.args.parts.now)) in
    subst (λ (x : Tree). Writes c.args.out.now.stop c.emit.new.self.stop c.args.out.now.list c.emit.new.self.list (stretch x at)) (sym is)
    (writes-as c.args.out.now.stop c.emit.new.self.stop c.args.out.now.list c.emit.new.self.list _ _ (definition_whole c.args.place c.args.note.now.step.slot at u)
    (and_behind c.args.out.now.stop c.last.new.out.stop c.emit.new.self.stop c.args.out.now.list c.last.new.out.list c.emit.new.self.list (stretch u at)
    (λ n. instr c.args.place (does.Bind c.args.note.now.step.slot) ∷ []) c.last.ensures c.emit.ensures))

pub names::write_bounds-loop-bound-preserved : goal.names::write_bounds-loop-bound-preserved
names::write_bounds-loop-bound-preserved t c =
    let v = c.loop-bound.over in
    let at = length c.loop-bound.out.list in
    let i = c.loop-bound.bound-index in
    let bounds = c.args.bounds.now in
    let one = lying v (made.bound_tree (bound_of v) (behind c.args.id (tree_of v)) c.args.place (get_or bounds i (bound.Written 0))) in
    let step = rising-bounds-cons v c.args.id c.args.place at i bounds (bound.Written 0) c.loop-bound-test.true in
    let next = c.raised-over.ensures.view in (
      still_over c.args.program.now v c.raised-over.result c.loop-bound.invariant.0 next,
      λ s end w. c.loop-bound.invariant.1 s end (rw step
          (and_behind c.loop-bound.out.stop c.write_bound.new.out.stop s c.loop-bound.out.list c.write_bound.new.out.list end (stretch one at)
          (λ n. stretches (rising_bounds (raised v) c.args.id c.args.place (drop (i + 1) bounds)) n) c.write_bound.ensures (rw next at w))),
    )

pub names::write_bounds-returns : goal.names::write_bounds-returns
names::write_bounds-returns t c =
    let end : drop c.loop-bound.bound-index c.args.bounds.now ≡ [] = drop_all c.loop-bound.bound-index c.args.bounds.now (omega arith) in
    c.loop-bound.invariant.1 c.loop-bound.out.stop c.loop-bound.out.list (rw end (nothing-written c.loop-bound.out.stop c.loop-bound.out.list))

pub names::bounded-returns-in-Ok : goal.names::bounded-returns-in-Ok
names::bounded-returns-in-Ok t c =
    let v = c.args.program.now in
    let place = c.args.place in
    let mode = c.args.mode in
    let in_heap = c.args.in_heap in
    let bounds = c.args.bounds.now in
    let ts = rising_bounds v c.args.id place bounds in
    let w0 = c.args.out.now in
    let w1 = c.write_bounds.new.out in
    let w2 = c.emit.new.self in
    let at = length w0.list in
    let many : c.in-Ok.count ≡ count ts = c.in-Ok.ensures.1 ∙ sym (count_rising_bounds v c.args.id place bounds) in
    let last : Writes w1.stop w2.stop w1.list w2.list (instr place (new_does in_heap mode c.in-Ok.count) ∷ []) = rw c.new_does.ensures at c.emit.ensures in
    subst (λ (u : Tree). Writes w0.stop w2.stop w0.list w2.list (stretch u at)) (sym (new_lies v c.args.id place mode in_heap bounds))
    (writes-as w0.stop w2.stop w0.list w2.list _ _ (ap (λ (n : ℕ). stretches ts at ++ instr place (new_does in_heap mode n) ∷ []) many ∙ new_list in_heap place mode at ts)
    (and_behind w0.stop w1.stop w2.stop w0.list w1.list w2.list (stretches ts at) (λ n. instr place (new_does in_heap mode c.in-Ok.count) ∷ []) c.write_bounds.ensures last))

pub names::assigned-returns : goal.names::assigned-returns
names::assigned-returns t c =
    let v = c.args.program.now in
    let a = v.of.now in
    let f = behind c.args.id (tree_of v) in
    let mode = c.behind_ref-mode.result in
    let place = c.args.place in
    let slot = c.args.note.now.step.slot in
    let source = behind c.args.id (laid_of (raised v)) c.args.source in
    let named_as : ℕ → Tree = λ m. lying v (named a (bound_of v) f c.args.in_heap place m c.args.parts.now) in
    let new = named_as mode in
    let w0 = c.args.out.now in
    let w1 = c.new_name.new.out in
    let w2 = c.write_part.new.out in
    let w3 = c.emit.new.self in
    let w4 = c.emit-2.new.self in
    let store = instr place (does.Store mode) in
    let bind = instr place (does.Bind slot) in
    let part : Writes w1.stop w2.stop w1.list w2.list (stretch source (length w1.list)) =
    subst (λ (w : View). Writes w1.stop w2.stop w1.list w2.list (stretch (behind c.args.id (laid_of w) c.args.source) (length w1.list))) c.raised.ensures.view c.write_part.ensures in
    let w24 = and_behind w2.stop w3.stop w4.stop w2.list w3.list w4.list (store ∷ []) (λ n. bind ∷ []) c.emit.ensures c.emit-2.ensures in
    let w14 = and_behind w1.stop w2.stop w4.stop w1.list w2.list w4.list (stretch source (length w1.list)) (λ n. store ∷ bind ∷ []) part w24 in
    let w04 = and_behind w0.stop w1.stop w4.stop w0.list w1.list w4.list (stretch new (length w0.list)) (λ n. stretch source n ++ store ∷ bind ∷ []) c.new_name.ensures w14 in
    let all = writes-as w0.stop w4.stop w0.list w4.list _ _ (assigned_list new place mode slot (length w0.list) source) w04 in
    let is : mode ≡ behind_ref (shape_at a.modes c.args.note.now.mode) = c.behind_ref-mode.ensures ∙ ap (λ (ms : List Shape). behind_ref (shape_at ms c.args.note.now.mode)) c.modes.ensures in
    subst (λ (m : ℕ). Writes w0.stop w4.stop w0.list w4.list (stretch (assigned_tree (named_as m) place m slot source) (length w0.list))) is all

pub names::begun-returns-then-parts-ne1 : goal.names::begun-returns-then-parts-ne1
names::begun-returns-then-parts-ne1 t c =
    let v = c.args.program.now in
    let a = v.of.now in
    let f = behind c.args.id (tree_of v) in
    let mode = behind_ref (shape_at a.modes c.args.note.now.mode) in
    let new = named a (bound_of v) f c.args.in_heap c.args.place mode c.args.parts.now in
    subst (λ (u : Tree). Writes c.args.out.now.stop c.meaningless.new._out.stop c.args.out.now.list c.meaningless.new._out.list (stretch u (length c.args.out.now.list)))
    (ap (λ (u : Tree). lying v u) (begun_none f new false c.args.place mode c.args.note.now.step.slot c.args.parts.now refl (λ e. absurd (omega arith)))) c.meaningless.ensures

pub names::begun-assigned-requires : goal.names::begun-assigned-requires
names::begun-assigned-requires t c =
    let b = between-each c.args.id (length c.args.program.now.of.now.tree.nodes) 0 c.args.parts.now c.requires (omega arith) in
    let below = b.0 in
    (omega arith, b)

pub names::begun-returns : goal.names::begun-returns
names::begun-returns t c =
    let v = c.args.program.now in
    let a = v.of.now in
    let f = behind c.args.id (tree_of v) in
    let place = c.args.place in
    let slot = c.args.note.now.step.slot in
    let mode = behind_ref (shape_at a.modes c.args.note.now.mode) in
    let new = named a (bound_of v) f c.args.in_heap place mode c.args.parts.now in
    subst (λ (u : Tree). Writes c.args.out.now.stop c.assigned.new.out.stop c.args.out.now.list c.assigned.new.out.list (stretch u (length c.args.out.now.list)))
    (assigned_lies v c.args.id place mode slot (get_or c.args.parts.now 0 0) new
    ∙ ap (λ (u : Tree). lying v u) (begun_tree f new false place mode slot c.args.parts.now refl (omega arith))) c.assigned.ensures

pub names::declared-assigned-requires : goal.names::declared-assigned-requires
names::declared-assigned-requires t c =
    let b = between-each c.args.id (length c.args.program.now.of.now.tree.nodes) 1 c.args.parts.now c.requires (omega arith) in
    let below = b.0 in
    (omega arith, b)

pub names::declared-returns-then-parts-eq1 : goal.names::declared-returns-then-parts-eq1
names::declared-returns-then-parts-eq1 t c =
    let v = c.args.program.now in
    let a = v.of.now in
    let mode = c.behind_ref-mode.result in
    let slot = c.args.note.now.step.slot in
    let ids = c.args.parts.now in
    let w0 = c.args.out.now in
    let w1 = c.new_name.new.out in
    let w2 = c.emit.new.self in
    let place = c.args.place in
    let f = behind c.args.id (tree_of v) in
    let named_as : ℕ → Tree = λ m. named a (bound_of v) f c.args.in_heap place m ids in
    let all = writes-as w0.stop w2.stop w0.list w2.list _ _ (declared_plain f (lying v (named_as mode)) true place mode slot (length w0.list) ids refl (omega arith))
    (and_behind w0.stop w1.stop w2.stop w0.list w1.list w2.list (stretch (lying v (named_as mode)) (length w0.list)) (λ n. instr place (does.Bind slot) ∷ []) c.new_name.ensures c.emit.ensures) in
    let is : mode ≡ behind_ref (shape_at a.modes c.args.note.now.mode) = c.behind_ref-mode.ensures ∙ ap (λ (ms : List Shape). behind_ref (shape_at ms c.args.note.now.mode)) c.modes.ensures in
    let lies : Writes w0.stop w2.stop w0.list w2.list (stretch (lying v (made.variable_of (named_as mode) true place mode slot (trees_at f ids))) (length w0.list)) =
    subst (λ (u : Tree). Writes w0.stop w2.stop w0.list w2.list (stretch u (length w0.list))) (plain_lies v c.args.id place mode slot ids (named_as mode) (omega arith)) all in
    subst (λ (m : ℕ). Writes w0.stop w2.stop w0.list w2.list (stretch (lying v (made.variable_of (named_as m) true place m slot (trees_at f ids))) (length w0.list))) is lies

pub names::declared-returns-then-parts-ne2 : goal.names::declared-returns-then-parts-ne2
names::declared-returns-then-parts-ne2 t c =
    let v = c.args.program.now in
    let a = v.of.now in
    let f = behind c.args.id (tree_of v) in
    let mode = behind_ref (shape_at a.modes c.args.note.now.mode) in
    let new = named a (bound_of v) f c.args.in_heap c.args.place mode c.args.parts.now in
    subst (λ (u : Tree). Writes c.args.out.now.stop c.meaningless.new._out.stop c.args.out.now.list c.meaningless.new._out.list (stretch u (length c.args.out.now.list)))
    (ap (λ (u : Tree). lying v u) (declared_none f new true c.args.place mode c.args.note.now.step.slot c.args.parts.now refl (λ e. absurd (omega arith)) (λ e. absurd (omega arith)))) c.meaningless.ensures

pub names::declared-returns : goal.names::declared-returns
names::declared-returns t c =
    let v = c.args.program.now in
    let a = v.of.now in
    let f = behind c.args.id (tree_of v) in
    let place = c.args.place in
    let slot = c.args.note.now.step.slot in
    let mode = behind_ref (shape_at a.modes c.args.note.now.mode) in
    let new = named a (bound_of v) f c.args.in_heap place mode c.args.parts.now in
    subst (λ (u : Tree). Writes c.args.out.now.stop c.assigned.new.out.stop c.args.out.now.list c.assigned.new.out.list (stretch u (length c.args.out.now.list)))
    (assigned_lies v c.args.id place mode slot (get_or c.args.parts.now 1 0) new
    ∙ ap (λ (u : Tree). lying v u) (declared_tree f new true place mode slot c.args.parts.now refl (omega arith))) c.assigned.ensures

pub calls::prints-returns-in-Ok : goal.calls::prints-returns-in-Ok
calls::prints-returns-in-Ok t c =
    let ts = rising c.args.program.now c.args.id c.args.items.now in
    let w0 = c.args.out.now in
    let w1 = c.operation.new.out in
    let many : c.in-Ok.count ≡ count ts = c.in-Ok.ensures.1 ∙ sym (count_rising c.args.program.now c.args.id c.args.items.now) in
    subst (λ (n : ℕ). Writes w0.stop w1.stop w0.list w1.list (stretches ts (length w0.list) ++ instr c.args.place (does.Print n) ∷ [])) many c.operation.ensures

pub parts::structure-returns-in-Ok : goal.parts::structure-returns-in-Ok
parts::structure-returns-in-Ok t c =
    let ts = rising c.args.program.now c.args.id c.args.parts.now in
    let w0 = c.args.out.now in
    let w1 = c.operation.new.out in
    let many : c.in-Ok.count ≡ count ts = c.in-Ok.ensures.1 ∙ sym (count_rising c.args.program.now c.args.id c.args.parts.now) in
    subst (λ (n : ℕ). Writes w0.stop w1.stop w0.list w1.list (stretches ts (length w0.list) ++ instr c.args.place (does.Compose n) ∷ [])) many c.operation.ensures

pub parts::row-returns-in-Ok : goal.parts::row-returns-in-Ok
parts::row-returns-in-Ok t c =
    let ts = rising c.args.program.now c.args.id c.args.parts.now in
    let w0 = c.args.out.now in
    let w1 = c.operation.new.out in
    let many : c.in-Ok.count ≡ count ts = c.in-Ok.ensures.1 ∙ sym (count_rising c.args.program.now c.args.id c.args.parts.now) in
    subst (λ (n : ℕ). Writes w0.stop w1.stop w0.list w1.list (stretches ts (length w0.list) ++ instr c.args.place (does.Display n c.args.mode) ∷ [])) many c.operation.ensures

pub parts::collateral-returns-in-Void : goal.parts::collateral-returns-in-Void
parts::collateral-returns-in-Void t c =
    let v = c.args.program.now in
    let id = c.args.id in
    let ids = c.args.parts.now in
    let place = c.args.place in
    let ts = trees_at (behind id (tree_of v)) ids in
    let m = c.args.note.now.goal in
    let is = void_collateral (shape_at v.of.now.modes m) place m ts (sym c.form_at.ensures ∙ c.in-Void.is) in
    subst (λ (u : Tree). Writes c.args.out.now.stop c.all.new.out.stop c.args.out.now.list c.all.new.out.list (stretch u (length c.args.out.now.list)))
    (sym (ap (λ (u : Tree). lying v u) is ∙ ap (λ (x : Trees). together x) (level v id ids))) c.all.ensures

pub parts::collateral-returns-in-Structure : goal.parts::collateral-returns-in-Structure
parts::collateral-returns-in-Structure t c =
    let v = c.args.program.now in
    let id = c.args.id in
    let ids = c.args.parts.now in
    let place = c.args.place in
    let ts = trees_at (behind id (tree_of v)) ids in
    let m = c.args.note.now.goal in
    let is = structure_collateral (shape_at v.of.now.modes m) place m ts (sym c.form_at.ensures ∙ c.in-Structure.is) in
    subst (λ (u : Tree). Writes c.args.out.now.stop c.structure.new.out.stop c.args.out.now.list c.structure.new.out.list (stretch u (length c.args.out.now.list)))
    (sym (ap (λ (u : Tree). lying v u) is ∙ ap (λ (x : Trees). operation place (compose (count ts)) collateral x) (rises v id ids)
    ∙ ap (λ (n : ℕ). operation place (compose n) collateral (rising v id ids)) (count_lie v id ids))) c.structure.ensures

pub parts::collateral-returns-in-Row : goal.parts::collateral-returns-in-Row
parts::collateral-returns-in-Row t c =
    let v = c.args.program.now in
    let id = c.args.id in
    let ids = c.args.parts.now in
    let place = c.args.place in
    let ts = trees_at (behind id (tree_of v)) ids in
    let m = c.args.note.now.goal in
    let is = row_collateral (shape_at v.of.now.modes m) place m ts (sym c.form_at.ensures ∙ c.in-Row.is) in
    subst (λ (u : Tree). Writes c.args.out.now.stop c.row.new.out.stop c.args.out.now.list c.row.new.out.list (stretch u (length c.args.out.now.list)))
    (sym (ap (λ (u : Tree). lying v u) is ∙ ap (λ (x : Trees). operation place (display (count ts) m) collateral x) (rises v id ids)
    ∙ ap (λ (n : ℕ). operation place (display n m) collateral (rising v id ids)) (count_lie v id ids))) c.row.ensures

pub parts::collateral-returns-in-Other : goal.parts::collateral-returns-in-Other
parts::collateral-returns-in-Other t c =
    let v = c.args.program.now in
    let id = c.args.id in
    let ids = c.args.parts.now in
    let place = c.args.place in
    let ts = trees_at (behind id (tree_of v)) ids in
    let m = c.args.note.now.goal in
    let is = other_collateral (shape_at v.of.now.modes m) place m ts (sym c.form_at.ensures ∙ c.in-Other.is) in
    subst (λ (u : Tree). Writes c.args.out.now.stop c.meaningless.new._out.stop c.args.out.now.list c.meaningless.new._out.list (stretch u (length c.args.out.now.list)))
    (sym (ap (λ (u : Tree). lying v u) is)) c.meaningless.ensures

pub parts::write_indexes-write_index-over-requires : goal.parts::write_indexes-write_index-over-requires
parts::write_indexes-write_index-over-requires t c =
    let v = c.args.program.now in
    let alike = over_is_alike v c.loop-index.over c.loop-index.invariant.0 in
    let nodes = alike.nodes in
    let left = alike.left in
    let b = between-each c.args.id (length v.of.now.tree.nodes) c.loop-index.index-index c.args.indexes.now c.requires c.loop-index-test.true in
    let below = b.0 in
    let less = b.1 in
    (omega arith, (below, omega arith))

pub parts::write_indexes-loop-index-preserved : goal.parts::write_indexes-loop-index-preserved
parts::write_indexes-loop-index-preserved t c =
    let v = c.loop-index.over in
    let a = c.args.program.now.of.now in
    let at = length c.loop-index.out.list in
    let i = c.loop-index.index-index in
    let ids = c.args.indexes.now in
    let parts = made.parts_at a (get_or ids i 0) in
    let step = units-next v a c.args.id at i ids c.loop-index-test.true in
    let over = c.loop-index.invariant.0 in
    let same : v.of.now ≡ a = ap (λ (w : View). w.of.now) over in
    let written : Writes c.loop-index.out.stop c.write_index-over.new.out.stop c.loop-index.out.list c.write_index-over.new.out.list (stretches (rising v c.args.id parts) at) =
    subst (λ (x : Annotated). Writes c.loop-index.out.stop c.write_index-over.new.out.stop c.loop-index.out.list c.write_index-over.new.out.list (stretches (rising v c.args.id (made.parts_at x (get_or ids i 0))) at))
    same c.write_index-over.ensures.writes in
    let next : c.write_index-over.result ≡ behind_values v parts = c.write_index-over.ensures.over ∙ ap (λ (x : Annotated). behind_values v (made.parts_at x (get_or ids i 0))) same in (
      subst (λ (w : View). IsOver c.args.program.now w) (sym next) (still_behind c.args.program.now v parts over),
      λ s end w. c.loop-index.invariant.1 s end (rw step
          (and_behind c.loop-index.out.stop c.write_index-over.new.out.stop s c.loop-index.out.list c.write_index-over.new.out.list end (stretches (rising v c.args.id parts) at)
          (λ n. stretches (rising (behind_values v parts) c.args.id (made.index_units a (drop (i + 1) ids))) n) written
          (subst (λ (x : View). Writes c.write_index-over.new.out.stop s c.write_index-over.new.out.list end (stretches (rising x c.args.id (made.index_units a (drop (i + 1) ids))) (length c.write_index-over.new.out.list))) next w))),
    )

pub parts::write_indexes-returns : goal.parts::write_indexes-returns
parts::write_indexes-returns t c =
    let end : drop c.loop-index.index-index c.args.indexes.now ≡ [] = drop_all c.loop-index.index-index c.args.indexes.now (omega arith) in
    c.loop-index.invariant.1 c.loop-index.out.stop c.loop-index.out.list (rw end (nothing-written c.loop-index.out.stop c.loop-index.out.list))

pub parts::selection-returns-in-Ok : goal.parts::selection-returns-in-Ok
parts::selection-returns-in-Ok t c =
    let v = c.args.program.now in
    let a = v.of.now in
    let parts = c.args.node.now.parts in
    let same : c.parts-parts.result.now ≡ parts = same_Some _ _ (sym c.parts-parts.ensures.is ∙ ap (option_map (λ (n : Node). n.parts)) c.requires.is) in
    let u = made.last_tree (trees_at (behind c.args.id (laid_of v)) parts) in
    let taken : c.field.result ≡ made.field_in c.args.node.now.name (made.fields_at a.modes (made.first_goal a parts)) =
    same_Some _ _ (sym c.field.ensures ∙ taken_is a (slice_get a.tree.nodes c.args.id) c.args.node.now c.requires.is c.requires.selects) in
    let place = c.args.place in
    let mode = c.mode_in_front-mode.result in
    let front : mode ≡ made.first_goal a parts = c.mode_in_front-mode.ensures ∙ ap (made.first_goal a) same in
    let w0 = c.args.out.now in
    let w1 = c.last.new.out in
    let w2 = c.emit.new.self in
    let at = length w0.list in
    let last = subst (λ (ps : List ℕ). Writes w0.stop w1.stop w0.list w1.list (stretch (made.last_tree (trees_at (behind c.args.id (laid_of v)) ps)) at)) same c.last.ensures in
    let all = writes-as w0.stop w2.stop w0.list w2.list _ _ (select_whole place mode c.in-Ok.field at u)
    (and_behind w0.stop w1.stop w2.stop w0.list w1.list w2.list (stretch u at) (λ n. instr place (does.Select mode c.in-Ok.field) ∷ []) last c.emit.ensures) in
    let field_is : c.in-Ok.field ≡ made.field_in c.args.node.now.name (made.fields_at a.modes mode) = c.in-Ok.ensures.1 ∙ taken ∙ ap (λ (m : ℕ). made.field_in c.args.node.now.name (made.fields_at a.modes m)) (sym front) in
    let by_field = subst (λ (k : ℕ). Writes w0.stop w2.stop w0.list w2.list (stretch (operation place (select mode k) serial (made.only u)) at)) field_is all in
    subst (λ (m : ℕ). Writes w0.stop w2.stop w0.list w2.list (stretch (operation place (select m (made.field_in c.args.node.now.name (made.fields_at a.modes m))) serial (made.only u)) at)) front by_field

pub rows::serial-returns-then-parts-eq0 : goal.rows::serial-returns-then-parts-eq0
rows::serial-returns-then-parts-eq0 t c = rw (nil_from_length c.args.parts.now (omega arith)) c.meaningless.ensures

pub rows::serial-returns-then-note-eq0 : goal.rows::serial-returns-then-note-eq0
rows::serial-returns-then-note-eq0 t c =
    let v = c.args.program.now in
    let ids = c.args.parts.now in
    let some = some_parts ids (omega arith) in
    let place = c.args.place in
    let slots = c.args.note.now.slots in
    let yields = not (is_void (shape_at v.of.now.modes c.args.note.now.goal)) in
    let f = behind c.args.id (laid_of v) in
    let w0 = c.args.out.now in
    let w1 = c.all.new.out in
    let is : lying v (made.serial_of place slots yields (trees_at (behind c.args.id (tree_of v)) ids)) ≡ made.serial_of place slots yields (trees_at f ids) =
    serial_is v c.args.id place slots yields ids
    ∙ ap (λ (w : View). made.serial_of place slots yields (trees_at (behind c.args.id (laid_of w)) ids)) (within_none slots v c.if-note-eq0.true) in
    let whole : Writes w0.stop w1.stop w0.list w1.list (stretch (made.serial_of place slots yields (trees_at f ids)) (length w0.list)) =
    rw some (rw some at (writes-as w0.stop w1.stop w0.list w1.list _ _ (plain_serial place slots (length w0.list) yields (f (get_or ids 0 0)) (trees_at f (drop 1 ids)) c.if-note-eq0.true) (rw some at c.all.ensures))) in
    subst (λ (u : Tree). Writes w0.stop w1.stop w0.list w1.list (stretch u (length w0.list))) (sym is) whole

pub rows::serial-returns : goal.rows::serial-returns
rows::serial-returns t c =
    let v = c.args.program.now in
    let ids = c.args.parts.now in
    let some = some_parts ids (omega arith) in
    let f = behind c.args.id (laid_of (deeper 1 v)) in
    let w0 = c.args.out.now in
    let w1 = c.emit.new.self in
    let w2 = c.all-2.new.out in
    let w3 = c.emit-2.new.self in
    let place = c.args.place in
    let slots = c.args.note.now.slots in
    let yields = not (is_void (shape_at v.of.now.modes c.args.note.now.goal)) in
    let first = f (get_or ids 0 0) in
    let rest = trees_at f (drop 1 ids) in
    let enter = instr place (does.Enter slots) in
    let leave = instr place (does.Leave (if yields then 1 else 0)) in
    let parts : Writes w1.stop w2.stop w1.list w2.list (stretches (trees_at f ids) (length w1.list)) =
    subst (λ (w : View). Writes w1.stop w2.stop w1.list w2.list (stretches (trees_at (behind c.args.id (laid_of w)) ids) (length w1.list))) c.deeper.ensures.view c.all-2.ensures in
    let all : Writes w1.stop w2.stop w1.list w2.list (stretches (first and_tree rest) (length w1.list)) = rw some at parts in
    let left : Writes w2.stop w3.stop w2.list w3.list (leave ∷ []) = rw c.leave.ensures at c.emit-2.ensures in
    let w13 = and_behind w1.stop w2.stop w3.stop w1.list w2.list w3.list (stretches (first and_tree rest) (length w1.list)) (λ n. leave ∷ []) all left in
    let w03 = and_behind w0.stop w1.stop w3.stop w0.list w1.list w3.list (enter ∷ []) (λ n. stretches (first and_tree rest) n ++ leave ∷ []) c.emit.ensures w13 in
    let whole : Writes w0.stop w3.stop w0.list w3.list (stretch (made.serial_of place slots yields (trees_at f ids)) (length w0.list)) =
    rw some (writes-as w0.stop w3.stop w0.list w3.list _ _ (framed_serial place slots (length w0.list) (if yields then 1 else 0) yields first rest (λ e. absurd (omega arith)) refl) w03) in
    let is : lying v (made.serial_of place slots yields (trees_at (behind c.args.id (tree_of v)) ids)) ≡ made.serial_of place slots yields (trees_at f ids) =
    serial_is v c.args.id place slots yields ids
    ∙ ap (λ (w : View). made.serial_of place slots yields (trees_at (behind c.args.id (laid_of w)) ids)) (within_some slots v (λ e. absurd (omega arith))) in
    subst (λ (u : Tree). Writes w0.stop w3.stop w0.list w3.list (stretch u (length w0.list))) (sym is) whole

pub rows::framed_steps-returns-then-note-eq0 : goal.rows::framed_steps-returns-then-note-eq0
rows::framed_steps-returns-then-note-eq0 = stepped.rows::framed_steps-returns-then-note-eq0

pub rows::framed_steps-returns : goal.rows::framed_steps-returns
rows::framed_steps-returns = stepped.rows::framed_steps-returns

pub rows::clause-returns-then-is_labelled : goal.rows::clause-returns-then-is_labelled
rows::clause-returns-then-is_labelled = stepped.rows::clause-returns-then-is_labelled

pub rows::clause-returns-else-is_labelled : goal.rows::clause-returns-else-is_labelled
rows::clause-returns-else-is_labelled = stepped.rows::clause-returns-else-is_labelled

pub rows::construct-clause-requires : goal.rows::construct-clause-requires
rows::construct-clause-requires = stepped.rows::construct-clause-requires

pub steps::labelled-returns : goal.steps::labelled-returns
steps::labelled-returns = stepped.steps::labelled-returns

pub steps::steps-returns-in-Ok : goal.steps::steps-returns-in-Ok
steps::steps-returns-in-Ok = stepped.steps::steps-returns-in-Ok

pub steps::steps-returns : goal.steps::steps-returns
steps::steps-returns = stepped.steps::steps-returns

pub steps::write_steps-write_step-at-requires : goal.steps::write_steps-write_step-at-requires
steps::write_steps-write_step-at-requires = stepped.steps::write_steps-write_step-at-requires

pub steps::write_steps-loop-at-init : goal.steps::write_steps-loop-at-init
steps::write_steps-loop-at-init = stepped.steps::write_steps-loop-at-init

pub steps::write_steps-loop-at-preserved : goal.steps::write_steps-loop-at-preserved
steps::write_steps-loop-at-preserved = stepped.steps::write_steps-loop-at-preserved

pub rows::only-returns-then-parts-ne1 : goal.rows::only-returns-then-parts-ne1
rows::only-returns-then-parts-ne1 t c =
    let v = c.args.program.now in
    let w0 = c.args.out.now in
    let w1 = c.meaningless.new._out in
    let none : meaningless ≡ made.only_of (trees_at (behind c.args.id (tree_of v)) c.args.parts.now) = only_none (behind c.args.id (tree_of v)) c.args.parts.now (λ e. absurd (omega arith)) in
    subst (λ (u : Tree). Writes w0.stop w1.stop w0.list w1.list (stretch (lying v u) (length w0.list))) none c.meaningless.ensures

pub rows::only-returns : goal.rows::only-returns
rows::only-returns t c =
    let v = c.args.program.now in
    let ids = c.args.parts.now in
    let ts = trees_at (behind c.args.id (tree_of v)) ids in
    let f = behind c.args.id (laid_of v) in
    let w0 = c.args.out.now in
    let w1 = c.write_part.new.out in
    let one : f (get_or ids 0 0) ≡ made.only_of (trees_at f ids) = ap (λ (l : List ℕ). made.only_of (trees_at f l)) (sym (one_part ids (omega arith))) in
    subst (λ (u : Tree). Writes w0.stop w1.stop w0.list w1.list (stretch u (length w0.list)))
    (one ∙ sym (only_lies (seat_of v) ts ∙ ap (λ (x : Trees). made.only_of x) (level v c.args.id ids))) c.write_part.ensures

pub choices::write_link-enquire-requires : goal.choices::write_link-enquire-requires
choices::write_link-enquire-requires = chosen.choices::write_link-enquire-requires

pub choices::write_link-returns-clause-writes : goal.choices::write_link-returns-clause-writes
choices::write_link-returns-clause-writes = chosen.choices::write_link-returns-clause-writes

pub choices::write_link-returns-clause-jump : goal.choices::write_link-returns-clause-jump
choices::write_link-returns-clause-jump = chosen.choices::write_link-returns-clause-jump

pub choices::write_links-links-init : goal.choices::write_links-links-init
choices::write_links-links-init = chosen.choices::write_links-links-init

pub choices::write_links-links-preserved : goal.choices::write_links-links-preserved
choices::write_links-links-preserved = chosen.choices::write_links-links-preserved

pub choices::write_links-returns-in-None-clause-chain : goal.choices::write_links-returns-in-None-clause-chain
choices::write_links-returns-in-None-clause-chain = chosen.choices::write_links-returns-in-None-clause-chain

pub choices::chain-otherwise-requires : goal.choices::chain-otherwise-requires
choices::chain-otherwise-requires = chosen.choices::chain-otherwise-requires

pub choices::chain-returns : goal.choices::chain-returns
choices::chain-returns = chosen.choices::chain-returns

pub choices::conditional-chain-requires : goal.choices::conditional-chain-requires
choices::conditional-chain-requires = chosen.choices::conditional-chain-requires

pub choices::conditional-returns-in-Some : goal.choices::conditional-returns-in-Some
choices::conditional-returns-in-Some = chosen.choices::conditional-returns-in-Some

pub choices::conditional-returns-in-None : goal.choices::conditional-returns-in-None
choices::conditional-returns-in-None = chosen.choices::conditional-returns-in-None

pub choices::write_arm-returns-clause-writes : goal.choices::write_arm-returns-clause-writes
choices::write_arm-returns-clause-writes = chosen.choices::write_arm-returns-clause-writes

pub choices::write_arm-returns-clause-jumps : goal.choices::write_arm-returns-clause-jumps
choices::write_arm-returns-clause-jumps = chosen.choices::write_arm-returns-clause-jumps

pub choices::write_arms-write_arm-requires : goal.choices::write_arms-write_arm-requires
choices::write_arms-write_arm-requires = chosen.choices::write_arms-write_arm-requires

pub choices::write_arms-loop-part-preserved : goal.choices::write_arms-loop-part-preserved
choices::write_arms-loop-part-preserved = chosen.choices::write_arms-loop-part-preserved

pub choices::choose-returns-clause-writes : goal.choices::choose-returns-clause-writes
choices::choose-returns-clause-writes = chosen.choices::choose-returns-clause-writes

pub choices::choose-returns-clause-jumps : goal.choices::choose-returns-clause-jumps
choices::choose-returns-clause-jumps = chosen.choices::choose-returns-clause-jumps

pub choices::write_front-returns : goal.choices::write_front-returns
choices::write_front-returns = chosen.choices::write_front-returns

pub choices::front_of-returns-then-by_mode : goal.choices::front_of-returns-then-by_mode
choices::front_of-returns-then-by_mode = chosen.choices::front_of-returns-then-by_mode

pub choices::front_of-returns : goal.choices::front_of-returns
choices::front_of-returns = chosen.choices::front_of-returns

pub choices::write_choice-front_of-ending-requires : goal.choices::write_choice-front_of-ending-requires
choices::write_choice-front_of-ending-requires = chosen.choices::write_choice-front_of-ending-requires

pub choices::write_choice-returns-clause-on : goal.choices::write_choice-returns-clause-on
choices::write_choice-returns-clause-on = chosen.choices::write_choice-returns-clause-on

pub choices::write_choices-tails-init : goal.choices::write_choices-tails-init
choices::write_choices-tails-init = chosen.choices::write_choices-tails-init

pub choices::write_choices-tails-preserved : goal.choices::write_choices-tails-preserved
choices::write_choices-tails-preserved = chosen.choices::write_choices-tails-preserved

pub choices::choice_chain-otherwise-requires : goal.choices::choice_chain-otherwise-requires
choices::choice_chain-otherwise-requires = chosen.choices::choice_chain-otherwise-requires

pub choices::choice_chain-returns : goal.choices::choice_chain-returns
choices::choice_chain-returns = chosen.choices::choice_chain-returns

pub choices::case-choice_chain-requires : goal.choices::case-choice_chain-requires
choices::case-choice_chain-requires = chosen.choices::case-choice_chain-requires

pub turns::count-returns : goal.turns::count-returns
turns::count-returns = repeated.turns::count-returns

pub turns::enquire-returns : goal.turns::enquire-returns
turns::enquire-returns = repeated.turns::enquire-returns

pub turns::ask-enquire-requires : goal.turns::ask-enquire-requires
turns::ask-enquire-requires = repeated.turns::ask-enquire-requires

pub turns::ask-returns-in-Some : goal.turns::ask-returns-in-Some
turns::ask-returns-in-Some = repeated.turns::ask-returns-in-Some

pub turns::test-returns-clause-writes : goal.turns::test-returns-clause-writes
turns::test-returns-clause-writes = repeated.turns::test-returns-clause-writes

pub turns::test-returns-clause-unless : goal.turns::test-returns-clause-unless
turns::test-returns-clause-unless = repeated.turns::test-returns-clause-unless

pub turns::repeat-returns : goal.turns::repeat-returns
turns::repeat-returns = repeated.turns::repeat-returns

pub parts::slice-returns-then-parts-eq0 : goal.parts::slice-returns-then-parts-eq0
parts::slice-returns-then-parts-eq0 t c = rw (nil_from_length c.args.parts.now (omega arith)) c.meaningless.ensures

pub parts::slice-write_part-requires : goal.parts::slice-write_part-requires
parts::slice-write_part-requires t c =
    let b = between-each c.args.id (length c.args.program.now.of.now.tree.nodes) 0 c.args.parts.now c.requires (omega arith) in
    let below = b.0 in
    (omega arith, b)

pub parts::slice-returns : goal.parts::slice-returns
parts::slice-returns t c =
    let v = c.args.program.now in
    let a = v.of.now in
    let id = c.args.id in
    let ids = c.args.parts.now in
    let place = c.args.place in
    let w0 = c.args.out.now in
    let w1 = c.write_part.new.out in
    let w2 = c.write_indexes.new.out in
    let w3 = c.emit.new.self in
    let at = length w0.list in
    let is : take (length ids - 1) (drop 1 ids) ≡ drop 1 ids = take_all (length ids - 1) (drop 1 ids) (omega (arith, length-drop 1 ids)) in
    let slice_of : List Instr = instr place (does.Slice (made.forms_of a (drop 1 ids))) ∷ [] in
    let last : Writes w2.stop w3.stop w2.list w3.list slice_of =
    subst (λ (l : List TrimForm). Writes w2.stop w3.stop w2.list w3.list (instr place (does.Slice l) ∷ [])) (c.in-Ok.ensures ∙ ap (λ (l : List ℕ). made.forms_of a l) is) c.emit.ensures in
    let over : Writes w1.stop w2.stop w1.list w2.list (stretches (rising (raised v) id (made.index_units a (take (length ids - 1) (drop 1 ids)))) (length w1.list)) =
    subst (λ (w : View). Writes w1.stop w2.stop w1.list w2.list (stretches (rising w id (made.index_units w.of.now (take (length ids - 1) (drop 1 ids)))) (length w1.list))) c.raised.ensures.view c.write_indexes.ensures in
    let units : Writes w1.stop w2.stop w1.list w2.list (stretches (rising (raised v) id (made.index_units a (drop 1 ids))) (length w1.list)) =
    subst (λ (l : List ℕ). Writes w1.stop w2.stop w1.list w2.list (stretches (rising (raised v) id (made.index_units a l)) (length w1.list))) is over in
    let all = λ (n : ℕ). stretches (rising (raised v) id (made.index_units a (drop 1 ids))) n in
    let w13 = and_behind w1.stop w2.stop w3.stop w1.list w2.list w3.list (all (length w1.list)) (λ n. slice_of) units last in
    let w03 = and_behind w0.stop w1.stop w3.stop w0.list w1.list w3.list (stretch (behind id (laid_of v) (get_or ids 0 0)) at) (λ n. all n ++ slice_of) c.write_part.ensures w13 in
    writes-as w0.stop w3.stop w0.list w3.list _ _ (slice_whole v a id place at ids (omega arith)) w03

pub names::new_name-returns : goal.names::new_name-returns
names::new_name-returns t c =
    let v = c.args.program.now in
    let a = v.of.now in
    let f = behind c.args.id (tree_of v) in
    let g = bound_of v in
    let place = c.args.place in
    let w0 = c.args.out.now in
    let w1 = c.bounded.new.out in
    let is = c.deref.ensures.value ∙ c.in-Ok.ensures ∙ ap (λ (x : Annotated). made.first_bounds x c.args.parts.now) c.annotated.ensures in
    subst (λ (bs : List Bound). Writes w0.stop w1.stop w0.list w1.list (stretch (lying v (made.new_name c.args.in_heap place c.args.mode (made.bound_trees g f place bs))) (length w0.list))) is c.bounded.ensures

pub parts::write_index-values-requires : goal.parts::write_index-values-requires
parts::write_index-values-requires t c =
    (omega arith, between-above c.args.id c.args.index (length c.args.program.now.of.now.tree.nodes) c.parts.result.now c.requires.0 c.parts.ensures.behind)

pub names::write_written-write_part-requires : goal.names::write_written-write_part-requires
names::write_written-write_part-requires t c =
    let s = stands-behind c.args.id c.args.bound (length c.args.program.now.of.now.tree.nodes) (sym c.stands_behind.ensures ∙ c.if-stands_behind.true) in
    (omega arith, s)

pub names::write_written-returns-else-stands_behind : goal.names::write_written-returns-else-stands_behind
names::write_written-returns-else-stands_behind t c =
    rw (none_laid c.args.program.now c.args.id c.args.bound (sym c.stands_behind.ensures ∙ c.if-stands_behind.false)) c.meaningless.ensures

pub conformity::write_specified-returns-then-not-tagged : goal.conformity::write_specified-returns-then-not-tagged
conformity::write_specified-returns-then-not-tagged = specified.conformity::write_specified-returns-then-not-tagged

pub conformity::write_specified-returns : goal.conformity::write_specified-returns
conformity::write_specified-returns = specified.conformity::write_specified-returns

pub conformity::write_spec-returns-clause-writes : goal.conformity::write_spec-returns-clause-writes
conformity::write_spec-returns-clause-writes = specified.conformity::write_spec-returns-clause-writes

pub conformity::write_spec-returns-clause-jumps : goal.conformity::write_spec-returns-clause-jumps
conformity::write_spec-returns-clause-jumps = specified.conformity::write_spec-returns-clause-jumps

pub conformity::write_specs-write_spec-requires : goal.conformity::write_specs-write_spec-requires
conformity::write_specs-write_spec-requires = specified.conformity::write_specs-write_spec-requires

pub conformity::write_specs-has_tag-tagged-requires : goal.conformity::write_specs-has_tag-tagged-requires
conformity::write_specs-has_tag-tagged-requires = specified.conformity::write_specs-has_tag-tagged-requires

pub conformity::write_specs-returns-clause-writes : goal.conformity::write_specs-returns-clause-writes
conformity::write_specs-returns-clause-writes = specified.conformity::write_specs-returns-clause-writes

pub conformity::write_specs-returns-clause-starts : goal.conformity::write_specs-returns-clause-starts
conformity::write_specs-returns-clause-starts = specified.conformity::write_specs-returns-clause-starts

pub conformity::write_specs-returns-clause-jumps : goal.conformity::write_specs-returns-clause-jumps
conformity::write_specs-returns-clause-jumps = specified.conformity::write_specs-returns-clause-jumps

pub conformity::write_specs-loop-at-preserved : goal.conformity::write_specs-loop-at-preserved
conformity::write_specs-loop-at-preserved = specified.conformity::write_specs-loop-at-preserved

pub conformity::conform-returns-clause-writes : goal.conformity::conform-returns-clause-writes
conformity::conform-returns-clause-writes = specified.conformity::conform-returns-clause-writes

pub conformity::conform-returns-clause-jumps : goal.conformity::conform-returns-clause-jumps
conformity::conform-returns-clause-jumps = specified.conformity::conform-returns-clause-jumps

pub conformity::conform_front-returns : goal.conformity::conform_front-returns
conformity::conform_front-returns = specified.conformity::conform_front-returns

pub conformity::conformity-choice_chain-requires : goal.conformity::conformity-choice_chain-requires
conformity::conformity-choice_chain-requires = specified.conformity::conformity-choice_chain-requires

pub names::write_outside-returns : goal.names::write_outside-returns
names::write_outside-returns t c =
    let v = c.args.program.now in
    let a = v.of.now in
    let w0 = c.args.out.now in
    let w1 = c.unit.new.out in
    let bytes_are : made.bytes_of a c.args.bound ≡ c.node.result.now.span = ap (λ (o : Option Node). option_map_or (λ (n : Node). n.span) o (record { from = 0; to = 0 })) c.node.ensures.is in
    let same : programs.defined_bound a sight.Here c.args.frames c.args.bound ≡ programs.tree_in a (sight.Within c.args.frames c.node.result.now.span) c.args.bound =
    defined_is a c.args.frames c.args.bound ∙ ap (λ (bytes : Span). programs.tree_in a (sight.Within c.args.frames bytes) c.args.bound) bytes_are in
    subst (λ (u : Tree). Writes w0.stop w1.stop w0.list w1.list (stretch (lying v u) (length w0.list))) (sym same) c.unit.ensures

pub names::write_outside-returns-then-bound-len : goal.names::write_outside-returns-then-bound-len
names::write_outside-returns-then-bound-len t c =
    let v = c.args.program.now in
    let a = v.of.now in
    let w0 = c.args.out.now in
    let w1 = c.meaningless.new._out in
    let none : programs.defined_bound a sight.Here c.args.frames c.args.bound ≡ meaningless =
    defined_is a c.args.frames c.args.bound ∙ none-past a (sight.Within c.args.frames (made.bytes_of a c.args.bound)) c.args.bound (omega arith) in
    subst (λ (u : Tree). Writes w0.stop w1.stop w0.list w1.list (stretch (lying v u) (length w0.list))) (sym none) c.meaningless.ensures

pub steps::write_step-returns-then-is_label-clause-step : goal.steps::write_step-returns-then-is_label-clause-step
steps::write_step-returns-then-is_label-clause-step = stepped.steps::write_step-returns-then-is_label-clause-step

pub steps::write_step-returns-then-is_label-clause-width : goal.steps::write_step-returns-then-is_label-clause-width
steps::write_step-returns-then-is_label-clause-width = stepped.steps::write_step-returns-then-is_label-clause-width

pub steps::write_step-returns-then-not-is_exit-clause-step : goal.steps::write_step-returns-then-not-is_exit-clause-step
steps::write_step-returns-then-not-is_exit-clause-step = stepped.steps::write_step-returns-then-not-is_exit-clause-step

pub steps::write_step-returns-then-not-is_exit-clause-width : goal.steps::write_step-returns-then-not-is_exit-clause-width
steps::write_step-returns-then-not-is_exit-clause-width = stepped.steps::write_step-returns-then-not-is_exit-clause-width

pub steps::write_step-returns-clause-step : goal.steps::write_step-returns-clause-step
steps::write_step-returns-clause-step = stepped.steps::write_step-returns-clause-step

pub steps::write_step-returns-clause-width : goal.steps::write_step-returns-clause-width
steps::write_step-returns-clause-width = stepped.steps::write_step-returns-clause-width

pub steps::write_steps-write_part-requires : goal.steps::write_steps-write_part-requires
steps::write_steps-write_part-requires = stepped.steps::write_steps-write_part-requires

pub steps::write_steps-returns-then-at-parts-clause-writes : goal.steps::write_steps-returns-then-at-parts-clause-writes
steps::write_steps-returns-then-at-parts-clause-writes = stepped.steps::write_steps-returns-then-at-parts-clause-writes

pub steps::write_steps-returns-then-at-parts-clause-labels : goal.steps::write_steps-returns-then-at-parts-clause-labels
steps::write_steps-returns-then-at-parts-clause-labels = stepped.steps::write_steps-returns-then-at-parts-clause-labels

pub steps::write_steps-returns-then-at-parts-clause-jumps : goal.steps::write_steps-returns-then-at-parts-clause-jumps
steps::write_steps-returns-then-at-parts-clause-jumps = stepped.steps::write_steps-returns-then-at-parts-clause-jumps

pub steps::write_steps-returns-clause-writes : goal.steps::write_steps-returns-clause-writes
steps::write_steps-returns-clause-writes = stepped.steps::write_steps-returns-clause-writes

pub steps::write_steps-returns-clause-labels : goal.steps::write_steps-returns-clause-labels
steps::write_steps-returns-clause-labels = stepped.steps::write_steps-returns-clause-labels

pub steps::write_steps-returns-clause-jumps : goal.steps::write_steps-returns-clause-jumps
steps::write_steps-returns-clause-jumps = stepped.steps::write_steps-returns-clause-jumps

pub calls::applied-operation-requires : goal.calls::applied-operation-requires
calls::applied-operation-requires t c =
    let alike = c.raised.ensures.alike in
    let nodes = alike.nodes in
    let left = alike.left in
    (omega arith, still_between c.args.program.now c.raised.result c.args.id c.args.parts.now alike c.requires)

pub names::assigned-write_part-requires : goal.names::assigned-write_part-requires
names::assigned-write_part-requires t c =
    let alike = c.raised.ensures.alike in
    let nodes = alike.nodes in
    let left = alike.left in
    let below = c.requires.0 in
    let less = c.requires.1 in
    (omega arith, still_within c.args.program.now c.raised.result c.args.id c.args.source alike c.requires)

pub names::write_bounds-write_bound-requires : goal.names::write_bounds-write_bound-requires
names::write_bounds-write_bound-requires t c =
    let alike = over_is_alike c.args.program.now c.loop-bound.over c.loop-bound.invariant.0 in
    let nodes = alike.nodes in
    let left = alike.left in
    omega arith

pub parts::slice-write_indexes-requires : goal.parts::slice-write_indexes-requires
parts::slice-write_indexes-requires t c =
    let ids = c.args.parts.now in
    let n = length c.args.program.now.of.now.tree.nodes in
    let alike = c.raised.ensures.alike in
    let nodes = alike.nodes in
    let left = alike.left in
    let is : take (length ids - 1) (drop 1 ids) ≡ drop 1 ids = take_all (length ids - 1) (drop 1 ids) (omega (arith, length-drop 1 ids)) in
    let rest : AllBetween c.args.id n (take (length ids - 1) (drop 1 ids)) = subst (λ (l : List ℕ). AllBetween c.args.id n l) (sym is) (between-rest c.args.id n ids c.requires) in
    (omega arith, still_between c.args.program.now c.raised.result c.args.id (take (length ids - 1) (drop 1 ids)) alike rest)

pub rows::serial-all-requires-2 : goal.rows::serial-all-requires-2
rows::serial-all-requires-2 t c =
    let alike = c.deeper.ensures.alike in
    let nodes = alike.nodes in
    let left = alike.left in
    (omega arith, still_between c.args.program.now c.deeper.result c.args.id c.args.parts.now alike c.requires)

pub rows::framed_steps-labelled-requires-2 : goal.rows::framed_steps-labelled-requires-2
rows::framed_steps-labelled-requires-2 t c =
    let v = c.args.program.now in
    let alike = c.deeper.ensures.alike in
    let nodes = alike.nodes in
    let left = alike.left in
    let same : made.parts_at c.deeper.result.of.now c.args.id ≡ made.parts_at v.of.now c.args.id = ap (λ (w : View). made.parts_at w.of.now c.args.id) c.deeper.ensures.view in
    (omega arith, (still_between v c.deeper.result c.args.id c.args.parts.now alike c.requires.between, same ∙ c.requires.are))

pub calls::call-returns-then-parts-eq0 : goal.calls::call-returns-then-parts-eq0
calls::call-returns-then-parts-eq0 t c =
    rw (nil_from_length c.args.parts.now (omega arith)) c.meaningless.ensures

pub calls::call-returns-then-is_print : goal.calls::call-returns-then-is_print
calls::call-returns-then-is_print t c =
    let v = c.args.program.now in
    let a = v.of.now in
    let id = c.args.id in
    let ids = c.args.parts.now in
    let place = c.args.place in
    let yields = not (is_void (shape_at a.modes c.args.note.now.mode)) in
    let w0 = c.args.out.now in
    let w1 = c.prints.new.out in
    let name = c.called-name.ensures ∙ ap (λ (x : Annotated). made.called x (get_or ids 0 0)) c.annotated-tree.ensures in
    let told : c.is_one_of-is_print.result ≡ made.is_one_of made.printers (made.called a (get_or ids 0 0)) = rw (c.printers.ensures, name) at c.is_one_of-is_print.ensures in
    let rest : take (length ids - 1) (drop 1 ids) ≡ drop 1 ids = take_all (length ids - 1) (drop 1 ids) (omega (arith, length-drop 1 ids)) in
    let items : c.items_at-items.result.now ≡ made.items_at a (drop 1 ids) =
    c.items_at-items.ensures.items ∙ ap (λ (x : Annotated). made.items_at x (take (length ids - 1) (drop 1 ids))) c.annotated-tree.ensures ∙ ap (made.items_at a) rest in
    let written : Writes w0.stop w1.stop w0.list w1.list (stretch (operation place print collateral (rising v id (made.items_at a (drop 1 ids)))) (length w0.list)) =
    subst (λ (l : List ℕ). Writes w0.stop w1.stop w0.list w1.list (stretch (operation place print collateral (rising v id l)) (length w0.list))) items c.prints.ensures in
    subst (λ (u : Tree). Writes w0.stop w1.stop w0.list w1.list (stretch u (length w0.list))) (sym (prints_lie v a id place yields ids (omega arith) (sym told ∙ c.if-is_print.true))) written

pub calls::call-returns-then-is_whole : goal.calls::call-returns-then-is_whole
calls::call-returns-then-is_whole t c =
    let v = c.args.program.now in
    let a = v.of.now in
    let id = c.args.id in
    let ids = c.args.parts.now in
    let place = c.args.place in
    let yields = not (is_void (shape_at a.modes c.args.note.now.mode)) in
    let w0 = c.args.out.now in
    let w1 = c.operation.new.out in
    let name = c.called-name.ensures ∙ ap (λ (x : Annotated). made.called x (get_or ids 0 0)) c.annotated-tree.ensures in
    let prints : c.is_one_of-is_print.result ≡ made.is_one_of made.printers (made.called a (get_or ids 0 0)) = rw (c.printers.ensures, name) at c.is_one_of-is_print.ensures in
    let words : c.is_one_of-is_whole.result ≡ made.is_one_of made.wholes (made.called a (get_or ids 0 0)) = rw (c.wholes.ensures, name) at c.is_one_of-is_whole.ensures in
    let rest : take (length ids - 1) (drop 1 ids) ≡ drop 1 ids = take_all (length ids - 1) (drop 1 ids) (omega (arith, length-drop 1 ids)) in
    let written : Writes w0.stop w1.stop w0.list w1.list (stretch (operation place whole collateral (rising v id (drop 1 ids))) (length w0.list)) =
    subst (λ (l : List ℕ). Writes w0.stop w1.stop w0.list w1.list (stretch (operation place whole collateral (rising v id l)) (length w0.list))) rest c.operation.ensures in
    subst (λ (u : Tree). Writes w0.stop w1.stop w0.list w1.list (stretch u (length w0.list)))
    (sym (wholes_lie v a id place yields ids (omega arith) (sym prints ∙ c.if-is_print.false) (sym words ∙ c.if-is_whole.true))) written

pub calls::call-returns : goal.calls::call-returns
calls::call-returns t c =
    let v = c.args.program.now in
    let a = v.of.now in
    let id = c.args.id in
    let ids = c.args.parts.now in
    let place = c.args.place in
    let yields = not (is_void (shape_at a.modes c.args.note.now.mode)) in
    let w0 = c.args.out.now in
    let w1 = c.routine.new.out in
    let name = c.called-name.ensures ∙ ap (λ (x : Annotated). made.called x (get_or ids 0 0)) c.annotated-tree.ensures in
    let prints : c.is_one_of-is_print.result ≡ made.is_one_of made.printers (made.called a (get_or ids 0 0)) = rw (c.printers.ensures, name) at c.is_one_of-is_print.ensures in
    let words : c.is_one_of-is_whole.result ≡ made.is_one_of made.wholes (made.called a (get_or ids 0 0)) = rw (c.wholes.ensures, name) at c.is_one_of-is_whole.ensures in
    subst (λ (u : Tree). Writes w0.stop w1.stop w0.list w1.list (stretch u (length w0.list)))
    (sym (routines_lie v a id place yields ids (omega arith) (sym prints ∙ c.if-is_print.false) (sym words ∙ c.if-is_whole.false))) c.routine.ensures

pub choices::write_links-write_link-jump-requires : goal.choices::write_links-write_link-jump-requires
choices::write_links-write_link-jump-requires = chosen.choices::write_links-write_link-jump-requires

pub choices::write_links-next_link-requires : goal.choices::write_links-next_link-requires
choices::write_links-next_link-requires = chosen.choices::write_links-next_link-requires

pub choices::write_links-returns-in-None-clause-within : goal.choices::write_links-returns-in-None-clause-within
choices::write_links-returns-in-None-clause-within = chosen.choices::write_links-returns-in-None-clause-within

pub choices::write_links-returns-in-None-clause-behind : goal.choices::write_links-returns-in-None-clause-behind
choices::write_links-returns-in-None-clause-behind = chosen.choices::write_links-returns-in-None-clause-behind

pub choices::write_links-returns-in-None-clause-seen : goal.choices::write_links-returns-in-None-clause-seen
choices::write_links-returns-in-None-clause-seen = chosen.choices::write_links-returns-in-None-clause-seen

pub choices::write_choice-tail_of-tail-requires-clause-some : goal.choices::write_choice-tail_of-tail-requires-clause-some
choices::write_choice-tail_of-tail-requires-clause-some = chosen.choices::write_choice-tail_of-tail-requires-clause-some

pub choices::write_choice-tail_of-tail-requires-clause-between : goal.choices::write_choice-tail_of-tail-requires-clause-between
choices::write_choice-tail_of-tail-requires-clause-between = chosen.choices::write_choice-tail_of-tail-requires-clause-between

pub choices::write_choice-returns-clause-within : goal.choices::write_choice-returns-clause-within
choices::write_choice-returns-clause-within = chosen.choices::write_choice-returns-clause-within

pub choices::write_choice-returns-clause-node : goal.choices::write_choice-returns-clause-node
choices::write_choice-returns-clause-node = chosen.choices::write_choice-returns-clause-node

pub choices::write_choice-returns-clause-seen : goal.choices::write_choice-returns-clause-seen
choices::write_choice-returns-clause-seen = chosen.choices::write_choice-returns-clause-seen

pub choices::write_choices-next_choice-requires : goal.choices::write_choices-next_choice-requires
choices::write_choices-next_choice-requires = chosen.choices::write_choices-next_choice-requires

pub choices::write_choices-write_choice-requires : goal.choices::write_choices-write_choice-requires
choices::write_choices-write_choice-requires = chosen.choices::write_choices-write_choice-requires

pub choices::write_choices-returns-in-None-clause-within : goal.choices::write_choices-returns-in-None-clause-within
choices::write_choices-returns-in-None-clause-within = chosen.choices::write_choices-returns-in-None-clause-within

pub choices::write_choices-returns-in-None-clause-behind : goal.choices::write_choices-returns-in-None-clause-behind
choices::write_choices-returns-in-None-clause-behind = chosen.choices::write_choices-returns-in-None-clause-behind

pub choices::write_choices-returns-in-None-clause-seen : goal.choices::write_choices-returns-in-None-clause-seen
choices::write_choices-returns-in-None-clause-seen = chosen.choices::write_choices-returns-in-None-clause-seen

pub choices::write_choices-returns-in-None-clause-on : goal.choices::write_choices-returns-in-None-clause-on
choices::write_choices-returns-in-None-clause-on = chosen.choices::write_choices-returns-in-None-clause-on

pub choices::choice_chain-front_of-ending-requires : goal.choices::choice_chain-front_of-ending-requires
choices::choice_chain-front_of-ending-requires = chosen.choices::choice_chain-front_of-ending-requires

pub choices::choice_chain-tail_of-first-requires-clause-between : goal.choices::choice_chain-tail_of-first-requires-clause-between
choices::choice_chain-tail_of-first-requires-clause-between = chosen.choices::choice_chain-tail_of-first-requires-clause-between

pub choices::choice_chain-write_choices-requires : goal.choices::choice_chain-write_choices-requires
choices::choice_chain-write_choices-requires = chosen.choices::choice_chain-write_choices-requires

pub choices::case-returns-then-parts-eq0 : goal.choices::case-returns-then-parts-eq0
choices::case-returns-then-parts-eq0 = chosen.choices::case-returns-then-parts-eq0

pub choices::case-returns : goal.choices::case-returns
choices::case-returns = chosen.choices::case-returns

pub conformity::conformity-returns-then-parts-eq0 : goal.conformity::conformity-returns-then-parts-eq0
conformity::conformity-returns-then-parts-eq0 = specified.conformity::conformity-returns-then-parts-eq0

pub conformity::conformity-returns : goal.conformity::conformity-returns
conformity::conformity-returns = specified.conformity::conformity-returns

pub conformity::write_specified-write_part-requires : goal.conformity::write_specified-write_part-requires
conformity::write_specified-write_part-requires = specified.conformity::write_specified-write_part-requires

pub conformity::write_specified-write_part-requires-2 : goal.conformity::write_specified-write_part-requires-2
conformity::write_specified-write_part-requires-2 = specified.conformity::write_specified-write_part-requires-2

pub turns::count-control-requires-2 : goal.turns::count-control-requires-2
turns::count-control-requires-2 = repeated.turns::count-control-requires-2

pub turns::count-control-requires-3 : goal.turns::count-control-requires-3
turns::count-control-requires-3 = repeated.turns::count-control-requires-3

pub turns::repeat-test-unless-requires : goal.turns::repeat-test-unless-requires
turns::repeat-test-unless-requires = repeated.turns::repeat-test-unless-requires

pub turns::repeat-body-requires : goal.turns::repeat-body-requires
turns::repeat-body-requires = repeated.turns::repeat-body-requires
