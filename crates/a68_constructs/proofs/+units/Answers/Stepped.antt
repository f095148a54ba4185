-- What serial clauses with labels have written.
use Rattle.std.proofs.Common.{◌≡◌, ℕ, Bool, List, [], ◌∷◌, ◌++◌, length, true, false, refl, sym, ◌∙◌, ap, subst, arith}
use Rattle.std.specs.Option.{option_map_or}
use Rattle.std.specs.Prelude.{not, if◌then◌else◌}
use Rattle.std.specs.declared.option.Option.{Option}
use Rattle.a68_annot.specs.declared.annotated.Annotated.{Annotated}
use Rattle.a68_code.specs.declared.does.Does.TheVariants as does
use Rattle.a68_constructs.proofs.Constructs.{framed_whole}
use Rattle.a68_constructs.proofs.Lying.{framed_lies, within_some}
use Rattle.a68_constructs.proofs.Stepping.{exit_step, jumps_end, jumps_none, label_step, labelled_lies, labels_end, labels_none, one_wide, steps_end, steps_first, steps_none, steps_on, steps_settled, steps_stopped, unit_step, unit_wide}
use Rattle.a68_elab.specs.Made as made
use Rattle.a68_elab.specs.Made.{trees_at}
use Rattle.a68_elab.specs.Programs.{behind, in_clause}
use Rattle.a68_elab.specs.Trees.{Tree, labelled}
use Rattle.a68_emit.proofs.Writing.{and_behind, had_not, writes-as}
use Rattle.a68_emit.specs.Listing.{instr, stretch}
use Rattle.a68_emit.specs.Seats.{labels_among, marks_of}
use Rattle.a68_emit.specs.Views.{deeper, laid_of, lying, seat_of, tree_of}
use Rattle.a68_emit.specs.Writing.{Writes, ran_out}
use Rattle.a68_emit.specs.declared.seat.Clause.{Clause}
use Rattle.a68_emit.specs.declared.view.View.{View}
use Rattle.a68_elab.specs.Programs.{Mark, Seat}
use Rattle.a68_modes.specs.Nodes.{shape_at, is_void}
use Rattle.a68_parts.proofs.Between.{between-each}
use Rattle.a68_constructs.proofs.+units.Goals as goal
use Rattle.a68_tree.specs.Trees.{AllBetween}
use Rattle.a68_tree.specs.declared.node.Node.{Node}

pub rows::framed_steps-returns-then-note-eq0 : goal.rows::framed_steps-returns-then-note-eq0
rows::framed_steps-returns-then-note-eq0 t c =
    let v = c.args.program.now in
    let place = c.args.place in
    let yields = not (is_void (shape_at v.of.now.modes c.args.note.now.goal)) in
    let within = labelled place (made.steps_of v.of.now (behind c.args.id (tree_of v)) [] c.args.parts.now) in
    let w0 = c.args.out.now in
    let w1 = c.labelled.new.out in
    subst (λ (n : ℕ). Writes w0.stop w1.stop w0.list w1.list (stretch (lying v (made.framed place place n yields within)) (length w0.list))) (sym c.if-note-eq0.true) c.labelled.ensures

pub rows::framed_steps-returns : goal.rows::framed_steps-returns
rows::framed_steps-returns t c =
    let v = c.args.program.now in
    let inner = deeper 1 v in
    let place = c.args.place in
    let slots = c.args.note.now.slots in
    let yields = not (is_void (shape_at v.of.now.modes c.args.note.now.goal)) in
    let within = labelled place (made.steps_of v.of.now (behind c.args.id (tree_of v)) [] c.args.parts.now) in
    let w0 = c.args.out.now in
    let w1 = c.emit.new.self in
    let w2 = c.labelled-2.new.out in
    let w3 = c.emit-2.new.self in
    let enter = instr place (does.Enter slots) in
    let leave = instr place (does.Leave (if yields then 1 else 0)) in
    let body : Writes w1.stop w2.stop w1.list w2.list (stretch (lying inner within) (length w1.list)) =
    subst (λ (w : View). Writes w1.stop w2.stop w1.list w2.list (stretch (lying w (labelled place (made.steps_of w.of.now (behind c.args.id (tree_of w)) [] c.args.parts.now))) (length w1.list)))
    c.deeper.ensures.view c.labelled-2.ensures in
    let left : Writes w2.stop w3.stop w2.list w3.list (leave ∷ []) = rw c.leave.ensures at c.emit-2.ensures in
    let w13 = and_behind w1.stop w2.stop w3.stop w1.list w2.list w3.list (stretch (lying inner within) (length w1.list)) (λ n. leave ∷ []) body left in
    let w03 = and_behind w0.stop w1.stop w3.stop w0.list w1.list w3.list (enter ∷ []) (λ n. stretch (lying inner within) n ++ leave ∷ []) c.emit.ensures w13 in
    let is : lying v (made.framed place place slots yields within) ≡ made.framed place place slots yields (lying inner within) =
    framed_lies v place place slots yields within ∙ ap (λ (w : View). made.framed place place slots yields (lying w within)) (within_some slots v (λ e. absurd (omega arith))) in
    subst (λ (u : Tree). Writes w0.stop w3.stop w0.list w3.list (stretch u (length w0.list))) (sym is)
    (writes-as w0.stop w3.stop w0.list w3.list _ _ (framed_whole place slots (length w0.list) (if yields then 1 else 0) yields (lying inner within) (λ e. absurd (omega arith)) refl) w03)

pub rows::clause-returns-then-is_labelled : goal.rows::clause-returns-then-is_labelled
rows::clause-returns-then-is_labelled t c =
    let v = c.args.program.now in
    let a = v.of.now in
    let ids = c.args.parts.now in
    let place = c.args.place in
    let slots = c.args.note.now.slots in
    let yields = not (is_void (shape_at a.modes c.args.note.now.goal)) in
    let f = behind c.args.id (tree_of v) in
    let w0 = c.args.out.now in
    let w1 = c.framed_steps.new.out in
    let has : true ≡ made.is_labelled a ids =
    sym c.if-is_labelled.true ∙ c.is_labelled.ensures ∙ ap (λ (x : Annotated). made.is_labelled x ids) c.annotated.ensures in
    subst (λ (b : Bool). Writes w0.stop w1.stop w0.list w1.list (stretch (lying v
    (if b then made.framed place place slots yields (labelled place (made.steps_of a f [] ids)) else made.serial_of place slots yields (trees_at f ids))) (length w0.list))) has c.framed_steps.ensures

pub rows::clause-returns-else-is_labelled : goal.rows::clause-returns-else-is_labelled
rows::clause-returns-else-is_labelled t c =
    let v = c.args.program.now in
    let a = v.of.now in
    let ids = c.args.parts.now in
    let place = c.args.place in
    let slots = c.args.note.now.slots in
    let yields = not (is_void (shape_at a.modes c.args.note.now.goal)) in
    let f = behind c.args.id (tree_of v) in
    let w0 = c.args.out.now in
    let w1 = c.serial.new.out in
    let has : false ≡ made.is_labelled a ids =
    sym c.if-is_labelled.false ∙ c.is_labelled.ensures ∙ ap (λ (x : Annotated). made.is_labelled x ids) c.annotated.ensures in
    subst (λ (b : Bool). Writes w0.stop w1.stop w0.list w1.list (stretch (lying v
    (if b then made.framed place place slots yields (labelled place (made.steps_of a f [] ids)) else made.serial_of place slots yields (trees_at f ids))) (length w0.list))) has c.serial.ensures

pub rows::construct-clause-requires : goal.rows::construct-clause-requires
rows::construct-clause-requires t c =
    let v = c.args.program.now in
    let parts : made.parts_at v.of.now c.args.id ≡ c.args.node.now.parts = ap (λ (o : Option Node). option_map_or (λ (n : Node). n.parts) o []) c.requires.is in
    let all : c.deref-in-Serial.result.now ≡ c.args.node.now.parts = c.deref-in-Serial.ensures.value ∙ ap (λ (n : Node). n.parts) c.node.view_is in
    (omega arith, (subst (λ (ids : List ℕ). AllBetween c.args.id (length v.of.now.tree.nodes) ids) (sym all) c.requires.between, parts ∙ sym all))

pub steps::labelled-returns : goal.steps::labelled-returns
steps::labelled-returns t c =
    let v = c.args.program.now in
    let a = v.of.now in
    let ids = c.args.parts.now in
    let w : View = record { of = v.of; sight = v.sight; height = v.height; depth = v.depth; clauses = c.deref.result } in
    let w0 = c.args.out.now in
    let w1 = c.steps.new.out in
    let marks : marks_of a c.deref.result.now ≡ (in_clause (labels_among a ids) (seat_of v)).marks =
    ap (λ (cs : List Clause). marks_of a cs) c.deref.ensures.value ∙ c.in-Ok.ensures ∙ ap (λ (ps : List ℕ). (in_clause (labels_among a ps) (seat_of v)).marks) c.requires.are in
    let seat : seat_of w ≡ in_clause (labels_among a ids) (seat_of v) = ap (λ (ms : List Mark). let s : Seat = record { height = v.height; depth = v.depth; marks = ms } in s) marks in
    subst (λ (u : Tree). Writes w0.stop w1.stop w0.list w1.list (stretch u (length w0.list))) (sym (labelled_lies v w c.args.id c.args.place ids refl refl seat)) c.steps.ensures

pub steps::steps-returns-in-Ok : goal.steps::steps-returns-in-Ok
steps::steps-returns-in-Ok t c =
    let v = c.args.program.now in
    let steps = made.steps_of v.of.now (behind c.args.id (laid_of v)) [] c.args.parts.now in
    let w0 = c.args.out.now in
    let w1 = c.write_steps.new.out in
    let w2 = c.patch_all.new.self in
    let w3 = c.settle.new.self in
    steps_settled w0.stop w1.stop w3.stop w0.list w1.list w2.list w3.list c.args.place c.len-from.result c.len-end.result c.deref.result.now c.in-Ok.places steps
    c.write_steps.ensures.writes c.len-from.ensures.long c.len-end.ensures.long (λ n. c.in-Ok.ensures ∙ c.write_steps.ensures.labels n) (λ n. c.deref.ensures.value ∙ c.write_steps.ensures.jumps n)
    c.patch_all.ensures.list c.settle.ensures.list (c.settle.ensures.stop ∙ c.patch_all.ensures.stop)

pub steps::steps-returns : goal.steps::steps-returns
steps::steps-returns t c =
    let v = c.args.program.now in
    let steps = made.steps_of v.of.now (behind c.args.id (laid_of v)) [] c.args.parts.now in
    let w0 = c.args.out.now in
    let w1 = c.write_steps.new.out in
    let w3 = c.run_out.new.self in
    steps_stopped w0.stop w1.stop w3.stop w0.list w1.list w3.list c.args.place steps c.write_steps.ensures.writes (c.run_out.ensures.stop ∙ ap ran_out c.patch_all.ensures.stop)

pub steps::write_steps-write_step-at-requires : goal.steps::write_steps-write_step-at-requires
steps::write_steps-write_step-at-requires t c =
    let b = between-each c.args.id (length c.args.program.now.of.now.tree.nodes) c.loop-at.at c.args.parts.now c.requires.between (omega arith) in
    let below = b.0 in
    (omega arith, b)

pub steps::write_steps-loop-at-init : goal.steps::write_steps-loop-at-init
steps::write_steps-loop-at-init t c =
    (omega arith, steps_first c.args.program.now c.args.id c.args.place c.args.parts.now c.args.placed.now.items c.args.jumps.now.items c.args.out.now.stop c.args.out.now.list c.requires.no_labels c.requires.no_jumps)

pub steps::write_steps-loop-at-preserved : goal.steps::write_steps-loop-at-preserved
steps::write_steps-loop-at-preserved t c =
    let w = c.write_step-at.ensures.some in (
      omega arith,
      steps_on c.args.program.now c.args.id c.args.place c.args.parts.now c.loop-at.at c.write_step-at.result c.loop-at.placed.items c.write_step-at.new.placed.items c.loop-at.jumps.items c.write_step-at.new.jumps.items
          c.args.out.now.stop c.loop-at.out.stop c.write_step-at.new.out.stop c.args.out.now.list c.loop-at.out.list c.write_step-at.new.out.list (omega arith) c.loop-at.invariant.1 c.write_step-at.ensures.step c.write_step-at.ensures.width,
    )

pub steps::write_step-returns-then-is_label-clause-step : goal.steps::write_step-returns-then-is_label-clause-step
steps::write_step-returns-then-is_label-clause-step t c =
    let v = c.args.program.now in
    let part = c.args.part in
    let w0 = c.args.out.now in
    let w1 = c.keep_label.new.out in
    let label : made.is_label (made.kind_at v.of.now part) ≡ true = ap (λ (x : Annotated). made.is_label (made.kind_at x part)) (sym c.annotated.ensures) ∙ sym c.is_label.ensures ∙ c.if-is_label.true in
    label_step v c.args.id c.args.place part c.args.next c.len-start.result c.args.placed.now.items c.keep_label.new.labels.items c.args.jumps.now.items w0.stop w1.stop w0.list w1.list
    label c.len-start.ensures.long c.keep_label.ensures.list c.keep_label.ensures.stop c.keep_label.ensures.kept

pub steps::write_step-returns-then-is_label-clause-width : goal.steps::write_step-returns-then-is_label-clause-width
steps::write_step-returns-then-is_label-clause-width t c =
    let v = c.args.program.now in
    let part = c.args.part in
    one_wide v.of.now part c.args.next (ap (λ (x : Annotated). made.is_label (made.kind_at x part)) (sym c.annotated.ensures) ∙ sym c.is_label.ensures ∙ c.if-is_label.true)

pub steps::write_step-returns-then-not-is_exit-clause-step : goal.steps::write_step-returns-then-not-is_exit-clause-step
steps::write_step-returns-then-not-is_exit-clause-step t c =
    let v = c.args.program.now in
    let part = c.args.part in
    let next = c.args.next in
    let w0 = c.args.out.now in
    let w1 = c.write_part.new.out in
    let label : made.is_label (made.kind_at v.of.now part) ≡ false = ap (λ (x : Annotated). made.is_label (made.kind_at x part)) (sym c.annotated.ensures) ∙ sym c.is_label.ensures ∙ c.if-is_label.false in
    let exits : made.is_exit (made.kind_at v.of.now next) ≡ false = ap (λ (x : Annotated). made.is_exit (made.kind_at x next)) (sym c.annotated-2.ensures) ∙ sym c.is_exit.ensures ∙ c.if-not-is_exit.true in
    unit_step v c.args.id c.args.place part next c.args.placed.now.items c.args.jumps.now.items w0.stop w1.stop w0.list w1.list label exits c.write_part.ensures

pub steps::write_step-returns-then-not-is_exit-clause-width : goal.steps::write_step-returns-then-not-is_exit-clause-width
steps::write_step-returns-then-not-is_exit-clause-width t c =
    let v = c.args.program.now in
    let part = c.args.part in
    let next = c.args.next in
    unit_wide v.of.now part next 1 false (ap (λ (x : Annotated). made.is_label (made.kind_at x part)) (sym c.annotated.ensures) ∙ sym c.is_label.ensures ∙ c.if-is_label.false)
    (ap (λ (x : Annotated). made.is_exit (made.kind_at x next)) (sym c.annotated-2.ensures) ∙ sym c.is_exit.ensures ∙ c.if-not-is_exit.true) refl

pub steps::write_step-returns-clause-step : goal.steps::write_step-returns-clause-step
steps::write_step-returns-clause-step t c =
    let v = c.args.program.now in
    let part = c.args.part in
    let next = c.args.next in
    let w0 = c.args.out.now in
    let w1 = c.write_part.new.out in
    let w2 = c.keep.new.out in
    let w3 = c.emit.new.self in
    let label : made.is_label (made.kind_at v.of.now part) ≡ false = ap (λ (x : Annotated). made.is_label (made.kind_at x part)) (sym c.annotated.ensures) ∙ sym c.is_label.ensures ∙ c.if-is_label.false in
    let exits : made.is_exit (made.kind_at v.of.now next) ≡ true = ap (λ (x : Annotated). made.is_exit (made.kind_at x next)) (sym c.annotated-2.ensures) ∙ sym c.is_exit.ensures ∙ c.if-not-is_exit.false in
    exit_step v c.args.id c.args.place part next c.len-jump.result c.args.placed.now.items c.args.jumps.now.items c.keep.new.numbers.items w0.stop w1.stop w2.stop w3.stop w0.list w1.list w2.list w3.list
    label exits c.write_part.ensures c.len-jump.ensures.long c.keep.ensures.list c.keep.ensures.stop c.keep.ensures.kept c.emit.ensures

pub steps::write_step-returns-clause-width : goal.steps::write_step-returns-clause-width
steps::write_step-returns-clause-width t c =
    let v = c.args.program.now in
    let part = c.args.part in
    let next = c.args.next in
    unit_wide v.of.now part next 2 true (ap (λ (x : Annotated). made.is_label (made.kind_at x part)) (sym c.annotated.ensures) ∙ sym c.is_label.ensures ∙ c.if-is_label.false)
    (ap (λ (x : Annotated). made.is_exit (made.kind_at x next)) (sym c.annotated-2.ensures) ∙ sym c.is_exit.ensures ∙ c.if-not-is_exit.false) refl

pub steps::write_steps-write_part-requires : goal.steps::write_steps-write_part-requires
steps::write_steps-write_part-requires t c =
    let b = between-each c.args.id (length c.args.program.now.of.now.tree.nodes) c.loop-at.at c.args.parts.now c.requires.between (omega arith) in
    let below = b.0 in
    (omega arith, b)

pub steps::write_steps-returns-then-at-parts-clause-writes : goal.steps::write_steps-returns-then-at-parts-clause-writes
steps::write_steps-returns-then-at-parts-clause-writes t c =
    steps_none c.args.program.now c.args.id c.args.place c.args.parts.now c.loop-at.at c.loop-at.placed.items c.loop-at.jumps.items c.args.out.now.stop c.loop-at.out.stop c.args.out.now.list c.loop-at.out.list (omega arith)
    c.loop-at.invariant.1

pub steps::write_steps-returns-then-at-parts-clause-labels : goal.steps::write_steps-returns-then-at-parts-clause-labels
steps::write_steps-returns-then-at-parts-clause-labels t c = λ none.
    labels_none c.args.program.now c.args.id c.args.place c.args.parts.now c.loop-at.at c.loop-at.placed.items c.loop-at.jumps.items c.args.out.now.stop c.loop-at.out.stop c.args.out.now.list c.loop-at.out.list (omega arith)
    c.loop-at.invariant.1 none

pub steps::write_steps-returns-then-at-parts-clause-jumps : goal.steps::write_steps-returns-then-at-parts-clause-jumps
steps::write_steps-returns-then-at-parts-clause-jumps t c = λ none.
    jumps_none c.args.program.now c.args.id c.args.place c.args.parts.now c.loop-at.at c.loop-at.placed.items c.loop-at.jumps.items c.args.out.now.stop c.loop-at.out.stop c.args.out.now.list c.loop-at.out.list (omega arith)
    c.loop-at.invariant.1 none

pub steps::write_steps-returns-clause-writes : goal.steps::write_steps-returns-clause-writes
steps::write_steps-returns-clause-writes t c =
    let w2 = c.write_part.new.out in
    steps_end c.args.program.now c.args.id c.args.place c.args.parts.now c.loop-at.at c.loop-at.placed.items c.loop-at.jumps.items c.args.out.now.stop c.loop-at.out.stop w2.stop
    c.args.out.now.list c.loop-at.out.list w2.list (omega arith) (omega arith) c.loop-at.invariant.1 c.write_part.ensures

pub steps::write_steps-returns-clause-labels : goal.steps::write_steps-returns-clause-labels
steps::write_steps-returns-clause-labels t c = λ none.
    let w1 = c.loop-at.out in
    let w2 = c.write_part.new.out in
    labels_end c.args.program.now c.args.id c.args.place c.args.parts.now c.loop-at.at c.loop-at.placed.items c.loop-at.jumps.items c.args.out.now.stop w1.stop c.args.out.now.list w1.list (omega arith) (omega arith)
    c.loop-at.invariant.1 (had_not w1.stop w2.stop w1.list w2.list _ c.write_part.ensures none)

pub steps::write_steps-returns-clause-jumps : goal.steps::write_steps-returns-clause-jumps
steps::write_steps-returns-clause-jumps t c = λ none.
    let w1 = c.loop-at.out in
    let w2 = c.write_part.new.out in
    jumps_end c.args.program.now c.args.id c.args.place c.args.parts.now c.loop-at.at c.loop-at.placed.items c.loop-at.jumps.items c.args.out.now.stop w1.stop c.args.out.now.list w1.list (omega arith) (omega arith)
    c.loop-at.invariant.1 (had_not w1.stop w2.stop w1.list w2.list _ c.write_part.ensures none)
