use Rattle.std.proofs.Common.{◌≡◌, ◌∙◌, ap, sym, arith}
use Rattle.std.proofs.lemmas.Result.{err_from_is_err_and}
use Rattle.a68_modes.specs.Nodes.{shape_at}
use Rattle.a68_modes.specs.declared.shape.Shape.TheVariants.{Struct}
use Rattle.a68_layout.specs.Rooms.{all_inwards, room_for_within}
use Rattle.a68_layout.proofs.Inwards.{room_for-leaf, room_for-row, room_for-structure, no-parts, elements-more, parts-more}
use Rattle.a68_layout.proofs.Leaves.{leaf, leaf-past}
use Rattle.a68_layout.proofs.Made.{rest-on, rest-end, stop-on}
use Rattle.a68_layout.proofs.making_values.+make.Goals as goal

pub make_value-returns-then-mode-len : goal.make_value-returns-then-mode-len
make_value-returns-then-mode-len t c =
    let is = leaf-past c.args.modes.now c.args.mode (omega (arith, c.len.ensures.length, c.if-mode-len.true)) in
    rw (room_for-leaf c.args.depth c.args.modes.now c.args.mode c.args.value.now is) c.make_cell-then-mode-len.ensures

pub make_value-returns-in-Rows : goal.make_value-returns-in-Rows
make_value-returns-in-Rows t c =
    let is = sym c.in-Rows.is ∙ c.shape.ensures.shape in
    rw (room_for-row c.args.depth c.args.modes.now c.args.mode c.in-Rows.dims c.in-Rows.flex c.in-Rows.of c.args.value.now c.if-depth-eq0.false is) c.make_filled.ensures

pub make_value-returns-in-Struct : goal.make_value-returns-in-Struct
make_value-returns-in-Struct t c =
    let same : c.deref.result.now ≡ c.in-Struct.fields = c.deref.ensures.value ∙ c.fields.view_is in
    let is : Struct c.deref.result.now ≡ shape_at c.args.modes.now c.args.mode = ap (λ fs. Struct fs) same ∙ sym c.in-Struct.is ∙ c.shape.ensures.shape in
    rw (room_for-structure c.args.depth c.args.modes.now c.args.mode c.deref.result.now c.args.value.now c.if-depth-eq0.false is) c.make_structure.ensures

pub make_value-returns-in_default : goal.make_value-returns-in_default
make_value-returns-in_default t c =
    let is = leaf c.args.modes.now c.args.mode c.shape.result.now c.shape.ensures.shape c.in_default.not-Rows c.in_default.not-Struct c.in_default.not-Same in
    rw (room_for-leaf c.args.depth c.args.modes.now c.args.mode c.args.value.now is) c.make_cell-in_default.ensures

-- ---- elements

pub make_elements-returns-in_err-make_value : goal.make_elements-returns-in_err-make_value
make_elements-returns-in_err-make_value t c =
    let p = err_from_is_err_and c.from_residual.result c.from_residual.ensures.1 in
    let more = elements-more (room_for_within c.args.depth c.args.modes.now c.args.mode) c.args.values.now c.loop-value.value-index c.value-item.result c.loop-value-test.true c.value-item.is in
    rw (p.1, p.2) (stop-on c.in_err-make_value.field-0.0 _ _ _ _ _ _ _ _ _ _ _ c.in_err-make_value.ensures (rw (ap (all_inwards c.args.rows) more) at c.loop-value.invariant))

pub make_elements-loop-value-preserved : goal.make_elements-loop-value-preserved
make_elements-loop-value-preserved t c =
    let more = elements-more (room_for_within c.args.depth c.args.modes.now c.args.mode) c.args.values.now c.loop-value.value-index c.value-item.result c.loop-value-test.true c.value-item.is in
    rest-on _ _ _ _ _ _ _ _ _ c.in_ok-make_value.ensures (rw (ap (all_inwards c.args.rows) more) at c.loop-value.invariant)

-- ---- parts of a structure

pub make_parts-returns-then-i-values : goal.make_parts-returns-then-i-values
make_parts-returns-then-i-values t c =
    let none = no-parts (room_for_within c.args.depth c.args.modes.now) c.args.fields.now c.args.values.now c.loop-i.i c.if-i-values.true in
    rest-end _ _ _ _ _ (rw (ap (all_inwards c.args.rows) none) at c.loop-i.invariant)

pub make_parts-returns-in_err-make_value : goal.make_parts-returns-in_err-make_value
make_parts-returns-in_err-make_value t c =
    let p = err_from_is_err_and c.from_residual.result c.from_residual.ensures.1 in
    let more = parts-more (room_for_within c.args.depth c.args.modes.now) c.args.fields.now c.args.values.now c.loop-i.i (0, 0) c.index-values-i.result c.loop-i-test.true c.if-i-values.false
    c.index-values-i.is in
    rw (p.1, p.2) (stop-on c.in_err-make_value.field-0.0 _ _ _ _ _ _ _ _ _ _ _ c.in_err-make_value.ensures (rw (ap (all_inwards c.args.rows) more) at c.loop-i.invariant))

pub make_parts-loop-i-preserved : goal.make_parts-loop-i-preserved
make_parts-loop-i-preserved t c =
    let more = parts-more (room_for_within c.args.depth c.args.modes.now) c.args.fields.now c.args.values.now c.loop-i.i (0, 0) c.index-values-i.result c.loop-i-test.true c.if-i-values.false
    c.index-values-i.is in
    rest-on _ _ _ _ _ _ _ _ _ c.in_ok-make_value.ensures (rw (ap (all_inwards c.args.rows) more) at c.loop-i.invariant)
