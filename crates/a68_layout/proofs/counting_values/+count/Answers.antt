use Rattle.std.proofs.Common.{◌≡◌, ◌∙◌, ap, sym, arith}
use Rattle.a68_modes.specs.Nodes.{shape_at}
use Rattle.a68_modes.specs.declared.shape.Shape.TheVariants.{Struct}
use Rattle.a68_layout.specs.Rooms.{room_for_within}
use Rattle.a68_layout.proofs.Inwards.{room_for-leaf, room_for-row, room_for-structure, no-parts}
use Rattle.a68_layout.proofs.Leaves.{leaf, leaf-past}
use Rattle.a68_layout.proofs.counting_values.+count.Goals as goal

pub count_parts-returns-then-i-values : goal.count_parts-returns-then-i-values
count_parts-returns-then-i-values t c =
    let none = no-parts (room_for_within c.args.depth c.args.modes.now) c.args.fields.now c.args.values.now c.loop-i.i c.if-i-values.true in
    let gone = rw none at c.loop-i.invariant.sum in
    omega (arith, gone)

pub count_value-returns-then-mode-len : goal.count_value-returns-then-mode-len
count_value-returns-then-mode-len t c =
    let is = leaf-past c.args.modes.now c.args.mode (omega (arith, c.len.ensures.length, c.if-mode-len.true)) in
    rw (room_for-leaf c.args.depth c.args.modes.now c.args.mode c.args.value.now is) c.count_cell-then-mode-len.ensures

pub count_value-returns-in-Rows : goal.count_value-returns-in-Rows
count_value-returns-in-Rows t c =
    let is = sym c.in-Rows.is ∙ c.shape.ensures.shape in
    rw (room_for-row c.args.depth c.args.modes.now c.args.mode c.in-Rows.dims c.in-Rows.flex c.in-Rows.of c.args.value.now c.if-depth-eq0.false is) c.count_filled.ensures

pub count_value-returns-in-Struct : goal.count_value-returns-in-Struct
count_value-returns-in-Struct t c =
    let same : c.deref.result.now ≡ c.in-Struct.fields = c.deref.ensures.value ∙ c.fields.view_is in
    let is : Struct c.deref.result.now ≡ shape_at c.args.modes.now c.args.mode = ap (λ fs. Struct fs) same ∙ sym c.in-Struct.is ∙ c.shape.ensures.shape in
    rw (room_for-structure c.args.depth c.args.modes.now c.args.mode c.deref.result.now c.args.value.now c.if-depth-eq0.false is) c.count_structure.ensures

pub count_value-returns-in_default : goal.count_value-returns-in_default
count_value-returns-in_default t c =
    let is = leaf c.args.modes.now c.args.mode c.shape.result.now c.shape.ensures.shape c.in_default.not-Rows c.in_default.not-Struct c.in_default.not-Same in
    rw (room_for-leaf c.args.depth c.args.modes.now c.args.mode c.args.value.now is) c.count_cell-in_default.ensures
