use Rattle.std.proofs.Common.{◌≡◌, ◌∙◌, ap, sym, arith}
use Rattle.std.proofs.lemmas.List.{take_rest}
use Rattle.a68_modes.specs.Nodes.{shape_at}
use Rattle.a68_modes.specs.declared.shape.Shape.TheVariants.{Struct}
use Rattle.a68_layout.specs.Rooms.{room_within, needs_within}
use Rattle.a68_layout.specs.Widths.{cells_of}
use Rattle.a68_layout.proofs.Inwards.{room-leaf, room-row, room-structure, room-same, rooms-more, row-counted, one-counted}
use Rattle.a68_layout.proofs.Leaves.{leaf, leaf-past}
use Rattle.a68_layout.proofs.counting.+count.Goals as goal

pub count_room-returns-then-mode-len : goal.count_room-returns-then-mode-len
count_room-returns-then-mode-len t c =
    let is = leaf-past c.args.modes.now c.args.mode (omega (arith, c.len.ensures.length, c.if-mode-len.true)) in
    rw (room-leaf c.args.depth c.args.modes.now c.args.mode c.args.bounds.now is) c.count_cell-then-mode-len.ensures

pub count_room-returns-in-Rows : goal.count_room-returns-in-Rows
count_room-returns-in-Rows t c =
    let is = sym c.in-Rows.is ∙ c.shape.ensures.shape in
    rw (room-row c.args.depth c.args.modes.now c.args.mode c.in-Rows.dims c.in-Rows.flex c.in-Rows.of c.args.bounds.now c.if-depth-eq0.false is) c.count_row.ensures

pub count_room-returns-in_default : goal.count_room-returns-in_default
count_room-returns-in_default t c =
    let is = leaf c.args.modes.now c.args.mode c.shape.result.now c.shape.ensures.shape c.in_default.not-Rows c.in_default.not-Struct c.in_default.not-Same in
    rw (room-leaf c.args.depth c.args.modes.now c.args.mode c.args.bounds.now is) c.count_cell-in_default.ensures

pub count_row-returns : goal.count_row-returns
count_row-returns t c =
    row-counted c.args.rows c.args.counted c.min-dims.result c.args.dims c.elements-count.result c.count_room-each.result _ c.args.bounds.now
    (room_within c.args.depth c.args.modes.now c.args.mode) (cells_of c.args.modes.now c.args.mode) c.if-rows-eq0.false c.min-dims.ensures c.elements-count.ensures c.count_room-each.ensures
    c.min.ensures

pub count_fields-loop-field-preserved : goal.count_fields-loop-field-preserved
count_fields-loop-field-preserved t c =
    let make = room_within c.args.depth c.args.modes.now in
    let needs = needs_within c.args.depth c.args.modes.now in
    let rest = take_rest c.args.bounds.now c.loop-field.at in
    let one = rw rest at c.count_room-counted.ensures in
    let more = rooms-more make needs c.args.fields.now c.loop-field.field-index (0, 0) c.args.bounds.now c.loop-field.at c.needs-at.result c.loop-field-test.true c.needs-at.ensures in
    record {
      fits = omega (arith, one);
      within = omega arith;
      sum = one-counted c.args.rows c.loop-field.counted c.count_room-counted.result _ _ _ more one ∙ c.loop-field.invariant.sum;
    }

pub count_room-returns-in-Struct : goal.count_room-returns-in-Struct
count_room-returns-in-Struct t c =
    let same : c.deref.result.now ≡ c.in-Struct.fields = c.deref.ensures.value ∙ c.fields.view_is in
    let is : Struct c.deref.result.now ≡ shape_at c.args.modes.now c.args.mode = ap (λ fs. Struct fs) same ∙ sym c.in-Struct.is ∙ c.shape.ensures.shape in
    rw (room-structure c.args.depth c.args.modes.now c.args.mode c.deref.result.now c.args.bounds.now c.if-depth-eq0.false is) c.count_fields.ensures

pub count_room-returns-in-Same : goal.count_room-returns-in-Same
count_room-returns-in-Same t c =
    let is = sym c.in-Same.is ∙ c.shape.ensures.shape in
    rw (room-same c.args.depth c.args.modes.now c.args.mode c.in-Same.mode c.args.bounds.now c.if-depth-eq0.false is) c.count_room.ensures
