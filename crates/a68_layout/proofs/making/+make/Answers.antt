use Rattle.std.proofs.Common.{◌≡◌, ◌∙◌, ◌+◌, length, drop, get_or, refl, ap, sym, arith}
use Rattle.std.proofs.lemmas.List.{length-append, take_rest}
use Rattle.std.proofs.lemmas.Result.{err_from_is_err_and}
use Rattle.a68_layout.specs.Rooms.{inwards, all_inwards, room_within, rooms_of, needs_within}
use Rattle.a68_layout.specs.Widths.{cells_of}
use Rattle.a68_layout.proofs.Inwards.{room-leaf, room-row, room-structure, room-same, rooms-more, row-shape}
use Rattle.a68_modes.specs.Nodes.{shape_at}
use Rattle.a68_modes.specs.declared.shape.Shape.TheVariants.{Struct}
use Rattle.a68_layout.proofs.Leaves.{leaf, leaf-past}
use Rattle.a68_layout.proofs.Made.{rest-on, rest-end, stop-on, copies-on, copies-stop, copies-end}
use Rattle.a68_layout.proofs.making.+make.Goals as goal

-- ---- a value of a mode

pub make_room-returns-then-mode-len : goal.make_room-returns-then-mode-len
make_room-returns-then-mode-len t c =
    let is = leaf-past c.args.modes.now c.args.mode (omega (arith, c.len.ensures.length, c.if-mode-len.true)) in
    rw (room-leaf c.args.depth c.args.modes.now c.args.mode c.args.bounds.now is) c.make_cell-then-mode-len.ensures

pub make_room-make_row-requires : goal.make_room-make_row-requires
make_room-make_row-requires t c =
    let is = sym c.in-Rows.is ∙ c.shape.ensures.shape in
    let shape = room-row c.args.depth c.args.modes.now c.args.mode c.in-Rows.dims c.in-Rows.flex c.in-Rows.of c.args.bounds.now c.if-depth-eq0.false is in
    (omega arith, rw shape at c.requires)

pub make_room-returns-in-Rows : goal.make_room-returns-in-Rows
make_room-returns-in-Rows t c =
    let is = sym c.in-Rows.is ∙ c.shape.ensures.shape in
    rw (room-row c.args.depth c.args.modes.now c.args.mode c.in-Rows.dims c.in-Rows.flex c.in-Rows.of c.args.bounds.now c.if-depth-eq0.false is) c.make_row.ensures

pub make_room-returns-in_default : goal.make_room-returns-in_default
make_room-returns-in_default t c =
    let is = leaf c.args.modes.now c.args.mode c.shape.result.now c.shape.ensures.shape c.in_default.not-Rows c.in_default.not-Struct c.in_default.not-Same in
    rw (room-leaf c.args.depth c.args.modes.now c.args.mode c.args.bounds.now is) c.make_cell-in_default.ensures

-- ---- a row

pub make_row-make_copies-requires : goal.make_row-make_copies-requires
make_row-make_copies-requires t c =
    let shape = row-shape c.args.rows c.min-dims.result c.args.dims c.elements-count.result c.args.bounds.now (room_within c.args.depth c.args.modes.now c.args.mode)
    (cells_of c.args.modes.now c.args.mode) c.if-rows-eq0.false c.min-dims.ensures c.elements-count.ensures c.requires in
    (omega arith, rw shape at c.requires)

pub make_row-returns : goal.make_row-returns
make_row-returns t c =
    let shape = row-shape c.args.rows c.min-dims.result c.args.dims c.elements-count.result c.args.bounds.now (room_within c.args.depth c.args.modes.now c.args.mode)
    (cells_of c.args.modes.now c.args.mode) c.if-rows-eq0.false c.min-dims.ensures c.elements-count.ensures c.requires in
    rw shape c.make_copies.ensures

-- ---- elements that are alike

pub make_copies-returns-in_err-make_room : goal.make_copies-returns-in_err-make_room
make_copies-returns-in_err-make_room t c =
    let p = err_from_is_err_and c.from_residual.result c.from_residual.ensures.1 in
    rw (p.1, p.2)
    (copies-stop c.in_err-make_room.field-0.0 c.args.rows c.loop-left.left (room_within c.args.depth c.args.modes.now c.args.mode c.args.bounds.now) _ _ _ _ _ _ _ _ _ (omega arith)
    c.in_err-make_room.ensures c.loop-left.invariant.rest)

pub make_copies-returns-then-len-before : goal.make_copies-returns-then-len-before
make_copies-returns-then-len-before t c =
    copies-end c.args.rows c.loop-left.left (room_within c.args.depth c.args.modes.now c.args.mode c.args.bounds.now) _ _ _ _ _ _ _
    (let same : length c.make_room.new.made.cells.items ≡ length c.loop-left.made.cells.items =
    omega (arith, c.make_room.new.made.cells.ok.0, c.loop-left.made.cells.ok.0, c.len.ensures, c.len-before.ensures, c.if-len-before.true) in same)
    c.in_ok-make_room.ensures c.loop-left.invariant.rest

pub make_copies-loop-left-preserved : goal.make_copies-loop-left-preserved
make_copies-loop-left-preserved t c =
    record {
      within = omega arith;
      rest = copies-on c.args.rows c.loop-left.left (room_within c.args.depth c.args.modes.now c.args.mode c.args.bounds.now) _ _ _ _ _ _ _ (omega arith) c.in_ok-make_room.ensures
          c.loop-left.invariant.rest;
    }

pub make_copies-returns : goal.make_copies-returns
make_copies-returns t c =
    let over : c.loop-left.left ≡ 0 = omega arith in
    rest-end _ _ _ _ _ (rw over at c.loop-left.invariant.rest)

-- ---- fields

pub make_fields-returns-in_err-make_room : goal.make_fields-returns-in_err-make_room
make_fields-returns-in_err-make_room t c =
    let p = err_from_is_err_and c.from_residual.result c.from_residual.ensures.1 in
    let make = room_within c.args.depth c.args.modes.now in
    let needs = needs_within c.args.depth c.args.modes.now in
    let more = rooms-more make needs c.args.fields.now c.loop-field.field-index (0, 0) c.args.bounds.now c.loop-field.at _ c.loop-field-test.true refl in
    rw (p.1, p.2)
    (stop-on c.in_err-make_room.field-0.0 _ _ _ _ _ _ _ _ _ _ _ (rw (take_rest c.args.bounds.now c.loop-field.at) at c.in_err-make_room.ensures)
    (rw (ap (all_inwards c.args.rows) more) at c.loop-field.invariant.rest))

pub make_fields-loop-field-preserved : goal.make_fields-loop-field-preserved
make_fields-loop-field-preserved t c =
    let make = room_within c.args.depth c.args.modes.now in
    let needs = needs_within c.args.depth c.args.modes.now in
    let more = rooms-more make needs c.args.fields.now c.loop-field.field-index (0, 0) c.args.bounds.now c.loop-field.at c.needs-at.result c.loop-field-test.true c.needs-at.ensures in
    let made = rw (take_rest c.args.bounds.now c.loop-field.at) at c.in_ok-make_room.ensures in
    let few = rw (ap (all_inwards c.args.rows) more) at c.loop-field.invariant.few in
    record {
      within = omega arith;
      few = omega (
        arith,
        few,
        length-append (inwards c.args.rows (make (get_or c.args.fields.now c.loop-field.field-index (0, 0)).1 (drop c.loop-field.at c.args.bounds.now)))
            (all_inwards c.args.rows (rooms_of make needs (drop (c.loop-field.field-index + 1) c.args.fields.now) (drop (c.loop-field.at + c.needs-at.result) c.args.bounds.now))),
      );
      rest = rest-on _ _ _ _ _ _ _ _ _ made (rw (ap (all_inwards c.args.rows) more) at c.loop-field.invariant.rest);
    }

-- ---- a structure, and a mode word

pub make_room-make_fields-requires : goal.make_room-make_fields-requires
make_room-make_fields-requires t c =
    let same : c.deref.result.now ≡ c.in-Struct.fields = c.deref.ensures.value ∙ c.fields.view_is in
    let is : Struct c.deref.result.now ≡ shape_at c.args.modes.now c.args.mode = ap (λ fs. Struct fs) same ∙ sym c.in-Struct.is ∙ c.shape.ensures.shape in
    let shape = room-structure c.args.depth c.args.modes.now c.args.mode c.deref.result.now c.args.bounds.now c.if-depth-eq0.false is in
    (omega arith, rw shape at c.requires)

pub make_room-returns-in-Struct : goal.make_room-returns-in-Struct
make_room-returns-in-Struct t c =
    let same : c.deref.result.now ≡ c.in-Struct.fields = c.deref.ensures.value ∙ c.fields.view_is in
    let is : Struct c.deref.result.now ≡ shape_at c.args.modes.now c.args.mode = ap (λ fs. Struct fs) same ∙ sym c.in-Struct.is ∙ c.shape.ensures.shape in
    rw (room-structure c.args.depth c.args.modes.now c.args.mode c.deref.result.now c.args.bounds.now c.if-depth-eq0.false is) c.make_fields.ensures

pub make_room-make_room-requires : goal.make_room-make_room-requires
make_room-make_room-requires t c =
    let is = sym c.in-Same.is ∙ c.shape.ensures.shape in
    let shape = room-same c.args.depth c.args.modes.now c.args.mode c.in-Same.mode c.args.bounds.now c.if-depth-eq0.false is in
    (omega arith, rw shape at c.requires)

pub make_room-returns-in-Same : goal.make_room-returns-in-Same
make_room-returns-in-Same t c =
    let is = sym c.in-Same.is ∙ c.shape.ensures.shape in
    rw (room-same c.args.depth c.args.modes.now c.args.mode c.in-Same.mode c.args.bounds.now c.if-depth-eq0.false is) c.make_room.ensures
