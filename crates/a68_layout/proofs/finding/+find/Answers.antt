use Rattle.std.proofs.Common.{◌≡◌, ◌∙◌, drop, ap, sym, arith}
use Rattle.std.proofs.lemmas.List.{drop_all, take_rest}
use Rattle.a68_modes.specs.Nodes.{shape_at}
use Rattle.a68_modes.specs.declared.shape.Shape.TheVariants.{Struct}
use Rattle.a68_layout.specs.Rooms.{room_within, rooms_of, needs_within}
use Rattle.a68_layout.proofs.Founds.{room-zero, among-cell, among-row, among-same, among-several, left-begin, left-on, left-end}
use Rattle.a68_layout.proofs.Inwards.{room-leaf, room-row, room-structure, room-same, rooms-more}
use Rattle.a68_layout.proofs.Leaves.{leaf, leaf-past}
use Rattle.a68_layout.proofs.finding.+find.Goals as goal

pub find_room-returns-then-depth-eq0 : goal.find_room-returns-then-depth-eq0
find_room-returns-then-depth-eq0 t c = among-cell _ _ _ (room-zero c.args.depth c.args.modes.now c.args.mode c.args.bounds.now c.if-depth-eq0.true)

pub find_room-returns-then-mode-len : goal.find_room-returns-then-mode-len
find_room-returns-then-mode-len t c =
    let is = leaf-past c.args.modes.now c.args.mode (omega (arith, c.len.ensures.length, c.if-mode-len.true)) in
    among-cell _ _ _ (room-leaf c.args.depth c.args.modes.now c.args.mode c.args.bounds.now is)

pub find_room-returns-in_ok-push-in-Rows : goal.find_room-returns-in_ok-push-in-Rows
find_room-returns-in_ok-push-in-Rows t c =
    let is = sym c.in-Rows.is ∙ c.shape.ensures.shape in
    among-row _ _ _ _ _ c.in_ok-push-in-Rows.ensures.items
    (room-row c.args.depth c.args.modes.now c.args.mode c.in-Rows.dims c.in-Rows.flex c.in-Rows.of c.args.bounds.now c.if-depth-eq0.false is)

pub find_room-returns-in_ok-find_fields-in-Struct : goal.find_room-returns-in_ok-find_fields-in-Struct
find_room-returns-in_ok-find_fields-in-Struct t c =
    let same : c.deref.result.now ≡ c.in-Struct.fields = c.deref.ensures.value ∙ c.fields.view_is in
    let is : Struct c.deref.result.now ≡ shape_at c.args.modes.now c.args.mode = ap (λ fs. Struct fs) same ∙ sym c.in-Struct.is ∙ c.shape.ensures.shape in
    among-several _ _ _ _ _ (room-structure c.args.depth c.args.modes.now c.args.mode c.deref.result.now c.args.bounds.now c.if-depth-eq0.false is) c.in_ok-find_fields-in-Struct.ensures

pub find_room-returns-in_ok-find_room-in-Same : goal.find_room-returns-in_ok-find_room-in-Same
find_room-returns-in_ok-find_room-in-Same t c =
    let is = sym c.in-Same.is ∙ c.shape.ensures.shape in
    among-same _ _ _ _ _ (room-same c.args.depth c.args.modes.now c.args.mode c.in-Same.mode c.args.bounds.now c.if-depth-eq0.false is) c.in_ok-find_room-in-Same.ensures

pub find_room-returns-in_default : goal.find_room-returns-in_default
find_room-returns-in_default t c =
    let is = leaf c.args.modes.now c.args.mode c.shape.result.now c.shape.ensures.shape c.in_default.not-Rows c.in_default.not-Struct c.in_default.not-Same in
    among-cell _ _ _ (room-leaf c.args.depth c.args.modes.now c.args.mode c.args.bounds.now is)

-- ---- fields

pub find_fields-loop-field-init : goal.find_fields-loop-field-init
find_fields-loop-field-init t c = record {
  within = omega arith;
  left = left-begin c.args.modes.now c.args.rows.now.items (rooms_of (room_within c.args.depth c.args.modes.now) (needs_within c.args.depth c.args.modes.now) c.args.fields.now c.args.bounds.now);
}

pub find_fields-loop-field-preserved : goal.find_fields-loop-field-preserved
find_fields-loop-field-preserved t c =
    let make = room_within c.args.depth c.args.modes.now in
    let needs = needs_within c.args.depth c.args.modes.now in
    let more = rooms-more make needs c.args.fields.now c.loop-field.field-index (0, 0) c.args.bounds.now c.loop-field.at c.needs-at.result c.loop-field-test.true c.needs-at.ensures in
    record {
      within = omega arith;
      left = left-on _ _ _ _ _ _ _ _ more (rw (take_rest c.args.bounds.now c.loop-field.at) at c.in_ok-find_room.ensures) c.loop-field.invariant.left;
    }

pub find_fields-returns : goal.find_fields-returns
find_fields-returns t c =
    let make = room_within c.args.depth c.args.modes.now in
    let needs = needs_within c.args.depth c.args.modes.now in
    left-end _ _ _ _ _
    (ap (λ fs. rooms_of make needs fs (drop c.loop-field.at c.args.bounds.now)) (drop_all c.loop-field.field-index c.args.fields.now (omega arith)))
    c.loop-field.invariant.left
