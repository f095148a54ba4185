use Rattle.std.proofs.Common.{◌≡◌, ◌∙◌, drop, ap, sym, arith}
use Rattle.std.proofs.lemmas.List.{drop_all}
use Rattle.a68_modes.specs.Nodes.{shape_at}
use Rattle.a68_modes.specs.declared.shape.Shape.TheVariants.{Struct}
use Rattle.a68_layout.specs.Rooms.{room_for_within, parts_for}
use Rattle.a68_layout.proofs.Founds.{room_for-zero, room_for-same, among-cell, among-row, among-same, left-begin, left-on, left-end}
use Rattle.a68_layout.proofs.Inwards.{room_for-leaf, room_for-row, room_for-structure, no-parts, parts-more}
use Rattle.a68_layout.proofs.Leaves.{leaf, leaf-past}
use Rattle.a68_values.specs.Content.{contents_of}
use Rattle.a68_layout.proofs.finding.+find_value.Goals as goal

pub find_value-returns-then-depth-eq0 : goal.find_value-returns-then-depth-eq0
find_value-returns-then-depth-eq0 t c = among-cell _ _ _ (room_for-zero c.args.depth c.args.modes.now c.args.mode c.args.value.now c.if-depth-eq0.true)

pub find_value-returns-then-mode-len : goal.find_value-returns-then-mode-len
find_value-returns-then-mode-len t c =
    let is = leaf-past c.args.modes.now c.args.mode (omega (arith, c.len.ensures.length, c.if-mode-len.true)) in
    among-cell _ _ _ (room_for-leaf c.args.depth c.args.modes.now c.args.mode c.args.value.now is)

pub find_value-returns-in_ok-push-in-Rows : goal.find_value-returns-in_ok-push-in-Rows
find_value-returns-in_ok-push-in-Rows t c =
    let is = sym c.in-Rows.is ∙ c.shape.ensures.shape in
    among-row _ _ _ _ _ c.in_ok-push-in-Rows.ensures.items
    (room_for-row c.args.depth c.args.modes.now c.args.mode c.in-Rows.dims c.in-Rows.flex c.in-Rows.of c.args.value.now c.if-depth-eq0.false is)

pub find_value-returns-in_ok-find_structure-in-Struct : goal.find_value-returns-in_ok-find_structure-in-Struct
find_value-returns-in_ok-find_structure-in-Struct t c =
    let same : c.deref.result.now ≡ c.in-Struct.fields = c.deref.ensures.value ∙ c.fields.view_is in
    let is : Struct c.deref.result.now ≡ shape_at c.args.modes.now c.args.mode = ap (λ fs. Struct fs) same ∙ sym c.in-Struct.is ∙ c.shape.ensures.shape in
    among-same _ _ _ _ _ (room_for-structure c.args.depth c.args.modes.now c.args.mode c.deref.result.now c.args.value.now c.if-depth-eq0.false is) c.in_ok-find_structure-in-Struct.ensures

pub find_value-returns-in_ok-find_value-in-Same : goal.find_value-returns-in_ok-find_value-in-Same
find_value-returns-in_ok-find_value-in-Same t c =
    let is = sym c.in-Same.is ∙ c.shape.ensures.shape in
    among-same _ _ _ _ _ (room_for-same c.args.depth c.args.modes.now c.args.mode c.in-Same.mode c.args.value.now c.if-depth-eq0.false is) c.in_ok-find_value-in-Same.ensures

pub find_value-returns-in_default : goal.find_value-returns-in_default
find_value-returns-in_default t c =
    let is = leaf c.args.modes.now c.args.mode c.shape.result.now c.shape.ensures.shape c.in_default.not-Rows c.in_default.not-Struct c.in_default.not-Same in
    among-cell _ _ _ (room_for-leaf c.args.depth c.args.modes.now c.args.mode c.args.value.now is)

-- ---- parts

pub find_parts-loop-i-init : goal.find_parts-loop-i-init
find_parts-loop-i-init t c = left-begin c.args.modes.now c.args.rows.now.items (parts_for (room_for_within c.args.depth c.args.modes.now) c.args.fields.now (contents_of c.args.values.now))

pub find_parts-returns-then-i-values : goal.find_parts-returns-then-i-values
find_parts-returns-then-i-values t c =
    let none = no-parts (room_for_within c.args.depth c.args.modes.now) c.args.fields.now c.args.values.now c.loop-i.i c.if-i-values.true in
    left-end _ _ _ _ _ none c.loop-i.invariant

pub find_parts-loop-i-preserved : goal.find_parts-loop-i-preserved
find_parts-loop-i-preserved t c =
    let more = parts-more (room_for_within c.args.depth c.args.modes.now) c.args.fields.now c.args.values.now c.loop-i.i (0, 0) c.index-values-i.result c.loop-i-test.true c.if-i-values.false
    c.index-values-i.is in
    left-on _ _ _ _ _ _ _ _ more c.in_ok-find_value.ensures c.loop-i.invariant

pub find_parts-returns : goal.find_parts-returns
find_parts-returns t c =
    let make = room_for_within c.args.depth c.args.modes.now in
    left-end _ _ _ _ _
    (ap (λ fs. parts_for make fs (contents_of (drop c.loop-i.i c.args.values.now))) (drop_all c.loop-i.i c.args.fields.now (omega arith))) c.loop-i.invariant
