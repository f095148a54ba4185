use Rattle.std.proofs.Common.{◌≡◌, ◌+◌, ◌-◌, ◌≤◌, length, drop, refl, ap, sym, ◌∙◌, arith}
use Rattle.a68_layout.specs.Widths.{width_within, width_of_fields}
use Rattle.a68_modes.specs.Nodes.{shape_at}
use Rattle.a68_modes.specs.declared.shape.Shape.TheVariants.{Struct}
use Rattle.a68_acts.specs.Fetching.{assign_fields, assign_within, has_parts}
use Rattle.a68_steps.proofs.Lasts.{apart_assigned, enough, some_left}
use Rattle.a68_steps.proofs.Parts.{assigned-other, assigned-past, assigned-stray, room-before, some-other, some-past, steps-structure, whole-other, whole-past, width-structure}
use Rattle.a68_steps.specs.Lasts.{last_of, last_ones}
use Rattle.a68_values.specs.Content.{contents_of}
use Rattle.a68_steps.proofs.fetching.+assign.Goals as goal

pub assign_fields-assign_in-requires : goal.assign_fields-assign_in-requires
assign_fields-assign_in-requires t c =
    let f = width_within c.args.depth c.args.modes.now in
    let vs = c.args.values.now in
    let fields = c.args.fields.now in
    let base = length vs - length fields in
    let i = c.loop-left.left - 1 in
    let next : c.loop-left.left ≡ i + 1 = omega (arith, c.loop-left-test.true) in
    let inside : base + c.loop-left.left ≤ length vs = omega (arith, c.requires.some, c.loop-left.invariant.fits) in (
      omega arith,
      (
        some_left vs c.loop-left.values base c.loop-left.left i c.loop-left.invariant.taken next inside,
        (
          room-before f fields i (0, 0) (omega (arith, c.loop-left.invariant.fits, next)) c.loop-left.cell c.args.end
              (ap (λ k. c.loop-left.cell + width_of_fields f (drop k fields)) (sym next) ∙ c.loop-left.invariant.whole) c.requires.room,
          omega (arith, c.loop-left.invariant.whole, c.requires.few),
        ),
      ),
    )

pub assign_in-overflow_sub-result-then-mode-len : goal.assign_in-overflow_sub-result-then-mode-len
assign_in-overflow_sub-result-then-mode-len t c =
    some-past c.args.depth c.args.modes.now c.args.mode c.args.end (omega (arith, c.len.ensures.length, c.if-mode-len.true)) c.requires.room

pub assign_in-returns-then-mode-len-clause-cells : goal.assign_in-returns-then-mode-len-clause-cells
assign_in-returns-then-mode-len-clause-cells t c =
    whole-past c.args.depth c.args.modes.now c.args.mode c.args.end (omega (arith, c.len.ensures.length, c.if-mode-len.true)) c.requires.room

pub assign_in-returns-then-mode-len-clause-steps : goal.assign_in-returns-then-mode-len-clause-steps
assign_in-returns-then-mode-len-clause-steps t c =
    c.in_ok-take_stray-2.ensures.steps
    ∙ assigned-past c.args.depth c.args.modes.now c.args.mode (c.args.end - 1) (last_of c.args.values.now) c.args.steps.now (omega (arith, c.len.ensures.length, c.if-mode-len.true))

pub assign_in-overflow_sub-end : goal.assign_in-overflow_sub-end
assign_in-overflow_sub-end t c =
    some-other c.args.depth c.args.modes.now c.args.mode c.args.end c.shape.result.now c.shape.ensures.shape c.in_default.not-Struct c.in_default.not-Same c.requires.room

pub assign_in-overflow_sub-result-in_default : goal.assign_in-overflow_sub-result-in_default
assign_in-overflow_sub-result-in_default t c =
    some-other c.args.depth c.args.modes.now c.args.mode c.args.end c.shape.result.now c.shape.ensures.shape c.in_default.not-Struct c.in_default.not-Same c.requires.room

pub assign_in-overflow_sub-cell : goal.assign_in-overflow_sub-cell
assign_in-overflow_sub-cell t c =
    let same : c.deref.result.now ≡ c.in-Struct.fields = c.deref.ensures.value ∙ c.fields.view_is in
    let e : Struct c.deref.result.now ≡ shape_at c.args.modes.now c.args.mode = ap (λ fs. Struct fs) same ∙ sym c.in-Struct.is ∙ c.shape.ensures.shape in
    let n = c.args.depth in
    omega (arith, width-structure n (n - 1) c.args.modes.now c.args.mode c.deref.result.now c.if-depth-eq0.false refl e, c.requires.room, c.requires.few, c.fields_width.ensures)

pub assign_in-returns-then-not-branch-clause-steps : goal.assign_in-returns-then-not-branch-clause-steps
assign_in-returns-then-not-branch-clause-steps t c =
    let n = c.args.depth in
    let fields = c.deref.result.now in
    let v = last_of c.args.values.now in
    let same : fields ≡ c.in-Struct.fields = c.deref.ensures.value ∙ c.fields.view_is in
    let e : Struct fields ≡ shape_at c.args.modes.now c.args.mode = ap (λ fs. Struct fs) same ∙ sym c.in-Struct.is ∙ c.shape.ensures.shape in
    let many : c.len-in-Struct.result ≡ length fields = omega (arith, c.len-in-Struct.ensures, c.deref.ensures.len) in
    let stray = c.in_ok-take_apart-in-Struct.ensures.stray c.if-not-branch.true in
    stray.2
    ∙ assigned-stray (assign_within (n - 1) c.args.modes.now) (width_within (n - 1) c.args.modes.now) fields (c.args.end - c.fields_width.result) c.args.steps.now v
    (ap (λ k. has_parts v k) (sym many) ∙ stray.0)
    ∙ steps-structure n (n - 1) c.args.modes.now c.args.mode fields (c.args.end - c.fields_width.result) v c.args.steps.now c.if-depth-eq0.false refl e

pub assign_in-assign_fields-requires : goal.assign_in-assign_fields-requires
assign_in-assign_fields-requires t c =
    let n = c.args.depth in
    let fields = c.deref-in-Struct.result.now in
    let same : fields ≡ c.in-Struct.fields = c.deref-in-Struct.ensures.value ∙ c.fields.view_is in
    let e : Struct fields ≡ shape_at c.args.modes.now c.args.mode = ap (λ fs. Struct fs) same ∙ sym c.in-Struct.is ∙ c.shape.ensures.shape in
    let many : c.len-in-Struct.result ≡ length fields = omega (arith, c.len-in-Struct.ensures, c.deref-in-Struct.ensures.len) in
    let apart = c.in_ok-take_apart-in-Struct.ensures.apart c.if-not-branch.false in (
      omega arith,
      (
        omega (arith, enough c.len-in-Struct.result c.args.values.now c.take_apart.new.values c.requires.some apart.0, many),
        (omega (arith, width-structure n (n - 1) c.args.modes.now c.args.mode fields c.if-depth-eq0.false refl e, c.requires.room), c.requires.few),
      ),
    )

pub assign_in-returns-in_ok-cell-in-Struct-clause-steps : goal.assign_in-returns-in_ok-cell-in-Struct-clause-steps
assign_in-returns-in_ok-cell-in-Struct-clause-steps t c =
    let n = c.args.depth in
    let fields = c.deref-in-Struct.result.now in
    let cell = c.in_ok-cell-in-Struct.cell in
    let F = assign_within (n - 1) c.args.modes.now in
    let f = width_within (n - 1) c.args.modes.now in
    let same : fields ≡ c.in-Struct.fields = c.deref-in-Struct.ensures.value ∙ c.fields.view_is in
    let e : Struct fields ≡ shape_at c.args.modes.now c.args.mode = ap (λ fs. Struct fs) same ∙ sym c.in-Struct.is ∙ c.shape.ensures.shape in
    let many : c.len-in-Struct.result ≡ length fields = omega (arith, c.len-in-Struct.ensures, c.deref-in-Struct.ensures.len) in
    let apart = c.in_ok-take_apart-in-Struct.ensures.apart c.if-not-branch.false in
    let parts = last_ones (length fields) c.take_apart.new.values in
    c.in_ok-cell-in-Struct.ensures.steps
    ∙ ap (λ steps. assign_fields F f fields cell (contents_of parts) steps) apart.1
    ∙ ap (λ k. assign_fields F f fields cell (contents_of (last_ones k c.take_apart.new.values)) c.args.steps.now) (sym many)
    ∙ apart_assigned c.len-in-Struct.result c.args.values.now c.take_apart.new.values c.requires.some apart.0 F f fields cell c.args.steps.now (sym many)
    ∙ steps-structure n (n - 1) c.args.modes.now c.args.mode fields cell (last_of c.args.values.now) c.args.steps.now c.if-depth-eq0.false refl e

pub assign_in-returns-in_ok-take_cell-in_default : goal.assign_in-returns-in_ok-take_cell-in_default
assign_in-returns-in_ok-take_cell-in_default t c =
    record {
      cells = whole-other c.args.depth c.args.modes.now c.args.mode c.args.end c.shape.result.now c.shape.ensures.shape c.in_default.not-Struct c.in_default.not-Same c.requires.room;
      values = c.in_ok-take_cell-in_default.ensures.values;
      steps = c.in_ok-take_cell-in_default.ensures.steps
          ∙ assigned-other c.args.depth c.args.modes.now c.args.mode (c.args.end - 1) c.shape.result.now (last_of c.args.values.now) c.args.steps.now c.if-depth-eq0.false c.shape.ensures.shape
          c.in_default.not-Struct c.in_default.not-Same;
    }
