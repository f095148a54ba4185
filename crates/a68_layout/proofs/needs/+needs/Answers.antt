use Rattle.std.proofs.Common.{◌∙◌, sym, arith}
use Rattle.a68_layout.proofs.Leaves.{leaf, leaf-past, needs-leaf, needs-row}
use Rattle.a68_layout.proofs.needs.+needs.Goals as goal

pub needs-returns-then-mode-len : goal.needs-returns-then-mode-len
needs-returns-then-mode-len t c =
    needs-leaf c.args.most c.args.depth c.args.modes.now c.args.mode (leaf-past c.args.modes.now c.args.mode (omega (arith, c.len.ensures.length, c.if-mode-len.true)))

pub needs-returns-in-Rows : goal.needs-returns-in-Rows
needs-returns-in-Rows t c =
    let whole = needs-row c.args.depth c.args.modes.now c.args.mode c.in-Rows.dims c.in-Rows.flex c.in-Rows.of c.if-depth-eq0.false (sym c.in-Rows.is ∙ c.shape.ensures.shape) in
    omega (arith, whole, c.needs-inner.ensures, c.saturating_add.ensures, c.min-in-Rows.ensures)

pub needs-returns-in_default-shape : goal.needs-returns-in_default-shape
needs-returns-in_default-shape t c =
    needs-leaf c.args.most c.args.depth c.args.modes.now c.args.mode
    (leaf c.args.modes.now c.args.mode c.shape.result.now c.shape.ensures.shape c.in_default-shape.not-Rows c.in_default-shape.not-Struct c.in_default-shape.not-Same)
