use Rattle.std.proofs.Common.{◌≡◌, ◌∙◌, ◌*◌, arith}
use Rattle.std.proofs.lemmas.Result.{err_from_is_err_and}
use Rattle.a68_layout.proofs.Made.{row-made, row-there, row-stop, any-width}
use Rattle.a68_layout.specs.Widths.{cells_of, elements_of}
use Rattle.a68_layout.proofs.making.make_row_cell.Goals as goal

pub returns-in_err-row : goal.returns-in_err-row
returns-in_err-row c =
    let p = err_from_is_err_and c.from_residual.result c.from_residual.ensures.1 in
    λ elements.
    rw (p.1, p.2)
    (row-stop c.in_err-row.field-0.0 c.args.made.now.cells.items c.args.made.now.next (cells_of c.args.modes.now c.args.mode) c.element_width-width.result c.args.bounds.now elements
    c.element_width-width.ensures c.in_err-row.ensures.fault)

pub returns : goal.returns
returns c =
    let bounds = c.args.bounds.now in
    let w = cells_of c.args.modes.now c.args.mode in
    let e = row-made c.args.made.now.next c.element_width-width.result bounds c.in_ok-row.row c.in_ok-row.ensures.row in
    let width = c.element_width-width.ensures in
    let product : c.element_width-width.result * elements_of bounds ≡ w * elements_of bounds = rw width (any-width w (elements_of bounds)) in
    λ elements. (
      c.in_ok-push.ensures.items ∙ row-there c.args.made.now.cells.items c.args.made.now.next w c.element_width-width.result bounds elements c.in_ok-row.row width e.1,
      omega (arith, product, e.0, c.behind_row-made.ensures),
      λ few. omega (arith, e.0, c.behind_row-made.ensures),
    )
