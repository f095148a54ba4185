use Rattle.std.proofs.Common.{◌≡◌, sym, ap, ◌∙◌, arith, rules, pos, map, get_or, w64, to_z, of_z}
use Rattle.std.proofs.lemmas.Bool.{cond-true, cond-false, lt-ltb, le-ltb}
use Rattle.std.proofs.lemmas.Int.{to_z-of_z}
use Rattle.std.proofs.lemmas.Result.{err_from_is_err_and}
use Rattle.a68_layout.specs.Stretches.{found}
use Rattle.a68_layout.specs.Views.{seen_from}
use Rattle.a68_layout.specs.Widths.{most_cells}
use Rattle.a68_layout.specs.declared.types.Trim.TheVariants.{At}
use Rattle.a68_layout.proofs.Seeing.{found-capped, next_found, one_found, none_found, all_found, found_few, found_many}
use Rattle.a68_layout.proofs.views.found.Goals as goal

pub loop-i-init : goal.loop-i-init
loop-i-init c = rw c.min-cell.ensures (found-capped c.args.cell (seen_from c.args.dims.now (map (λ k. At k) c.args.at.now)))

pub returns-then-i-at : goal.returns-then-i-at
returns-then-i-at c =
    found_few c.loop-i.cell c.args.dims.now c.args.at.now c.loop-i.i (record { lower = pos 0; upper = pos 0; stride = 0 }) (omega arith) (omega arith)
    ∙ c.loop-i.invariant

pub returns-in_err-cell : goal.returns-in_err-cell
returns-in_err-cell c =
    let p = err_from_is_err_and c.from_residual.result c.from_residual.ensures.1 in
    let at = get_or c.args.at.now c.loop-i.i (pos 0) in
    let same : to_z w64 (of_z w64 at) ≡ at = to_z-of_z w64 at (search rules) in
    let next = next_found c.args.dims.now c.args.at.now c.loop-i.i (record { lower = pos 0; upper = pos 0; stride = 0 }) (pos 0) (omega arith) (omega arith) in
    rw (p.1, p.2) (none_found c.loop-i.cell _ at _ _ (rw same at c.in_err-cell.ensures) ∙ ap (found c.loop-i.cell) (sym next) ∙ c.loop-i.invariant)

pub loop-i-preserved : goal.loop-i-preserved
loop-i-preserved c =
    let at = get_or c.args.at.now c.loop-i.i (pos 0) in
    let same : to_z w64 (of_z w64 at) ≡ at = to_z-of_z w64 at (search rules) in
    let next = next_found c.args.dims.now c.args.at.now c.loop-i.i (record { lower = pos 0; upper = pos 0; stride = 0 }) (pos 0) (omega arith) (omega arith) in
    one_found c.loop-i.cell c.in_ok-cell.cell _ at _ (rw same at c.in_ok-cell.ensures) ∙ ap (found c.loop-i.cell) (sym next) ∙ c.loop-i.invariant

pub returns-then-dims-at : goal.returns-then-dims-at
returns-then-dims-at c =
    found_many c.loop-i.cell c.args.dims.now c.args.at.now c.loop-i.i (pos 0) (omega arith) (omega arith) ∙ c.loop-i.invariant

pub returns-then-cell-gt-MOST_COUNTED : goal.returns-then-cell-gt-MOST_COUNTED
returns-then-cell-gt-MOST_COUNTED c =
    sym (cond-true _ _ _ (lt-ltb most_cells c.loop-i.cell (omega arith)))
    ∙ sym (all_found c.loop-i.cell c.args.dims.now c.args.at.now c.loop-i.i (omega arith) (omega arith)) ∙ c.loop-i.invariant

pub returns : goal.returns
returns c =
    sym (cond-false _ _ _ (le-ltb most_cells c.loop-i.cell (omega arith)))
    ∙ sym (all_found c.loop-i.cell c.args.dims.now c.args.at.now c.loop-i.i (omega arith) (omega arith)) ∙ c.loop-i.invariant
