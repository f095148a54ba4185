use Rattle.std.proofs.Common.{◌≤◌, ◌+◌, arith}
use Rattle.a68_layout.specs.Widths.{most_cells}
use Rattle.a68_layout.proofs.Spreads.{few_at}
use Rattle.a68_layout.proofs.spreading.add_moved.Goals as goal

pub overflow_add-cell : goal.overflow_add-cell
overflow_add-cell c =
    let few : c.index.result.now + c.args.by ≤ most_cells =
    few_at c.args.cells.now.items _ c.loop-i.cells.items c.loop-i.i c.args.count c.index.result.now c.args.by c.loop-i.invariant (omega arith) c.requires.there
    c.index.ensures c.requires.few in
    omega arith
