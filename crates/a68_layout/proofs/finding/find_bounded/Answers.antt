use Rattle.a68_layout.specs.Rooms.{room_within}
use Rattle.a68_layout.specs.Widths.{cells_of}
use Rattle.a68_layout.proofs.Founds.{behind-bounded}
use Rattle.a68_layout.proofs.finding.find_bounded.Goals as goal

pub returns : goal.returns
returns c =
    behind-bounded c.args.modes.now _ _ c.min-dims.result c.args.dims c.elements-count.result c.args.bounds.now (room_within c.args.depth c.args.modes.now c.args.mode)
    (cells_of c.args.modes.now c.args.mode) c.min-dims.ensures c.elements-count.ensures c.requires c.in_ok-find_copies.ensures
