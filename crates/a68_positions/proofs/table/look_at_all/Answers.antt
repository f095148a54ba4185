use Rattle.std.proofs.Common.{◌<◌, length, refl, arith}
use Rattle.a68_declare.proofs.Standing.{fifteen}
use Rattle.a68_positions.proofs.Bounds.{start_within}
use Rattle.a68_positions.specs.Positions.{none_yet}
use Rattle.a68_positions.proofs.table.look_at_all.Goals as goal

pub loop-node-init : goal.loop-node-init
loop-node-init c =
    let some : 8 < length c.args.modes.now = omega (arith, fifteen c.args.modes.now c.modes-modes.ensures.holds) in
    record {
      positions = none_yet refl refl c.requires.start;
      below = rw c.requires.start (start_within (length c.args.modes.now) some (length c.args.tree.now.nodes));
      of = c.requires.of;
      defined = c.requires.defined;
      tables = c.requires.tables;
    }
