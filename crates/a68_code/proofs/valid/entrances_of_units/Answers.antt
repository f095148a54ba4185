use Rattle.std.proofs.Common.{◌<◌, length, arith}
use Rattle.a68_code.proofs.Entering.{units_on}
use Rattle.a68_code.proofs.valid.entrances_of_units.Goals as goal

pub loop-instr-preserved : goal.loop-instr-preserved
loop-instr-preserved c =
    let less : c.loop-instr.instr-index < length c.args.list.now = omega arith in
    units_on c.args.list.now c.loop-instr.instr-index c.instr-item.result c.loop-instr.places.items c.add_forked.new.places.items less c.instr-item.is c.loop-instr.invariant c.in_ok-add_forked.ensures
