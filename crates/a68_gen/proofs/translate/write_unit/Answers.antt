use Rattle.a68_gen.proofs.Generating.{unit_written}
use Rattle.a68_gen.proofs.translate.write_unit.Goals as goal

pub returns-clause-writes : goal.returns-clause-writes
returns-clause-writes c =
    let w0 = c.args.out.now in
    let w1 = c.enter_unit.new.out in
    let w2 = c.write_asked.new.out in
    let w3 = c.emit.new.self in
    unit_written c.args.program.now c.args.node w0.stop w1.stop w2.stop w3.stop w0.list w1.list w2.list w3.list c.enter_unit.ensures.list c.enter_unit.ensures.stop c.write_asked.ensures c.emit.ensures
