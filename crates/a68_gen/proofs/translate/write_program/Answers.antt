use Rattle.a68_gen.proofs.Generating.{program_written}
use Rattle.a68_gen.proofs.translate.write_program.Goals as goal

pub returns : goal.returns
returns c =
    let w0 = c.args.out.now in
    let w1 = c.write_asked.new.out in
    let w2 = c.emit.new.self in
    program_written c.args.program.now c.root-root.result c.node.result.now w0.stop w1.stop w2.stop w0.list w1.list w2.list c.root-root.ensures.first c.node.ensures.is c.write_asked.ensures c.emit.ensures
