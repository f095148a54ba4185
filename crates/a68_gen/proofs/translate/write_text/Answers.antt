use Rattle.std.proofs.Common.{length}
use Rattle.a68_elab.specs.Programs.{asked_tree, body_yields}
use Rattle.a68_emit.specs.Listing.{stretch}
use Rattle.a68_emit.specs.Writing.{Writes}
use Rattle.a68_gen.proofs.Generating.{text_written}
use Rattle.a68_gen.proofs.translate.write_text.Goals as goal

pub returns-clause-writes : goal.returns-clause-writes
returns-clause-writes c =
    let w0 = c.args.out.now in
    let w1 = c.enter_text.new.out in
    let w2 = c.write_asked.new.out in
    let w3 = c.emit.new.self in
    let tree : Writes w1.stop w2.stop w1.list w2.list (stretch (asked_tree c.args.program.now (body_yields c.args.program.now c.args.id) c.body.result) (length w1.list)) = rw c.yields-wanted.ensures at c.write_asked.ensures in
    text_written c.args.program.now c.args.id c.body.result c.node.result.now w0.stop w1.stop w2.stop w3.stop w0.list w1.list w2.list w3.list c.node.ensures.is c.body.ensures.last
    c.enter_text.ensures.list c.enter_text.ensures.stop tree c.emit.ensures
