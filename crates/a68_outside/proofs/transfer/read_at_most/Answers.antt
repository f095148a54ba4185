use Rattle.std.proofs.Common.{◌<◌, length, arith, ◌∙◌}
use Rattle.std.proofs.lemmas.List.{length-take}
use Rattle.a68_outside.proofs.Pieces.{read_all, read_most}
use Rattle.a68_outside.proofs.transfer.read_at_most.Goals as goal

pub returns-in_default-clause-names : goal.returns-in_default-clause-names
returns-in_default-clause-names g c = c.read.ensures.names ∙ c.loop-buf.invariant.under

pub returns-in_default-clause-later : goal.returns-in_default-clause-later
returns-in_default-clause-later g c = rw (← c.loop-buf.invariant.faults) c.read.ensures.cause.later

pub returns-then-count-eq0-clause-bytes : goal.returns-then-count-eq0-clause-bytes
returns-then-count-eq0-clause-bytes g c =
    let room : 0 < length c.read.new.buf = omega (arith, c.read.auto.buf, length-take c.min-room.result c.loop-buf.buf) in
    read_all _ _ _ _ c.loop-buf.invariant.read (c.in-Ok.ensures.bytes.1 c.if-count-eq0.true room) c.loop-buf.invariant.within

pub returns-clause-bytes : goal.returns-clause-bytes
returns-clause-bytes g c = read_most _ _ _ _ c.loop-buf.invariant.read (omega arith)
