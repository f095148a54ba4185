use Rattle.std.proofs.Common.{arith}
use Rattle.a68_declarers.proofs.There.{follow_more, parts_read}
use Rattle.a68_declarers.proofs.reading.follow.Goals as goal

pub loop-id-preserved : goal.loop-id-preserved
loop-id-preserved c =
    follow_more c.args.tree.now c.loop-id.id c.parts-parts.result.now (parts_read c.args.tree.now c.loop-id.id c.parts-parts.result.now c.parts-parts.ensures.is) c.parts-parts.ensures.behind c.loop-id.invariant

pub returns : goal.returns
returns c n p part = let l = part.1.0 in c.loop-id.invariant n p (omega arith) part
