use Rattle.std.proofs.Common.{arith}
use Rattle.a68_ranges.proofs.Declaring.{defining_more}
use Rattle.a68_ranges.proofs.Taking.{read}
use Rattle.a68_ranges.proofs.declared.add_all.Goals as goal

pub loop-part-preserved : goal.loop-part-preserved
loop-part-preserved c =
    defining_more c.args.tree.now c.args.list.now.items c.loop-part.list.items c.add.new.list.items c.args.parts.now c.loop-part.part-index _ (read c.args.parts.now c.loop-part.part-index 0 (omega arith)) c.loop-part.invariant c.in_ok-add.ensures
