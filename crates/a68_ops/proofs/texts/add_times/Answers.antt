use Rattle.std.proofs.Common.{map}
use Rattle.a68_ops.specs.Texts.{code_of}
use Rattle.a68_ops.proofs.Chars.{added_more}
use Rattle.a68_ops.proofs.texts.add_times.Goals as goal

pub loop-turn-preserved : goal.loop-turn-preserved
loop-turn-preserved c =
    added_more _ _ _ c.loop-turn._turn (map code_of c.args.more.now) c.loop-turn.invariant c.in_ok-add.ensures
