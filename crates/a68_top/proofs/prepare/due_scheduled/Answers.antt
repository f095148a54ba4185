use Rattle.std.proofs.Common.{arith}
use Rattle.a68_top.proofs.Second.{holds_of, replayed_whole}
use Rattle.a68_top.proofs.prepare.due_scheduled.Goals as goal

pub returns-in_ok-replayed-in-Ok-clause-answer : goal.returns-in_ok-replayed-in-Ok-clause-answer
returns-in_ok-replayed-in-Ok-clause-answer g c =
    holds_of (g.F.Shelf.under c.args.shelf.now c.args.schedule.now) 8388609 c.in-Ok.bytes _ c.in-Ok.ensures.text
    (replayed_whole 8388609 (omega arith) c.args.made _ _ _) (rw c.as_slice.ensures at c.in_ok-replayed-in-Ok.ensures.answer)
