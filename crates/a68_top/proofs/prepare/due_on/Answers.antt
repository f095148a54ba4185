use Rattle.std.proofs.Common.{arith}
use Rattle.a68_top.proofs.Second.{holds_of, run_on_whole}
use Rattle.a68_top.proofs.prepare.due_on.Goals as goal

pub returns-clause-answer : goal.returns-clause-answer
returns-clause-answer g c =
    holds_of (g.F.Shelf.under c.args.shelf.now c.args.input.now) 65537 _ _ c.in_ok-bytes.ensures.text
    (run_on_whole 65537 (omega arith) c.args.text.now c.args.means.workers c.args.means.fuel _ _ _) (rw c.as_slice.ensures at c.in_ok-ran_on.ensures.answer)
