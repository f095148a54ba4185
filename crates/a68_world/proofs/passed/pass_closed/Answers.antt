use Rattle.std.proofs.Common.{sym, ◌∙◌}
use Rattle.a68_world.proofs.Marking.{passes_by}
use Rattle.a68_world.proofs.passed.pass_closed.Goals as goal

pub returns-then-closed_at : goal.returns-then-closed_at
returns-then-closed_at c = passes_by c.args.passed.now c.mark-marked.new.self c.args.seats.now c.args.n c.mark-marked.result c.mark-marked.ensures (sym c.closed_at.ensures ∙ c.if-closed_at.true)
