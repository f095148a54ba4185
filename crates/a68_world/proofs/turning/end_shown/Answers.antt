use Rattle.std.proofs.Common.{sym, ◌∙◌}
use Rattle.a68_world.proofs.turning.end_shown.Goals as goal

pub returns-then-turn_at : goal.returns-then-turn_at
returns-then-turn_at c = (sym c.has_ended.ensures ∙ c.if-has_ended.false, (c.args.n, sym c.turn_at.ensures ∙ c.if-turn_at.true))
