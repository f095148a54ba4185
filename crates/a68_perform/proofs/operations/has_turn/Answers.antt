use Rattle.std.proofs.Common.{rules, tests}
use Rattle.a68_acts.specs.Operations.{has_turn}
use Rattle.a68_perform.proofs.operations.has_turn.Goals as goal

pub returns-after-is_above : goal.returns-after-is_above
unfolding has_turn
returns-after-is_above c = search (tests, rules)
