use Rattle.std.proofs.Common.{rules}
use Rattle.a68_unit_productions.proofs.units.unit.Goals as goal

pub returns-then-routine_ahead : goal.returns-then-routine_ahead
returns-then-routine_ahead c = search rules
