use Rattle.std.proofs.Common.{rules}
use Rattle.a68_unit_productions.proofs.units.serial.Goals as goal

pub returns-else-phrase_ahead : goal.returns-else-phrase_ahead
returns-else-phrase_ahead c = search rules
