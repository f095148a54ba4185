use Rattle.std.proofs.Common.{refl}
use Rattle.a68_values.proofs.plain.Plain.scope.Goals as goal

pub returns-in-Routine : goal.returns-in-Routine
returns-in-Routine c = rw c.in-Routine.is refl
