use Rattle.std.proofs.Common.{refl}
use Rattle.a68_base.proofs.status.Status.number.Goals as goal

pub returns-in-Fault : goal.returns-in-Fault
returns-in-Fault c = rw c.in-Fault.is refl
