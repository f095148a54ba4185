use Rattle.std.proofs.Common.{arith}
use Rattle.std.proofs.lemmas.Grind.{elements}
use Rattle.a68_acts.specs.Does.{does}
use Rattle.a68_store.proofs.store.Store.fault_of.Goals as goal

pub returns-then-cell-len : goal.returns-then-cell-len
unfolding does
returns-then-cell-len c = grind (arith, elements)

pub returns-else-cell-len : goal.returns-else-cell-len
unfolding does
returns-else-cell-len c = grind (arith, elements)
