use Rattle.std.proofs.Common.{arith}
use Rattle.std.proofs.lemmas.Grind.{elements}
use Rattle.a68_acts.specs.Does.{does}
use Rattle.a68_store.proofs.store.Store.assign_copy.Goals as goal

pub returns : goal.returns
unfolding does
returns c = grind (arith, elements)
