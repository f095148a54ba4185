use Rattle.std.proofs.Common.{arith}
use Rattle.std.proofs.lemmas.Grind.{elements}
use Rattle.a68_store.proofs.store.Store.count.Goals as goal

pub returns-in_err-held : goal.returns-in_err-held
returns-in_err-held c = grind (arith, elements)

pub returns : goal.returns
returns c = grind (arith, elements)
