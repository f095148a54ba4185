use Rattle.std.proofs.Common.{◌≡◌, ◌++◌, take}
use Rattle.a68_store.proofs.plans.add_copies.Given as goal

abbrev pub invariant-loop-held : goal.invariant-loop-held
invariant-loop-held l = l.cells.items ≡ l.initial.cells.items ++ take l.held-index l.new
