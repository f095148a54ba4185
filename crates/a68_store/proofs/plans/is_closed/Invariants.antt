use Rattle.std.proofs.Common.{◌≡◌, drop}
use Rattle.std.specs.List.{list_all}
use Rattle.a68_acts.specs.Does.{names_within}
use Rattle.a68_store.proofs.plans.is_closed.Given as goal

abbrev pub invariant-loop-held : goal.invariant-loop-held
invariant-loop-held l = list_all (names_within l.count) (drop l.held-index l.held-items) ≡ list_all (names_within l.count) l.held-items
