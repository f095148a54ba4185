use Rattle.std.proofs.Common.{◌≡◌, drop, max}
use Rattle.a68_values.specs.Content.{newest_scope}
use Rattle.a68_values.proofs.value.+scope.Given as goal

abbrev pub invariant-Values::scope-loop-part : goal.invariant-Values::scope-loop-part
invariant-Values::scope-loop-part l = max l.newest (newest_scope (drop l.part-index l.part-items)) ≡ newest_scope l.part-items
