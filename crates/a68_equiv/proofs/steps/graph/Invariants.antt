use Rattle.std.proofs.Common.{◌≡◌, take}
use Rattle.std.specs.Prelude.{map}
use Rattle.a68_equiv.specs.Ways.{steps_of}
use Rattle.a68_equiv.proofs.steps.graph.Given as goal

abbrev pub invariant-loop-id : goal.invariant-loop-id
invariant-loop-id l = l.graph.items ≡ map (steps_of l.which) (take l.id l.modes)
