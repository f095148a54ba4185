use Rattle.std.proofs.Common.{◌≡◌, take}
use Rattle.a68_modes.specs.Nodes.{standard_shapes}
use Rattle.a68_modes.proofs.modes.Modes.new.Given as goal

abbrev pub invariant-loop-id : goal.invariant-loop-id
invariant-loop-id l = l.items.items ≡ take l.id standard_shapes
