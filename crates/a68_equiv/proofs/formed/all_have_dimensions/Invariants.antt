use Rattle.std.proofs.Common.{◌<◌, ℕ}
use Rattle.a68_modes.specs.Nodes.{shape_at}
use Rattle.a68_equiv.specs.Dimensions.{HasDimensions}
use Rattle.a68_equiv.proofs.formed.all_have_dimensions.Given as goal

abbrev pub invariant-loop-id : goal.invariant-loop-id
invariant-loop-id l = (m : ℕ) → m < l.id → HasDimensions (shape_at l.modes m)
