use Rattle.std.proofs.Common.{◌≡◌, take}
use Rattle.a68_layout.specs.Views.{bounds_of}
use Rattle.a68_steps.proofs.elements.bounds_of.Given as goal

abbrev pub invariant-loop-dim : goal.invariant-loop-dim
invariant-loop-dim l = l.items.items ≡ bounds_of (take l.dim-index l.dims)
