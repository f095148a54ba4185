use Rattle.std.proofs.Common.{◌≡◌, drop}
use Rattle.a68_yields.specs.Leaves.{has_exit}
use Rattle.a68_yields.proofs.told.has_exit.Given as goal

abbrev pub invariant-loop-part : goal.invariant-loop-part
invariant-loop-part l = has_exit l.tree (drop l.part-index l.parts) ≡ has_exit l.tree l.parts
