use Rattle.std.proofs.Common.{◌≡◌, drop}
use Rattle.a68_yields.specs.Leaves.{unspecified}
use Rattle.a68_yields.specs.Yields.{any_unknown}
use Rattle.a68_yields.proofs.told.any_unknown.Given as goal

abbrev pub invariant-loop-part : goal.invariant-loop-part
invariant-loop-part l = any_unknown l.yields (unspecified l.tree (drop l.part-index l.parts)) ≡ any_unknown l.yields (unspecified l.tree l.parts)
