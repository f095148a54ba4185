use Rattle.std.proofs.Common.{◌≡◌, drop}
use Rattle.a68_values.specs.Content.{contents_of}
use Rattle.a68_ops.specs.Yields.{some_unset}
use Rattle.a68_ops.proofs.unset.+unset.Given as goal

abbrev pub invariant-some_unset-loop-part : goal.invariant-some_unset-loop-part
invariant-some_unset-loop-part l = some_unset (contents_of (drop l.part-index l.part-items)) ≡ some_unset (contents_of l.part-items)
