use Rattle.std.proofs.Common.{◌≡◌, ◌++◌, drop}
use Rattle.a68_yields.specs.Leaves.{unspecified, behind_first}
use Rattle.a68_yields.proofs.leaves.choices.Given as goal

abbrev pub invariant-loop-part : goal.invariant-loop-part
invariant-loop-part l = l.items.items ++ unspecified l.tree (drop l.part-index (behind_first l.parts)) ≡ unspecified l.tree (behind_first l.parts)
