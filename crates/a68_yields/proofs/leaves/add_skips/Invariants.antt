use Rattle.std.proofs.Common.{◌≡◌, ◌++◌, replicate}
use Rattle.a68_coerce.specs.declared.leaf.Leaf.TheVariants as leaf
use Rattle.a68_yields.proofs.leaves.add_skips.Given as goal

abbrev pub invariant-loop : goal.invariant-loop
invariant-loop l = l.found.items ≡ l.initial.found.items ++ replicate l.counter leaf.StrongOnly
