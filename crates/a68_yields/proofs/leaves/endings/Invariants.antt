use Rattle.std.proofs.Common.{◌≡◌, ◌++◌, drop}
use Rattle.a68_yields.specs.Leaves.{endings}
use Rattle.a68_yields.proofs.leaves.endings.Given as goal

abbrev pub invariant-loop-part : goal.invariant-loop-part
invariant-loop-part l = record {
  at : l.place ≡ l.part-index;
  found : l.items.items ++ endings l.tree (drop l.part-index l.parts) ≡ endings l.tree l.parts;
}
