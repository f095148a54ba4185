use Rattle.std.proofs.Common.{◌≡◌, drop}
use Rattle.a68_yields.specs.Leaves.{endings}
use Rattle.a68_yields.specs.Yields.{any_unknown}
use Rattle.a68_yields.proofs.told.ends_unknown.Given as goal

abbrev pub invariant-loop-part : goal.invariant-loop-part
invariant-loop-part l = record {
  at : l.place ≡ l.part-index;
  left : any_unknown l.yields (endings l.tree (drop l.part-index l.parts)) ≡ any_unknown l.yields (endings l.tree l.parts);
}
