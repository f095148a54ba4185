use Rattle.std.proofs.Common.{◌≡◌, ◌+◌, ◌≤◌, drop}
use Rattle.a68_yields.specs.Yields.{trimmers}
use Rattle.a68_yields.proofs.told.trimmers.Given as goal

abbrev pub invariant-loop-index : goal.invariant-loop-index
invariant-loop-index l = record {
  counted : l.count + trimmers l.tree (drop l.index-index l.indexes) ≡ trimmers l.tree l.indexes;
  few : l.count ≤ l.index-index;
}
