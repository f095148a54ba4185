use Rattle.std.proofs.Common.{◌≡◌, ◌++◌, true, take, drop, map, length}
use Rattle.std.specs.List.{list_all}
use Rattle.a68_acts.specs.Does.{names_within, counted_from}
use Rattle.a68_store.proofs.plans.add_counted.Given as goal

abbrev pub invariant-loop-held : goal.invariant-loop-held
invariant-loop-held l = record {
  made : l.cells.items ≡ l.initial.cells.items ++ map (counted_from l.base) (take l.held-index l.new);
  within : list_all (names_within (length l.new)) (drop l.held-index l.new) ≡ true;
}
