use Rattle.a68_declarers.specs.Bounds.{HasWrongBounds, IsFirstOfPlace}
use Rattle.a68_declarers.proofs.Least.{Before}
use Rattle.a68_ranges.specs.Indexed.{IsLeast}
use Rattle.a68_declarers.proofs.bounds.wrong_bounds.Given as goal

abbrev pub invariant-loop-id : goal.invariant-loop-id
invariant-loop-id l = record {
  least : IsLeast l.tree (Before (HasWrongBounds l.tree) l.id) l.found;
  first : IsFirstOfPlace l.tree (Before (HasWrongBounds l.tree) l.id) l.found;
}
