use Rattle.a68_identify.specs.Operators.{IsRelatedIn}
use Rattle.a68_ranges.specs.Indexed.{IsLeast}
use Rattle.a68_identify.proofs.related.related_in.Given as goal

abbrev pub invariant-loop-place : goal.invariant-loop-place
invariant-loop-place l = IsLeast l.tree (IsRelatedIn l.tree l.modes l.of.of l.list l.place) l.found
