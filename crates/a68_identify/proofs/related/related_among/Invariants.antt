use Rattle.a68_identify.specs.Operators.{IsRelatedBefore}
use Rattle.a68_ranges.specs.Indexed.{IsLeast}
use Rattle.a68_identify.proofs.related.related_among.Given as goal

abbrev pub invariant-loop-range : goal.invariant-loop-range
invariant-loop-range l = IsLeast l.tree (IsRelatedBefore l.tree l.modes l.of.of l.range) l.found
