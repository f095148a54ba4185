use Rattle.a68_ranges.specs.Indexed.{IsLeast, IsLateBefore, AreIndexed}
use Rattle.a68_ranges.proofs.index.note_all.Given as goal

abbrev pub invariant-loop-range : goal.invariant-loop-range
invariant-loop-range l = record {
  indexed : AreIndexed l.tree l.sort l.index.entries l.range;
  least : IsLeast l.tree (IsLateBefore l.tree l.sort l.range) l.late;
}
