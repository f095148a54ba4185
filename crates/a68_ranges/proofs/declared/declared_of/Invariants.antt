use Rattle.a68_ranges.specs.Definitions.{AreDeclared}
use Rattle.a68_ranges.proofs.declared.declared_of.Given as goal

abbrev pub invariant-loop-range : goal.invariant-loop-range
invariant-loop-range l = AreDeclared l.tree l.range l.declared.items
