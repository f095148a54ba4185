use Rattle.a68_equiv.specs.Classes.{AreKept}
use Rattle.a68_equiv.specs.Ways.{AreWellFormed}
use Rattle.a68_equiv_tests.proofs.equiv.intern_all.Given as goal

abbrev pub invariant-rows : goal.invariant-rows
invariant-rows g l = record {
  formed : AreWellFormed l.modes;
  kept : AreKept l.modes l.classes;
}
