use Rattle.std.proofs.Common.{◌≡◌, drop}
use Rattle.a68_definitions.specs.Defined.{with_parameters}
use Rattle.a68_definitions.proofs.defined.note_parameters.Given as goal

abbrev pub invariant-loop-part : goal.invariant-loop-part
invariant-loop-part l = with_parameters l.tree l.of l.before (drop l.part-index l.parts) l.table ≡ with_parameters l.tree l.of 0 l.parts l.initial.table
