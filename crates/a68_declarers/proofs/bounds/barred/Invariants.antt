use Rattle.std.proofs.Common.{◌-◌, length}
use Rattle.a68_declarers.specs.Bounds.{AreBarred}
use Rattle.a68_declarers.proofs.bounds.barred.Given as goal

abbrev pub invariant-loop-done : goal.invariant-loop-done
invariant-loop-done l = AreBarred l.tree (length l.tree.nodes - l.done) l.marks.items
