use Rattle.std.proofs.Common.{◌≤◌, ◌-◌, length}
use Rattle.a68_equiv.specs.Spread.{AreSameModes}
use Rattle.a68_equiv.proofs.Spreading.{Walked}
use Rattle.a68_equiv.proofs.spread.lead.Given as goal

abbrev pub invariant-loop-i : goal.invariant-loop-i
invariant-loop-i l = record {
  walked : Walked l.modes l.start l.found.items l.i;
  known : AreSameModes l.found.items l.known.keys;
  within : l.i ≤ length l.found.items;
}

abbrev pub decreases-loop-i : goal.decreases-loop-i
decreases-loop-i l = length l.modes - l.i
