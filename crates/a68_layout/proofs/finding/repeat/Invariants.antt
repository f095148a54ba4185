use Rattle.std.proofs.Common.{◌≤◌, List, []}
use Rattle.a68_layout.specs.Rooms.{Room, copies}
use Rattle.a68_layout.specs.Wanting.{AreAmong}
use Rattle.a68_layout.proofs.Founds.{IsLeft}
use Rattle.a68_layout.proofs.finding.repeat.Given as goal
use Rattle.a68_modes.specs.declared.shape.Shape.{Shape}

abbrev pub invariant-loop-left : goal.invariant-loop-left
invariant-loop-left l = record {
  within : l.left ≤ l.count;
  left : (modes : List Shape) (r : Room) → AreAmong modes [] l.one r → IsLeft modes l.rows.items (copies l.left r) l.fn.rows.items (copies l.count r);
}

abbrev pub decreases-loop-left : goal.decreases-loop-left
decreases-loop-left l = l.left
