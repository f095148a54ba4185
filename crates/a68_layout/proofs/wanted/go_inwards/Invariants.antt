use Rattle.a68_layout.specs.Wanting.{AreAt, IsMade, rooms_in}
use Rattle.a68_layout.proofs.wanted.go_inwards.Given as goal

abbrev pub invariant-loop-level : goal.invariant-loop-level
invariant-loop-level l = record {
  rows : AreAt l.modes l.level (rooms_in l.modes l.wanted) l.rows.items;
  cells : IsMade l.modes l.level (rooms_in l.modes l.wanted) l.made.cells.items;
}
