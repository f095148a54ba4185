use Rattle.std.proofs.Common.{drop}
use Rattle.a68_layout.specs.Rooms.{room_for_within, elements_for}
use Rattle.a68_layout.proofs.Founds.{IsLeft}
use Rattle.a68_values.specs.Content.{contents_of}
use Rattle.a68_layout.proofs.finding.find_elements.Given as goal

abbrev pub invariant-loop-value : goal.invariant-loop-value
invariant-loop-value l =
    IsLeft l.modes l.rows.items (elements_for (room_for_within l.depth l.modes l.mode) (contents_of (drop l.value-index l.values)))
    l.fn.rows.items (elements_for (room_for_within l.depth l.modes l.mode) (contents_of l.values))
