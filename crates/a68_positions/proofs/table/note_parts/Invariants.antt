use Rattle.std.proofs.Common.{◌≡◌, drop}
use Rattle.a68_positions.specs.Positions.{with_parts}
use Rattle.a68_ranges.specs.Nodes.{parts_at}
use Rattle.a68_positions.proofs.table.note_parts.Given as goal

abbrev pub invariant-loop-place : goal.invariant-loop-place
invariant-loop-place l =
    with_parts (record { tree = l.tree; tags = l.tags; of = l.of; defined = l.defined }) l.modes l.asker l.place (drop l.place (parts_at l.tree l.asker.node)) l.positions
    ≡ with_parts (record { tree = l.tree; tags = l.tags; of = l.of; defined = l.defined }) l.modes l.asker 0 (parts_at l.tree l.asker.node) l.initial.positions
