use Rattle.std.proofs.Common.{length, ◌-◌, ◌≡◌, ◌≤◌}
use Rattle.std.specs.Io.KnownBytes.{prepend_known}
use Rattle.a68_outside.proofs.transfer.read_at_most.Given as goal

abbrev pub invariant-loop-buf : goal.invariant-loop-buf
invariant-loop-buf g l = record {
  within : length l.items.items ≤ l.most;
  read : g.F.Shelf.left l.fn.shelf ≡ prepend_known l.items.items (g.F.Shelf.left l.shelf);
  under : g.F.Shelf.under l.shelf ≡ g.F.Shelf.under l.fn.shelf;
  faults : g.F.Shelf.faults l.shelf ≡ g.F.Shelf.faults l.fn.shelf;
}

abbrev pub decreases-loop-buf : goal.decreases-loop-buf
decreases-loop-buf g l = l.most - length l.items.items
