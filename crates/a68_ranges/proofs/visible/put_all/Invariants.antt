use Rattle.std.proofs.Common.{◌≤◌, length, drop}
use Rattle.a68_ranges.specs.Tables.{first_named}
use Rattle.a68_ranges.specs.Visible.{IsOver}
use Rattle.a68_ranges.proofs.visible.put_all.Given as goal

abbrev pub invariant-places : goal.invariant-places
invariant-places l = record {
  within : l.place ≤ length l.list;
  over : IsOver l.fn.maps l.maps l.fn.outer l.map (λ name. first_named l.tree l.sort name (drop l.place l.list));
}

abbrev pub decreases-places : goal.decreases-places
decreases-places l = l.place
