use Rattle.std.proofs.Common.{◌≤◌, length}
use Rattle.a68_ranges.specs.Parents.{HaveParts}
use Rattle.a68_ranges.proofs.nests.note_parts.Given as goal

abbrev pub invariant-places : goal.invariant-places
invariant-places l = record {
  within : l.place ≤ length l.parts;
  have : HaveParts l.parts l.node l.place l.fn.parents.items l.parents.items;
}

abbrev pub decreases-places : goal.decreases-places
decreases-places l = l.place
