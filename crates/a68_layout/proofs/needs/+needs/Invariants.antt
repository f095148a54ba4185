use Rattle.std.proofs.Common.{◌≡◌, ◌+◌, ◌*◌, ◌≤◌, min, drop}
use Rattle.a68_layout.specs.Rooms.{needs_within, needs_of_fields}
use Rattle.a68_layout.proofs.needs.+needs.Given as goal

abbrev pub decreases-needs : goal.decreases-needs
decreases-needs l = 2 * l.depth

abbrev pub decreases-fields_need : goal.decreases-fields_need
decreases-fields_need l = 2 * l.depth + 1

abbrev pub invariant-fields_need-loop-field : goal.invariant-fields_need-loop-field
invariant-fields_need-loop-field l = record {
  fits : l.all ≤ l.most;
  sum : min l.most (l.all + needs_of_fields (needs_within l.depth l.modes) (drop l.field-index l.fields)) ≡ min l.most (needs_of_fields (needs_within l.depth l.modes) l.fields);
}
