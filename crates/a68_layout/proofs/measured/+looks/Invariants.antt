use Rattle.std.proofs.Common.{◌+◌, ◌*◌}
use Rattle.a68_layout.proofs.measured.+looks.Given as goal

abbrev pub decreases-looks_left : goal.decreases-looks_left
decreases-looks_left l = 2 * l.depth

abbrev pub decreases-fields_left : goal.decreases-fields_left
decreases-fields_left l = 2 * l.depth + 1
