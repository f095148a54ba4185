use Rattle.std.proofs.Common.{◌≡◌, ◌≤◌, ◌++◌, drop, length}
use Rattle.std.specs.Prelude.{map}
use Rattle.a68_elab.specs.Made as made
use Rattle.a68_runs.specs.Bounds.{seen_from}
use Rattle.a68_runs.specs.Opens.{marks_within}
use Rattle.a68_runs.proofs.bounds.add_rows.Given as goal

-- with the rest of the parts, the bounds of all are there
abbrev pub invariant-loop-part : goal.invariant-loop-part
invariant-loop-part l =
    let rows = made.row_bounds l.program (made.bounds_within l.depth l.program) in
    let marks = made.row_bounds l.program (marks_within l.depth l.program) in
    (l.bounds.items ++ map (seen_from l.frames) (rows (drop l.part-index l.parts)) ≡ l.initial.bounds.items ++ map (seen_from l.frames) (rows l.parts))
    × (length (marks (drop l.part-index l.parts)) ≤ length (marks l.parts))
    × (l.opens ≡ l.initial.opens)
