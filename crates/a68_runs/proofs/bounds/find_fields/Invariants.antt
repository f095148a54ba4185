use Rattle.std.proofs.Common.{◌≡◌, ◌+◌, ◌++◌, [], drop, length}
use Rattle.std.specs.Option.{option_map_or}
use Rattle.std.specs.Prelude.{map}
use Rattle.a68_elab.specs.Made as made
use Rattle.a68_runs.specs.Bounds.{seen_from}
use Rattle.a68_runs.specs.Opens.{all_of, looks_of, marks_within}
use Rattle.a68_runs.proofs.bounds.find_fields.Given as goal

-- with the rest of the parts, the declarers of all fields are there
abbrev pub invariant-loop-part : goal.invariant-loop-part
invariant-loop-part l =
    let inner = made.bounds_within l.depth l.program in
    let marks = marks_within l.depth l.program in
    (all_of l.program l.found.items ++ map (seen_from l.frames) (made.field_bounds l.program inner (option_map_or inner l.last []) (drop l.part-index l.parts))
    ≡ map (seen_from l.frames) (made.field_bounds l.program inner [] l.parts))
    × (looks_of l.program l.found.items + length (made.field_bounds l.program marks (option_map_or marks l.last []) (drop l.part-index l.parts))
    ≡ length (made.field_bounds l.program marks [] l.parts))
