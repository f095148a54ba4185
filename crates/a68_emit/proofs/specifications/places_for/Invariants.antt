use Rattle.std.proofs.Common.{◌≡◌, ◌++◌, drop}
use Rattle.a68_elab.specs.Made.{specs_of}
use Rattle.a68_elab.specs.Programs.{behind}
use Rattle.a68_emit.specs.Stretches.{member_places}
use Rattle.a68_emit.specs.Views.{tree_of}
use Rattle.a68_emit.proofs.specifications.places_for.Given as goal

-- with the places of the other members, those of all are there
abbrev pub invariant-loop-member : goal.invariant-loop-member
invariant-loop-member l =
    l.places.items ++ member_places (drop l.member-index l.members) (specs_of l.program.of.now (behind l.id (tree_of l.program)) l.specs) l.starts l.none
    ≡ member_places l.members (specs_of l.program.of.now (behind l.id (tree_of l.program)) l.specs) l.starts l.none
