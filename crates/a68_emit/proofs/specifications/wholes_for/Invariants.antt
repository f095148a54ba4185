use Rattle.std.proofs.Common.{◌≡◌, ◌++◌, drop}
use Rattle.a68_elab.specs.Made.{specs_of}
use Rattle.a68_elab.specs.Programs.{behind}
use Rattle.a68_emit.specs.Stretches.{wholes_of}
use Rattle.a68_emit.specs.Views.{tree_of}
use Rattle.a68_emit.proofs.specifications.wholes_for.Given as goal

abbrev pub invariant-loop-member : goal.invariant-loop-member
invariant-loop-member l =
    l.wholes.items ++ wholes_of (drop l.member-index l.members) (specs_of l.program.of.now (behind l.id (tree_of l.program)) l.specs)
    ≡ wholes_of l.members (specs_of l.program.of.now (behind l.id (tree_of l.program)) l.specs)
