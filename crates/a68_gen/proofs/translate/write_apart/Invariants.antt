use Rattle.std.proofs.Common.{drop}
use Rattle.std.specs.Prelude.{map}
use Rattle.a68_elab.specs.Programs.{program_of}
use Rattle.a68_gen.proofs.Generating.{ApartAhead}
use Rattle.a68_gen.proofs.translate.write_apart.Given as goal
use Rattle.a68_emit.specs.Texts.{apart_of}

-- what stands apart before some of it is written
abbrev pub invariant-loop-entered : goal.invariant-loop-entered
invariant-loop-entered l =
    ApartAhead (program_of l.program).apart (map (apart_of l.program) (drop l.entered-index l.all)) l.initial.out.stop l.out.stop l.initial.out.list l.out.list l.entrances.texts.items l.entrances.units.items
