use Rattle.std.proofs.Common.{◌≡◌, ◌++◌, take}
use Rattle.std.specs.Prelude.{map}
use Rattle.a68_elab.specs.Made.{parts_at}
use Rattle.a68_emit.specs.Seats.{labels_among, marks_of}
use Rattle.a68_emit.proofs.seat.clauses_with.Given as goal

abbrev pub invariant-loop-clause : goal.invariant-loop-clause
invariant-loop-clause l =
    marks_of l.program.of.now l.clauses.items
    ≡ map (λ x. record { label = x; depth = l.program.depth; height = l.program.height }) (labels_among l.program.of.now (parts_at l.program.of.now l.id))
    ++ marks_of l.program.of.now (take l.clause-index l.program.clauses.now)
