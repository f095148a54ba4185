use Rattle.std.proofs.Common.{◌≡◌, drop}
use Rattle.a68_elab.specs.Programs.{mark_of}
use Rattle.a68_emit.specs.Seats.{marks_of}
use Rattle.a68_emit.proofs.seat.clause_of.Given as goal

abbrev pub invariant-loop-clause : goal.invariant-loop-clause
invariant-loop-clause l = mark_of l.label (marks_of l.program l.clauses) ≡ mark_of l.label (marks_of l.program (drop l.clause-index l.clauses))
