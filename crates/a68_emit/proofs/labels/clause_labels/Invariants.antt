use Rattle.a68_emit.proofs.Seating.{AreLabelsBefore}
use Rattle.a68_emit.proofs.labels.clause_labels.Given as goal

-- those of the nodes before one
abbrev pub invariant-loop-id : goal.invariant-loop-id
invariant-loop-id l = AreLabelsBefore l.program l.id l.known.keys
