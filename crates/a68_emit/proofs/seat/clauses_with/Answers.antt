use Rattle.std.proofs.Common.{arith, refl}
use Rattle.a68_emit.proofs.Seating.{clause_copied, clauses_whole}
use Rattle.a68_emit.proofs.seat.clauses_with.Goals as goal

pub loop-clause-init : goal.loop-clause-init
loop-clause-init c = rw (c.in_ok-push.ensures.items, c.new-clauses.ensures.items) refl

pub loop-clause-preserved : goal.loop-clause-preserved
loop-clause-preserved c =
    rw c.in_ok-push-2.ensures.items
    (clause_copied c.args.program.now.of.now _ c.loop-clause.clauses.items c.args.program.now.clauses.now c.loop-clause.clause-index (record { id = 0; height = 0; depth = 0 }) (omega arith) c.loop-clause.invariant)

pub returns : goal.returns
returns c = clauses_whole c.args.program.now.of.now _ c.loop-clause.clauses.items c.args.program.now.clauses.now c.loop-clause.clause-index (omega arith) c.loop-clause.invariant
