use Rattle.std.proofs.Common.{sym}
use Rattle.a68_read.proofs.Going.{expanded, lighter, popped}
use Rattle.a68_read.proofs.ready.ready.Goals as goal

pub loop-goal-preserved-in-Continue-1 : goal.loop-goal-preserved-in-Continue-1
loop-goal-preserved-in-Continue-1 c = record {
  reads = λ whole r.
      let e = popped _ _ _ c.in-Some.ensures.items in
      rw c.in_ok-push-in-Some-expand.ensures (expanded _ _ _ _ whole _ (sym c.in-Some-expand.ensures) (rw e at (c.loop-goal.invariant.reads whole r)));
}

pub loop-goal-smaller-in-Continue-1 : goal.loop-goal-smaller-in-Continue-1
loop-goal-smaller-in-Continue-1 c =
    let e = popped _ _ _ c.in-Some.ensures.items in
    rw (c.in_ok-push-in-Some-expand.ensures, e) (lighter _ _ _ _ (sym c.in-Some-expand.ensures))

pub loop-goal-preserved : goal.loop-goal-preserved
loop-goal-preserved c = record {
  reads = λ whole r.
      let e = popped _ _ _ c.in-Some.ensures.items in
      c.in_ok-act-in-None.ensures whole _ (rw e at (c.loop-goal.invariant.reads whole r));
}

pub returns-then-is_taking-clause-stands : goal.returns-then-is_taking-clause-stands
returns-then-is_taking-clause-stands c = λ whole r.
    let e = popped _ _ _ c.in-Some.ensures.items in
    rw e at (c.loop-goal.invariant.reads whole r)
