use Rattle.std.proofs.Common.{◌≡◌, length, arith}
use Rattle.a68_op_ident.proofs.Going.{late_on, finished, unshaped}
use Rattle.a68_op_ident.proofs.trees.shape.Goals as goal

pub loop-id-preserved : goal.loop-id-preserved
loop-id-preserved c =
    let inv = c.loop-id.invariant in
    let step = c.in_ok-step.step in
    let late = c.in_ok-step.ensures.late c.args.tree c.requires inv.going in
    record {
      going = c.in_ok-step.ensures.going c.args.tree c.requires inv.going;
      late = rw c.lesser-late.ensures (late_on c.args.tree c.loop-id.id step.next c.loop-id.late step.late c.in_ok-step.ensures.onward.0 inv.late late);
      within = c.in_ok-step.ensures.onward.1;
    }

pub returns-in-None-clause-ok : goal.returns-in-None-clause-ok
returns-in-None-clause-ok c =
    let w = c.loop-id.invariant.within in
    let all : c.loop-id.id ≡ length c.loop-id.nodes.items = omega (arith, c.loop-id.nodes.ok, c.len.ensures, c.loop-id-test.false) in
    rw c.new.ensures (finished c.args.tree c.loop-id.nodes.items c.apart-nodes.result.1.items c.apart-nodes.result.2.items c.loop-id.id c.loop-id.invariant.going all
    (rw c.in-None.is at c.loop-id.invariant.late) c.apart-nodes.ensures.spellings c.apart-nodes.ensures.starts)

pub returns-in-Some-clause-refused : goal.returns-in-Some-clause-refused
returns-in-Some-clause-refused c =
    let w = c.loop-id.invariant.within in
    let all : c.loop-id.id ≡ length c.loop-id.nodes.items = omega (arith, c.loop-id.nodes.ok, c.len.ensures, c.loop-id-test.false) in
    unshaped c.args.tree c.loop-id.nodes.items c.loop-id.id c.in-Some.place c.loop-id.invariant.going all (rw c.in-Some.is at c.loop-id.invariant.late)
