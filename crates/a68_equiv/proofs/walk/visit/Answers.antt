use Rattle.std.proofs.Common.{◌≡◌, length, get_or, ◌<◌, arith, sym, ◌∙◌, false}
use Rattle.std.proofs.lemmas.List.{take_more, get_or_default}
use Rattle.std.proofs.Math.Seq.{take-length}
use Rattle.a68_equiv.proofs.Reach.{visited_old, visited_new}
use Rattle.a68_equiv.proofs.walk.visit.Goals as goal

pub loop-node-preserved : goal.loop-node-preserved
loop-node-preserved c =
    let lt : c.loop-node.node-index < length c.args.nodes.now = omega arith in
    rw (take_more c.args.nodes.now c.loop-node.node-index 0 lt, c.in_ok-push.ensures.items) (visited_new _ _ _ _ _ _ c.loop-node.invariant (rw c.loop-node.invariant.long (c.requires c.loop-node.node-index 0 lt)) (get_or_default c.loop-node.seen.items (get_or c.args.nodes.now c.loop-node.node-index 0) false c.index.result.now (rw c.loop-node.invariant.long (c.requires c.loop-node.node-index 0 lt)) ∙ sym c.index.ensures ∙ c.if-index.false))

pub loop-node-preserved-then-index : goal.loop-node-preserved-then-index
loop-node-preserved-then-index c =
    let lt : c.loop-node.node-index < length c.args.nodes.now = omega arith in
    rw (take_more c.args.nodes.now c.loop-node.node-index 0 lt) (visited_old _ _ _ _ _ _ c.loop-node.invariant (get_or_default c.loop-node.seen.items (get_or c.args.nodes.now c.loop-node.node-index 0) false c.index.result.now (rw c.loop-node.invariant.long (c.requires c.loop-node.node-index 0 lt)) ∙ sym c.index.ensures ∙ c.if-index.true))

pub returns : goal.returns
returns c =
    let all : c.loop-node.node-index ≡ length c.args.nodes.now = omega arith in
    rw (all, take-length) at c.loop-node.invariant
