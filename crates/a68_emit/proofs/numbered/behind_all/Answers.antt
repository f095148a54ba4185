use Rattle.std.proofs.Common.{◌≡◌, ◌-◌, ◌+◌, ℕ, drop, arith, ap, ◌∙◌}
use Rattle.a68_elab.specs.Made as made
use Rattle.a68_emit.proofs.Ordered.{behind_more}
use Rattle.a68_emit.proofs.numbered.behind_all.Goals as goal

pub loop-left-preserved : goal.loop-left-preserved
loop-left-preserved c =
    let nodes = c.args.program.now.tree.nodes in
    let i = c.loop-left.left - 1 in
    let next : c.loop-left.left ≡ i + 1 = omega (arith, c.loop-left-test.true) in
    let before : c.loop-left.end ≡ made.behind_all (drop (i + 1) nodes) = c.loop-left.invariant.0 ∙ ap (λ (n : ℕ). made.behind_all (drop n nodes)) next in
    (c.behind-end.ensures.behind ∙ behind_more nodes i c.loop-left.end c.node.result.now c.node.ensures.is before, c.behind-end.ensures.few, omega (arith, c.loop-left.invariant.2))
