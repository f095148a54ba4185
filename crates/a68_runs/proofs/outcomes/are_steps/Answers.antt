use Rattle.std.proofs.Common.{◌∙◌, arith, sym}
use Rattle.a68_runs.proofs.Running.{last-step, step-fails, step-passes}
use Rattle.a68_runs.proofs.outcomes.are_steps.Goals as goal

pub loop-at-preserved : goal.loop-at-preserved
loop-at-preserved c =
    (omega arith, c.loop-at.invariant.1 ∙ step-passes c.args.program.now c.args.wanted c.args.ids.now c.loop-at.at _ (omega arith) (sym c.passes.ensures ∙ c.if-not-passes.false) c.width-at.ensures.width)

pub returns-then-not-passes : goal.returns-then-not-passes
returns-then-not-passes c =
    sym (c.loop-at.invariant.1 ∙ step-fails c.args.program.now c.args.wanted c.args.ids.now c.loop-at.at (omega arith) (sym c.passes.ensures ∙ c.if-not-passes.true))

pub returns : goal.returns
returns c = c.leaves.ensures ∙ sym (c.loop-at.invariant.1 ∙ last-step c.args.program.now c.args.wanted c.args.ids.now c.loop-at.at (omega arith))
