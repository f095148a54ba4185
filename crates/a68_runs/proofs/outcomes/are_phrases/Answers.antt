use Rattle.std.proofs.Common.{◌≡◌, ◌-◌, ◌∙◌, arith, length, sym}
use Rattle.a68_runs.proofs.Running.{phrase-passes, phrase-fails, last-phrase}
use Rattle.a68_runs.proofs.outcomes.are_phrases.Goals as goal

pub loop-at-preserved : goal.loop-at-preserved
loop-at-preserved c =
    c.loop-at.invariant ∙ phrase-passes c.args.program.now c.args.wanted c.args.ids.now c.loop-at.at (omega arith) (sym c.leaves.ensures ∙ c.if-not-leaves.false)

pub returns-then-not-leaves : goal.returns-then-not-leaves
returns-then-not-leaves c =
    sym (c.loop-at.invariant ∙ phrase-fails c.args.program.now c.args.wanted c.args.ids.now c.loop-at.at (omega arith) (sym c.leaves.ensures ∙ c.if-not-leaves.true))

pub returns : goal.returns
returns c =
    let all : c.loop-at.at ≡ length c.args.ids.now - 1 = omega arith in
    c.leaves-2.ensures ∙ sym (rw all at c.loop-at.invariant ∙ last-phrase c.args.program.now c.args.wanted c.args.ids.now (length c.args.ids.now - 1) (omega arith))
