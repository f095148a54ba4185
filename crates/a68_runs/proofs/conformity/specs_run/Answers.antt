use Rattle.std.proofs.Common.{◌∙◌, false, nat_eq, true, length, refl, sym, arith}
use Rattle.a68_runs.proofs.Specifying.{specs_end, specs_step}
use Rattle.a68_runs.proofs.conformity.specs_run.Goals as goal

pub returns-then-not-leaves : goal.returns-then-not-leaves
returns-then-not-leaves c =
    sym (specs_step c.args.program.now c.args.wanted c.args.specs.now c.loop-at.at false (omega arith) (sym c.leaves.ensures ∙ c.if-not-leaves.true)) ∙ c.loop-at.invariant.1

pub loop-at-preserved : goal.loop-at-preserved
loop-at-preserved c =
    (omega arith, sym (specs_step c.args.program.now c.args.wanted c.args.specs.now c.loop-at.at true (omega arith) (sym c.leaves.ensures ∙ c.if-not-leaves.false)) ∙ c.loop-at.invariant.1)

pub returns : goal.returns
returns c =
    specs_end c.args.program.now c.args.wanted c.args.specs.now c.loop-at.at c.loop-at.invariant.0 (omega arith) (nat_eq c.loop-at.at (length c.args.specs.now)) refl ∙ c.loop-at.invariant.1
