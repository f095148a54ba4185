use Rattle.std.proofs.Common.{◌≡◌, arith, length, subst}
use Rattle.a68_runs.proofs.Running.{there-more}
use Rattle.a68_runs.specs.Running.{AreThere}
use Rattle.a68_runs.proofs.runs.look_at_all.Goals as goal

pub loop-id-preserved : goal.loop-id-preserved
loop-id-preserved c = there-more c.args.program.now c.loop-id.id c.loop-id.invariant c.look_at.ensures

pub returns-clause-there : goal.returns-clause-there
returns-clause-there c =
    let a = c.args.program.now in
    let all : c.loop-id.id ≡ length a.tree.nodes = omega arith in
    subst (λ n. AreThere a n) all c.loop-id.invariant
