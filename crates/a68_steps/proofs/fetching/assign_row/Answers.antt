use Rattle.std.proofs.Common.{ap, sym}
use Rattle.a68_acts.specs.declared.step.Step.TheVariants.{AssignRow}
use Rattle.a68_steps.proofs.Filled.{parts_in-contents}
use Rattle.a68_steps.proofs.fetching.assign_row.Goals as goal

pub returns-in-Some : goal.returns-in-Some
returns-in-Some c =
    let found = c.in-Some.ensures in
    rw found (ap (λ vs. AssignRow c.args.of c.args.flex c.args.cell c.in-Some.bounds vs) (sym (parts_in-contents c.in-Some.parts)))
