use Rattle.std.proofs.Common.{ap, sym, ◌∙◌}
use Rattle.a68_acts.specs.Operations.{resumed}
use Rattle.a68_perform.proofs.Resuming.{told-row, told-other}
use Rattle.a68_perform.proofs.operations.resumed_told.Goals as goal

pub returns-in_ok-doing-in-Ok-clause-ok : goal.returns-in_ok-doing-in-Ok-clause-ok
returns-in_ok-doing-in-Ok-clause-ok c =
    c.in_ok-doing-in-Ok.ensures ∙ told-row c.args.modes.now c.args.next c.in-Ok.row c.requires ∙ ap (resumed c.args.modes.now c.args.next) (sym c.in-Ok.ensures)

pub returns-in_ok-doing-in-Err-clause-ok : goal.returns-in_ok-doing-in-Err-clause-ok
returns-in_ok-doing-in-Err-clause-ok c =
    c.in_ok-doing-in-Err.ensures.ok
    ∙ told-other c.args.modes.now c.args.next c.in-Err.reply c.requires (rw c.in-Err.ensures.0 c.in-Err.ensures.1)
    ∙ ap (resumed c.args.modes.now c.args.next) c.in-Err.ensures.0
