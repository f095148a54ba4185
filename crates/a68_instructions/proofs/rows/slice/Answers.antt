use Rattle.std.proofs.Common.{◌∙◌, sym, suc, arith}
use Rattle.a68_acts.specs.Operations.{slice}
use Rattle.a68_code.specs.Flow.{values_of_trims}
use Rattle.a68_instructions.specs.Bodies.{state_of}
use Rattle.a68_instructions.specs.declared.ask.Stance.TheVariants.{Idle}
use Rattle.a68_instructions.proofs.Acting.{too-few}
use Rattle.a68_instructions.proofs.rows.slice.Goals as goal

pub returns-in-None-clause-state : goal.returns-in-None-clause-state
returns-in-None-clause-state c modes =
    c.fail.ensures.state
    ∙ sym (too-few modes (state_of c.args.body.now Idle) (slice c.args.forms.now) (suc (values_of_trims c.args.forms.now)) (omega (arith, c.in-None.ensures, c.len-most.ensures)))

pub returns-in-Some-clause-state : goal.returns-in-Some-clause-state
returns-in-Some-clause-state c modes = rw c.in-Some.ensures at (c.slice_values.ensures.state modes)
