use Rattle.std.proofs.Common.{subst}
use Rattle.a68_base.specs.declared.refusal.Stop.{Stop}
use Rattle.a68_elab.specs.Programs.{program_of}
use Rattle.a68_ranges.specs.Twice.{StopsBy}
use Rattle.a68_top.proofs.Joined.{joined_refusal, joined_run}
use Rattle.a68_top.proofs.Refusing.{if_ok}
use Rattle.a68_top.specs.Compiles.{RefusedAs}
use Rattle.a68_top.proofs.inputs.joined.Goals as goal

pub returns-in-Err-Refused-clause-answer : goal.returns-in-Err-Refused-clause-answer
returns-in-Err-Refused-clause-answer g c =
    let why : RefusedAs c.as_slice.result.now c.in-Err-Refused.refusal = subst {A = Stop} (λ s. StopsBy (RefusedAs c.as_slice.result.now) s) c.in-Err-Refused.field-0-is c.in-Err-Refused.ensures.refused in
    if_ok c.refused_behind.result (λ due says. joined_refusal c.args.text.now c.args.lines.now _ _ c.in_ok-joined.ensures.joins c.args.means.workers c.args.means.fuel due c.in-Err-Refused.refusal (rw c.as_slice.ensures at why) says) (rw c.in-Err-Refused.field-0-is at c.refused_behind.ensures.answer)

pub returns-clause-answer : goal.returns-clause-answer
returns-clause-answer g c =
    let made = c.in-Ok.made in
    let compiled = rw c.as_slice.ensures at c.in-Ok.ensures.ok in
    if_ok c.ran.result (λ due has. joined_run c.args.text.now c.args.lines.now _ _ c.in_ok-joined.ensures.joins c.args.means.workers c.args.means.fuel due made compiled (c.permitted_law.ensures (program_of made.program) made.code) has) c.ran.ensures.answer
