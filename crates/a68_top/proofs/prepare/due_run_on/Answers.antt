use Rattle.std.proofs.Common.{subst}
use Rattle.a68_base.specs.declared.refusal.Stop.{Stop}
use Rattle.a68_ranges.specs.Twice.{StopsBy}
use Rattle.a68_top.proofs.Refusing.{if_ok}
use Rattle.a68_top.proofs.Second.{refused_run_on, run_on_by}
use Rattle.a68_top.specs.Compiles.{IsTreeOf, RefusedBefore}
use Rattle.a68_top.proofs.prepare.due_run_on.Goals as goal

pub returns-in-Err-Refused-clause-answer : goal.returns-in-Err-Refused-clause-answer
returns-in-Err-Refused-clause-answer g c =
    let why : RefusedBefore c.as_slice.result.now c.in-Err-Refused.refusal = subst {A = Stop} (λ s. StopsBy (RefusedBefore c.as_slice.result.now) s) c.in-Err-Refused.field-0-is c.in-Err-Refused.ensures.refused in
    refused_run_on (g.F.Shelf.under c.args.shelf.now) c.args.file.now c.args.input.now c.in_ok-text.text c.in_ok-text.ensures.text c.in_ok-text.ensures.length _ _ _ c.args.means.workers c.args.means.fuel c.in-Err-Refused.refusal
    (rw c.as_slice.ensures at why) (rw c.in-Err-Refused.field-0-is at c.in_ok-refused-in-Err-Refused.ensures.answer)

pub returns-clause-answer : goal.returns-clause-answer
returns-clause-answer g c =
    let is : IsTreeOf c.in_ok-text.text c.in-Ok.tree = rw c.as_slice.ensures at c.in-Ok.ensures.ok.is in
    if_ok c.due_on.result (λ due h.
    run_on_by (g.F.Shelf.under c.args.shelf.now) c.args.file.now c.args.input.now c.in_ok-text.text c.in_ok-text.ensures.text c.in_ok-text.ensures.length due.finish due.out due.notes
    (g.F.Shelf.under c.fetch.new.shelf) c.in_ok-text.ensures.names c.in-Ok.tree is c.args.means.workers c.args.means.fuel h) (rw c.as_slice-in-Ok.ensures at c.due_on.ensures.answer)
