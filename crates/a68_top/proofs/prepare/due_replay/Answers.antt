use Rattle.std.proofs.Common.{subst}
use Rattle.a68_base.specs.declared.refusal.Stop.{Stop}
use Rattle.a68_elab.specs.Programs.{program_of}
use Rattle.a68_ranges.specs.Twice.{StopsBy}
use Rattle.a68_top.proofs.Refusing.{if_ok}
use Rattle.a68_top.proofs.Second.{refused_replay, replayed_by}
use Rattle.a68_top.specs.Compiles.{Compiles, RefusedAs}
use Rattle.a68_top.proofs.prepare.due_replay.Goals as goal

pub returns-in-Err-Refused-clause-answer : goal.returns-in-Err-Refused-clause-answer
returns-in-Err-Refused-clause-answer g c =
    let why : RefusedAs c.as_slice.result.now c.in-Err-Refused.refusal = subst {A = Stop} (λ s. StopsBy (RefusedAs c.as_slice.result.now) s) c.in-Err-Refused.field-0-is c.in-Err-Refused.ensures.refused in
    refused_replay (g.F.Shelf.under c.args.shelf.now) c.args.file.now c.args.schedule.now c.in_ok-text.text c.in_ok-text.ensures.text c.in_ok-text.ensures.length _ _ _ c.in-Err-Refused.refusal
    (rw c.as_slice.ensures at why) c.in_ok-refused-in-Err-Refused.ensures.answer

pub returns-clause-answer : goal.returns-clause-answer
returns-clause-answer g c =
    let made = c.in-Ok.made in
    let compiled : Compiles c.in_ok-text.text made = rw c.as_slice.ensures at c.in-Ok.ensures.ok in
    if_ok c.due_scheduled.result (λ due h.
    replayed_by (g.F.Shelf.under c.args.shelf.now) c.args.file.now c.args.schedule.now c.in_ok-text.text c.in_ok-text.ensures.text c.in_ok-text.ensures.length due.finish due.out due.notes
    (g.F.Shelf.under c.fetch.new.shelf) c.in_ok-text.ensures.names made compiled (c.permitted_law.ensures (program_of made.program) made.code) h) c.due_scheduled.ensures.answer
