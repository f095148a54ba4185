use Rattle.a68_notes.proofs.Rowing.{noted_none, noted_row}
use Rattle.std.proofs.Common.{◌∙◌, sym}
use Rattle.a68_notes.proofs.rows.note_row.Goals as goal

pub returns-in_ok-insert-in-Some : goal.returns-in_ok-insert-in-Some
returns-in_ok-insert-in-Some c =
    noted_row _ _ c.in-Some.row.0 c.in-Some.row.1 c.args.shape.now (sym c.fixed_row.ensures ∙ c.in-Some.is) c.in_ok-insert-in-Some.ensures.updates.0

pub returns-in-None : goal.returns-in-None
returns-in-None c = noted_none _ c.args.shape.now (sym c.fixed_row.ensures ∙ c.in-None.is)
