use Rattle.a68_notes.proofs.rows.push_row.Goals as goal

pub returns-in-Ok : goal.returns-in-Ok
returns-in-Ok c = c.in-Ok.ensures.added
