use Rattle.a68_nodes.proofs.Closed.{first_read, first_past}
use Rattle.a68_nodes.proofs.closing.behind_first.Goals as goal

pub returns-in-Some : goal.returns-in-Some
returns-in-Some c =
    let g = c.in-Some-Part.ensures.lookup in
    let h = c.in-Some.ensures.lookup in
    first_read c.args.drafts.now c.args.pieces.now c.args.first c.in-Some-Part.id c.args.other c.in-Some.draft.now g.3.0
    (rw c.in-Some-Part.field-0-is at g.1) h.3.0 h.1

pub returns-in-None : goal.returns-in-None
returns-in-None c =
    let g = c.in-Some-Part.ensures.lookup in
    first_past c.args.drafts.now c.args.pieces.now c.args.first c.in-Some-Part.id c.args.other g.3.0 (rw c.in-Some-Part.field-0-is at g.1) c.in-None.ensures.lookup.3
