use Rattle.a68_code.proofs.Noting.{both}
use Rattle.a68_code.proofs.walk.Walk.note_both.Goals as goal

pub returns : goal.returns
returns c =
    let first = rw c.if-not-branch.false at c.in_ok-note.ensures in
    both c.args.to c.args.height c.args.other c.args.other_height _ _ _ _ _ _ c.in_ok-fits.fits first c.in_ok-fits.ensures
