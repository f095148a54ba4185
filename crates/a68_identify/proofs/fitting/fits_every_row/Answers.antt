use Rattle.a68_identify.proofs.Answering.{row_fits}
use Rattle.a68_identify.proofs.fitting.fits_every_row.Goals as goal

pub returns : goal.returns
returns c = rw c.is_some.ensures (row_fits c.args.modes.now c.args.leaves.now c.in_ok-found.found c.in_ok-found.ensures.formed)
