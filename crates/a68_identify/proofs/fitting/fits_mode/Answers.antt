use Rattle.std.proofs.lemmas.Bool.{false≢true}
use Rattle.a68_identify.proofs.Answering.{mode_fits}
use Rattle.a68_identify.proofs.fitting.fits_mode.Goals as goal

pub returns : goal.returns
returns c = rw c.is_some.ensures (mode_fits c.args.modes.now c.args.leaves.now c.args.parameter c.in_ok-found.found c.requires.mode c.in_ok-found.ensures)

pub returns-then-is_apart : goal.returns-then-is_apart
returns-then-is_apart c = (λ t. absurd (false≢true t), λ f. absurd (c.is_apart.ensures c.if-is_apart.true f))
