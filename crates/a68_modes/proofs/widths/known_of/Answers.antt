use Rattle.a68_modes.proofs.Measuring.{known-kept}
use Rattle.a68_modes.proofs.widths.known_of.Goals as goal

pub returns-then-is_some : goal.returns-then-is_some
returns-then-is_some c = known-kept c.args.shapes.now c.args.known.now c.args.mode c.kept-found.result c.kept-found.ensures c.requires
