use Rattle.a68_yields.proofs.Fielding.{part_keeps}
use Rattle.a68_yields.proofs.table.granted.Goals as goal

pub returns-in_ok-mode-in-PartOf-clause-fields : goal.returns-in_ok-mode-in-PartOf-clause-fields
returns-in_ok-mode-in-PartOf-clause-fields c = part_keeps c.args.modes.now c.part_mode.new.modes c.in-PartOf.part c.in_ok-mode-in-PartOf.mode c.in_ok-mode-in-PartOf.ensures
