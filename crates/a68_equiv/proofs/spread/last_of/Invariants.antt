use Rattle.std.proofs.Common.{take}
use Rattle.a68_equiv.specs.Spread.{AreLast}
use Rattle.a68_equiv.proofs.spread.last_of.Given as goal

abbrev pub invariant-loop-mode : goal.invariant-loop-mode
invariant-loop-mode l = AreLast l.modes (take l.mode-index l.found) l.items.items
