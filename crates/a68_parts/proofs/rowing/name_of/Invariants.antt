use Rattle.std.proofs.Common.{◌≡◌, drop}
use Rattle.a68_elab.specs.Made as made
use Rattle.a68_parts.proofs.rowing.name_of.Given as goal

-- the first mode of all is the first one from here on
abbrev pub invariant-loop-mode : goal.invariant-loop-mode
invariant-loop-mode l = made.found_from 0 (made.is_name_of l.of) l.modes ≡ made.found_from l.mode (made.is_name_of l.of) (drop l.mode l.modes)
