use Rattle.std.proofs.Common.{◌≡◌, take}
use Rattle.std.specs.Prelude.{map}
use Rattle.a68_declare.specs.Numbering.{number_in}
use Rattle.a68_declare.proofs.image.numbers.Given as goal

abbrev pub invariant-loop-mode : goal.invariant-loop-mode
invariant-loop-mode l = l.items.items ≡ map (number_in l.to) (take l.mode-index l.modes)
