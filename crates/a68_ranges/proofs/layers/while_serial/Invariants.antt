use Rattle.std.proofs.Common.{◌≡◌, drop}
use Rattle.a68_ranges.specs.Surroundings.{while_serial}
use Rattle.a68_ranges.proofs.layers.while_serial.Given as goal

abbrev pub invariant-loop-part : goal.invariant-loop-part
invariant-loop-part l = while_serial l.tree l.parts ≡ while_serial l.tree (drop l.part-index l.parts)
