use Rattle.std.proofs.Common.{◌≡◌, take}
use Rattle.std.specs.Prelude.{map}
use Rattle.a68_ranges.specs.Standard.{standard_of}
use Rattle.a68_ranges.proofs.standard.standard_names.Given as goal

abbrev pub invariant-loop-name : goal.invariant-loop-name
invariant-loop-name l = l.names.items ≡ map standard_of (take l.name l.tree.spellings)
