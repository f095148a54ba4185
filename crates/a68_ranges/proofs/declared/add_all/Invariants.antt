use Rattle.std.proofs.Common.{◌≡◌, ◌++◌, take}
use Rattle.a68_ranges.specs.Definitions.{defining}
use Rattle.a68_ranges.proofs.declared.add_all.Given as goal

abbrev pub invariant-loop-part : goal.invariant-loop-part
invariant-loop-part l = l.list.items ≡ l.initial.list.items ++ defining l.tree (take l.part-index l.parts)
