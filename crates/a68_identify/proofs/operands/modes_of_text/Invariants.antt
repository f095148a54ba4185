use Rattle.std.proofs.Common.{◌≡◌, ◌++◌, drop}
use Rattle.std.specs.Prelude.{map}
use Rattle.a68_identify.specs.Operators.{mode_at, declarers_among}
use Rattle.a68_ranges.specs.Nodes.{parts_at}
use Rattle.a68_identify.proofs.operands.modes_of_text.Given as goal

abbrev pub invariant-loop-part : goal.invariant-loop-part
invariant-loop-part l = l.items.items ++ map (mode_at l.of) (declarers_among l.tree l.declarer (drop l.part-index (parts_at l.tree l.text))) ≡ map (mode_at l.of) (declarers_among l.tree l.text (parts_at l.tree l.text))
