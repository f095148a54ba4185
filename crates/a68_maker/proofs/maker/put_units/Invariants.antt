use Rattle.std.specs.Prelude.{◌≡◌, ◌++◌, ◌-◌}
use Rattle.a68_maker.specs.Making.{unit_lines}
use Rattle.a68_maker.proofs.maker.put_units.Given as goal

abbrev pub invariant-loop-number : goal.invariant-loop-number
invariant-loop-number l = l.text ++ unit_lines l.number (l.fn.units - l.number) ≡ l.fn.text ++ unit_lines 1 (l.fn.units - 1)
