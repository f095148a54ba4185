use Rattle.std.specs.Prelude.{◌≡◌, ◌++◌, map, take, drop, slice_index_or}
use Rattle.a68_builder.proofs.builder.enter_units.Given as goal

abbrev pub invariant-loop-i : goal.invariant-loop-i
invariant-loop-i l = l.numbers ≡ map (λ n. slice_index_or l.units n 0) (take l.i l.initial.numbers) ++ drop l.i l.initial.numbers
