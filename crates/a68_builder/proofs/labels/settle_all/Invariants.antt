use Rattle.std.specs.Prelude.{◌≡◌, ◌++◌, map, take, drop}
use Rattle.a68_builder.specs.Labels.{settled}
use Rattle.a68_builder.proofs.labels.settle_all.Given as goal

abbrev pub invariant-loop-i : goal.invariant-loop-i
invariant-loop-i l = l.list ≡ map (settled l.labels) (take l.i l.initial.list) ++ drop l.i l.initial.list
