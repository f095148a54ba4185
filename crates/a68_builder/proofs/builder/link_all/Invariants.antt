use Rattle.std.specs.Prelude.{◌≡◌, ◌++◌, map, take, drop}
use Rattle.a68_builder.specs.Linking.{linked}
use Rattle.a68_builder.proofs.builder.link_all.Given as goal

abbrev pub invariant-loop-i : goal.invariant-loop-i
invariant-loop-i l = l.list ≡ map (linked l.units) (take l.i l.initial.list) ++ drop l.i l.initial.list
