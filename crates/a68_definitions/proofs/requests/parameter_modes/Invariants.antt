use Rattle.std.proofs.Common.{◌≡◌, ◌++◌, map, drop}
use Rattle.a68_definitions.specs.Defined.{fixed_mode_at, parameters}
use Rattle.a68_definitions.proofs.requests.parameter_modes.Given as goal

abbrev pub invariant-loop-part : goal.invariant-loop-part
invariant-loop-part l = l.items.items ++ map (fixed_mode_at l.of) (parameters l.tree l.before (drop l.part-index l.parts)) ≡ map (fixed_mode_at l.of) (parameters l.tree 0 l.parts)
