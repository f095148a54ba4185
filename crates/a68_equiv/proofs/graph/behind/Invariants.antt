use Rattle.std.proofs.Common.{◌≡◌, ◌<◌, ◌-◌, length}
use Rattle.a68_equiv.specs.Unfolding.{behind}
use Rattle.a68_equiv.proofs.graph.behind.Given as goal

abbrev pub invariant-loop : goal.invariant-loop
invariant-loop l = record {
  there : l.at < length l.modes;
  same : behind l.modes (length l.modes - l.counter) l.at ≡ behind l.modes (length l.modes) l.mode;
}
