use Rattle.std.proofs.Common.{◌≡◌, drop}
use Rattle.a68_refusals.specs.Rules.{last_start}
use Rattle.a68_refusals.proofs.node.last_start.Given as goal

abbrev pub invariant-loop-start : goal.invariant-loop-start
invariant-loop-start l = last_start (drop l.start-index l.starts) l.byte l.found ≡ last_start l.starts l.byte 0
