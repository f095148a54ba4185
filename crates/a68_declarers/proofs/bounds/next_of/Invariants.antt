use Rattle.std.proofs.Common.{◌≡◌, drop}
use Rattle.a68_declarers.specs.Bounds.{next_start}
use Rattle.a68_declarers.proofs.bounds.next_of.Given as goal

abbrev pub invariant-loop-start : goal.invariant-loop-start
invariant-loop-start l = next_start l.starts l.byte ≡ next_start (drop l.start-index l.starts) l.byte
