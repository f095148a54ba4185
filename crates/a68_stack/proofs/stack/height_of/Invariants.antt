use Rattle.std.proofs.Common.{◌≡◌, ◌-◌, ◌+◌, take}
use Rattle.std.specs.Prelude.{reverse}
use Rattle.a68_stack.specs.Values.{height}
use Rattle.a68_stack.proofs.stack.height_of.Given as goal

abbrev pub invariant-loop-above : goal.invariant-loop-above
invariant-loop-above l = height (reverse l.items) ≡ l.above + height (reverse (take (l.count - l.above) l.items))
