use Rattle.std.proofs.Common.{◌≡◌, ◌-◌, drop, length}
use Rattle.a68_elab.specs.Made as made
use Rattle.a68_parts.proofs.rowing.rowed_to.Given as goal

-- so many coercions lead from this mode
abbrev pub invariant-loop-behind : goal.invariant-loop-behind
invariant-loop-behind l = l.mode ≡ made.rowed_to l.modes l.goal (drop (length l.path - l.behind) l.path)
