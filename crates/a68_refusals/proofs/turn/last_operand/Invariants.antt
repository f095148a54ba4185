use Rattle.std.proofs.Common.{◌≡◌, ◌-◌, length}
use Rattle.a68_refusals.specs.Order.{last_operand}
use Rattle.a68_refusals.proofs.turn.last_operand.Given as goal

abbrev pub invariant-loop : goal.invariant-loop
invariant-loop l = last_operand l.tree (l.end - l.counter) l.at ≡ last_operand l.tree (length l.tree.nodes) l.node
