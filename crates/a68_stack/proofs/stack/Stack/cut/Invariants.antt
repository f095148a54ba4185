use Rattle.std.proofs.Common.{◌≡◌, drop}
use Rattle.a68_stack.proofs.stack.Stack.cut.Given as goal

abbrev pub invariant-loop : goal.invariant-loop
invariant-loop l = (l.self.items ≡ drop l.counter l.fn.self.items) × (l.self.room ≡ l.fn.self.room)
