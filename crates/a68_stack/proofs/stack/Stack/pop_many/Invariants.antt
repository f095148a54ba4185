use Rattle.std.proofs.Common.{◌≡◌, ◌-◌, []}
use Rattle.std.specs.Prelude.{reverse}
use Rattle.a68_stack.specs.Values.{pop_values}
use Rattle.a68_stack.proofs.stack.Stack.pop_many.Given as goal

abbrev pub invariant-loop : goal.invariant-loop
invariant-loop l = (pop_values (l.count - l.counter) l.self.items (reverse l.items.items) ≡ pop_values l.count l.fn.self.items []) × (l.self.room ≡ l.fn.self.room)
