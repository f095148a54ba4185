use Rattle.std.proofs.Common.{arith}
use Rattle.a68_stack.proofs.Callers.{callers_few}
use Rattle.a68_stack.proofs.stack.Stack.push_caller.Goals as goal

pub overflow_add-self : goal.overflow_add-self
overflow_add-self c = omega (arith, c.self.invariant, callers_few c.self.inside.items.items, c.in_ok-push.ensures.len, c.in_ok-push.ensures.upper_bound)
