use Rattle.std.proofs.Common.{◌+◌, length, ap, arith}
use Rattle.a68_exec.proofs.Taking.{as_many}
use Rattle.a68_exec.proofs.routines.take_call.Goals as goal

pub returns-in_default-pop : goal.returns-in_default-pop
returns-in_default-pop c =
    let taken = rw c.in-Some.is at c.in_ok-values.ensures.popped in
    let many = as_many (c.args.count + 1) c.args.stack.now.items c.pop_many.new.self.items c.in-Some.values taken in
    absurd (omega (arith, many, ap length c.values.view_is, c.in_default-pop.ensures.cases.0))

pub invariant_of-parameters : goal.invariant_of-parameters
invariant_of-parameters c =
    let taken = rw c.in-Some.is at c.in_ok-values.ensures.popped in
    let many = as_many (c.args.count + 1) c.args.stack.now.items c.pop_many.new.self.items c.in-Some.values taken in
    omega (arith, many, ap length c.values.view_is, c.in-Some-pop.ensures.len, c.ranges.count.fits)
