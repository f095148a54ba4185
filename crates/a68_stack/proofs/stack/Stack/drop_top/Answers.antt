use Rattle.a68_stack.proofs.Cutting.{popped_one}
use Rattle.a68_stack.proofs.stack.Stack.drop_top.Goals as goal

pub returns-clause-items : goal.returns-clause-items
returns-clause-items c = (popped_one c.pop.result c.args.self.now c.pop.new.self c.pop.ensures).0

pub returns-clause-room : goal.returns-clause-room
returns-clause-room c = (popped_one c.pop.result c.args.self.now c.pop.new.self c.pop.ensures).1
