use Rattle.std.proofs.Common.{length}
use Rattle.a68_refusals.proofs.Ones.{one_first}
use Rattle.a68_refusals.specs.First.{IsBroken}
use Rattle.a68_refusals.proofs.laws.first_broken_is_one.Goals as goal

pub returns : goal.returns
returns c = λ asked one other. one_first (IsBroken asked (length asked.tree.nodes)) one other
