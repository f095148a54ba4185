use Rattle.a68_nodes.proofs.Framing.{within_at}
use Rattle.a68_nodes.proofs.frames.kept.Goals as goal

pub returns-in-Some-clause-within : goal.returns-in-Some-clause-within
returns-in-Some-clause-within c = λ n a. within_at n _ _ _ a c.in-Some.ensures.value
