use Rattle.a68_nodes.proofs.Framing.{within_push}
use Rattle.a68_nodes.proofs.frames.open.Goals as goal

pub returns-clause-within : goal.returns-clause-within
returns-clause-within c = λ n a. rw c.in_ok-push.ensures.items (within_push n _ _ a (c.kept-kept.ensures.within n (rw c.deref.ensures.value a)))
