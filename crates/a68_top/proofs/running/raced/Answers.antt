use Rattle.a68_top.proofs.Ending.{has_raced}
use Rattle.a68_top.proofs.Refusing.{if_ok}
use Rattle.a68_top.proofs.running.raced.Goals as goal

pub returns-in-Ok-clause-answer : goal.returns-in-Ok-clause-answer
returns-in-Ok-clause-answer g c =
    if_ok c.races_of.result (λ due t. has_raced c.args.made c.in-Ok.code c.in-Ok.ensures.code c.args.means.workers c.args.means.fuel c.in-Ok.kept due c.in-Ok.ensures.runs c.in-Ok.ensures.cyclic t) c.races_of.ensures.says
