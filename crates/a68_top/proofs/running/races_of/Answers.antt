use Rattle.std.proofs.Common.{subst}
use Rattle.a68_top.proofs.Refusing.{if_ok}
use Rattle.a68_top.specs.Ended.{crowds, tells}
use Rattle.a68_top.specs.Racing.{IsFound}
use Rattle.a68_top.proofs.running.races_of.Goals as goal

pub returns-in-Ok-Told-clause-says : goal.returns-in-Ok-Told-clause-says
returns-in-Ok-Told-clause-says c =
    if_ok c.ended.result (λ due ends. tells c.in-Ok-Told.out (subst (IsFound c.args.kept) c.in-Ok-Told.field-0-is c.in-Ok-Told.ensures) ends) c.ended.ensures.says

pub returns-in-Ok-Beyond-clause-says : goal.returns-in-Ok-Beyond-clause-says
returns-in-Ok-Beyond-clause-says c =
    if_ok c.refused.result (λ due says. crowds c.in-Ok-Beyond.place (subst (IsFound c.args.kept) c.in-Ok-Beyond.field-0-is c.in-Ok-Beyond.ensures) says) c.refused.ensures.answer
