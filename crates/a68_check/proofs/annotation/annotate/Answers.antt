use Rattle.a68_check.specs.Annotates.{Refuses, declared_twice}
use Rattle.a68_check.proofs.Answering.{stops}
use Rattle.a68_ranges.specs.Twice.{RefusesTwice}
use Rattle.a68_check.proofs.annotation.annotate.Goals as goal

pub returns-in-Err-clause-refused : goal.returns-in-Err-clause-refused
returns-in-Err-clause-refused c = stops (RefusesTwice c.args.tree) (Refuses c.args.tree) c.in-Err.stop (λ r t. declared_twice t) c.in-Err.ensures.refused
