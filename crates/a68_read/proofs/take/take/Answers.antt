use Rattle.a68_read.proofs.Defaults.{only_plain}
use Rattle.a68_read.proofs.take.take.Goals as goal

pub returns-in-Take-clause-takes : goal.returns-in-Take-clause-takes
returns-in-Take-clause-takes c = rw c.in-Take.is (c.token.ensures.takes c.args.drafting.now)

pub returns-in-Operator-clause-takes : goal.returns-in-Operator-clause-takes
returns-in-Operator-clause-takes c = rw c.in-Operator.is (c.operator.ensures.takes c.args.drafting.now)

pub returns-in-Denotation-clause-takes : goal.returns-in-Denotation-clause-takes
returns-in-Denotation-clause-takes c = rw c.in-Denotation.is (c.denotation.ensures.takes c.args.drafting.now)

pub returns-in_default : goal.returns-in_default
returns-in_default c = let d = c.in_default in record {
  shorter = c.plain.ensures.shorter;
  takes = rw (only_plain c.args.goal c.requires d.not-Opens d.not-Closes d.not-Monadic d.not-Dyadic d.not-Take d.not-Operator d.not-Denotation) (c.plain.ensures.takes c.args.drafting.now);
}
