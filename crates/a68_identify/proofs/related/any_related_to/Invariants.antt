use Rattle.a68_identify.proofs.Firsts.{NoneBefore}
use Rattle.a68_identify.specs.Operators.{IsRelatedTo}
use Rattle.a68_identify.proofs.related.any_related_to.Given as goal

abbrev pub invariant-loop-one : goal.invariant-loop-one
invariant-loop-one l = NoneBefore (IsRelatedTo l.tree l.modes l.of.of l.signature.sign l.signature.parameters.now) l.before l.one-index
