use Rattle.std.proofs.Common.{subst, sym, ◌∙◌}
use Rattle.a68_declare.specs.Outcome.{ByNode}
use Rattle.a68_identify.specs.Operators.{IsRelatedPair, NumbersAreThere}
use Rattle.a68_ranges.specs.Indexed.{IsLeast}
use Rattle.a68_identify.proofs.related.related_pair.Goals as goal

pub new-requires : goal.new-requires
new-requires c = c.requires.of.long ∙ sym c.requires.of.fixed_long

pub related_among-requires-clause-of : goal.related_among-requires-clause-of
related_among-requires-clause-of c = subst (λ (of : ByNode). NumbersAreThere c.args.tree.now c.args.modes.now of) (sym c.in_ok-listed.ensures.of) c.requires.of

pub returns : goal.returns
returns c = subst (λ (of : ByNode). IsLeast c.args.tree.now (IsRelatedPair c.args.tree.now c.args.modes.now of) c.in_ok-found.found) c.in_ok-listed.ensures.of c.in_ok-found.ensures
