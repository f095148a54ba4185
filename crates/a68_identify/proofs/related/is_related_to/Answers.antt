use Rattle.a68_identify.proofs.Serving.{operands_there}
use Rattle.a68_identify.proofs.related.is_related_to.Goals as goal

pub all_related-requires-clause-ones : goal.all_related-requires-clause-ones
all_related-requires-clause-ones c =
    operands_there c.args.tree.now c.args.modes.now c.args.of.now.of c.len-there.ensures.nodes c.requires.of c.args.one c.parameters_of-ones.result.now c.parameters_of-ones.ensures
