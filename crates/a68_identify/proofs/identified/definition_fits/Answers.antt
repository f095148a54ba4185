use Rattle.a68_identify.proofs.Serving.{operands_there}
use Rattle.a68_identify.proofs.identified.definition_fits.Goals as goal

pub all_fit-requires-clause-parameters : goal.all_fit-requires-clause-parameters
all_fit-requires-clause-parameters c =
    operands_there c.args.tree.now c.args.modes.now c.args.of.now.of c.len-there.ensures.nodes c.requires.of c.args.definition c.parameters_of-parameters.result.now c.parameters_of-parameters.ensures
