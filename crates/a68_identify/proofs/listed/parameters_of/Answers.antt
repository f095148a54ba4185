use Rattle.std.proofs.Common.{◌∙◌}
use Rattle.a68_identify.proofs.Listing.{listed_is}
use Rattle.a68_identify.proofs.listed.parameters_of.Goals as goal

pub returns : goal.returns
returns c = c.parameters.ensures ∙ listed_is c.args.tree.now c.args.modes.now c.requires c.args.definition
