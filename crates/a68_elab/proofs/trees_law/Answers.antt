use Rattle.a68_elab.proofs.Nodes.{defined_is, tree_of_nodes}
use Rattle.a68_elab.proofs.trees_law.Goals as goal

pub returns-clause-trees : goal.returns-clause-trees
returns-clause-trees c = tree_of_nodes

pub returns-clause-bounds : goal.returns-clause-bounds
returns-clause-bounds c = defined_is
