use Rattle.a68_tree.proofs.Order.{listed_behind}
use Rattle.a68_tree.proofs.Three.{derived_few}
use Rattle.a68_tree.proofs.laws.derived_trees_are_lists.Goals as goal

pub returns-clause-behind : goal.returns-clause-behind
returns-clause-behind c = λ symbols text list tree. listed_behind symbols tree.kind tree.under list tree.listed

pub returns-clause-few : goal.returns-clause-few
returns-clause-few c = derived_few
