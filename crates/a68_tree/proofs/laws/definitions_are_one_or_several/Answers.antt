use Rattle.a68_tree.proofs.Phrases.{one_or_several}
use Rattle.a68_tree.proofs.laws.definitions_are_one_or_several.Goals as goal

pub returns : goal.returns
returns c = λ f i. one_or_several i
