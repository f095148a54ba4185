use Rattle.a68_parse.proofs.Bounds.{symbols_few, symbols_within, refusal_within}
use Rattle.a68_parse.proofs.Trees.{tree_filled}
use Rattle.a68_parse.proofs.program.symbols_are_bounded.Goals as goal

pub returns-clause-few : goal.returns-clause-few
returns-clause-few c = symbols_few

pub returns-clause-within : goal.returns-clause-within
returns-clause-within c = symbols_within

pub returns-clause-filled : goal.returns-clause-filled
returns-clause-filled c = tree_filled

pub returns-clause-refused : goal.returns-clause-refused
returns-clause-refused c = refusal_within
