use Rattle.a68_input.proofs.Together.{symbols_join}
use Rattle.a68_input.proofs.laws.joined_texts_have_the_symbols.Goals as goal

pub returns : goal.returns
returns c = symbols_join
