use Rattle.a68_input.proofs.Preludes.{preludes_have_symbols}
use Rattle.a68_input.proofs.laws.preludes_have_symbols.Goals as goal

pub returns : goal.returns
returns c = preludes_have_symbols
