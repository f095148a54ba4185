use Rattle.a68_symbols.proofs.Measures.{sharp_longest}
use Rattle.a68_symbols.proofs.stretch.from_sharp.Goals as goal

pub returns-in-Some : goal.returns-in-Some
returns-in-Some c = sharp_longest _ _ c.requires.begins c.in-Some.ensures
