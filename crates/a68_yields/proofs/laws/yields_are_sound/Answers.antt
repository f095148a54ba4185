use Rattle.a68_yields.proofs.Alone.{tables_below, yields_longer, yields_sound}
use Rattle.a68_yields.proofs.laws.yields_are_sound.Goals as goal

pub returns-clause-sound : goal.returns-clause-sound
returns-clause-sound c = λ k start nodes ys fs sound few p. yields_sound k start sound p few

pub returns-clause-longer : goal.returns-clause-longer
returns-clause-longer c = λ k start nodes ys fs p. (yields_longer k start p).long

pub returns-clause-kept : goal.returns-clause-kept
returns-clause-kept c = λ k start nodes ys fs p. (yields_longer k start p).kept

pub returns-clause-tables : goal.returns-clause-tables
returns-clause-tables c = λ k start nodes ys fs sound defined behind few p. tables_below k start sound defined behind p few
