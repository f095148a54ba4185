use Rattle.std.proofs.Common.{refl}
use Rattle.a68_yields.proofs.Alone.{one_run}
use Rattle.a68_yields.proofs.laws.yields_are_one.Goals as goal

pub returns-clause-modes : goal.returns-clause-modes
returns-clause-modes c = λ k start nodes others ys zs fs gs sound few less p q. (one_run k start sound p q refl few less).modes

pub returns-clause-yields : goal.returns-clause-yields
returns-clause-yields c = λ k start nodes others ys zs fs gs sound few less p q. (one_run k start sound p q refl few less).yields_are

pub returns-clause-findings : goal.returns-clause-findings
returns-clause-findings c = λ k start nodes others ys zs fs gs sound few less p q. (one_run k start sound p q refl few less).findings
