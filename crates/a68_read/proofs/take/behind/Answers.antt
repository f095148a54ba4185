use Rattle.std.proofs.Common.{sym, ◌∙◌}
use Rattle.a68_read.proofs.Firsts.{begins}
use Rattle.a68_read.proofs.take.behind.Goals as goal

pub returns-then-eq-clause-rest : goal.returns-then-eq-clause-rest
returns-then-eq-clause-rest c =
    let d = c.in_ok-first.ensures.cases in
    begins _ _ _ _ d.0 (sym c.eq.ensures ∙ c.if-eq.true)
