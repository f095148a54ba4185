use Rattle.std.proofs.Common.{sym, ◌∙◌}
use Rattle.a68_tree.specs.Grammar.{IsDenotation}
use Rattle.a68_lookahead.specs.Symbols.{is_denotation}
use Rattle.a68_read.proofs.Firsts.{known, denotation_of, no_denotation}
use Rattle.a68_read.proofs.take.behind_denotation.Goals as goal

pub returns-then-is_denotation-clause-rest : goal.returns-then-is_denotation-clause-rest
returns-then-is_denotation-clause-rest c =
    let d = c.in_ok-rest.ensures.cases in
    known IsDenotation is_denotation _ _ _ d.0 denotation_of (sym c.is_denotation.ensures ∙ c.if-is_denotation.true)

pub returns-else-is_denotation-clause-rest : goal.returns-else-is_denotation-clause-rest
returns-else-is_denotation-clause-rest c = no_denotation _ (sym c.is_denotation.ensures ∙ c.if-is_denotation.false)
