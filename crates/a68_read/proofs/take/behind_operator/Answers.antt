use Rattle.std.proofs.Common.{sym, ◌∙◌}
use Rattle.a68_tree.specs.Grammar.{IsSign}
use Rattle.a68_lookahead.specs.Symbols.{is_operator}
use Rattle.a68_read.proofs.Firsts.{known, operator_of, no_operator}
use Rattle.a68_read.proofs.take.behind_operator.Goals as goal

pub returns-then-is_operator-clause-rest : goal.returns-then-is_operator-clause-rest
returns-then-is_operator-clause-rest c =
    let d = c.in_ok-rest.ensures.cases in
    known IsSign is_operator _ _ _ d.0 operator_of (sym c.is_operator.ensures ∙ c.if-is_operator.true)

pub returns-else-is_operator-clause-rest : goal.returns-else-is_operator-clause-rest
returns-else-is_operator-clause-rest c = no_operator _ (sym c.is_operator.ensures ∙ c.if-is_operator.false)
