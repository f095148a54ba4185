use Rattle.std.proofs.Common.{sym, ◌∙◌}
use Rattle.a68_tree.specs.Grammar.{IsMonadic}
use Rattle.a68_lookahead.specs.Symbols.{is_monadic}
use Rattle.a68_read.proofs.Firsts.{known, monadic_of, no_monadic}
use Rattle.a68_read.proofs.take.behind_monadic.Goals as goal

pub returns-then-is_monadic-clause-rest : goal.returns-then-is_monadic-clause-rest
returns-then-is_monadic-clause-rest c =
    let d = c.in_ok-rest.ensures.cases in
    known IsMonadic is_monadic _ _ _ d.0 monadic_of (sym c.is_monadic.ensures ∙ c.if-is_monadic.true)

pub returns-else-is_monadic-clause-rest : goal.returns-else-is_monadic-clause-rest
returns-else-is_monadic-clause-rest c = no_monadic _ (sym c.is_monadic.ensures ∙ c.if-is_monadic.false)
