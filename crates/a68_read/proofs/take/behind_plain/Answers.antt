use Rattle.std.proofs.Common.{sym, ◌∙◌}
use Rattle.a68_tree.specs.Grammar.{IsPlain}
use Rattle.a68_lookahead.specs.Symbols.{is_plain}
use Rattle.a68_read.proofs.Firsts.{known, plain_of, no_plain}
use Rattle.a68_read.proofs.take.behind_plain.Goals as goal

pub returns-then-is_plain-clause-rest : goal.returns-then-is_plain-clause-rest
returns-then-is_plain-clause-rest c =
    let d = c.in_ok-rest.ensures.cases in
    known IsPlain is_plain _ _ _ d.0 plain_of (sym c.is_plain.ensures ∙ c.if-is_plain.true)

pub returns-else-is_plain-clause-rest : goal.returns-else-is_plain-clause-rest
returns-else-is_plain-clause-rest c = no_plain _ (sym c.is_plain.ensures ∙ c.if-is_plain.false)
