use Rattle.a68_symbols.proofs.Quotes.{quoted_longest, open_longest}
use Rattle.a68_symbols.proofs.stretch.from_quote.Goals as goal
use Rattle.std.proofs.Common.{arith}
use Rattle.a68_symbols.proofs.stretch.from_quote.Goals.{else-end-text-via-then-end-text+else-text-end-eq34, else-end-text-via-else-end-text}

pub returns-then-text-end-eq34 : goal.returns-then-text-end-eq34
returns-then-text-end-eq34 c =
    quoted_longest _ _ c.requires.some c.requires.begins c.items_end-end.ensures c.if-end-text.true c.if-text-end-eq34.true

pub returns : goal.returns
returns c =
    open_longest _ _ c.requires.some c.requires.begins c.items_end-end.ensures (elim c.else-end-text.branch [
      | else-end-text-via-then-end-text+else-text-end-eq34 w ↦ λ lt e. w.if-text-end-eq34.false e
      | else-end-text-via-else-end-text w ↦ λ lt e. omega (arith, lt, w.if-end-text.false)
    ])
