use Rattle.a68_symbols.proofs.Cutting.{refused_long}
use Rattle.a68_symbols.proofs.cut.symbols.Goals as goal

pub returns-then-bytes-gt-MOST_BYTES-clause-answer :
    goal.returns-then-bytes-gt-MOST_BYTES-clause-answer
returns-then-bytes-gt-MOST_BYTES-clause-answer c = rw c.refused.ensures (refused_long _ c.if-bytes-gt-MOST_BYTES.true)
