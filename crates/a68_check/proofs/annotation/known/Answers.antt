use Rattle.std.proofs.lemmas.Result.{err_from_is_err_and}
use Rattle.a68_check.proofs.Answering.{stops}
use Rattle.a68_meaning.specs.Meaning.{IsMisused}
use Rattle.a68_ranges.specs.Twice.{RefusesTwice}
use Rattle.a68_check.proofs.annotation.known.Goals as goal

pub returns-in_err-ranges-clause-wrong : goal.returns-in_err-ranges-clause-wrong
returns-in_err-ranges-clause-wrong c =
    let p = err_from_is_err_and c.from_residual.result c.from_residual.ensures.1 in rw (p.1, p.2)
    (stops (RefusesTwice c.args.tree.now) (IsMisused c.args.tree.now) c.in_err-ranges.field-0.0 (λ r t. absurd (c.requires.once t.id t.first.broken)) c.in_err-ranges.ensures.refused)
