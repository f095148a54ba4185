use Rattle.std.proofs.Common.{List, length, ap, arith}
use Rattle.a68_values.specs.Content.{Content}
use Rattle.a68_steps.proofs.Parts.{other-count}
use Rattle.a68_steps.proofs.fetching.parts_of.Goals as goal

pub returns-then-len-count : goal.returns-then-len-count
returns-then-len-count c =
    other-count c.args.value c.in_ok-parts.parts c.args.count c.in_ok-parts.ensures
    (λ e. c.if-len-count.true (omega (arith, c.len.ensures, ap (λ (l : List Content). length l) c.parts.view_is, e)))
