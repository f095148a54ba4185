use Rattle.std.proofs.Common.{◌∙◌, sym}
use Rattle.std.proofs.lemmas.Bool.{false≢true}
use Rattle.a68_declare.proofs.Falling.{no_way}
use Rattle.a68_declare.proofs.slopes.leads_back.Goals as goal

pub returns-then-falls : goal.returns-then-falls
returns-then-falls c =
    let rows = c.args.slope.now.rows.items in
    let heights = c.args.slope.now.heights.items in
    let fall = (rw (c.deref.ensures.value, c.deref-2.ensures.value) at (sym c.falls.ensures)) ∙ c.if-falls.true in
    (λ t. absurd (false≢true t), λ w. absurd (no_way rows heights c.requires.slope.closed c.requires.slope.gentle c.args.node c.requires.there fall w))
