use Rattle.std.proofs.Common.{◌∙◌, add-one, refl}
use Rattle.a68_races.proofs.Lasts.{latest_end, latest_next}
use Rattle.a68_races.proofs.cells.Lasts.latest.Goals as goal

pub loop-last-preserved : goal.loop-last-preserved
loop-last-preserved c =
    rw add-one
    (latest_next c.args.writes c.args.self.now c.deref-last-items.result.now c.args.known.now c.args.strand c.loop-last.latest c.loop-last.last-index _ c.later-latest.result _
    (c.deref-last-items.ensures.value ∙ c.self.view_is) c.loop-last-test.true c.loop-last.invariant refl c.later-latest.ensures)

pub returns : goal.returns
returns c =
    latest_end c.args.writes c.args.self.now c.deref-last-items.result.now c.args.known.now c.args.strand c.loop-last.latest c.loop-last.last-index (c.deref-last-items.ensures.value ∙ c.self.view_is)
    c.loop-last-test.false c.loop-last.invariant
