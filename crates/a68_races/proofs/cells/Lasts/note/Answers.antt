use Rattle.std.proofs.Common.{◌∙◌, rules}
use Rattle.a68_races.proofs.Lasts.{noted_here, noted_last}
use Rattle.a68_races.proofs.cells.Lasts.note.Goals as goal

pub returns-then-last-times : goal.returns-then-last-times
returns-then-last-times c =
    noted_here c.args.self.now c.loop-at.self-inside.items.items c.args.times c.index-last.result.now c.loop-at.at c.max.result c.max-then-last-times.result (c.loop-at.invariant ∙ c.self.view_is) (search rules)
    c.index-last.ensures c.if-last-times.true c.max.ensures c.max-then-last-times.ensures

pub returns : goal.returns
returns c = noted_last c.args.self.now c.loop-at.self-inside.items.items c.push.new.self.items c.args.times (c.loop-at.invariant ∙ c.self.view_is) c.in_ok-push.ensures.items
