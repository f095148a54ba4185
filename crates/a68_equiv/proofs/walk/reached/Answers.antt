use Rattle.std.proofs.Common.{◌≡◌, sym, ap, length, length-append, arith}
use Rattle.a68_equiv.proofs.Reach.{goes_on, whole, last_below, row_is, empty}
use Rattle.a68_equiv.proofs.walk.reached.Goals as goal

pub bounds-graph-at : goal.bounds-graph-at
bounds-graph-at c = last_below c.args.graph.now c.args.root c.loop-at.seen.items c.loop-at.noted.items c.pop.new.self.items c.in-Some.at c.in-Some.ensures.items c.loop-at.invariant

pub returns : goal.returns
returns c =
    let e : length c.loop-at.noted.items ≡ 0 = omega (arith, c.in_default.ensures.cases.0) in
    whole c.args.graph.now c.args.root c.loop-at.seen.items c.loop-at.noted.items (empty c.loop-at.noted.items e) c.loop-at.invariant

pub visit-requires : goal.visit-requires
visit-requires c =
    let below = last_below c.args.graph.now c.args.root c.loop-at.seen.items c.loop-at.noted.items c.pop.new.self.items c.in-Some.at c.in-Some.ensures.items c.loop-at.invariant in
    rw (c.deref.ensures.value, c.row.view_is, sym (row_is c.args.graph.now c.in-Some.at c.index-graph-at.result below c.index-graph-at.is), c.loop-at.invariant.long) (c.requires.closed c.in-Some.at below)

pub loop-at-preserved : goal.loop-at-preserved
loop-at-preserved c =
    let below = last_below c.args.graph.now c.args.root c.loop-at.seen.items c.loop-at.noted.items c.pop.new.self.items c.in-Some.at c.in-Some.ensures.items c.loop-at.invariant in
    let v = rw (c.deref.ensures.value, c.row.view_is, sym (row_is c.args.graph.now c.in-Some.at c.index-graph-at.result below c.index-graph-at.is)) at c.in_ok-visit.ensures in
    goes_on c.args.graph.now c.args.root c.loop-at.seen.items c.loop-at.noted.items c.pop.new.self.items c.in-Some.at c.visit.new.seen.items c.visit.new.noted.items c.requires.closed c.in-Some.ensures.items c.loop-at.invariant v

pub loop-at-smaller : goal.loop-at-smaller
loop-at-smaller c =
    let e = simp length-append at (ap length c.in-Some.ensures.items) in
    omega (arith, c.in_ok-visit.ensures.less)
