use Rattle.std.proofs.Common.{◌≤◌, length, arith}
use Rattle.a68_lister.proofs.Laying.{list_more, list_all}
use Rattle.a68_lister.specs.Layout.{listed, spellings_in}
use Rattle.a68_lister.proofs.layout.listing.Goals as goal

pub loop-i-preserved : goal.loop-i-preserved
loop-i-preserved c = (
  list_more (spellings_in c.args.symbols.now) c.loop-i.i c.spelling-symbol.result.now c.loop-i.before.now c.loop-i.depth c.loop-i.text c.put_gap.new.text c.put.new.text (listed (spellings_in c.args.symbols.now))
      c.depth_behind-depth.result c.spelling-symbol.ensures c.loop-i.invariant.0 c.in_ok-put_gap.ensures c.in_ok-put.ensures c.depth_behind-depth.ensures.is,
  omega (arith, c.loop-i.invariant.1, c.depth_behind-depth.ensures.most),
)

pub returns : goal.returns
returns c =
    let high : length c.args.symbols.now.symbols ≤ c.loop-i.i = omega arith in
    list_all c.args.symbols.now c.loop-i.i c.loop-i.before.now c.loop-i.depth c.loop-i.text c.put-2.new.text (listed (spellings_in c.args.symbols.now)) high c.loop-i.invariant.0 c.in_ok-put-2.ensures
