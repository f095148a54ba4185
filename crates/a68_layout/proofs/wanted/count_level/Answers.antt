use Rattle.std.proofs.Common.{◌∙◌, arith}
use Rattle.a68_layout.proofs.Founds.{rows-more}
use Rattle.a68_layout.proofs.Inwards.{one-counted}
use Rattle.a68_layout.proofs.wanted.count_level.Goals as goal

pub returns-then-counted-gt-MOST_COUNTED : goal.returns-then-counted-gt-MOST_COUNTED
returns-then-counted-gt-MOST_COUNTED c = omega (arith, c.loop-row.invariant.sum, c.loop-row.invariant.fits)

pub loop-row-preserved : goal.loop-row-preserved
loop-row-preserved c =
    let more = rows-more c.args.modes.now c.args.rows.now c.loop-row.row-index c.row-item.result c.loop-row-test.true c.row-item.is in
    record {
      fits = omega (arith, c.count_behind-counted.ensures);
      sum = one-counted 1 c.loop-row.counted c.count_behind-counted.result _ _ _ more c.count_behind-counted.ensures ∙ c.loop-row.invariant.sum;
    }
