use Rattle.std.proofs.Common.{◌+◌, drop, ap, arith}
use Rattle.std.proofs.lemmas.List.{drop_all, length-append}
use Rattle.a68_layout.specs.Rooms.{inwards, all_inwards}
use Rattle.a68_layout.specs.Wanting.{row_of, rows_of}
use Rattle.a68_layout.proofs.Founds.{below-begin, below-on, below-end, row-first, rows-more}
use Rattle.a68_layout.proofs.wanted.next_level.Goals as goal

pub loop-row-init : goal.loop-row-init
loop-row-init c = record {
  few = c.requires;
  below = below-begin c.args.modes.now _ c.args.rows.now c.new-next.ensures.items;
}

pub find_behind-requires : goal.find_behind-requires
find_behind-requires c =
    let more = rows-more c.args.modes.now c.args.rows.now c.loop-row.row-index c.row-item.result c.loop-row-test.true c.row-item.is in
    let few = rw (ap (all_inwards 1) more) at c.loop-row.invariant.few in
    omega (arith, few, length-append (inwards 1 (row_of c.args.modes.now c.row-item.result)) (all_inwards 1 (rows_of c.args.modes.now (drop (c.loop-row.row-index + 1) c.args.rows.now))))

pub loop-row-preserved : goal.loop-row-preserved
loop-row-preserved c =
    let more = rows-more c.args.modes.now c.args.rows.now c.loop-row.row-index c.row-item.result c.loop-row-test.true c.row-item.is in
    let few = rw (ap (all_inwards 1) more) at c.loop-row.invariant.few in
    record {
      few = omega (arith, few, length-append (inwards 1 (row_of c.args.modes.now c.row-item.result)) (all_inwards 1 (rows_of c.args.modes.now (drop (c.loop-row.row-index + 1) c.args.rows.now))));
      below = below-on c.args.modes.now _ _ _ _ c.row-item.result _ (row-first c.args.rows.now c.loop-row.row-index c.row-item.result c.loop-row-test.true c.row-item.is)
          c.in_ok-find_behind.ensures c.loop-row.invariant.below;
    }

pub returns : goal.returns
returns c = below-end c.args.modes.now _ _ _ (drop_all c.loop-row.row-index c.args.rows.now (omega arith)) c.loop-row.invariant.below
