use Rattle.std.proofs.Common.{◌+◌, drop, ap, arith}
use Rattle.std.proofs.lemmas.List.{length-append}
use Rattle.std.proofs.lemmas.Result.{err_from_is_err_and}
use Rattle.a68_layout.specs.Rooms.{inwards, all_inwards}
use Rattle.a68_layout.specs.Wanting.{row_of, rows_of}
use Rattle.a68_layout.proofs.Founds.{rows-more}
use Rattle.a68_layout.proofs.Made.{rest-on, stop-on}
use Rattle.a68_layout.proofs.wanted.make_level.Goals as goal

pub make_behind-requires : goal.make_behind-requires
make_behind-requires c =
    let more = rows-more c.args.modes.now c.args.rows.now c.loop-row.row-index c.row-item.result c.loop-row-test.true c.row-item.is in
    let few = rw (ap (all_inwards 1) more) at c.loop-row.invariant.few in
    omega (arith, few, length-append (inwards 1 (row_of c.args.modes.now c.row-item.result)) (all_inwards 1 (rows_of c.args.modes.now (drop (c.loop-row.row-index + 1) c.args.rows.now))))

pub returns-in_err-make_behind : goal.returns-in_err-make_behind
returns-in_err-make_behind c =
    let p = err_from_is_err_and c.from_residual.result c.from_residual.ensures.1 in
    let more = rows-more c.args.modes.now c.args.rows.now c.loop-row.row-index c.row-item.result c.loop-row-test.true c.row-item.is in
    rw (p.1, p.2) (stop-on c.in_err-make_behind.field-0.0 _ _ _ _ _ _ _ _ _ _ _ c.in_err-make_behind.ensures (rw (ap (all_inwards 1) more) at c.loop-row.invariant.rest))

pub loop-row-preserved : goal.loop-row-preserved
loop-row-preserved c =
    let more = rows-more c.args.modes.now c.args.rows.now c.loop-row.row-index c.row-item.result c.loop-row-test.true c.row-item.is in
    let few = rw (ap (all_inwards 1) more) at c.loop-row.invariant.few in
    record {
      few = omega (arith, few, length-append (inwards 1 (row_of c.args.modes.now c.row-item.result)) (all_inwards 1 (rows_of c.args.modes.now (drop (c.loop-row.row-index + 1) c.args.rows.now))));
      rest = rest-on _ _ _ _ _ _ _ _ _ c.in_ok-make_behind.ensures (rw (ap (all_inwards 1) more) at c.loop-row.invariant.rest);
    }
