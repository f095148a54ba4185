use Rattle.std.proofs.Common.{◌≡◌, ◌+◌, ◌-◌, arith, pos, drop}
use Rattle.a68_layout.proofs.Spreads.{fits, few_there, more_cells}
use Rattle.a68_layout.proofs.spreading.spread.Goals as goal

pub repeat-requires-clause-some : goal.repeat-requires-clause-some
repeat-requires-clause-some c =
    (fits c.args.base c.args.dims.now (c.loop-at.at - 1) (record { lower = pos 0; upper = pos 0; stride = 0 }) (omega arith) c.requires.some c.requires.counted c.requires.few).some

pub repeat-requires-clause-counted : goal.repeat-requires-clause-counted
repeat-requires-clause-counted c =
    (fits c.args.base c.args.dims.now (c.loop-at.at - 1) (record { lower = pos 0; upper = pos 0; stride = 0 }) (omega arith) c.requires.some c.requires.counted c.requires.few).counted

pub repeat-requires-clause-far : goal.repeat-requires-clause-far
repeat-requires-clause-far c =
    (fits c.args.base c.args.dims.now (c.loop-at.at - 1) (record { lower = pos 0; upper = pos 0; stride = 0 }) (omega arith) c.requires.some c.requires.counted c.requires.few).far

pub repeat-requires-clause-few : goal.repeat-requires-clause-few
repeat-requires-clause-few c =
    let back : c.loop-at.at - 1 + 1 ≡ c.loop-at.at = omega arith in
    few_there c.args.base _ (drop (c.loop-at.at - 1 + 1) c.args.dims.now) c.loop-at.cells.items
    (fits c.args.base c.args.dims.now (c.loop-at.at - 1) (record { lower = pos 0; upper = pos 0; stride = 0 }) (omega arith) c.requires.some c.requires.counted c.requires.few)
    (rw back c.loop-at.invariant.cells)

pub loop-at-preserved : goal.loop-at-preserved
loop-at-preserved c =
    let back : c.loop-at.at - 1 + 1 ≡ c.loop-at.at = omega arith in
    record {
      within = omega arith;
      cells = more_cells c.args.base c.args.dims.now (c.loop-at.at - 1) (record { lower = pos 0; upper = pos 0; stride = 0 }) c.loop-at.cells.items _ (omega arith)
          (rw back c.loop-at.invariant.cells) c.in_ok-repeat.ensures;
    }
