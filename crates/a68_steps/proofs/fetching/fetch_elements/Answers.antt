use Rattle.std.proofs.Common.{◌≡◌, ◌+◌, ◌-◌, ◌<◌, length, drop, ap, sym, ◌∙◌, arith}
use Rattle.std.specs.Prelude.{slice_index_or}
use Rattle.a68_acts.specs.Fetching as fetching
use Rattle.a68_layout.specs.Widths.{width_of}
use Rattle.a68_steps.proofs.Filled.{whole-width, fetched-one}
use Rattle.a68_steps.proofs.fetching.fetch_elements.Goals as goal

pub fetch_element-requires-clause-room : goal.fetch_element-requires-clause-room
fetch_element-requires-clause-room c =
    let i = c.loop-left.left - 1 in
    let inside : i < length c.args.cells.now = omega (arith, c.loop-left.invariant.fits, c.loop-left-test.true) in
    let same : c.args.width ≡ width_of c.args.modes.now c.args.of =
    whole-width c.args.modes.now c.args.of c.args.width (slice_index_or c.args.cells.now i 0) c.requires.width (c.requires.room i 0 inside) in
    omega (arith, same)

pub loop-left-preserved : goal.loop-left-preserved
loop-left-preserved c =
    let i = c.loop-left.left - 1 in
    let inside : i < length c.args.cells.now = omega (arith, c.loop-left.invariant.fits, c.loop-left-test.true) in
    let same : c.args.width ≡ width_of c.args.modes.now c.args.of =
    whole-width c.args.modes.now c.args.of c.args.width (slice_index_or c.args.cells.now i 0) c.requires.width (c.requires.room i 0 inside) in
    let next : c.loop-left.left ≡ i + 1 = omega (arith, c.loop-left-test.true) in
    record {
      fits = omega (arith, c.loop-left.invariant.fits);
      made = fetched-one c.args.modes.now c.args.of c.args.cells.now i 0 c.loop-left.steps c.fetch_element.new.steps c.args.steps.now inside
          (c.loop-left.invariant.made ∙ ap (λ k. fetching.fetch_elements c.args.modes.now c.args.of (drop k c.args.cells.now) c.args.steps.now) next)
          (c.in_ok-fetch_element.ensures (slice_index_or c.args.cells.now i 0) (ap (λ w. slice_index_or c.args.cells.now i 0 + w) (sym same)));
    }
