use Rattle.std.proofs.Common.{◌≡◌, ◌+◌, ◌-◌, ◌<◌, ◌≤◌, ◌∙◌, List, length, drop, ap, sym, arith}
use Rattle.std.specs.Prelude.{slice_index_or}
use Rattle.a68_acts.specs.Fetching.{assign_elements}
use Rattle.a68_layout.specs.Widths.{width_of}
use Rattle.a68_steps.proofs.Filled.{assigned-one, whole-width}
use Rattle.a68_steps.proofs.Lasts.{gone_of, rest_of}
use Rattle.a68_steps.specs.Lasts.{last_of}
use Rattle.a68_values.specs.Content.{Content}
use Rattle.a68_steps.proofs.fetching.assign_elements.Goals as goal

pub assign_element-requires-clause-room : goal.assign_element-requires-clause-room
assign_element-requires-clause-room c =
    let i = c.loop-left.left - 1 in
    let inside : i < length c.args.cells.now = omega (arith, c.loop-left.invariant.fits, c.loop-left-test.true) in
    let same : c.args.width ≡ width_of c.args.modes.now c.args.of =
    whole-width c.args.modes.now c.args.of c.args.width (slice_index_or c.args.cells.now i 0) c.requires.width (c.requires.room i 0 inside) in
    omega (arith, same)

pub loop-left-preserved : goal.loop-left-preserved
loop-left-preserved c =
    let ms = c.args.modes.now in
    let of = c.args.of in
    let parts = c.args.parts in
    let behind = c.args.steps.now in
    let left = c.loop-left.left in
    let i = left - 1 in
    let at = slice_index_or c.args.cells.now i 0 in
    let inside : i < length c.args.cells.now = omega (arith, c.loop-left.invariant.fits, c.loop-left-test.true) in
    let next : left ≡ i + 1 = omega (arith, c.loop-left-test.true) in
    let few : left ≤ length parts = omega (arith, c.loop-left.invariant.fits, c.requires.same) in
    let same : c.args.width ≡ width_of ms of = whole-width ms of c.args.width at c.requires.width (c.requires.room i 0 inside) in
    record {
      fits = omega (arith, c.loop-left.invariant.fits);
      taken = c.in_ok-assign_element.ensures.values ∙ rest_of parts c.loop-left.values left i c.loop-left.invariant.taken next few;
      made = assigned-one ms of c.args.cells.now i 0 (last_of c.loop-left.values) (drop left parts) c.loop-left.steps c.assign_element.new.steps behind inside
          (c.loop-left.invariant.made ∙ ap (λ k. assign_elements ms of (drop k c.args.cells.now) (drop left parts) behind) next)
          (c.in_ok-assign_element.ensures.steps at (ap (λ w. at + w) (sym same)))
          ∙ ap (λ (l : List Content). assign_elements ms of (drop i c.args.cells.now) l behind) (gone_of parts c.loop-left.values left i c.loop-left.invariant.taken next few);
    }
