use Rattle.std.proofs.Common.{◌≡◌, ◌∙◌, arith, rules, pos, get_or, w64, to_z, of_z}
use Rattle.std.proofs.lemmas.Int.{to_z-of_z}
use Rattle.a68_layout.proofs.Products.{next_seen}
use Rattle.a68_layout.proofs.extents.elements_seen.Goals as goal
use Rattle.a68_values.specs.declared.held.Dim.{Dim}

pub loop-dim-preserved : goal.loop-dim-preserved
loop-dim-preserved c =
    let none : Dim = record { lower = pos 0; upper = pos 0; stride = 0 } in
    let dim = get_or c.args.dims.now c.loop-dim.dim-index none in
    let lower : to_z w64 (of_z w64 dim.lower) ≡ dim.lower = to_z-of_z w64 dim.lower (search rules) in
    let upper : to_z w64 (of_z w64 dim.upper) ≡ dim.upper = to_z-of_z w64 dim.upper (search rules) in
    record {
      fits = omega arith;
      product =
          next_seen c.args.most c.loop-dim.count c.extent.result c.saturating_mul.result _ c.args.dims.now c.loop-dim.dim-index none
          c.loop-dim-test.true (omega arith) (rw (lower, upper) at c.extent.ensures) c.saturating_mul.ensures c.min-count-in-loop-dim.ensures
          ∙ c.loop-dim.invariant.product;
    }
