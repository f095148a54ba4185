use Rattle.std.proofs.Common.{◌≡◌, ◌∙◌, arith, rules, pos, get_or, w64, to_z, of_z}
use Rattle.std.proofs.lemmas.Int.{to_z-of_z}
use Rattle.a68_layout.proofs.Products.{next_elements}
use Rattle.a68_layout.proofs.extents.elements.Goals as goal

pub loop-lower-preserved : goal.loop-lower-preserved
loop-lower-preserved c =
    let bounds = get_or c.args.bounds.now c.loop-lower.lower-index (pos 0, pos 0) in
    let lower : to_z w64 (of_z w64 bounds.0) ≡ bounds.0 = to_z-of_z w64 bounds.0 (search rules) in
    let upper : to_z w64 (of_z w64 bounds.1) ≡ bounds.1 = to_z-of_z w64 bounds.1 (search rules) in
    record {
      fits = omega arith;
      product =
          next_elements c.args.most c.loop-lower.count c.extent.result c.saturating_mul.result _ c.args.bounds.now c.loop-lower.lower-index (pos 0, pos 0)
          c.loop-lower-test.true (omega arith) (rw (lower, upper) at c.extent.ensures) c.saturating_mul.ensures c.min-count-in-loop-lower.ensures
          ∙ c.loop-lower.invariant.product;
    }
