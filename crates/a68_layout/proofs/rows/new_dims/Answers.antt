use Rattle.std.proofs.Common.{◌≡◌, ◌+◌, ◌∷◌, drop, refl, arith, rules, pos, get_or, w64, to_z, of_z}
use Rattle.std.proofs.Math.Nat.{div-le_self}
use Rattle.std.proofs.lemmas.Int.{to_z-of_z}
use Rattle.std.proofs.lemmas.List.{drop_more}
use Rattle.a68_layout.proofs.Products.{next_stride, none_left, strides_more}
use Rattle.a68_layout.specs.Widths.{between, elements_of}
use Rattle.a68_layout.proofs.rows.new_dims.Goals as goal

pub loop-lower-preserved : goal.loop-lower-preserved
loop-lower-preserved c =
    let bounds = get_or c.args.bounds.now c.loop-lower.lower-index (pos 0, pos 0) in
    let rest = drop (c.loop-lower.lower-index + 1) c.args.bounds.now in
    let lower : to_z w64 (of_z w64 bounds.0) ≡ bounds.0 = to_z-of_z w64 bounds.0 (search rules) in
    let upper : to_z w64 (of_z w64 bounds.1) ≡ bounds.1 = to_z-of_z w64 bounds.1 (search rules) in
    let more : drop c.loop-lower.lower-index c.args.bounds.now ≡ bounds ∷ rest = drop_more c.args.bounds.now c.loop-lower.lower-index (pos 0, pos 0) c.loop-lower-test.true in
    let count = rw (lower, upper) at c.extent-count.ensures in
    let none = rw more at c.loop-lower.invariant.none in
    let stride = next_stride c.args.width (between bounds.0 bounds.1) (elements_of rest) c.loop-lower.stride c.max-stride.result c.loop-lower.invariant.few (rw more at c.loop-lower.invariant.whole)
    none (rw count at c.max-stride.ensures) in
    record {
      few = omega (arith, div-le_self c.loop-lower.stride c.max-stride.result);
      whole = stride;
      none = none_left (between bounds.0 bounds.1) (elements_of rest) c.args.width none;
      there = strides_more c.args.width c.loop-lower.dims.items _ bounds rest _ _ c.in_ok-push.ensures.ok (rw (lower, upper, stride) refl) (rw more at c.loop-lower.invariant.there);
    }
