use Rattle.std.proofs.Common.{◌≡◌, ◌∙◌, [], drop, ap, sym, arith, min, ◌-◌, ◌^◌, ◌+◌}
use Rattle.std.proofs.Math.ListN.{drop_of_length-le}
use Rattle.a68_acts.specs.Store.{all_parts}
use Rattle.a68_values.specs.Content.{contents_of}
use Rattle.a68_store.proofs.weight.+weight.Goals as goal

pub weight_of_all-returns : goal.weight_of_all-returns
weight_of_all-returns t c =
    let none : drop c.loop-part.part-index c.deref-part-items.result.now ≡ [] = drop_of_length-le _ c.loop-part-test.false in
    let sum : min (c.loop-part.all + 0) (2 ^ 64 - 1) ≡ min (all_parts (contents_of c.deref-part-items.result.now)) (2 ^ 64 - 1) =
    ap (λ l. min (c.loop-part.all + all_parts (contents_of l)) (2 ^ 64 - 1)) (sym none) ∙ c.loop-part.invariant.sum in
    rw (← c.parts.view_is, ← c.deref-part-items.ensures.value) (omega (arith, sum, c.loop-part.invariant.fits))
