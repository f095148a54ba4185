use Rattle.std.proofs.Common.{◌≡◌, ◌∙◌, ◌+◌, drop, ap, refl, sym, arith, rules, pos, get_or, w64, to_z, of_z}
use Rattle.std.proofs.lemmas.Int.{to_z-of_z}
use Rattle.a68_layout.specs.Stretches.{capped}
use Rattle.a68_layout.specs.Views.{last_offset}
use Rattle.a68_layout.proofs.Spreads.{next_last, offset_more}
use Rattle.a68_layout.proofs.spreading.last_behind.Goals as goal
use Rattle.a68_values.specs.declared.held.Dim.{Dim}

pub loop-dim-preserved : goal.loop-dim-preserved
loop-dim-preserved c =
    let none : Dim = record { lower = pos 0; upper = pos 0; stride = 0 } in
    let dim = get_or c.args.dims.now c.loop-dim.dim-index none in
    let rest = drop (c.loop-dim.dim-index + 1) c.args.dims.now in
    let lower : to_z w64 (of_z w64 dim.lower) ≡ dim.lower = to_z-of_z w64 dim.lower (search rules) in
    let upper : to_z w64 (of_z w64 dim.upper) ≡ dim.upper = to_z-of_z w64 dim.upper (search rules) in
    record {
      few = omega arith;
      sum = next_last c.min-last-in-loop-dim.result c.loop-dim.last c.saturating_sub-steps.result c.extent.result _ _ dim.stride (last_offset rest)
          (rw (lower, upper) at c.extent.ensures) c.saturating_sub-steps.ensures refl c.min-last-in-loop-dim.ensures
          ∙ ap (λ n. capped (c.loop-dim.last + n)) (sym (offset_more c.args.dims.now c.loop-dim.dim-index none c.loop-dim-test.true))
          ∙ c.loop-dim.invariant.sum;
    }
