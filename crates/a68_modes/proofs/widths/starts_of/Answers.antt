use Rattle.std.proofs.Common.{◌≡◌, ◌∙◌, ◌+◌, ℕ, List, length, min, take, ap, arith, subst, sym}
use Rattle.std.proofs.lemmas.List.{length_push}
use Rattle.std.specs.Prelude.{IfSome, slice_get}
use Rattle.a68_modes.proofs.Measuring.{each-pushed, start-on}
use Rattle.a68_modes.specs.Widths.{most_cells, width_of_fields, width_within}
use Rattle.a68_modes.proofs.widths.starts_of.Goals as goal

pub loop-field-preserved : goal.loop-field-preserved
loop-field-preserved c =
    let modes = c.args.shapes.now in
    let fields = c.args.fields.now in
    let i = c.loop-field.field-index in
    let old = c.loop-field.starts.items in
    let next = c.add-before.result in
    let width = width_within (length modes) modes in
    let P = λ (k cells : ℕ). cells ≡ min (most_cells + 1) (width_of_fields width (take k fields)) in
    let one = c.in-Some.ensures (length modes) (omega (arith, c.if-one-shapes.false)) in
    let last : P (i + 1) next = start-on width fields i c.loop-field.before next c.in-Some.one.cells (0, 0) c.loop-field-test.true c.loop-field.invariant.last one c.add-before.ensures in
    let here : P (length old) next = subst (λ k. P k next) (sym c.loop-field.invariant.count) last in record {
      count = omega (arith, ap (λ (l : List ℕ). length l) c.in_ok-push-2.ensures.items, length_push old next, c.loop-field.invariant.count);
      last = last;
      starts = λ k. subst (λ (l : List ℕ). IfSome (slice_get l k) (P k)) (sym c.in_ok-push-2.ensures.items) (each-pushed P old next c.loop-field.invariant.starts here k);
    }
