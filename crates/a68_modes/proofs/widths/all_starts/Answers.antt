use Rattle.std.proofs.Common.{◌≡◌, ◌∙◌, ◌+◌, ℕ, List, length, ap, arith, subst, sym}
use Rattle.std.proofs.lemmas.List.{get_or_read, length_push}
use Rattle.std.specs.Prelude.{IfSome, slice_get}
use Rattle.a68_modes.proofs.Measuring.{each-pushed}
use Rattle.a68_modes.specs.Known.{AreStarts, own_fields}
use Rattle.a68_modes.specs.Nodes.{shape_at}
use Rattle.a68_modes.specs.declared.shape.Shape.{Shape}
use Rattle.a68_modes.specs.declared.shape.Shape.TheVariants.{Blank}
use Rattle.a68_modes.specs.declared.widths.Starts.{Starts}
use Rattle.a68_modes.proofs.widths.all_starts.Goals as goal

pub loop-shape-preserved : goal.loop-shape-preserved
loop-shape-preserved c =
    let modes = c.args.shapes.now in
    let i = c.loop-shape.shape-index in
    let old = c.loop-shape.all.items in
    let one = c.in_ok-starts.starts in
    let P = λ (m : ℕ) (s : Starts). AreStarts modes (own_fields (shape_at modes m)) s.cells.items in
    let at : c.shape-item.result ≡ shape_at modes (length old) =
    get_or_read modes i c.shape-item.result c.loop-shape-test.true c.shape-item.is Blank ∙ ap (λ m. shape_at modes m) (sym c.loop-shape.invariant.count) in
    let here : P (length old) one = subst (λ (s : Shape). AreStarts modes (own_fields s) one.cells.items) at c.in_ok-starts.ensures in record {
      count = omega (arith, ap (λ (l : List Starts). length l) c.in_ok-push.ensures.items, length_push old one, c.loop-shape.invariant.count);
      starts = λ m. subst (λ (l : List Starts). IfSome (slice_get l m) (P m)) (sym c.in_ok-push.ensures.items) (each-pushed P old one c.loop-shape.invariant.starts here m);
    }
