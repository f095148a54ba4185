use Rattle.std.proofs.Common.{◌≡◌, ◌<◌, ◌++◌, ◌∷◌, [], ◌∙◌, List, ap, take, ℕ, subst, sym, arith}
use Rattle.std.proofs.lemmas.List.{take_more}
use Rattle.a68_modes.specs.declared.shape.Shape.{Shape}
use Rattle.a68_modes.specs.declared.shape.Shape.TheVariants.{Blank}
use Rattle.a68_modes.specs.Nodes.{standard_shapes, HoldsNodes}
use Rattle.a68_modes.proofs.Holding.{standard_holds}
use Rattle.a68_modes.proofs.Measuring.{none-laid}
use Rattle.a68_modes.proofs.modes.Modes.new.Goals as goal

pub invariant_of-result : goal.invariant_of-result
invariant_of-result c =
    let all : c.loop-id.id ≡ 15 = omega arith in
    let is : c.loop-id.items.items ≡ standard_shapes = c.loop-id.invariant ∙ ap (λ (n : ℕ). take n standard_shapes) all in
    (subst HoldsNodes (sym is) standard_holds, none-laid c.loop-id.items.items c.new-starts.result.items c.new-starts.ensures.items)

pub loop-id-preserved : goal.loop-id-preserved
loop-id-preserved c =
    let i = c.loop-id.id in
    let lt : i < 15 = omega arith in
    c.in_ok-push.ensures.items ∙ ap (λ (xs : List Shape). xs ++ c.in_ok-shape.shape ∷ []) c.loop-id.invariant ∙ ap (λ (s : Shape). take i standard_shapes ++ s ∷ []) c.in_ok-shape.ensures ∙ sym (take_more standard_shapes i Blank lt)
