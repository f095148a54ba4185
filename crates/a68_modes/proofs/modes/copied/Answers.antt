use Rattle.std.proofs.Common.{◌≡◌, ◌<◌, ◌++◌, ◌∷◌, [], ◌∙◌, List, length, take, sym, ap, arith}
use Rattle.std.proofs.lemmas.List.{take_more}
use Rattle.std.proofs.Math.Seq.{take-length}
use Rattle.a68_modes.specs.declared.shape.Shape.{Shape}
use Rattle.a68_modes.proofs.modes.copied.Goals as goal

pub loop-shape-preserved : goal.loop-shape-preserved
loop-shape-preserved c =
    let shapes = c.args.shapes.now in
    let i = c.loop-shape.shape-index in
    let lt : i < length shapes = omega arith in
    c.in_ok-push.ensures.items ∙ ap (λ (xs : List Shape). xs ++ c.in_ok-copy.copy ∷ []) c.loop-shape.invariant ∙ ap (λ (s : Shape). take i shapes ++ s ∷ []) (c.in_ok-copy.ensures ∙ c.shape-item.is) ∙ sym (take_more shapes i c.shape-item.result lt)

pub returns : goal.returns
returns c =
    let all : c.loop-shape.shape-index ≡ length c.args.shapes.now = omega arith in
    rw (all, take-length) at c.loop-shape.invariant
