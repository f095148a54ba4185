use Rattle.std.proofs.Common.{◌≡◌, ◌<◌, ◌++◌, ◌∷◌, [], ℕ, List, length, ap, ◌∙◌, arith, sym, take}
use Rattle.std.specs.Prelude.{map}
use Rattle.std.proofs.lemmas.List.{take_more, map-append}
use Rattle.std.proofs.Math.Seq.{take-length}
use Rattle.a68_equiv.proofs.codes.places.Goals as goal

pub loop-preserved : goal.loop-preserved
loop-preserved c =
    let xs = c.deref-items.result.now in
    let lt : c.loop.index < length xs = omega arith in
    c.in_ok-push.ensures.items ∙ ap (λ (ys : List ℕ). ys ++ 0 ∷ []) c.loop.invariant ∙ sym (ap (λ (ys : List ℕ). 11 ∷ map (λ p. 0) ys) (take_more xs c.loop.index 0 lt) ∙ ap (λ (ys : List ℕ). 11 ∷ ys) (map-append (λ p. 0) (take c.loop.index xs) _))

pub returns : goal.returns
returns c =
    let xs = c.deref-items.result.now in
    let all : c.loop.index ≡ length xs = omega arith in
    let placed : c.loop.code.items ≡ 11 ∷ map (λ p. 0) xs = rw (all, take-length) at c.loop.invariant in
    placed ∙ ap (λ (ys : List ℕ). 11 ∷ map (λ p. 0) ys) (c.deref-items.ensures.value ∙ c.params.view_is)
