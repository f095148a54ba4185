use Rattle.std.proofs.Common.{◌≡◌, ◌<◌, ◌∙◌, ◌++◌, ◌∷◌, [], ℕ, List, length, take, get_or, ap, sym, arith}
use Rattle.std.specs.Prelude.{map}
use Rattle.std.proofs.lemmas.List.{take_more, map-append}
use Rattle.std.proofs.Math.Seq.{take-length}
use Rattle.a68_equiv.specs.Graph.{number_of}
use Rattle.a68_equiv.proofs.rows.numbers.Goals as goal

pub loop-id-preserved : goal.loop-id-preserved
loop-id-preserved c =
    let xs = c.deref-id-items.result.now in
    let lt : c.loop-id.id-index < length xs = omega arith in
    let f = λ (m : ℕ). number_of (record { id = m; fixed = c.args.fixed }) in
    let at = get_or xs c.loop-id.id-index 0 in
    let pushed = ◌∙◌ {A = List ℕ} c.in_ok-push.ensures.items (◌∙◌ {A = List ℕ} (ap (λ (n : ℕ). c.loop-id.items.items ++ n ∷ []) c.number.ensures) (ap (λ (ys : List ℕ). ys ++ f at ∷ []) c.loop-id.invariant)) in
    ◌∙◌ {A = List ℕ} pushed (sym (◌∙◌ {A = List ℕ} (ap (λ (ys : List ℕ). map f ys) (take_more xs c.loop-id.id-index 0 lt)) (map-append f (take c.loop-id.id-index xs) (at ∷ []))))

pub returns : goal.returns
returns c =
    let xs = c.deref-id-items.result.now in
    let all : c.loop-id.id-index ≡ length xs = omega arith in
    let f = λ (m : ℕ). number_of (record { id = m; fixed = c.args.fixed }) in
    let numbered : c.loop-id.items.items ≡ map f xs = rw (all, take-length) at c.loop-id.invariant in
    ◌∙◌ {A = List ℕ} numbered (ap (λ (ys : List ℕ). map f ys) (c.deref-id-items.ensures.value ∙ c.parts.view_is))
