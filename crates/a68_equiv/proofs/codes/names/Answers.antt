use Rattle.std.proofs.Common.{◌≡◌, ◌<◌, ◌++◌, ◌∷◌, [], ℕ, List, length, ap, ◌∙◌, arith, sym, take, get_or}
use Rattle.std.specs.Prelude.{map}
use Rattle.std.proofs.lemmas.List.{take_more, map-append}
use Rattle.std.proofs.Math.Seq.{take-length}
use Rattle.a68_equiv.proofs.codes.names.Goals as goal

pub loop-field-preserved : goal.loop-field-preserved
loop-field-preserved c =
    let xs = c.deref-field-items.result.now in
    let i = c.loop-field.field-index in
    let lt : i < length xs = omega arith in
    ◌∙◌ {A = List ℕ} c.in_ok-push.ensures.items (◌∙◌ {A = List ℕ} (ap (λ (ys : List ℕ). ys ++ (get_or xs i (0, 0)).0 ∷ []) c.loop-field.invariant)
    (sym (◌∙◌ {A = List ℕ} (ap (λ (ys : List (ℕ × ℕ)). 9 ∷ map (λ field. field.0) ys) (take_more xs i (0, 0) lt)) (ap (λ (ys : List ℕ). 9 ∷ ys) (map-append (λ (field : ℕ × ℕ). field.0) (take i xs) _)))))

pub returns : goal.returns
returns c =
    let xs = c.deref-field-items.result.now in
    let all : c.loop-field.field-index ≡ length xs = omega arith in
    let named : c.loop-field.code.items ≡ 9 ∷ map (λ field. field.0) xs = rw (all, take-length) at c.loop-field.invariant in
    ◌∙◌ {A = List ℕ} named (ap (λ (ys : List (ℕ × ℕ)). 9 ∷ map (λ field. field.0) ys) (c.deref-field-items.ensures.value ∙ c.fields.view_is))
