use Rattle.std.proofs.Common.{◌≡◌, ◌<◌, ◌++◌, ◌∷◌, [], ◌∙◌, ℕ, List, length, get_or, take, sym, ap, arith}
use Rattle.std.proofs.lemmas.List.{take_more}
use Rattle.std.proofs.Math.Seq.{take-length}
use Rattle.a68_equiv.specs.ModeKeys.{marked}
use Rattle.a68_equiv.proofs.Telling.{marked_more}
use Rattle.a68_equiv.proofs.keys.with_marks.Goals as goal

pub loop-number-preserved : goal.loop-number-preserved
loop-number-preserved c =
    let code = c.args.code.now in
    let i = c.loop-number.number-index in
    let lt : i < length code = omega arith in
    c.in_ok-push-2.ensures.items ∙ ap (λ (xs : List ℕ). xs ++ get_or code i 0 ∷ []) (c.in_ok-push.ensures.items ∙ ap (λ (xs : List ℕ). xs ++ 1 ∷ []) c.loop-number.invariant)
    ∙ sym (ap marked (take_more code i 0 lt) ∙ marked_more (take i code) (get_or code i 0))

pub returns : goal.returns
returns c =
    let all : c.loop-number.number-index ≡ length c.args.code.now = omega arith in
    rw (all, take-length) at c.loop-number.invariant
