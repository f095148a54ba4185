use Rattle.std.proofs.Common.{ℕ, List, [], ◌∷◌, length, ap, ◌∙◌, arith}
use Rattle.std.proofs.lemmas.List.{length-append}
use Rattle.a68_input.proofs.Preludes.{prelude_long}
use Rattle.a68_input.proofs.joining.join.Goals as goal

pub overflow_cast-offset : goal.overflow_cast-offset
overflow_cast-offset c =
    let front = ap (λ (l : List ℕ). length l) c.in_ok-bytes.ensures in
    let same = ap (λ (l : List ℕ). length l) c.bytes.view_is in
    omega (arith, front, same, prelude_long c.args.lines.now c.requires.kept)

pub returns-clause-short : goal.returns-clause-short
returns-clause-short c =
    let front = ap (λ (l : List ℕ). length l) c.in_ok-bytes.ensures in
    let middle = ap (λ (l : List ℕ). length l) c.in_ok-put.ensures ∙ length-append _ c.args.text.now in
    let all = ap (λ (l : List ℕ). length l) c.in_ok-put-2.ensures ∙ length-append c.put.new.text (32 ∷ 41 ∷ []) in
    omega (arith, front, middle, all, prelude_long c.args.lines.now c.requires.kept, c.requires.text)
