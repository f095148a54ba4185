use Rattle.std.proofs.Common.{◌≡◌, ◌<◌, ◌-◌, ◌^◌, ◌∙◌, length, sym, arith}
use Rattle.std.proofs.lemmas.Bool.Decides.{nat_tests}
use Rattle.a68_marks.proofs.Bits.{the_word}
use Rattle.a68_marks.proofs.marks.is_full.Goals as goal

pub returns-in-Some : goal.returns-in-Some
returns-in-Some c =
    λ e.
    let h : c.args.j < length c.args.words.now = grind (arith, nat_tests, c.in-Some.ensures.lookup) in
    let is : c.in-Some.word.now ≡ 2 ^ 64 - 1 = grind (arith, nat_tests, e) in
    sym (c.in-Some.ensures.lookup.1 ∙ the_word c.args.words.now c.args.j c.in-Some.word.now h) ∙ is
