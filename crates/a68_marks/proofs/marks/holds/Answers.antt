use Rattle.std.proofs.Common.{◌<◌, ◌/◌, ◌∙◌, sym, arith, length}
use Rattle.std.proofs.lemmas.Bool.Decides.{nat_tests}
use Rattle.a68_marks.proofs.Bits.{beyond, shows, the_word}
use Rattle.a68_marks.proofs.marks.holds.Goals as goal

pub returns-in-Some : goal.returns-in-Some
returns-in-Some c =
    let h : c.args.n / 64 < length c.args.words.now = grind (arith, nat_tests, c.in-Some.ensures.lookup) in
    shows c.args.words.now c.args.n c.in-Some.word.now (c.in-Some.ensures.lookup.1 ∙ the_word c.args.words.now (c.args.n / 64) c.in-Some.word.now h)

pub returns-in-None : goal.returns-in-None
returns-in-None c = sym (beyond c.args.words.now c.args.n (grind (arith, nat_tests, c.in-None.ensures.lookup)))
