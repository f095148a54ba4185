use Rattle.std.proofs.Common.{◌≡◌, ◌+◌, ◌/◌, ◌%◌, ◌<◌, ◌^◌, ◌∙◌, sym, arith, get_or, length}
use Rattle.std.proofs.lemmas.Bool.Decides.{nat_tests}
use Rattle.std.proofs.lemmas.Nat.{shr_le}
use Rattle.a68_marks.proofs.Bits.{full, no_run, ones_few, partly, the_word}
use Rattle.a68_marks.proofs.marks.run_from.Goals as goal

pub returns-in_default-clause-run : goal.returns-in_default-clause-run
returns-in_default-clause-run c = no_run c.args.words.now c.args.n (grind (arith, nat_tests, c.in_default.ensures.lookup))

pub returns-then-word-clause-run : goal.returns-then-word-clause-run
returns-then-word-clause-run c =
    let h : c.args.n / 64 < length c.args.words.now = grind (arith, nat_tests, c.in-Some.ensures.lookup) in
    let at : c.in-Some.word.now ≡ get_or c.args.words.now (c.args.n / 64) 0 = c.in-Some.ensures.lookup.1 ∙ the_word c.args.words.now (c.args.n / 64) c.in-Some.word.now h in
    full c.args.words.now c.args.n (sym at ∙ c.if-word.true)

pub returns-clause-run : goal.returns-clause-run
returns-clause-run c =
    let h : c.args.n / 64 < length c.args.words.now = grind (arith, nat_tests, c.in-Some.ensures.lookup) in
    let at : c.in-Some.word.now ≡ get_or c.args.words.now (c.args.n / 64) 0 = c.in-Some.ensures.lookup.1 ∙ the_word c.args.words.now (c.args.n / 64) c.in-Some.word.now h in
    let small : c.in-Some.word.now + 1 < 2 ^ 64 = omega (arith, c.type_inv.words (c.args.n / 64), at, c.if-word.false) in
    rw c.trailing_ones.ensures (partly c.args.words.now c.args.n c.in-Some.word.now at small)

pub returns-clause-few : goal.returns-clause-few
returns-clause-few c =
    let small : c.in-Some.word.now + 1 < 2 ^ 64 = omega (arith, c.type_inv.words (c.args.n / 64), c.in-Some.ensures.lookup.1, the_word c.args.words.now (c.args.n / 64) c.in-Some.word.now (grind (arith, nat_tests, c.in-Some.ensures.lookup)), c.if-word.false) in
    rw c.trailing_ones.ensures (ones_few (c.in-Some.word.now / 2 ^ (c.args.n % 64)) (omega (arith, shr_le c.in-Some.word.now (c.args.n % 64), small)))
