use Rattle.std.proofs.Common.{◌≡◌, ◌++◌, [], ◌∷◌, List, ℕ, OnOk, ap, sym, subst, arith}
use Rattle.std.proofs.lemmas.Fmt.{decimal_digit}
use Rattle.a68_replay.proofs.writing.put_pick.Goals as goal

pub returns-then-pick-lt10 : goal.returns-then-pick-lt10
returns-then-pick-lt10 c =
    let digit = decimal_digit c.args.pick (omega (arith, c.if-pick-lt10.true)) in
    rw digit c.put.ensures
