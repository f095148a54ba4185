use Rattle.std.proofs.Common.{◌≡◌, length, arith}
use Rattle.a68_parse.proofs.Turning.{all_alike}
use Rattle.a68_parse.proofs.spellings.spellings.Goals as goal

pub returns-clause-alike : goal.returns-clause-alike
returns-clause-alike c =
    let count = c.names-name-end.ensures.count in
    let at_end = c.loop-name-test.false in
    let within = c.loop-name.auto.name-end in
    all_alike c.args.symbols.now c.loop-name.list.items c.loop-name.name (omega (arith, count, at_end, within)) c.loop-name.invariant
