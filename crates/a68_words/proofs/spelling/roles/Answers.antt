use Rattle.std.proofs.Common.{◌≡◌, length, arith}
use Rattle.std.proofs.lemmas.Grind.{elements}
use Rattle.std.proofs.Math.Seq.{take-length}
use Rattle.a68_words.proofs.Listed.{one_role}
use Rattle.a68_words.proofs.spelling.roles.Goals as goal

pub loop-i-preserved : goal.loop-i-preserved
loop-i-preserved c =
    one_role _ _ _ _ _ _ _ c.at-symbol.ensures.symbol c.sym_at.ensures c.spelling.ensures c.loop-i.invariant (rw (← c.role_of.ensures) c.in_ok-push.ensures.items)

pub returns-clause-roles : goal.returns-clause-roles
returns-clause-roles c =
    let all : c.loop-i.i ≡ length c.args.symbols.now.symbols = omega arith in
    rw (all, take-length) at c.loop-i.invariant

pub returns-clause-few : goal.returns-clause-few
returns-clause-few c = grind (arith, elements)
