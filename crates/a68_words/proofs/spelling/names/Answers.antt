use Rattle.std.proofs.Common.{◌≡◌, length, arith}
use Rattle.std.proofs.Math.Seq.{take-length}
use Rattle.a68_words.proofs.Listed.{one_name}
use Rattle.a68_words.proofs.spelling.names.Goals as goal

pub loop-i-preserved : goal.loop-i-preserved
loop-i-preserved c = one_name _ _ _ _ _ c.at.ensures.symbol c.loop-i.invariant c.in_ok-push.ensures.items

pub returns : goal.returns
returns c =
    let all : c.loop-i.i ≡ length c.args.symbols.now.symbols = omega arith in
    rw (all, take-length) at c.loop-i.invariant
