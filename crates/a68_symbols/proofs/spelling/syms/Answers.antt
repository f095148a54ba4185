use Rattle.std.proofs.Common.{◌≡◌, length, map, arith}
use Rattle.std.proofs.Math.Seq.{take-length}
use Rattle.std.proofs.lemmas.List.{length-map}
use Rattle.a68_symbols.proofs.Reading.{one_sym}
use Rattle.a68_symbols.specs.Spellings.{sym_in}
use Rattle.a68_symbols.proofs.spelling.syms.Goals as goal

pub loop-i-preserved : goal.loop-i-preserved
loop-i-preserved c = one_sym _ _ _ _ _ c.sym_at.ensures c.loop-i.invariant c.in_ok-push.ensures.items

pub returns : goal.returns
returns c =
    let long = length-map c.args.symbols.now.symbols (sym_in c.args.symbols.now) in
    let all : c.loop-i.i ≡ length (map (sym_in c.args.symbols.now) c.args.symbols.now.symbols) = omega (arith, long) in
    rw (all, take-length) at c.loop-i.invariant
