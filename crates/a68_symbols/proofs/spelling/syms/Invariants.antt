use Rattle.std.proofs.Common.{◌≡◌, take}
use Rattle.a68_symbols.specs.Spellings.{syms_of}
use Rattle.a68_symbols.proofs.spelling.syms.Given as goal

abbrev pub invariant-loop-i : goal.invariant-loop-i
invariant-loop-i l = l.list.items ≡ take l.i (syms_of l.symbols)
