use Rattle.std.proofs.Common.{◌≡◌, take, map}
use Rattle.a68_symbols.specs.declared.symbol.Symbol.{Symbol}
use Rattle.a68_words.proofs.spelling.names.Given as goal

abbrev pub invariant-loop-i : goal.invariant-loop-i
invariant-loop-i l = l.list.items ≡ map (λ (s : Symbol). s.name) (take l.i l.symbols.symbols)
