use Rattle.std.specs.Prelude.{◌≡◌, map, take}
use Rattle.a68_symbols.specs.declared.symbol.Symbol.{Symbol}
use Rattle.a68_parse.proofs.places.starts.Given as goal

abbrev pub invariant-loop-i : goal.invariant-loop-i
invariant-loop-i l = l.starts.items ≡ map (λ (s : Symbol). s.span.from) (take l.i l.symbols.symbols)
