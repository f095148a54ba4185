use Rattle.std.proofs.Common.{◌≡◌, take, map}
use Rattle.a68_symbols.specs.Spellings as spellings
use Rattle.a68_symbols.proofs.spelling.syms_spelled.Given as goal

abbrev pub invariant-loop-spelling : goal.invariant-loop-spelling
invariant-loop-spelling l = l.syms.items ≡ map spellings.sym_spelled (take l.spelling-index l.fn.list)
