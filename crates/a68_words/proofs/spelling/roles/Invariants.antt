use Rattle.std.proofs.Common.{◌≡◌, take, map}
use Rattle.a68_words.specs.Spellings.{role_in}
use Rattle.a68_words.proofs.spelling.roles.Given as goal

abbrev pub invariant-loop-i : goal.invariant-loop-i
invariant-loop-i l = l.list.items ≡ map (role_in l.symbols) (take l.i l.symbols.symbols)
