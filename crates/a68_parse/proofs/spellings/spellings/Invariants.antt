use Rattle.a68_parse.proofs.Turning.{SpellFirst}
use Rattle.a68_parse.proofs.spellings.spellings.Given as goal

abbrev pub invariant-loop-name : goal.invariant-loop-name
invariant-loop-name l = SpellFirst l.symbols l.list.items l.name
