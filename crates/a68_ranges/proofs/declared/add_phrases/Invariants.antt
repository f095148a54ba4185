use Rattle.std.proofs.Common.{◌≡◌, ◌++◌, take}
use Rattle.a68_ranges.specs.Definitions.{defining, unjoined}
use Rattle.a68_ranges.proofs.declared.add_phrases.Given as goal

abbrev pub invariant-loop-phrase : goal.invariant-loop-phrase
invariant-loop-phrase l = l.list.items ≡ l.initial.list.items ++ defining l.tree (unjoined l.tree (take l.phrase-index l.phrases))
