use Rattle.a68_words.specs.Steps.{AreFirstFlagged}
use Rattle.a68_words.proofs.definitions.firsts.Given as goal

abbrev pub invariant-loop-i : goal.invariant-loop-i
invariant-loop-i l = AreFirstFlagged l.flags l.names l.count l.i l.table.items
