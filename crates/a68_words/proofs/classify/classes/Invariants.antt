use Rattle.a68_words.proofs.Classing.{AreFirstClasses}
use Rattle.a68_words.proofs.classify.classes.Given as goal

abbrev pub invariant-loop-i : goal.invariant-loop-i
invariant-loop-i l = AreFirstClasses l.symbols.symbols l.definitions l.i l.classes.items
