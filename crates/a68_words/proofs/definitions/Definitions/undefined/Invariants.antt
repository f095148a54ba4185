use Rattle.a68_base.specs.declared.refusal.Rule.TheVariants.{N2}
use Rattle.a68_words.specs.Classes.{BreaksAt}
use Rattle.a68_words.specs.Steps.{IsFirstSymbol}
use Rattle.a68_words.proofs.definitions.Definitions.undefined.Given as goal

abbrev pub invariant-loop-i : goal.invariant-loop-i
invariant-loop-i l = IsFirstSymbol (λ i. BreaksAt l.self.roles l.self.names i N2) l.i l.found
