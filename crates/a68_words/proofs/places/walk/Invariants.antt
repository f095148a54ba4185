use Rattle.std.proofs.Common.{◌≡◌, ◌+◌, map}
use Rattle.a68_words.specs.declared.class.Class.TheVariants.{ModeWord, OperatorWord}
use Rattle.a68_words.specs.Definitions.{Defines}
use Rattle.a68_words.specs.Levels.{IsTooDeep, levels_before}
use Rattle.a68_words.specs.Steps.{AreFlags, IsFirstSymbol, plain}
use Rattle.a68_words.proofs.Telling.{AreTold}
use Rattle.a68_words.proofs.places.walk.Given as goal

abbrev pub invariant-loop-i : goal.invariant-loop-i
invariant-loop-i l = record {
  told : AreTold l.roles l.i (l.i + 1) l.levels;
  levels : map plain l.levels ≡ levels_before l.roles l.i;
  modes : AreFlags (λ k. Defines l.roles k ModeWord) l.i l.modes.items;
  operators : AreFlags (λ k. Defines l.roles k OperatorWord) l.i l.operators.items;
  deep : IsFirstSymbol (IsTooDeep l.roles) l.i l.too_deep;
}
