-- The symbols of a text as the grammar tells them apart: a word that is not reserved stands for a mode or is an operator.
use Rattle.std.specs.Prelude.{List, [], ◌∷◌, Option, Some}
use Rattle.a68_symbols.specs.Names.{Named}
use Rattle.a68_symbols.specs.declared.sym.Sym.{Sym}
use Rattle.a68_symbols.specs.declared.sym.Sym.TheVariants.{Is}
use Rattle.a68_symbols.specs.declared.sym.Token.TheVariants as t
use Rattle.a68_symbols.specs.Spellings.{syms_of}
use Rattle.a68_words.specs.declared.class.Class.{Class}
use Rattle.a68_words.specs.declared.class.Class.TheVariants.{ModeWord, OperatorWord}

abbrev pub with_class : Sym → Option Class → Sym
with_class (Is t.Word) (Some ModeWord) = Is t.ModeWord
with_class (Is t.Word) (Some OperatorWord) = Is t.Monad
with_class s class = s

-- symbols and their classes, as far as both go
abbrev pub classed : List Sym → List (Option Class) → List Sym
classed [] classes = []
classed (s ∷ more) [] = []
classed (s ∷ more) (class ∷ classes) = with_class s class ∷ classed more classes

abbrev pub text_of : Named → List (Option Class) → List Sym
text_of found classes = classed (syms_of found) classes
