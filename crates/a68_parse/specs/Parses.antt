-- What the symbols of a text are answered with.
use Rattle.std.specs.Prelude.{◌≡◌, ℕ, List, Option, Result, Ok, Err}
use Rattle.a68_base.specs.declared.refusal.Rule.TheVariants.{S6}
use Rattle.a68_base.specs.declared.refusal.Stop.{Stop}
use Rattle.a68_base.specs.declared.refusal.Stop.TheVariants.{Refused, NoMemory}
use Rattle.a68_symbols.specs.Names.{Named}
use Rattle.a68_tree.specs.declared.node.Node.{Node}
use Rattle.a68_tree.specs.Derived.{IsDerived}
use Rattle.a68_tree.specs.Trees.{Built}
use Rattle.a68_parse.specs.Places.{IsPlace}
use Rattle.a68_words.specs.declared.class.Class.{Class}
use Rattle.a68_parse.specs.Texts.{text_of}

-- the nodes of a derivation of all the symbols, whose words have these classes
abbrev pub IsTree : Named → List (Option Class) → List Node → Type 0
IsTree found classes list = IsDerived found.symbols (text_of found classes) list

-- the nodes of the one tree of the symbols; or the refusal S6, and there is none
abbrev pub Parses : Named → List (Option Class) → ℕ → Result Built Stop → Type 0
Parses found classes end (Ok tree) = IsTree found classes tree.nodes × ((others : List Node) → IsTree found classes others → others ≡ tree.nodes)
Parses found classes end (Err (Refused refusal)) = (refusal.rule ≡ S6) × IsPlace found.symbols end refusal.place × ((list : List Node) → IsTree found classes list → ⊥)
Parses found classes end (Err NoMemory) = Unit {0}
