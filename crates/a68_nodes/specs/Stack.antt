-- Inner: the headline does not rest on this file.
-- The layers that are open while a text is read (own).
use Rattle.std.specs.Prelude.{Option, None, Some, List, [], ◌∷◌}
use Rattle.a68_symbols.specs.declared.sym.Bracket.{Bracket}
use Rattle.a68_symbols.specs.declared.sym.Sym.{Sym}
use Rattle.a68_symbols.specs.declared.sym.Sym.TheVariants.{Opens}
use Rattle.a68_tree.specs.Forest.{Forest, spells, joined}

-- A layer: the bracket that it stands in, or none where it is what may become a node; and what has been read in it. A
-- stack of layers is a list of them, the innermost first.
pub record Layer : Type 0 where
  pub bracket : Option Bracket
  pub forest : Forest

-- what may become a node
abbrev pub node : Forest → Layer
node f = record { bracket = None; forest = f }

-- what has been read in a bracket
abbrev pub inside : Bracket → Forest → Layer
inside b f = record { bracket = Some b; forest = f }

-- a layer where this has been read behind the rest of it
abbrev pub put : Layer → Forest → Layer
put l f = record { bracket = l.bracket; forest = joined l.forest f }

-- the text at which a layer began, its bracket with it, where that text is left
abbrev pub begun : Option Bracket → Forest → List Sym → List Sym
begun None f left = spells f left
begun (Some b) f left = Opens b ∷ spells f left

-- the text at which all layers began
abbrev pub text_of : List Layer → List Sym → List Sym
text_of [] left = left
text_of (l ∷ ls) left = text_of ls (begun l.bracket l.forest left)
