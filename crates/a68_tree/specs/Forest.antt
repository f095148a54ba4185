-- What stands under a node, with its brackets in pairs, and the symbols that it spells (own).
use Rattle.std.specs.Prelude.{List, ◌∷◌}
use Rattle.a68_tree.specs.declared.kind.NodeKind.{NodeKind}
use Rattle.a68_symbols.specs.declared.sym.Bracket.{Bracket}
use Rattle.a68_symbols.specs.declared.sym.Token.{Token}
use Rattle.a68_symbols.specs.declared.sym.Sym.{Sym}
use Rattle.a68_symbols.specs.declared.sym.Sym.TheVariants.{Opens, Closes, Is}

-- What stands under a node in order of text: symbols, bracketed stretches, nodes, signs of a formula; a node set aside,
-- which is no part here; the place where the nodes that are set aside are parts; and the place from which on they are
-- forgotten.
pub data Forest : Type 0 where
  end : Forest
  mark : Token → Forest → Forest
  group : Bracket → Forest → Forest → Forest
  part : NodeKind → Forest → Forest → Forest
  sign : Token → Forest → Forest
  aside : NodeKind → Forest → Forest → Forest
  shared : Forest → Forest
  forget : Forest → Forest

-- the symbols of a forest, and then those of the text behind it
abbrev pub spells : Forest → List Sym → List Sym
spells end rest = rest
spells (mark t more) rest = Is t ∷ spells more rest
spells (group b inside more) rest = Opens b ∷ spells inside (Closes b ∷ spells more rest)
spells (part k under more) rest = spells under (spells more rest)
spells (sign t more) rest = Is t ∷ spells more rest
spells (aside k under more) rest = spells under (spells more rest)
spells (shared more) rest = spells more rest
spells (forget more) rest = spells more rest

-- one forest after another
abbrev pub joined : Forest → Forest → Forest
joined end g = g
joined (mark t f) g = mark t (joined f g)
joined (group b i f) g = group b i (joined f g)
joined (part k u f) g = part k u (joined f g)
joined (sign t f) g = sign t (joined f g)
joined (aside k u f) g = aside k u (joined f g)
joined (shared f) g = shared (joined f g)
joined (forget f) g = forget (joined f g)

-- one part at the top, and no more
pub data Single : Forest → Type 0 where
  single_part : {k : NodeKind} {u : Forest} → Single (part k u end)
  single_mark : {t : Token} {f : Forest} → Single f → Single (mark t f)
  single_aside : {k : NodeKind} {u f : Forest} → Single f → Single (aside k u f)

-- a part at the top
pub data Some : Forest → Type 0 where
  some_part : {k : NodeKind} {u f : Forest} → Some (part k u f)
  some_mark : {t : Token} {f : Forest} → Some f → Some (mark t f)
  some_aside : {k : NodeKind} {u f : Forest} → Some f → Some (aside k u f)
  some_forget : {f : Forest} → Some f → Some (forget f)

-- two or more parts at the top
pub data Several : Forest → Type 0 where
  several_parts : {k : NodeKind} {u f : Forest} → Some f → Several (part k u f)
  several_mark : {t : Token} {f : Forest} → Several f → Several (mark t f)
  several_aside : {k : NodeKind} {u f : Forest} → Several f → Several (aside k u f)
