-- Inner: the headline does not rest on this file.
-- What a forest has at its top: the numbers of parts, and signs.
use Rattle.std.specs.Prelude.{ℕ, ◌+◌, List, [], ◌∷◌, ◌++◌, length}
use Rattle.a68_tree.specs.declared.kind.NodeKind.TheVariants as k
use Rattle.a68_symbols.specs.declared.sym.Sym.{Sym}
use Rattle.a68_symbols.specs.declared.sym.Sym.TheVariants.{Closes, Is}
use Rattle.a68_tree.specs.Forest.{Forest, end, mark, group, part, sign, aside, shared, forget, spells}
use Rattle.a68_tree.specs.Nodes.{Entry, nodes, with_under, with_node}
use Rattle.a68_nodes.specs.declared.draft.Piece.{Piece}
use Rattle.a68_nodes.specs.declared.draft.Piece.TheVariants.{Part, Sign}

-- how many signs there are
abbrev pub sign_count : List Piece → ℕ
sign_count [] = 0
sign_count (Part id ∷ more) = sign_count more
sign_count (Sign before after ∷ more) = sign_count more + 1

-- the list with the signs added, from the last to the first
abbrev pub signs_added : List Entry → List Piece → List Entry
signs_added old [] = old
signs_added old (Part id ∷ more) = signs_added old more
signs_added old (Sign before after ∷ more) = signs_added old more ++ record { kind = k.Sign; before = before; after = after; named = before; parts = [] } ∷ []

-- the numbers of the pieces, where the first sign to be added gets the number `first`
abbrev pub parts_from : ℕ → List Piece → List ℕ
parts_from first [] = []
parts_from first (Part id ∷ more) = id ∷ parts_from first more
parts_from first (Sign before after ∷ more) = (first + sign_count more) ∷ parts_from first more

-- parts of these numbers
abbrev pub all_parts : List ℕ → List Piece
all_parts [] = []
all_parts (id ∷ ids) = Part id ∷ all_parts ids

-- The pieces of a forest, in order of text; those of a bracketed stretch stand in its place, and so do the parts that are
-- set aside where they are shared.
abbrev pub pieces_of : List Entry → List ℕ → Forest → List Sym → List Piece
pieces_of old kept end r = []
pieces_of old kept (mark t f) r = pieces_of old kept f r
pieces_of old kept (group b i f) r = pieces_of old kept i (Closes b ∷ spells f r) ++ pieces_of (nodes old kept i (Closes b ∷ spells f r)) kept f r
pieces_of old kept (part k u f) r = Part (length (with_under old kept u (spells f r))) ∷ pieces_of (with_node old kept k u (spells f r)) kept f r
pieces_of old kept (sign t f) r = Sign (length (Is t ∷ spells f r)) (length (spells f r)) ∷ pieces_of old kept f r
pieces_of old kept (aside k u f) r = pieces_of (with_node old kept k u (spells f r)) (kept ++ length (with_under old kept u (spells f r)) ∷ []) f r
pieces_of old kept (shared f) r = all_parts kept ++ pieces_of old kept f r
pieces_of old kept (forget f) r = pieces_of old [] f r

-- the numbers that are set aside behind a forest
abbrev pub kept_behind : List Entry → List ℕ → Forest → List Sym → List ℕ
kept_behind old kept end r = kept
kept_behind old kept (mark t f) r = kept_behind old kept f r
kept_behind old kept (group b i f) r = kept_behind (nodes old kept i (Closes b ∷ spells f r)) kept f r
kept_behind old kept (part k u f) r = kept_behind (with_node old kept k u (spells f r)) kept f r
kept_behind old kept (sign t f) r = kept_behind old kept f r
kept_behind old kept (aside k u f) r = kept_behind (with_node old kept k u (spells f r)) (kept ++ length (with_under old kept u (spells f r)) ∷ []) f r
kept_behind old kept (shared f) r = kept_behind old kept f r
kept_behind old kept (forget f) r = kept_behind old [] f r
