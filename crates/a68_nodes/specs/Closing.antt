-- Inner: the headline does not rest on this file.
-- A node with its pieces as parts.
use Rattle.std.specs.Prelude.{ℕ, Bool, true, false, List, [], ◌∷◌, ◌++◌, length, Option, Some, None, slice_get}
use Rattle.a68_tree.specs.declared.kind.NodeKind.{NodeKind}
use Rattle.a68_tree.specs.declared.kind.NodeKind.TheVariants as k
use Rattle.a68_tree.specs.Nodes.{Entry}
use Rattle.a68_nodes.specs.declared.draft.OpenLayer.{OpenLayer}
use Rattle.a68_nodes.specs.declared.draft.Piece.{Piece}
use Rattle.a68_nodes.specs.declared.draft.Piece.TheVariants.{Part, Sign}
use Rattle.a68_nodes.specs.Pieces.{signs_added, parts_from}

-- whether a node of that kind is named by its first symbol
abbrev pub names_first : NodeKind → Bool
names_first k.Identity = false
names_first k.LongDenotation = false
names_first k.GoTo = false
names_first kind = true

-- a node of what was read in a layer, whose parts are to come
abbrev pub unfinished : OpenLayer → NodeKind → ℕ → ℕ → Entry
unfinished f kind named after = record { kind = kind; before = f.before; after = after; named = named; parts = [] }

-- the list with the signs added, and then the node with these pieces as its parts
abbrev pub with_closed : List Entry → List Piece → Entry → List Entry
with_closed old ps e = signs_added old ps ++ record e { parts = parts_from (length old) ps } ∷ []

-- how many symbols are left behind a node, or else so many
abbrev pub after_of : Option Entry → ℕ → ℕ
after_of (Some e) other = e.after
after_of None other = other

-- how many symbols are left behind the first of these pieces where it is a node, or else so many
abbrev pub behind_first : List Entry → List Piece → ℕ → ℕ
behind_first es [] other = other
behind_first es (Part id ∷ ps) other = after_of (slice_get es id) other
behind_first es (Sign before after ∷ ps) other = other
