-- The list of the nodes of a forest.
use Rattle.std.specs.Prelude.{ℕ, ◌+◌, ◌-◌, List, [], ◌∷◌, ◌++◌, length, map, reverse, Option, Some, None, slice_get, nat_eq, if◌then◌else◌}
use Rattle.a68_base.specs.declared.refusal.Span.{Span}
use Rattle.a68_symbols.specs.declared.symbol.Symbol.{Symbol}
use Rattle.a68_tree.specs.declared.kind.NodeKind.{NodeKind}
use Rattle.a68_tree.specs.declared.kind.NodeKind.TheVariants.{GoTo, Identity, LongDenotation, Sign}
use Rattle.a68_tree.specs.declared.node.Node.{Node}
use Rattle.a68_symbols.specs.declared.sym.Sym.{Sym}
use Rattle.a68_symbols.specs.declared.sym.Sym.TheVariants.{Closes, Is}
use Rattle.a68_tree.specs.Forest.{Forest, end, mark, group, part, sign, aside, shared, forget, spells}

-- A node, by how many symbols are left where it begins, behind it, and at the symbol that names it; and the numbers of
-- its parts.
pub record Entry : Type 0 where
  pub kind : NodeKind
  pub before : ℕ
  pub after : ℕ
  pub named : ℕ
  pub parts : List ℕ

-- how many symbols are left at the symbol that names a node: its first one; of an identity relation the one between its
-- sides, of a denotation of LONG INT the number; of a jump its tag, which is its last symbol
abbrev pub named_at : NodeKind → Forest → List Sym → ℕ
named_at Identity (part k u f) r = length (spells f r)
named_at LongDenotation (mark t f) r = length (spells f r)
named_at GoTo f r = length r + 1
named_at k f r = length (spells f r)

-- how many signs stand at the top of a forest
abbrev pub signs : Forest → ℕ
signs end = 0
signs (mark t f) = signs f
signs (group b i f) = signs i + signs f
signs (part k u f) = signs f
signs (sign t f) = signs f + 1
signs (aside k u f) = signs f
signs (shared f) = signs f
signs (forget f) = signs f

-- the list with the nodes of these signs added, from the last to the first
abbrev pub signed : List Entry → Forest → List Sym → List Entry
signed old end r = old
signed old (mark t f) r = signed old f r
signed old (group b i f) r = signed (signed old f r) i (Closes b ∷ spells f r)
signed old (part k u f) r = signed old f r
signed old (sign t f) r =
    signed old f r ++ record { kind = Sign; before = length (Is t ∷ spells f r); after = length (spells f r); named = length (Is t ∷ spells f r); parts = [] } ∷ []
signed old (aside k u f) r = signed old f r
signed old (shared f) r = signed old f r
signed old (forget f) r = signed old f r

-- The list of nodes with those of a forest added, but for the signs at its top: what stands under a node, its signs, and
-- then the node. `kept` are the numbers of the nodes that are set aside.
abbrev mutual
  pub nodes : List Entry → List ℕ → Forest → List Sym → List Entry
  nodes old kept end r = old
  nodes old kept (mark t f) r = nodes old kept f r
  nodes old kept (group b i f) r = nodes (nodes old kept i (Closes b ∷ spells f r)) kept f r
  nodes old kept (part k u f) r =
      nodes (signed (nodes old kept u (spells f r)) u (spells f r) ++ record { kind = k; before = length (spells u (spells f r)); after = length (spells f r); named = named_at k u (spells f r); parts = numbers old kept (length (nodes old kept u (spells f r))) u (spells f r) } ∷ []) kept f r
  nodes old kept (sign t f) r = nodes old kept f r
  nodes old kept (aside k u f) r =
      nodes (signed (nodes old kept u (spells f r)) u (spells f r) ++ record { kind = k; before = length (spells u (spells f r)); after = length (spells f r); named = named_at k u (spells f r); parts = numbers old kept (length (nodes old kept u (spells f r))) u (spells f r) } ∷ [])
      (kept ++ length (signed (nodes old kept u (spells f r)) u (spells f r)) ∷ []) f r
  nodes old kept (shared f) r = nodes old kept f r
  nodes old kept (forget f) r = nodes old [] f r

  -- the numbers of the parts at the top of a forest, in order of text; the first sign to be added gets the number `first`
  pub numbers : List Entry → List ℕ → ℕ → Forest → List Sym → List ℕ
  numbers old kept first end r = []
  numbers old kept first (mark t f) r = numbers old kept first f r
  numbers old kept first (group b i f) r = numbers old kept (first + signs f) i (Closes b ∷ spells f r) ++ numbers (nodes old kept i (Closes b ∷ spells f r)) kept first f r
  numbers old kept first (part k u f) r =
      length (signed (nodes old kept u (spells f r)) u (spells f r)) ∷ numbers (signed (nodes old kept u (spells f r)) u (spells f r) ++ record { kind = k; before = length (spells u (spells f r)); after = length (spells f r); named = named_at k u (spells f r); parts = numbers old kept (length (nodes old kept u (spells f r))) u (spells f r) } ∷ []) kept first f r
  numbers old kept first (sign t f) r = (first + signs f) ∷ numbers old kept first f r
  numbers old kept first (aside k u f) r =
      numbers (signed (nodes old kept u (spells f r)) u (spells f r) ++ record { kind = k; before = length (spells u (spells f r)); after = length (spells f r); named = named_at k u (spells f r); parts = numbers old kept (length (nodes old kept u (spells f r))) u (spells f r) } ∷ [])
      (kept ++ length (signed (nodes old kept u (spells f r)) u (spells f r)) ∷ []) first f r
  numbers old kept first (shared f) r = kept ++ numbers old kept first f r
  numbers old kept first (forget f) r = numbers old [] first f r

-- the list with what stands under a node added, and its signs
abbrev pub with_under : List Entry → List ℕ → Forest → List Sym → List Entry
with_under old kept u r = signed (nodes old kept u r) u r

-- the node itself, and the list with it
abbrev pub entry_of : List Entry → List ℕ → NodeKind → Forest → List Sym → Entry
entry_of old kept k u r =
    record { kind = k; before = length (spells u r); after = length r; named = named_at k u r; parts = numbers old kept (length (nodes old kept u r)) u r }

abbrev pub with_node : List Entry → List ℕ → NodeKind → Forest → List Sym → List Entry
with_node old kept k u r = with_under old kept u r ++ entry_of old kept k u r ∷ []

-- the list backwards, and its numbers from the other end, so that each part stands behind its node
abbrev pub turned_entry : ℕ → Entry → Entry
turned_entry last e = record { kind = e.kind; before = e.before; after = e.after; named = e.named; parts = map (λ p. last - p) e.parts }

abbrev pub turned : List Entry → List Entry
turned es = reverse (map (turned_entry (length es - 1)) es)

-- the symbol at which so many are left
abbrev pub symbol_at : List Symbol → ℕ → Option Symbol
symbol_at symbols left = slice_get symbols (length symbols - left)

-- the symbol behind which so many are left
abbrev pub symbol_behind : List Symbol → ℕ → Option Symbol
symbol_behind symbols left = slice_get symbols (length symbols - left - 1)

abbrev pub first_byte : Option Symbol → ℕ
first_byte (Some s) = s.span.from
first_byte None = 0

abbrev pub end_byte : Option Symbol → ℕ
end_byte (Some s) = s.span.to
end_byte None = 0

abbrev pub name_of : Option Symbol → ℕ
name_of (Some s) = s.name
name_of None = 0

-- From the first byte of the first symbol to behind the last byte of the last one; of no symbols the empty stretch where
-- the next symbol begins.
abbrev pub span_of : List Symbol → ℕ → ℕ → Span
span_of symbols before after =
    record { from = first_byte (symbol_at symbols before); to = if nat_eq before after then first_byte (symbol_at symbols before) else end_byte (symbol_behind symbols after) }

-- a node with its stretch of the text and its name
abbrev pub node_of : List Symbol → Entry → Node
node_of symbols e = record {
  kind = e.kind;
  span = span_of symbols e.before e.after;
  name = if nat_eq e.before e.after then 0 else name_of (symbol_at symbols e.named);
  parts = e.parts;
}
