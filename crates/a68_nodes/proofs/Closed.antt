-- A node that is closed has the pieces of its forest as parts.
use Rattle.std.proofs.Common.{◌≡◌, ℕ, ◌+◌, ◌<◌, ◌≤◌, true, List, [], ◌∷◌, ◌++◌, length, drop, get_or, slice_get, Option, Some, None, suc, zero, refl, sym, ap, ◌∙◌}
use Rattle.std.specs.Option.{option_map}
use Rattle.std.proofs.lemmas.Bool.{false≢true}
use Rattle.std.proofs.lemmas.List.{drop_more}
use Rattle.std.proofs.lemmas.Option.{slice_get_read, slice_get_past, slice_get-map}
use Rattle.a68_tree.specs.declared.kind.NodeKind.{NodeKind}
use Rattle.a68_tree.specs.declared.kind.NodeKind.TheVariants as k
use Rattle.a68_symbols.specs.declared.sym.Sym.{Sym}
use Rattle.a68_symbols.specs.declared.sym.Sym.TheVariants.{Closes}
use Rattle.a68_tree.specs.Forest.{Forest, end, mark, group, part, sign, aside, shared, forget, spells}
use Rattle.a68_tree.specs.Nodes.{Entry, named_at, signed, nodes, with_under, entry_of, with_node}
use Rattle.a68_nodes.specs.declared.draft.Draft.{Draft}
use Rattle.a68_nodes.specs.declared.draft.Piece.{Piece}
use Rattle.a68_nodes.specs.declared.draft.Piece.TheVariants.{Part}
use Rattle.a68_nodes.specs.Pieces.{signs_added, pieces_of}
use Rattle.a68_nodes.specs.Views.{view, views}
use Rattle.a68_nodes.specs.Closing.{names_first, with_closed, behind_first, after_of}
use Rattle.a68_nodes.proofs.Numbering.{signed_is, numbers_are}

-- a node that is named by its first symbol
pub named_first : (kind : NodeKind) (f : Forest) (r : List Sym) → names_first kind ≡ true → named_at kind f r ≡ length (spells f r)
named_first k.Identity f r h = absurd (false≢true h)
named_first k.LongDenotation f r h = absurd (false≢true h)
named_first k.GoTo f r h = absurd (false≢true h)
named_first _ f r h = refl

module _ (old : List Entry) (kept : List ℕ) (f : Forest) (r : List Sym) where
  pub under_closed : signs_added (nodes old kept f r) (pieces_of old kept f r) ≡ with_under old kept f r
  under_closed = sym (signed_is (nodes old kept f r) old kept f r)

  pub node_closed : (kind : NodeKind) (e : Entry) → e.kind ≡ kind → e.before ≡ length (spells f r) → e.after ≡ length r → e.named ≡ named_at kind f r
      → with_closed (nodes old kept f r) (pieces_of old kept f r) e ≡ with_node old kept kind f r
  node_closed kind e a b c d =
      let x = under_closed in
      let y = numbers_are old kept (length (nodes old kept f r)) f r in cc

-- ---- what was added stays

get_front : (xs ys : List Entry) (i : ℕ) (e : Entry) → slice_get xs i ≡ Some e → slice_get (xs ++ ys) i ≡ Some e
get_front [] ys i e h = cc
get_front (x ∷ xs) ys zero e h = h
get_front (x ∷ xs) ys (suc i) e h = get_front xs ys i e h

get_last : (xs : List Entry) (e : Entry) → slice_get (xs ++ e ∷ []) (length xs) ≡ Some e
get_last [] e = refl
get_last (x ∷ xs) e = get_last xs e

signed_keeps : (es : List Entry) (f : Forest) (r : List Sym) (i : ℕ) (e : Entry) → slice_get es i ≡ Some e → slice_get (signed es f r) i ≡ Some e
signed_keeps es end r i e h = h
signed_keeps es (mark t f) r i e h = signed_keeps es f r i e h
signed_keeps es (group b u f) r i e h = signed_keeps (signed es f r) u (Closes b ∷ spells f r) i e (signed_keeps es f r i e h)
signed_keeps es (part k u f) r i e h = signed_keeps es f r i e h
signed_keeps es (sign t f) r i e h = get_front (signed es f r) _ i e (signed_keeps es f r i e h)
signed_keeps es (aside k u f) r i e h = signed_keeps es f r i e h
signed_keeps es (shared f) r i e h = signed_keeps es f r i e h
signed_keeps es (forget f) r i e h = signed_keeps es f r i e h

node_keeps : (old : List Entry) (kept : List ℕ) (kind : NodeKind) (u : Forest) (r : List Sym) (i : ℕ) (e : Entry) → slice_get (nodes old kept u r) i ≡ Some e → slice_get (with_node old kept kind u r) i ≡ Some e
node_keeps old kept kind u r i e h = get_front (with_under old kept u r) (entry_of old kept kind u r ∷ []) i e (signed_keeps (nodes old kept u r) u r i e h)

nodes_keep : (old : List Entry) (kept : List ℕ) (f : Forest) (r : List Sym) (i : ℕ) (e : Entry) → slice_get old i ≡ Some e → slice_get (nodes old kept f r) i ≡ Some e
nodes_keep old kept end r i e h = h
nodes_keep old kept (mark t f) r i e h = nodes_keep old kept f r i e h
nodes_keep old kept (group b u f) r i e h = nodes_keep (nodes old kept u (Closes b ∷ spells f r)) kept f r i e (nodes_keep old kept u (Closes b ∷ spells f r) i e h)
nodes_keep old kept (part k u f) r i e h = nodes_keep (with_node old kept k u (spells f r)) kept f r i e (node_keeps old kept k u (spells f r) i e (nodes_keep old kept u (spells f r) i e h))
nodes_keep old kept (sign t f) r i e h = nodes_keep old kept f r i e h
nodes_keep old kept (aside k u f) r i e h =
    nodes_keep (with_node old kept k u (spells f r)) (kept ++ length (with_under old kept u (spells f r)) ∷ []) f r i e (node_keeps old kept k u (spells f r) i e (nodes_keep old kept u (spells f r) i e h))
nodes_keep old kept (shared f) r i e h = nodes_keep old kept f r i e h
nodes_keep old kept (forget f) r i e h = nodes_keep old [] f r i e h

-- the symbol behind the first part
pub identity_named : (old : List Entry) (kept : List ℕ) (kind : NodeKind) (u f : Forest) (r : List Sym) (other : ℕ)
    → behind_first (nodes old kept (part kind u f) r) (pieces_of old kept (part kind u f) r) other ≡ named_at k.Identity (part kind u f) r
identity_named old kept kind u f r other =
    let new : List Entry = with_node old kept kind u (spells f r) in
    let i : ℕ = length (with_under old kept u (spells f r)) in
    let e : Entry = entry_of old kept kind u (spells f r) in
    let h : slice_get (nodes new kept f r) i ≡ Some e = nodes_keep new kept f r i e (get_last (with_under old kept u (spells f r)) e) in
    ap (λ (x : Option Entry). after_of x other) h

-- ---- what the code reads

first_part : (es : List Entry) (ps : List Piece) (first id other : ℕ) → first < length ps → Part id ≡ get_or ps first (Part id) → behind_first es (drop first ps) other ≡ after_of (slice_get es id) other
first_part es ps first id other h e = ap (λ (x : List Piece). behind_first es x other) (drop_more ps first (Part id) h ∙ ap (λ (x : Piece). x ∷ drop (first + 1) ps) (sym e))

pub first_read : (ds : List Draft) (ps : List Piece) (first id other : ℕ) (d : Draft) → first < length ps → Part id ≡ get_or ps first (Part id) → id < length ds → d ≡ get_or ds id d
    → d.after ≡ behind_first (views ds) (drop first ps) other
first_read ds ps first id other d h e i g =
    let at : slice_get ds id ≡ Some d = slice_get_read ds (length ds) id d refl i g in
    let seen : slice_get (views ds) id ≡ Some (view d) = slice_get-map view ds id ∙ ap (option_map view) at in
    sym (first_part (views ds) ps first id other h e ∙ ap (λ (x : Option Entry). after_of x other) seen)

pub first_past : (ds : List Draft) (ps : List Piece) (first id other : ℕ) → first < length ps → Part id ≡ get_or ps first (Part id) → length ds ≤ id → other ≡ behind_first (views ds) (drop first ps) other
first_past ds ps first id other h e i =
    let past : slice_get (views ds) id ≡ None = slice_get-map view ds id ∙ ap (option_map view) (slice_get_past ds id i) in
    sym (first_part (views ds) ps first id other h e ∙ ap (λ (x : Option Entry). after_of x other) past)
