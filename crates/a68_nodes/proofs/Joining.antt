-- One forest after another: its symbols, its nodes, its pieces, and what is set aside behind it.
use Rattle.std.proofs.Common.{◌≡◌, ℕ, List, [], ◌∷◌, ◌++◌, length, refl, sym, ap, ◌∙◌, append_assoc}
use Rattle.a68_symbols.specs.declared.sym.Sym.{Sym}
use Rattle.a68_symbols.specs.declared.sym.Sym.TheVariants.{Closes, Is}
use Rattle.a68_tree.specs.Forest.{Forest, end, mark, group, part, sign, aside, shared, forget, spells, joined}
use Rattle.a68_tree.specs.Nodes.{Entry, nodes, with_under, with_node}
use Rattle.a68_tree.proofs.Joining.{spells_joined}
use Rattle.a68_nodes.specs.declared.draft.Piece.{Piece}
use Rattle.a68_nodes.specs.declared.draft.Piece.TheVariants.{Part, Sign}
use Rattle.a68_nodes.specs.Pieces.{all_parts, pieces_of, kept_behind}

pub nodes_joined : (old : List Entry) (kept : List ℕ) (f g : Forest) (r : List Sym)
    → nodes old kept (joined f g) r ≡ nodes (nodes old kept f (spells g r)) (kept_behind old kept f (spells g r)) g r
nodes_joined old kept end g r = refl
nodes_joined old kept (mark t f) g r = nodes_joined old kept f g r
nodes_joined old kept (group b i f) g r =
    ap (λ (x : List Sym). nodes (nodes old kept i (Closes b ∷ x)) kept (joined f g) r) (spells_joined f g r)
    ∙ nodes_joined (nodes old kept i (Closes b ∷ spells f (spells g r))) kept f g r
nodes_joined old kept (part k u f) g r =
    ap (λ (x : List Sym). nodes (with_node old kept k u x) kept (joined f g) r) (spells_joined f g r)
    ∙ nodes_joined (with_node old kept k u (spells f (spells g r))) kept f g r
nodes_joined old kept (sign t f) g r = nodes_joined old kept f g r
nodes_joined old kept (aside k u f) g r =
    ap (λ (x : List Sym). nodes (with_node old kept k u x) (kept ++ length (with_under old kept u x) ∷ []) (joined f g) r) (spells_joined f g r)
    ∙ nodes_joined (with_node old kept k u (spells f (spells g r))) (kept ++ length (with_under old kept u (spells f (spells g r))) ∷ []) f g r
nodes_joined old kept (shared f) g r = nodes_joined old kept f g r
nodes_joined old kept (forget f) g r = nodes_joined old [] f g r

pub kept_joined : (old : List Entry) (kept : List ℕ) (f g : Forest) (r : List Sym)
    → kept_behind old kept (joined f g) r ≡ kept_behind (nodes old kept f (spells g r)) (kept_behind old kept f (spells g r)) g r
kept_joined old kept end g r = refl
kept_joined old kept (mark t f) g r = kept_joined old kept f g r
kept_joined old kept (group b i f) g r =
    ap (λ (x : List Sym). kept_behind (nodes old kept i (Closes b ∷ x)) kept (joined f g) r) (spells_joined f g r)
    ∙ kept_joined (nodes old kept i (Closes b ∷ spells f (spells g r))) kept f g r
kept_joined old kept (part k u f) g r =
    ap (λ (x : List Sym). kept_behind (with_node old kept k u x) kept (joined f g) r) (spells_joined f g r)
    ∙ kept_joined (with_node old kept k u (spells f (spells g r))) kept f g r
kept_joined old kept (sign t f) g r = kept_joined old kept f g r
kept_joined old kept (aside k u f) g r =
    ap (λ (x : List Sym). kept_behind (with_node old kept k u x) (kept ++ length (with_under old kept u x) ∷ []) (joined f g) r) (spells_joined f g r)
    ∙ kept_joined (with_node old kept k u (spells f (spells g r))) (kept ++ length (with_under old kept u (spells f (spells g r))) ∷ []) f g r
kept_joined old kept (shared f) g r = kept_joined old kept f g r
kept_joined old kept (forget f) g r = kept_joined old [] f g r

pub pieces_joined : (old : List Entry) (kept : List ℕ) (f g : Forest) (r : List Sym)
    → pieces_of old kept (joined f g) r ≡ pieces_of old kept f (spells g r) ++ pieces_of (nodes old kept f (spells g r)) (kept_behind old kept f (spells g r)) g r
pieces_joined old kept end g r = refl
pieces_joined old kept (mark t f) g r = pieces_joined old kept f g r
pieces_joined old kept (group b i f) g r =
    ap (λ (x : List Sym). pieces_of old kept i (Closes b ∷ x) ++ pieces_of (nodes old kept i (Closes b ∷ x)) kept (joined f g) r) (spells_joined f g r)
    ∙ ap (λ (x : List Piece). pieces_of old kept i (Closes b ∷ spells f (spells g r)) ++ x) (pieces_joined (nodes old kept i (Closes b ∷ spells f (spells g r))) kept f g r)
    ∙ sym (append_assoc (pieces_of old kept i (Closes b ∷ spells f (spells g r))) (pieces_of (nodes old kept i (Closes b ∷ spells f (spells g r))) kept f (spells g r))
    (pieces_of (nodes (nodes old kept i (Closes b ∷ spells f (spells g r))) kept f (spells g r)) (kept_behind (nodes old kept i (Closes b ∷ spells f (spells g r))) kept f (spells g r)) g r))
pieces_joined old kept (part k u f) g r =
    ap (λ (x : List Sym). Part (length (with_under old kept u x)) ∷ pieces_of (with_node old kept k u x) kept (joined f g) r) (spells_joined f g r)
    ∙ ap (λ (x : List Piece). Part (length (with_under old kept u (spells f (spells g r)))) ∷ x) (pieces_joined (with_node old kept k u (spells f (spells g r))) kept f g r)
pieces_joined old kept (sign t f) g r =
    ap (λ (x : List Sym). Sign (length (Is t ∷ x)) (length x) ∷ pieces_of old kept (joined f g) r) (spells_joined f g r)
    ∙ ap (λ (x : List Piece). Sign (length (Is t ∷ spells f (spells g r))) (length (spells f (spells g r))) ∷ x) (pieces_joined old kept f g r)
pieces_joined old kept (aside k u f) g r =
    ap (λ (x : List Sym). pieces_of (with_node old kept k u x) (kept ++ length (with_under old kept u x) ∷ []) (joined f g) r) (spells_joined f g r)
    ∙ pieces_joined (with_node old kept k u (spells f (spells g r))) (kept ++ length (with_under old kept u (spells f (spells g r))) ∷ []) f g r
pieces_joined old kept (shared f) g r =
    ap (λ (x : List Piece). all_parts kept ++ x) (pieces_joined old kept f g r)
    ∙ sym (append_assoc (all_parts kept) (pieces_of old kept f (spells g r)) (pieces_of (nodes old kept f (spells g r)) (kept_behind old kept f (spells g r)) g r))
pieces_joined old kept (forget f) g r = pieces_joined old [] f g r
