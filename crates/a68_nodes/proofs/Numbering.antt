-- The signs of a forest, and the numbers of its parts, by its pieces.
use Rattle.std.proofs.Common.{◌≡◌, ℕ, ◌+◌, List, [], ◌∷◌, ◌++◌, length, refl, sym, ap, ◌∙◌, arith}
use Rattle.a68_tree.specs.declared.kind.NodeKind.TheVariants as k
use Rattle.a68_symbols.specs.declared.sym.Sym.{Sym}
use Rattle.a68_symbols.specs.declared.sym.Sym.TheVariants.{Closes, Is}
use Rattle.a68_tree.specs.Forest.{Forest, end, mark, group, part, sign, aside, shared, forget, spells}
use Rattle.a68_tree.specs.Nodes.{Entry, signs, signed, nodes, numbers, with_under, with_node}
use Rattle.a68_nodes.specs.declared.draft.Piece.{Piece}
use Rattle.a68_nodes.specs.declared.draft.Piece.TheVariants.{Part, Sign}
use Rattle.a68_nodes.specs.Pieces.{sign_count, signs_added, parts_from, all_parts, pieces_of}

-- ---- pieces behind pieces

count_append : (ps qs : List Piece) → sign_count (ps ++ qs) ≡ sign_count ps + sign_count qs
count_append [] qs = omega arith
count_append (Part id ∷ ps) qs = count_append ps qs
count_append (Sign before after ∷ ps) qs = omega (arith, count_append ps qs)

added_append : (es : List Entry) (ps qs : List Piece) → signs_added es (ps ++ qs) ≡ signs_added (signs_added es qs) ps
added_append es [] qs = refl
added_append es (Part id ∷ ps) qs = added_append es ps qs
added_append es (Sign before after ∷ ps) qs =
    ap (λ (x : List Entry). x ++ record { kind = k.Sign; before = before; after = after; named = before; parts = [] } ∷ []) (added_append es ps qs)

from_append : (first : ℕ) (ps qs : List Piece) → parts_from first (ps ++ qs) ≡ parts_from (first + sign_count qs) ps ++ parts_from first qs
from_append first [] qs = refl
from_append first (Part id ∷ ps) qs = ap (λ (x : List ℕ). id ∷ x) (from_append first ps qs)
from_append first (Sign before after ∷ ps) qs =
    let n : first + sign_count (ps ++ qs) ≡ first + sign_count qs + sign_count ps = omega (arith, count_append ps qs) in
    let e = from_append first ps qs in cc

-- ---- parts alone

count_parts : (ids : List ℕ) (qs : List Piece) → sign_count (all_parts ids ++ qs) ≡ sign_count qs
count_parts [] qs = refl
count_parts (id ∷ ids) qs = count_parts ids qs

added_parts : (es : List Entry) (ids : List ℕ) (qs : List Piece) → signs_added es (all_parts ids ++ qs) ≡ signs_added es qs
added_parts es [] qs = refl
added_parts es (id ∷ ids) qs = added_parts es ids qs

from_parts : (first : ℕ) (ids : List ℕ) (qs : List Piece) → parts_from first (all_parts ids ++ qs) ≡ ids ++ parts_from first qs
from_parts first [] qs = refl
from_parts first (id ∷ ids) qs = ap (λ (x : List ℕ). id ∷ x) (from_parts first ids qs)

-- ---- the pieces of a forest

pub signs_are : (old : List Entry) (kept : List ℕ) (f : Forest) (r : List Sym) → signs f ≡ sign_count (pieces_of old kept f r)
signs_are old kept end r = refl
signs_are old kept (mark t f) r = signs_are old kept f r
signs_are old kept (group b i f) r =
    let c : List Sym = Closes b ∷ spells f r in
    let p = count_append (pieces_of old kept i c) (pieces_of (nodes old kept i c) kept f r) in
    let x = signs_are old kept i c in
    let y = signs_are (nodes old kept i c) kept f r in omega (arith, p, x, y)
signs_are old kept (part k u f) r = signs_are (with_node old kept k u (spells f r)) kept f r
signs_are old kept (sign t f) r = ap (λ (n : ℕ). n + 1) (signs_are old kept f r)
signs_are old kept (aside k u f) r = signs_are (with_node old kept k u (spells f r)) (kept ++ length (with_under old kept u (spells f r)) ∷ []) f r
signs_are old kept (shared f) r = signs_are old kept f r ∙ sym (count_parts kept (pieces_of old kept f r))
signs_are old kept (forget f) r = signs_are old [] f r

pub signed_is : (es old : List Entry) (kept : List ℕ) (f : Forest) (r : List Sym) → signed es f r ≡ signs_added es (pieces_of old kept f r)
signed_is es old kept end r = refl
signed_is es old kept (mark t f) r = signed_is es old kept f r
signed_is es old kept (group b i f) r =
    let c : List Sym = Closes b ∷ spells f r in
    ap (λ (x : List Entry). signed x i c) (signed_is es (nodes old kept i c) kept f r)
    ∙ signed_is (signs_added es (pieces_of (nodes old kept i c) kept f r)) old kept i c
    ∙ sym (added_append es (pieces_of old kept i c) (pieces_of (nodes old kept i c) kept f r))
signed_is es old kept (part k u f) r = signed_is es (with_node old kept k u (spells f r)) kept f r
signed_is es old kept (sign t f) r =
    ap (λ (x : List Entry). x ++ record { kind = k.Sign; before = length (Is t ∷ spells f r); after = length (spells f r); named = length (Is t ∷ spells f r); parts = [] } ∷ []) (signed_is es old kept f r)
signed_is es old kept (aside k u f) r = signed_is es (with_node old kept k u (spells f r)) (kept ++ length (with_under old kept u (spells f r)) ∷ []) f r
signed_is es old kept (shared f) r = signed_is es old kept f r ∙ sym (added_parts es kept (pieces_of old kept f r))
signed_is es old kept (forget f) r = signed_is es old [] f r

pub numbers_are : (old : List Entry) (kept : List ℕ) (first : ℕ) (f : Forest) (r : List Sym) → numbers old kept first f r ≡ parts_from first (pieces_of old kept f r)
numbers_are old kept first end r = refl
numbers_are old kept first (mark t f) r = numbers_are old kept first f r
numbers_are old kept first (group b i f) r =
    let c : List Sym = Closes b ∷ spells f r in
    let n = signs_are (nodes old kept i c) kept f r in
    let x = numbers_are old kept (first + signs f) i c in
    let y = numbers_are (nodes old kept i c) kept first f r in
    let z = from_append first (pieces_of old kept i c) (pieces_of (nodes old kept i c) kept f r) in cc
numbers_are old kept first (part k u f) r =
    ap (λ (x : List ℕ). length (with_under old kept u (spells f r)) ∷ x) (numbers_are (with_node old kept k u (spells f r)) kept first f r)
numbers_are old kept first (sign t f) r =
    let a = signs_are old kept f r in let b = numbers_are old kept first f r in cc
numbers_are old kept first (aside k u f) r = numbers_are (with_node old kept k u (spells f r)) (kept ++ length (with_under old kept u (spells f r)) ∷ []) first f r
numbers_are old kept first (shared f) r = ap (λ (x : List ℕ). kept ++ x) (numbers_are old kept first f r) ∙ sym (from_parts first kept (pieces_of old kept f r))
numbers_are old kept first (forget f) r = numbers_are old [] first f r
