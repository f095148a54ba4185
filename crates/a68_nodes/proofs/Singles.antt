-- How many pieces a layer has.
use Rattle.std.proofs.Common.{◌≡◌, ℕ, ◌+◌, ◌-◌, ◌<◌, List, [], ◌∷◌, ◌++◌, length, refl, ap, sym, ◌∙◌, arith, nat_eq, true, false}
use Rattle.std.proofs.lemmas.Bool.{ne_eqb}
use Rattle.std.proofs.lemmas.List.{length-append}
use Rattle.a68_symbols.specs.declared.sym.Sym.{Sym}
use Rattle.a68_tree.specs.Forest.{Forest, forget, spells, Single, single_part, single_mark, single_aside, Some, some_part, some_mark, some_aside, some_forget, Several, several_parts, several_mark, several_aside}
use Rattle.a68_tree.specs.Nodes.{Entry, with_node, with_under}
use Rattle.a68_nodes.specs.Stack.{Layer, node, begun}
use Rattle.a68_nodes.specs.Pieces.{pieces_of}
use Rattle.a68_nodes.specs.Views.{DraftState, first_of}
use Rattle.a68_nodes.specs.Built.{IsDraftOf, state_of}

one_piece : {f : Forest} → Single f → (old : List Entry) (kept : List ℕ) (r : List Sym) → length (pieces_of old kept f r) ≡ 1
one_piece single_part old kept r = refl
one_piece (single_mark s) old kept r = one_piece s old kept r
one_piece (single_aside {k = k} {u = u} {f = f} s) old kept r = one_piece s (with_node old kept k u (spells f r)) (kept ++ length (with_under old kept u (spells f r)) ∷ []) r

some_pieces : {f : Forest} → Some f → (old : List Entry) (kept : List ℕ) (r : List Sym) → 0 < length (pieces_of old kept f r)
some_pieces some_part old kept r = omega (arith)
some_pieces (some_mark s) old kept r = some_pieces s old kept r
some_pieces (some_aside {k = k} {u = u} {f = f} s) old kept r = some_pieces s (with_node old kept k u (spells f r)) (kept ++ length (with_under old kept u (spells f r)) ∷ []) r
some_pieces (some_forget s) old kept r = some_pieces s old [] r

more_pieces : {f : Forest} → Several f → (old : List Entry) (kept : List ℕ) (r : List Sym) → 1 < length (pieces_of old kept f r)
more_pieces (several_parts {k = k} {u = u} {f = f} s) old kept r = let h = some_pieces s (with_node old kept k u (spells f r)) kept r in omega (arith, h)
more_pieces (several_mark s) old kept r = more_pieces s old kept r
more_pieces (several_aside {k = k} {u = u} {f = f} s) old kept r = more_pieces s (with_node old kept k u (spells f r)) (kept ++ length (with_under old kept u (spells f r)) ∷ []) r

counted : (whole : List Sym) (f : Forest) (ls : List Layer) (r : List Sym) (s : DraftState) → IsDraftOf whole (node (forget f) ∷ ls) r s
    → (v : DraftState) × (length s.pieces ≡ first_of s.frames + length (pieces_of v.drafts [] f r))
unfolding state_of
counted whole f ls r s b =
    let v : DraftState = state_of ls (begun (node (forget f)).bracket (forget f) r) in
    (v, ap (λ (x : DraftState). length x.pieces) b.stands ∙ length-append v.pieces (pieces_of v.drafts [] f r) ∙ ap (λ (x : DraftState). first_of x.frames + length (pieces_of v.drafts [] f r)) (sym b.stands))

pub one_counted : (whole rest : List Sym) (ls : List Layer) (f : Forest) (s : DraftState) → Single f → IsDraftOf whole (node (forget f) ∷ ls) rest s → length s.pieces ≡ first_of s.frames + 1
one_counted whole rest ls f s p b = let c = counted whole f ls rest s b in c.1 ∙ ap (λ (n : ℕ). first_of s.frames + n) (one_piece p c.0.drafts [] rest)

pub more_counted : (whole rest : List Sym) (ls : List Layer) (f : Forest) (s : DraftState) → Several f → IsDraftOf whole (node (forget f) ∷ ls) rest s → first_of s.frames + 1 < length s.pieces
more_counted whole rest ls f s p b = let c = counted whole f ls rest s b in let h = more_pieces p c.0.drafts [] rest in let e = c.1 in omega (arith, h, e)

pub one_is : (total first : ℕ) → total ≡ first + 1 → nat_eq (total - first) 1 ≡ true
one_is total first g = let h : total - first ≡ 1 = omega (arith, g) in rw h refl

pub more_is : (total first : ℕ) → first + 1 < total → nat_eq (total - first) 1 ≡ false
more_is total first g = ne_eqb (total - first) 1 (λ h. omega (arith, g, h))
