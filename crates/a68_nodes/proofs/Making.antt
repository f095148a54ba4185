-- Layers that become nodes.
use Rattle.std.proofs.Common.{◌≡◌, ℕ, ◌+◌, ◌-◌, true, List, [], ◌∷◌, ◌++◌, length, take, drop, refl, sym, ap, ◌∙◌, arith}
use Rattle.std.proofs.lemmas.List.{append-nil, take_at, drop_at}
use Rattle.a68_tree.specs.declared.kind.NodeKind.{NodeKind}
use Rattle.a68_tree.specs.declared.kind.NodeKind.TheVariants as k
use Rattle.a68_symbols.specs.declared.sym.Sym.{Sym}
use Rattle.a68_symbols.specs.declared.sym.Sym.TheVariants.{Is}
use Rattle.a68_symbols.specs.declared.sym.Token.{Token}
use Rattle.a68_tree.specs.Forest.{Forest, end, mark, part, aside, spells}
use Rattle.a68_tree.specs.Nodes.{Entry, named_at, nodes, with_under, with_node}
use Rattle.a68_nodes.specs.declared.draft.Piece.{Piece}
use Rattle.a68_nodes.specs.declared.draft.Piece.TheVariants.{Part}
use Rattle.a68_nodes.specs.Stack.{Layer, node, put}
use Rattle.a68_nodes.specs.Pieces.{signs_added, pieces_of}
use Rattle.a68_nodes.specs.Views.{Opened, DraftState, inherited}
use Rattle.a68_nodes.specs.Closing.{names_first, with_closed, behind_first}
use Rattle.a68_nodes.specs.Built.{behind, state_of, IsDraftOf}
use Rattle.a68_nodes.proofs.Closed.{named_first, under_closed, node_closed, identity_named}
use Rattle.a68_nodes.proofs.Steps.{on, top, top_of, around, put_built}

-- What the innermost layer x of a state becomes: the list with the node whose other fields are given, its number, and the
-- pieces of the layers around.
pub record Closes (old : DraftState) (x : Opened) (e : Entry) (drafts : List Entry) (pieces : List Piece) (id : ℕ) : Type 0 where
  pub added : drafts ≡ with_closed old.drafts (drop x.first old.pieces) e
  pub left : pieces ≡ take x.first old.pieces
  pub number : id ≡ length (signs_added old.drafts (drop x.first old.pieces))

module _ (s old : DraftState) (f : Forest) (r : List Sym) (x : Opened) (xs : List Opened) (h : old ≡ behind s f r) (g : old.frames ≡ x ∷ xs) where
  top_is : top s f r ∷ s.frames ≡ x ∷ xs
  top_is = sym (ap (λ (v : DraftState). v.frames) h) ∙ g

  first_is : x.first ≡ length s.pieces
  first_is = let a = top_is in cc

  before_is : x.before ≡ length (spells f r)
  before_is = let a = top_is in cc

  rest_is : xs ≡ s.frames
  rest_is = let a = top_is in cc

  own_pieces : drop x.first old.pieces ≡ pieces_of s.drafts (inherited s.frames) f r
  own_pieces = ap (λ (v : DraftState). drop x.first v.pieces) h ∙ drop_at s.pieces (pieces_of s.drafts (inherited s.frames) f r) x.first (sym first_is)

  other_pieces : take x.first old.pieces ≡ s.pieces
  other_pieces = ap (λ (v : DraftState). take x.first v.pieces) h ∙ take_at s.pieces (pieces_of s.drafts (inherited s.frames) f r) x.first (sym first_is)

  drafts_are : old.drafts ≡ nodes s.drafts (inherited s.frames) f r
  drafts_are = ap (λ (v : DraftState). v.drafts) h

  module _ (kind : NodeKind) (e : Entry) (drafts : List Entry) (pieces : List Piece) (id : ℕ) (c : Closes old x e drafts pieces id) where
    number_is : id ≡ length (with_under s.drafts (inherited s.frames) f r)
    number_is = c.number ∙ ap (λ (ps : List Piece). length (signs_added old.drafts ps)) own_pieces ∙ ap (λ (es : List Entry). length (signs_added es (pieces_of s.drafts (inherited s.frames) f r))) drafts_are
        ∙ ap length (under_closed s.drafts (inherited s.frames) f r)

    pieces_are : pieces ≡ s.pieces
    pieces_are = c.left ∙ other_pieces

    node_added : e.kind ≡ kind → e.before ≡ x.before → e.after ≡ length r → e.named ≡ named_at kind f r → drafts ≡ with_node s.drafts (inherited s.frames) kind f r
    node_added p q a n =
        c.added ∙ ap (λ (ps : List Piece). with_closed old.drafts ps e) own_pieces ∙ ap (λ (es : List Entry). with_closed es (pieces_of s.drafts (inherited s.frames) f r) e) drafts_are
        ∙ node_closed s.drafts (inherited s.frames) f r kind e p (q ∙ before_is) a n

    wrapped : (new : DraftState) → e.kind ≡ kind → e.before ≡ x.before → e.after ≡ length r → e.named ≡ named_at kind f r
        → new ≡ record { drafts = drafts; frames = record x { kept = inherited xs } ∷ xs; pieces = pieces ++ Part id ∷ [] } → new ≡ behind s (part kind f end) r
    wrapped new p q a n z =
        let b = node_added p q a n in
        let d = number_is in
        let i = pieces_are in
        let j = first_is in
        let l = before_is in
        let m = rest_is in cc

    set_apart : (v' new : DraftState) (o p : Opened) (os ps : List Opened) → v' ≡ s → v'.frames ≡ o ∷ os → xs ≡ p ∷ ps → e.kind ≡ kind → e.before ≡ x.before → e.after ≡ length r → e.named ≡ named_at kind f r
        → new ≡ record { drafts = drafts; frames = record p { kept = p.kept ++ id ∷ [] } ∷ ps; pieces = pieces } → new ≡ on v' o os (aside kind f end) r
    set_apart v' new o p os ps t w y i q a n z =
        let frames : o ∷ os ≡ p ∷ ps = sym w ∙ ap (λ (v : DraftState). v.frames) t ∙ sym rest_is ∙ y in
        let kept : inherited s.frames ≡ o.kept = ap (λ (v : DraftState). inherited v.frames) (sym t) ∙ ap inherited w in
        apart_on v' new o p os ps frames
        (node_added i q a n ∙ ap (λ (es : List Entry). with_node es (inherited s.frames) kind f r) (ap (λ (v : DraftState). v.drafts) (sym t)) ∙ ap (λ (ks : List ℕ). with_node v'.drafts ks kind f r) kept)
        (number_is ∙ ap (λ (es : List Entry). length (with_under es (inherited s.frames) f r)) (ap (λ (v : DraftState). v.drafts) (sym t)) ∙ ap (λ (ks : List ℕ). length (with_under v'.drafts ks f r)) kept)
        (pieces_are ∙ ap (λ (v : DraftState). v.pieces) (sym t)) z
      where
        apart_on : (v' new : DraftState) (o p : Opened) (os ps : List Opened) → o ∷ os ≡ p ∷ ps → drafts ≡ with_node v'.drafts o.kept kind f r → id ≡ length (with_under v'.drafts o.kept f r) → pieces ≡ v'.pieces
            → new ≡ record { drafts = drafts; frames = record p { kept = p.kept ++ id ∷ [] } ∷ ps; pieces = pieces } → new ≡ on v' o os (aside kind f end) r
        apart_on v' new o p os ps a b d i z =
            let m = append-nil v'.pieces in cc

-- ---- the calls

pub wrap_built : (whole : List Sym) (ls : List Layer) (f : Forest) (r : List Sym) (old new : DraftState) (x : Opened) (xs : List Opened) → old.frames ≡ x ∷ xs
    → (kind : NodeKind) (e : Entry) (drafts : List Entry) (pieces : List Piece) (id : ℕ) → Closes old x e drafts pieces id
    → e.kind ≡ kind → e.before ≡ x.before → e.after ≡ length r → e.named ≡ x.before
    → new ≡ record { drafts = drafts; frames = record x { kept = inherited xs } ∷ xs; pieces = pieces ++ Part id ∷ [] }
    → names_first kind ≡ true → IsDraftOf whole (node f ∷ ls) r old → IsDraftOf whole (node (part kind f end) ∷ ls) r new
unfolding state_of
wrap_built whole ls f r old new x xs g kind e drafts pieces id c i p a n z other b =
    let s : DraftState = state_of ls (spells f r) in record {
      stands = wrapped s old f r x xs b.stands g kind e drafts pieces id c new i p a (n ∙ before_is s old f r x xs b.stands g ∙ sym (named_first kind f r other)) z;
      spelled = b.spelled;
    }

pub identity_built : (whole : List Sym) (ls : List Layer) (j : NodeKind) (u f : Forest) (r : List Sym) (old new : DraftState) (x : Opened) (xs : List Opened) → old.frames ≡ x ∷ xs
    → (e : Entry) (drafts : List Entry) (pieces : List Piece) (id : ℕ) → Closes old x e drafts pieces id
    → e.kind ≡ k.Identity → e.before ≡ x.before → e.after ≡ length r → e.named ≡ behind_first old.drafts (drop x.first old.pieces) x.before
    → new ≡ record { drafts = drafts; frames = record x { kept = inherited xs } ∷ xs; pieces = pieces ++ Part id ∷ [] }
    → IsDraftOf whole (node (part j u f) ∷ ls) r old → IsDraftOf whole (node (part k.Identity (part j u f) end) ∷ ls) r new
unfolding state_of
identity_built whole ls j u f r old new x xs g e drafts pieces id c i p a n z b =
    let s : DraftState = state_of ls (spells (part j u f) r) in record {
      stands = wrapped s old (part j u f) r x xs b.stands g k.Identity e drafts pieces id c new i p a
          (n ∙ ap (λ (ps : List Piece). behind_first old.drafts ps x.before) (own_pieces s old (part j u f) r x xs b.stands g)
          ∙ ap (λ (es : List Entry). behind_first es (pieces_of s.drafts (inherited s.frames) (part j u f) r) x.before) (drafts_are s old (part j u f) r x xs b.stands g)
          ∙ identity_named s.drafts (inherited s.frames) j u f r x.before) z;
      spelled = b.spelled;
    }

pub long_built : (whole : List Sym) (ls : List Layer) (s : Token) (f : Forest) (r : List Sym) (old new : DraftState) (x : Opened) (xs : List Opened) → old.frames ≡ x ∷ xs
    → (e : Entry) (drafts : List Entry) (pieces : List Piece) (id : ℕ) → Closes old x e drafts pieces id
    → e.kind ≡ k.LongDenotation → e.before ≡ x.before → e.after ≡ length r → e.named ≡ x.before - 1
    → new ≡ record { drafts = drafts; frames = record x { kept = inherited xs } ∷ xs; pieces = pieces ++ Part id ∷ [] }
    → IsDraftOf whole (node (mark s f) ∷ ls) r old → IsDraftOf whole (node (part k.LongDenotation (mark s f) end) ∷ ls) r new
unfolding state_of
long_built whole ls s f r old new x xs g e drafts pieces id c i p a n z b =
    let v : DraftState = state_of ls (spells (mark s f) r) in
    let before = before_is v old (mark s f) r x xs b.stands g in
    let named : e.named ≡ length (spells f r) = omega (arith, n, before) in record {
      stands = wrapped v old (mark s f) r x xs b.stands g k.LongDenotation e drafts pieces id c new i p a named z;
      spelled = b.spelled;
    }

pub jump_built : (whole : List Sym) (ls : List Layer) (f : Forest) (r : List Sym) (old new : DraftState) (x : Opened) (xs : List Opened) → old.frames ≡ x ∷ xs
    → (e : Entry) (drafts : List Entry) (pieces : List Piece) (id : ℕ) → Closes old x e drafts pieces id
    → e.kind ≡ k.GoTo → e.before ≡ x.before → e.after ≡ length r → e.named ≡ length r + 1
    → new ≡ record { drafts = drafts; frames = record x { kept = inherited xs } ∷ xs; pieces = pieces ++ Part id ∷ [] }
    → IsDraftOf whole (node f ∷ ls) r old → IsDraftOf whole (node (part k.GoTo f end) ∷ ls) r new
unfolding state_of
jump_built whole ls f r old new x xs g e drafts pieces id c i p a n z b =
    let v : DraftState = state_of ls (spells f r) in record {
      stands = wrapped v old f r x xs b.stands g k.GoTo e drafts pieces id c new i p a n z;
      spelled = b.spelled;
    }

pub aside_built : (whole : List Sym) (l : Layer) (ls : List Layer) (f : Forest) (r : List Sym) (old new : DraftState) (x p : Opened) (ps : List Opened) → old.frames ≡ x ∷ p ∷ ps
    → (kind : NodeKind) (e : Entry) (drafts : List Entry) (pieces : List Piece) (id : ℕ) → Closes old x e drafts pieces id
    → e.kind ≡ kind → e.before ≡ x.before → e.after ≡ length r → e.named ≡ x.before
    → new ≡ record { drafts = drafts; frames = record p { kept = p.kept ++ id ∷ [] } ∷ ps; pieces = pieces }
    → names_first kind ≡ true → IsDraftOf whole (node f ∷ l ∷ ls) r old → IsDraftOf whole (put l (aside kind f end) ∷ ls) r new
unfolding state_of
aside_built whole l ls f r old new x p ps g kind e drafts pieces id c i q a n z other b =
    let v : DraftState = state_of (l ∷ ls) (spells f r) in
    let d : IsDraftOf whole (l ∷ ls) (spells f r) v = around whole (node f) (l ∷ ls) r old b in
    let t = top_of whole l ls (spells f r) v d in
    put_built whole l ls (aside kind f end) r v new t.0 t.1 t.2
    (set_apart v old f r x (p ∷ ps) b.stands g kind e drafts pieces id c v new t.0 p t.1 ps refl t.2 refl i q a (n ∙ before_is v old f r x (p ∷ ps) b.stands g ∙ sym (named_first kind f r other)) z) d

-- the whole text is one node
pub final_built : (whole : List Sym) (kind : NodeKind) (u : Forest) (s : DraftState) → IsDraftOf whole (node (part kind u end) ∷ []) [] s → (s.drafts ≡ with_node [] [] kind u []) × (whole ≡ spells u [])
unfolding state_of
final_built whole kind u s b = (ap (λ (v : DraftState). v.drafts) b.stands, b.spelled)
