-- What stands for the layers, one step on.
use Rattle.std.proofs.Common.{◌≡◌, ℕ, ◌+◌, List, [], ◌∷◌, ◌++◌, length, Option, Some, None, refl, sym, ap, ◌∙◌, append_assoc, add-one}
use Rattle.std.proofs.lemmas.List.{append-nil}
use Rattle.a68_symbols.specs.declared.sym.Bracket.{Bracket}
use Rattle.a68_symbols.specs.declared.sym.Sym.{Sym}
use Rattle.a68_symbols.specs.declared.sym.Sym.TheVariants.{Opens, Closes, Is}
use Rattle.a68_symbols.specs.declared.sym.Token.{Token}
use Rattle.a68_tree.specs.Forest.{Forest, end, mark, group, sign, shared, forget, spells, joined}
use Rattle.a68_tree.specs.Nodes.{Entry, nodes}
use Rattle.a68_nodes.specs.declared.draft.Piece.{Piece}
use Rattle.a68_nodes.specs.declared.draft.Piece.TheVariants.{Sign}
use Rattle.a68_nodes.specs.Stack.{Layer, node, inside, put, begun, text_of}
use Rattle.a68_nodes.specs.Pieces.{all_parts, pieces_of, kept_behind}
use Rattle.a68_nodes.specs.Views.{Opened, DraftState, inherited}
use Rattle.a68_nodes.specs.Built.{behind, state_of, IsDraftOf}
use Rattle.a68_tree.proofs.Joining.{spells_joined}
use Rattle.a68_nodes.proofs.Joining.{nodes_joined, kept_joined, pieces_joined}

-- ---- more is read in a layer

begun_joined : (b : Option Bracket) (f g : Forest) (r : List Sym) → begun b (joined f g) r ≡ begun b f (spells g r)
begun_joined None f g r = spells_joined f g r
begun_joined (Some b) f g r = ap (λ (x : List Sym). Opens b ∷ x) (spells_joined f g r)

-- a state whose innermost layer is `o` and the others `os`, where that forest is read behind
abbrev pub on : DraftState → Opened → List Opened → Forest → List Sym → DraftState
on v o os g r = record {
  drafts = nodes v.drafts o.kept g r;
  frames = record o { kept = kept_behind v.drafts o.kept g r } ∷ os;
  pieces = v.pieces ++ pieces_of v.drafts o.kept g r;
}

behind_joined : (s : DraftState) (f g : Forest) (r : List Sym)
    → behind s (joined f g) r ≡ on (behind s f (spells g r)) (record { first = length s.pieces; before = length (spells f (spells g r)); kept = kept_behind s.drafts (inherited s.frames) f (spells g r) }) s.frames g r
behind_joined s f g r =
    let a = nodes_joined s.drafts (inherited s.frames) f g r in
    let b = kept_joined s.drafts (inherited s.frames) f g r in
    let c = pieces_joined s.drafts (inherited s.frames) f g r in
    let d = spells_joined f g r in
    let e = append_assoc s.pieces (pieces_of s.drafts (inherited s.frames) f (spells g r))
    (pieces_of (nodes s.drafts (inherited s.frames) f (spells g r)) (kept_behind s.drafts (inherited s.frames) f (spells g r)) g r) in cc

same_on : (v w : DraftState) (o q : Opened) (os qs : List Opened) (g : Forest) (r : List Sym) → w ≡ v → o ∷ os ≡ q ∷ qs → on v o os g r ≡ on w q qs g r
same_on v w o q os qs g r e f = cc

-- the innermost layer of a state
abbrev pub top : DraftState → Forest → List Sym → Opened
top s f r = record { first = length s.pieces; before = length (spells f r); kept = kept_behind s.drafts (inherited s.frames) f r }

joined_on : (s v : DraftState) (o : Opened) (os : List Opened) (f g : Forest) (r : List Sym) → v ≡ behind s f (spells g r) → v.frames ≡ o ∷ os
    → behind s (joined f g) r ≡ on v o os g r
joined_on s v o os f g r e h =
    behind_joined s f g r ∙ same_on (behind s f (spells g r)) v (top s f (spells g r)) o s.frames os g r e (sym (ap (λ (x : DraftState). x.frames) e) ∙ h)

pub put_built : (whole : List Sym) (l : Layer) (ls : List Layer) (g : Forest) (r : List Sym) (old new : DraftState) (o : Opened) (os : List Opened)
    → old.frames ≡ o ∷ os → new ≡ on old o os g r → IsDraftOf whole (l ∷ ls) (spells g r) old → IsDraftOf whole (put l g ∷ ls) r new
unfolding state_of
put_built whole l ls g r old new o os f n b =
    let x : begun l.bracket (joined l.forest g) r ≡ begun l.bracket l.forest (spells g r) = begun_joined l.bracket l.forest g r in
    record {
      stands = n ∙ sym (joined_on (state_of ls (begun l.bracket l.forest (spells g r))) old o os l.forest g r b.stands f)
          ∙ ap (λ (y : List Sym). behind (state_of ls y) (joined l.forest g) r) (sym x);
      spelled = b.spelled ∙ ap (text_of ls) (sym x);
    }

-- the innermost layer of what stands for some layers
pub top_of : (whole : List Sym) (l : Layer) (ls : List Layer) (r : List Sym) (s : DraftState) → IsDraftOf whole (l ∷ ls) r s → (o : Opened) × (os : List Opened) × (s.frames ≡ o ∷ os)
unfolding state_of
top_of whole l ls r s b =
    let v : DraftState = state_of ls (begun l.bracket l.forest r) in (top v l.forest r, v.frames, ap (λ (x : DraftState). x.frames) b.stands)

-- ---- what adds no node

module _ (old : DraftState) (o : Opened) (os : List Opened) (f : old.frames ≡ o ∷ os) (r : List Sym) where
  -- only the pieces grow
  with_pieces : (ps qs : List Piece) → ps ≡ qs → let new : DraftState = record old { pieces = old.pieces ++ ps } in new ≡ record { drafts = old.drafts; frames = o ∷ os; pieces = old.pieces ++ qs }
  with_pieces ps qs e =
      ap (λ (x : List Opened). let s : DraftState = record { drafts = old.drafts; frames = x; pieces = old.pieces ++ ps } in s) f
      ∙ ap (λ (x : List Piece). let s : DraftState = record { drafts = old.drafts; frames = o ∷ os; pieces = old.pieces ++ x } in s) e

  no_pieces : old ≡ record { drafts = old.drafts; frames = o ∷ os; pieces = old.pieces ++ [] }
  no_pieces = ap (λ (x : List Piece). let s : DraftState = record old { pieces = x } in s) (sym (append-nil old.pieces)) ∙ with_pieces [] [] refl

  on_mark : (t : Token) → old ≡ on old o os (mark t end) r
  on_mark t = no_pieces

  on_sign : (t : Token) (new : DraftState) → new ≡ record old { pieces = old.pieces ++ Sign (length r + 1) (length r) ∷ [] } → new ≡ on old o os (sign t end) r
  on_sign t new n =
      n ∙ with_pieces (Sign (length r + 1) (length r) ∷ []) (Sign (length (Is t ∷ r)) (length r) ∷ []) (ap (λ (x : ℕ). let ps : List Piece = Sign x (length r) ∷ [] in ps) (add-one (length r)))

  on_shared : (new : DraftState) → new ≡ record old { pieces = old.pieces ++ all_parts (inherited old.frames) } → new ≡ on old o os (shared end) r
  on_shared new n =
      n ∙ with_pieces (all_parts (inherited old.frames)) (all_parts o.kept ++ []) (ap (λ (x : List Opened). all_parts (inherited x)) f ∙ sym (append-nil (all_parts o.kept)))

  on_forget : (new : DraftState) → new ≡ record old { frames = record o { kept = [] } ∷ os } → new ≡ on old o os (forget end) r
  on_forget new n =
      n ∙ ap (λ (x : List Piece). let s : DraftState = record { drafts = old.drafts; frames = record o { kept = [] } ∷ os; pieces = x } in s) (sym (append-nil old.pieces))

pub mark_built : (whole : List Sym) (l : Layer) (ls : List Layer) (t : Token) (r : List Sym) (s : DraftState) → IsDraftOf whole (l ∷ ls) (Is t ∷ r) s → IsDraftOf whole (put l (mark t end) ∷ ls) r s
mark_built whole l ls t r s b =
    let p = top_of whole l ls (Is t ∷ r) s b in
    put_built whole l ls (mark t end) r s s p.0 p.1 p.2 (on_mark s p.0 p.1 p.2 r t) b

pub sign_built : (whole : List Sym) (l : Layer) (ls : List Layer) (t : Token) (r : List Sym) (old new : DraftState)
    → new ≡ record old { pieces = old.pieces ++ Sign (length r + 1) (length r) ∷ [] } → IsDraftOf whole (l ∷ ls) (Is t ∷ r) old → IsDraftOf whole (put l (sign t end) ∷ ls) r new
sign_built whole l ls t r old new n b =
    let p = top_of whole l ls (Is t ∷ r) old b in
    put_built whole l ls (sign t end) r old new p.0 p.1 p.2 (on_sign old p.0 p.1 p.2 r t new n) b

pub share_built : (whole : List Sym) (l : Layer) (ls : List Layer) (r : List Sym) (old new : DraftState)
    → new ≡ record old { pieces = old.pieces ++ all_parts (inherited old.frames) } → IsDraftOf whole (l ∷ ls) r old → IsDraftOf whole (put l (shared end) ∷ ls) r new
share_built whole l ls r old new n b =
    let p = top_of whole l ls r old b in
    put_built whole l ls (shared end) r old new p.0 p.1 p.2 (on_shared old p.0 p.1 p.2 r new n) b

pub forget_built : (whole : List Sym) (l : Layer) (ls : List Layer) (r : List Sym) (old new : DraftState) (o : Opened) (os : List Opened) → old.frames ≡ o ∷ os
    → new ≡ record old { frames = record o { kept = [] } ∷ os } → IsDraftOf whole (l ∷ ls) r old → IsDraftOf whole (put l (forget end) ∷ ls) r new
forget_built whole l ls r old new o os f n b =
    put_built whole l ls (forget end) r old new o os f (on_forget old o os f r new n) b

-- ---- layers that are opened and left

-- the state with one more layer
abbrev pub one_open : DraftState → ℕ → DraftState
one_open s before = record s { frames = record { first = length s.pieces; before = before; kept = inherited s.frames } ∷ s.frames }

opened_is : (s old new : DraftState) (r : List Sym) → old ≡ s → new ≡ one_open old (length r) → new ≡ behind s end r
opened_is s old new r e n = let a = append-nil s.pieces in cc

pub open_built : (whole : List Sym) (ls : List Layer) (r : List Sym) (old new : DraftState) → new ≡ one_open old (length r) → IsDraftOf whole ls r old → IsDraftOf whole (node end ∷ ls) r new
unfolding state_of
open_built whole ls r old new n b = record { stands = opened_is (state_of ls r) old new r b.stands n; spelled = b.spelled }

pub bracket_built : (whole : List Sym) (ls : List Layer) (c : Bracket) (r : List Sym) (old new : DraftState)
    → new ≡ one_open old (length r) → IsDraftOf whole ls (Opens c ∷ r) old → IsDraftOf whole (inside c end ∷ ls) r new
unfolding state_of
bracket_built whole ls c r old new n b = record { stands = opened_is (state_of ls (Opens c ∷ r)) old new r b.stands n; spelled = b.spelled }

-- the layer around
pub around : (whole : List Sym) (l : Layer) (ls : List Layer) (r : List Sym) (s : DraftState) → IsDraftOf whole (l ∷ ls) r s → IsDraftOf whole ls (begun l.bracket l.forest r) (state_of ls (begun l.bracket l.forest r))
around whole l ls r s b = record { stands = refl; spelled = b.spelled }

-- the innermost layer is gone: what is set aside in it is set aside now
left_on : (v old new : DraftState) (x o p : Opened) (os ps : List Opened) (f : Forest) (r : List Sym) → old ≡ behind v f r → v.frames ≡ o ∷ os → old.frames ≡ x ∷ p ∷ ps
    → new ≡ record old { frames = record p { kept = x.kept } ∷ ps } → new ≡ on v o os f r
left_on v old new x o p os ps f r e h g n =
    let a : inherited v.frames ≡ o.kept = ap inherited h in
    let b : top v f r ∷ v.frames ≡ x ∷ p ∷ ps = sym (ap (λ (s : DraftState). s.frames) e) ∙ g in cc

pub leave_built : (whole : List Sym) (l : Layer) (ls : List Layer) (f : Forest) (r : List Sym) (old new : DraftState) (x p : Opened) (ps : List Opened) → old.frames ≡ x ∷ p ∷ ps
    → new ≡ record old { frames = record p { kept = x.kept } ∷ ps } → IsDraftOf whole (node f ∷ l ∷ ls) r old → IsDraftOf whole (put l f ∷ ls) r new
unfolding state_of
leave_built whole l ls f r old new x p ps g n b =
    let v : DraftState = state_of (l ∷ ls) (spells f r) in
    let d : IsDraftOf whole (l ∷ ls) (spells f r) v = around whole (node f) (l ∷ ls) r old b in
    let q = top_of whole l ls (spells f r) v d in
    put_built whole l ls f r v new q.0 q.1 q.2 (left_on v old new x q.0 p q.1 ps f r b.stands q.2 g n) d

-- a bracket is closed: what is set aside in it is forgotten behind it
inside_on : (v old new : DraftState) (x o : Opened) (os xs : List Opened) (c : Bracket) (f : Forest) (r : List Sym) → old ≡ behind v f (Closes c ∷ r) → v.frames ≡ o ∷ os → old.frames ≡ x ∷ xs
    → new ≡ record old { frames = xs } → new ≡ on v o os (group c f end) r
inside_on v old new x o os xs c f r e h g n =
    let a : inherited v.frames ≡ o.kept = ap inherited h in
    let b : top v f (Closes c ∷ r) ∷ v.frames ≡ x ∷ xs = sym (ap (λ (s : DraftState). s.frames) e) ∙ g in
    let d : xs ≡ o ∷ os = cc in
    let i = append-nil (pieces_of v.drafts o.kept f (Closes c ∷ r)) in
    let j : old.drafts ≡ nodes v.drafts o.kept f (Closes c ∷ r) = cc in
    let l : old.pieces ≡ v.pieces ++ (pieces_of v.drafts o.kept f (Closes c ∷ r) ++ []) = cc in
    n ∙ ap (λ (y : List Opened). let s : DraftState = record old { frames = y } in s) d
    ∙ ap (λ (y : List Entry). let s : DraftState = record { drafts = y; frames = o ∷ os; pieces = old.pieces } in s) j
    ∙ ap (λ (y : List Piece). let s : DraftState = record { drafts = nodes v.drafts o.kept f (Closes c ∷ r); frames = o ∷ os; pieces = y } in s) l

pub unbracket_built : (whole : List Sym) (c : Bracket) (l : Layer) (ls : List Layer) (f : Forest) (r : List Sym) (old new : DraftState) (x : Opened) (xs : List Opened) → old.frames ≡ x ∷ xs
    → new ≡ record old { frames = xs } → IsDraftOf whole (inside c f ∷ l ∷ ls) (Closes c ∷ r) old → IsDraftOf whole (put l (group c f end) ∷ ls) r new
unfolding state_of
unbracket_built whole c l ls f r old new x xs g n b =
    let v : DraftState = state_of (l ∷ ls) (Opens c ∷ spells f (Closes c ∷ r)) in
    let d : IsDraftOf whole (l ∷ ls) (Opens c ∷ spells f (Closes c ∷ r)) v = around whole (inside c f) (l ∷ ls) (Closes c ∷ r) old b in
    let q = top_of whole l ls (Opens c ∷ spells f (Closes c ∷ r)) v d in
    put_built whole l ls (group c f end) r v new q.0 q.1 q.2 (inside_on v old new x q.0 q.1 xs c f r b.stands q.2 g n) d

-- the two innermost layers
pub two_tops : (whole : List Sym) (y l : Layer) (ls : List Layer) (r : List Sym) (s : DraftState) → IsDraftOf whole (y ∷ l ∷ ls) r s → (o : Opened) × (p : Opened) × (os : List Opened) × (s.frames ≡ o ∷ p ∷ os)
unfolding state_of
two_tops whole y l ls r s b =
    let v : DraftState = state_of (l ∷ ls) (begun y.bracket y.forest r) in
    let w : DraftState = state_of ls (begun l.bracket l.forest (begun y.bracket y.forest r)) in
    (top v y.forest r, top w l.forest (begun y.bracket y.forest r), w.frames, ap (λ (x : DraftState). x.frames) b.stands)

-- nothing is open, and nothing has been read
pub none_built : (text : List Sym) (s : DraftState) → s.drafts ≡ [] → s.frames ≡ [] → s.pieces ≡ [] → IsDraftOf text [] text s
unfolding state_of
none_built text s d f p = record {
  stands =
      ap (λ (x : List Entry). let v : DraftState = record s { drafts = x } in v) d
      ∙ ap (λ (x : List Opened). let v : DraftState = record { drafts = []; frames = x; pieces = s.pieces } in v) f
      ∙ ap (λ (x : List Piece). let v : DraftState = record { drafts = []; frames = []; pieces = x } in v) p;
  spelled = refl;
}
