-- The calls, over what the object holds.
use Rattle.std.proofs.Common.{◌≡◌, ℕ, ◌+◌, ◌-◌, true, List, [], ◌∷◌, ◌++◌, length, take, drop, map, reverse, Option, Some, None, refl, sym, ap, subst, ◌∙◌}
use Rattle.std.specs.Option.{option_to_list}
use Rattle.std.proofs.lemmas.List.{append-nil, nil_from_length}
use Rattle.a68_tree.specs.declared.kind.NodeKind.{NodeKind}
use Rattle.a68_tree.specs.declared.kind.NodeKind.TheVariants as k
use Rattle.a68_symbols.specs.declared.sym.Bracket.{Bracket}
use Rattle.a68_symbols.specs.declared.sym.Sym.{Sym}
use Rattle.a68_symbols.specs.declared.sym.Sym.TheVariants.{Opens, Closes, Is}
use Rattle.a68_symbols.specs.declared.sym.Token.{Token}
use Rattle.a68_tree.specs.Forest.{Forest, end, mark, group, part, sign, aside, shared, forget}
use Rattle.a68_tree.specs.Nodes.{Entry}
use Rattle.a68_nodes.specs.declared.draft.Draft.{Draft}
use Rattle.a68_nodes.specs.declared.draft.OpenLayer.{OpenLayer}
use Rattle.a68_nodes.specs.declared.draft.Piece.{Piece}
use Rattle.a68_nodes.specs.declared.draft.Piece.TheVariants.{Part, Sign}
use Rattle.a68_nodes.specs.declared.draft.Section.{Section}
use Rattle.a68_nodes.specs.Stack.{Layer, node, inside, put}
use Rattle.a68_nodes.specs.Pieces.{signs_added, all_parts}
use Rattle.a68_nodes.specs.Views.{Opened, DraftState, view, views, opened, all_opened, stretch, inherited, IsWithin, AllWithin}
use Rattle.a68_nodes.specs.Closing.{names_first, unfinished, with_closed, behind_first}
use Rattle.a68_nodes.specs.Built.{IsDraftOf}
use Rattle.a68_nodes.proofs.Framing.{opened_push, within_front}
use Rattle.a68_nodes.proofs.Steps as s
use Rattle.a68_nodes.proofs.Making as m

abbrev pub seen : List Draft → List OpenLayer → List Piece → List ℕ → DraftState
seen ds fs ps asides = record { drafts = views ds; frames = all_opened asides fs; pieces = ps }

-- what opening a layer does to the frames
abbrev pub Opens_ : List OpenLayer → List OpenLayer → ℕ → ℕ → Type 0
Opens_ fs new first before = (asides : List ℕ) → all_opened asides new ≡ record { first = first; before = before; kept = inherited (all_opened asides fs) } ∷ all_opened asides fs

-- what setting aside does to them
abbrev pub Keeps : List OpenLayer → List OpenLayer → Section → Type 0
Keeps fs new kept = (asides : List ℕ) (o : Opened) (os : List Opened) → all_opened asides fs ≡ o ∷ os → all_opened asides new ≡ record o { kept = stretch asides kept } ∷ os

module _ (ds : List Draft) (fs : List OpenLayer) (ps : List Piece) (asides : List ℕ) where
  module _ (first before : ℕ) (new : List OpenLayer) (h : Opens_ fs new first before) (n : first ≡ length ps) where
    one_open : seen ds new ps asides ≡ s.one_open (seen ds fs ps asides) before
    one_open = ap (λ (x : List Opened). let v : DraftState = record { drafts = views ds; frames = x; pieces = ps } in v)
        (h asides ∙ ap (λ (x : ℕ). let o : Opened = record { first = x; before = before; kept = inherited (all_opened asides fs) } in o ∷ all_opened asides fs) n)

    pub open_seen : (whole : List Sym) (ls : List Layer) (r : List Sym) → before ≡ length r → IsDraftOf whole ls r (seen ds fs ps asides) → IsDraftOf whole (node end ∷ ls) r (seen ds new ps asides)
    open_seen whole ls r e b = s.open_built whole ls r _ _ (one_open ∙ ap (s.one_open (seen ds fs ps asides)) e) b

    pub bracket_seen : (whole : List Sym) (ls : List Layer) (c : Bracket) (r : List Sym) → before ≡ length r → IsDraftOf whole ls (Opens c ∷ r) (seen ds fs ps asides)
        → IsDraftOf whole (inside c end ∷ ls) r (seen ds new ps asides)
    bracket_seen whole ls c r e b = s.bracket_built whole ls c r _ _ (one_open ∙ ap (s.one_open (seen ds fs ps asides)) e) b

  pub forget_seen : (new : List OpenLayer) → Keeps fs new (record { from = 0; to = 0 }) → (whole : List Sym) (l : Layer) (ls : List Layer) (r : List Sym) → IsDraftOf whole (l ∷ ls) r (seen ds fs ps asides)
      → IsDraftOf whole (put l (forget end) ∷ ls) r (seen ds new ps asides)
  forget_seen new h whole l ls r b =
      let t = s.top_of whole l ls r _ b in
      s.forget_built whole l ls r _ _ t.0 t.1 t.2 (ap (λ (x : List Opened). let v : DraftState = record { drafts = views ds; frames = x; pieces = ps } in v) (h asides t.0 t.1 t.2)) b

  -- the innermost frame is taken off
  module _ (front : List OpenLayer) (fr : OpenLayer) (e : fs ≡ front ++ fr ∷ []) where
    frames_are : all_opened asides fs ≡ opened asides fr ∷ all_opened asides front
    frames_are = ap (all_opened asides) e ∙ opened_push asides front fr

    pub unbracket_seen : (whole : List Sym) (c : Bracket) (l : Layer) (ls : List Layer) (f : Forest) (r : List Sym) → IsDraftOf whole (inside c f ∷ l ∷ ls) (Closes c ∷ r) (seen ds fs ps asides)
        → IsDraftOf whole (put l (group c f end) ∷ ls) r (seen ds front ps asides)
    unbracket_seen whole c l ls f r b = s.unbracket_built whole c l ls f r _ _ (opened asides fr) (all_opened asides front) frames_are refl b

    -- and there is one below
    below : (whole : List Sym) (y l : Layer) (ls : List Layer) (r : List Sym) → IsDraftOf whole (y ∷ l ∷ ls) r (seen ds fs ps asides) → (p : Opened) × (os : List Opened) × (all_opened asides front ≡ p ∷ os)
    below whole y l ls r b =
        let t = s.two_tops whole y l ls r _ b in (t.1, t.2, tails (opened asides fr) t.0 (all_opened asides front) (t.1 ∷ t.2) (sym frames_are ∙ t.3))
      where
        tails : (x z : Opened) (xs zs : List Opened) → x ∷ xs ≡ z ∷ zs → xs ≡ zs
        tails x z xs zs e = cc

    pub leave_seen : (new : List OpenLayer) → Keeps front new fr.kept → (whole : List Sym) (l : Layer) (ls : List Layer) (f : Forest) (r : List Sym) → IsDraftOf whole (node f ∷ l ∷ ls) r (seen ds fs ps asides)
        → IsDraftOf whole (put l f ∷ ls) r (seen ds new ps asides)
    leave_seen new h whole l ls f r b =
        let t = below whole (node f) l ls r b in
        s.leave_built whole l ls f r _ _ (opened asides fr) t.0 t.1 (frames_are ∙ ap (λ (x : List Opened). opened asides fr ∷ x) t.2)
        (ap (λ (x : List Opened). let v : DraftState = record { drafts = views ds; frames = x; pieces = ps } in v) (h asides t.0 t.1 t.2)) b

    module _ (ds' : List Draft) (ps' : List Piece) (id : ℕ) (d : Draft) (added : views ds' ≡ with_closed (views ds) (drop fr.first ps) (view d)) (left : ps' ≡ take fr.first ps)
        (number : id ≡ length (signs_added (views ds) (drop fr.first ps))) where
      closes : m.Closes (seen ds fs ps asides) (opened asides fr) (view d) (views ds') ps' id
      closes = record { added = added; left = left; number = number }

      module _ (grown : List Piece) (more : grown ≡ ps' ++ Part id ∷ []) (new : List OpenLayer) (h : Opens_ front new fr.first fr.before) where
        wrapped : seen ds' new grown asides ≡ record { drafts = views ds'; frames = record (opened asides fr) { kept = inherited (all_opened asides front) } ∷ all_opened asides front; pieces = ps' ++ Part id ∷ [] }
        wrapped =
            ap (λ (x : List Opened). let v : DraftState = record { drafts = views ds'; frames = x; pieces = grown } in v) (h asides)
            ∙ ap (λ (x : List Piece). let v : DraftState = record { drafts = views ds'; frames = record (opened asides fr) { kept = inherited (all_opened asides front) } ∷ all_opened asides front; pieces = x } in v) more

        pub wrap_seen : (whole : List Sym) (ls : List Layer) (f : Forest) (r : List Sym) (kind : NodeKind) → view d ≡ unfinished fr kind fr.before (length r) → names_first kind ≡ true
            → IsDraftOf whole (node f ∷ ls) r (seen ds fs ps asides) → IsDraftOf whole (node (part kind f end) ∷ ls) r (seen ds' new grown asides)
        wrap_seen whole ls f r kind i other b =
            m.wrap_built whole ls f r _ _ (opened asides fr) (all_opened asides front) frames_are kind (view d) (views ds') ps' id closes
            (ap (λ (x : Entry). x.kind) i) (ap (λ (x : Entry). x.before) i) (ap (λ (x : Entry). x.after) i) (ap (λ (x : Entry). x.named) i) wrapped other b

        pub identity_seen : (whole : List Sym) (ls : List Layer) (j : NodeKind) (u f : Forest) (r : List Sym) → view d ≡ unfinished fr k.Identity (behind_first (views ds) (drop fr.first ps) fr.before) (length r)
            → IsDraftOf whole (node (part j u f) ∷ ls) r (seen ds fs ps asides) → IsDraftOf whole (node (part k.Identity (part j u f) end) ∷ ls) r (seen ds' new grown asides)
        identity_seen whole ls j u f r i b =
            m.identity_built whole ls j u f r _ _ (opened asides fr) (all_opened asides front) frames_are (view d) (views ds') ps' id closes
            (ap (λ (x : Entry). x.kind) i) (ap (λ (x : Entry). x.before) i) (ap (λ (x : Entry). x.after) i) (ap (λ (x : Entry). x.named) i) wrapped b

        pub long_seen : (whole : List Sym) (ls : List Layer) (s : Token) (f : Forest) (r : List Sym) → view d ≡ unfinished fr k.LongDenotation (fr.before - 1) (length r)
            → IsDraftOf whole (node (mark s f) ∷ ls) r (seen ds fs ps asides) → IsDraftOf whole (node (part k.LongDenotation (mark s f) end) ∷ ls) r (seen ds' new grown asides)
        long_seen whole ls s f r i b =
            m.long_built whole ls s f r _ _ (opened asides fr) (all_opened asides front) frames_are (view d) (views ds') ps' id closes
            (ap (λ (x : Entry). x.kind) i) (ap (λ (x : Entry). x.before) i) (ap (λ (x : Entry). x.after) i) (ap (λ (x : Entry). x.named) i) wrapped b

        pub jump_seen : (whole : List Sym) (ls : List Layer) (f : Forest) (r : List Sym) → view d ≡ unfinished fr k.GoTo (length r + 1) (length r)
            → IsDraftOf whole (node f ∷ ls) r (seen ds fs ps asides) → IsDraftOf whole (node (part k.GoTo f end) ∷ ls) r (seen ds' new grown asides)
        jump_seen whole ls f r i b =
            m.jump_built whole ls f r _ _ (opened asides fr) (all_opened asides front) frames_are (view d) (views ds') ps' id closes
            (ap (λ (x : Entry). x.kind) i) (ap (λ (x : Entry). x.before) i) (ap (λ (x : Entry). x.after) i) (ap (λ (x : Entry). x.named) i) wrapped b

      -- the list of what is set aside grows
      module _ (more : List ℕ) (same : all_opened more front ≡ all_opened asides front) (kept : Section) (is : (p : Opened) (os : List Opened) → all_opened asides front ≡ p ∷ os → stretch more kept ≡ p.kept ++ id ∷ [])
          (new : List OpenLayer) (h : Keeps front new kept) where
        apart : (p : Opened) (os : List Opened) → all_opened asides front ≡ p ∷ os
            → seen ds' new ps' more ≡ record { drafts = views ds'; frames = record p { kept = p.kept ++ id ∷ [] } ∷ os; pieces = ps' }
        apart p os e =
            ap (λ (x : List Opened). let v : DraftState = record { drafts = views ds'; frames = x; pieces = ps' } in v)
            (h more p os (same ∙ e) ∙ ap (λ (x : List ℕ). let o : Opened = record p { kept = x } in o ∷ os) (is p os e))

        pub aside_seen : (whole : List Sym) (l : Layer) (ls : List Layer) (f : Forest) (r : List Sym) (kind : NodeKind) → view d ≡ unfinished fr kind fr.before (length r) → names_first kind ≡ true
            → IsDraftOf whole (node f ∷ l ∷ ls) r (seen ds fs ps asides) → IsDraftOf whole (put l (aside kind f end) ∷ ls) r (seen ds' new ps' more)
        aside_seen whole l ls f r kind i other b =
            let t = below whole (node f) l ls r b in
            m.aside_built whole l ls f r _ _ (opened asides fr) t.0 t.1 (frames_are ∙ ap (λ (x : List Opened). opened asides fr ∷ x) t.2) kind (view d) (views ds') ps' id closes
            (ap (λ (x : Entry). x.kind) i) (ap (λ (x : Entry). x.before) i) (ap (λ (x : Entry). x.after) i) (ap (λ (x : Entry). x.named) i) (apart t.0 t.1 t.2) other b

-- no layer is open where one stands
pub never_empty : (ds : List Draft) (fs : List OpenLayer) (ps : List Piece) (asides : List ℕ) (whole : List Sym) (l : Layer) (ls : List Layer) (r : List Sym) → fs ≡ []
    → IsDraftOf whole (l ∷ ls) r (seen ds fs ps asides) → ⊥
never_empty ds fs ps asides whole l ls r e b =
    let t = s.top_of whole l ls r _ b in
    let none : all_opened asides fs ≡ [] = ap (all_opened asides) e in
    let some = t.2 in cc

pub sign_seen : (ds : List Draft) (fs : List OpenLayer) (ps new : List Piece) (asides : List ℕ) (whole : List Sym) (l : Layer) (ls : List Layer) (t : Token) (r : List Sym)
    → new ≡ ps ++ Sign (length r + 1) (length r) ∷ [] → IsDraftOf whole (l ∷ ls) (Is t ∷ r) (seen ds fs ps asides) → IsDraftOf whole (put l (sign t end) ∷ ls) r (seen ds fs new asides)
sign_seen ds fs ps new asides whole l ls t r e b = s.sign_built whole l ls t r _ _ (ap (λ (x : List Piece). seen ds fs x asides) e) b

pub share_seen : (ds : List Draft) (fs : List OpenLayer) (ps new : List Piece) (asides : List ℕ) (whole : List Sym) (l : Layer) (ls : List Layer) (r : List Sym)
    → new ≡ ps ++ all_parts (inherited (all_opened asides fs)) → IsDraftOf whole (l ∷ ls) r (seen ds fs ps asides) → IsDraftOf whole (put l (shared end) ∷ ls) r (seen ds fs new asides)
share_seen ds fs ps new asides whole l ls r e b = s.share_built whole l ls r _ _ (ap (λ (x : List Piece). seen ds fs x asides) e) b

-- frames stay as they are where the list of what is set aside grows
pub opened_same : (old new : List ℕ) (fs : List OpenLayer) → ((x : Section) → IsWithin (length old) x → IsWithin (length new) x × (stretch new x ≡ stretch old x)) → AllWithin (length old) fs
    → AllWithin (length new) fs × (all_opened new fs ≡ all_opened old fs)
opened_same old new fs h a = (within_same fs a, ap reverse (map_same fs a))
  where
    within_same : (fs : List OpenLayer) → AllWithin (length old) fs → AllWithin (length new) fs
    within_same [] a = tt
    within_same (f ∷ fs) a = ((h f.kept a.0).0, within_same fs a.1)

    map_same : (fs : List OpenLayer) → AllWithin (length old) fs → map (opened new) fs ≡ map (opened old) fs
    map_same [] a = refl
    map_same (f ∷ fs) a =
        let e = (h f.kept a.0).1 in let i = map_same fs a.1 in cc

-- ---- a frame taken off, or none

pub within_popped : (n : ℕ) (fs front : List OpenLayer) (o : Option OpenLayer) → fs ≡ front ++ option_to_list o → AllWithin n fs → AllWithin n front
within_popped n fs front None e a = subst (AllWithin n) (e ∙ append-nil front) a
within_popped n fs front (Some f) e a = within_front n front f (subst (AllWithin n) e a)

pub unbracket_popped : (ds : List Draft) (fs : List OpenLayer) (ps : List Piece) (asides : List ℕ) (front : List OpenLayer) (o : Option OpenLayer) → fs ≡ front ++ option_to_list o
    → (o ≡ None → length fs ≡ 0) → (whole : List Sym) (c : Bracket) (l : Layer) (ls : List Layer) (f : Forest) (r : List Sym)
    → IsDraftOf whole (inside c f ∷ l ∷ ls) (Closes c ∷ r) (seen ds fs ps asides) → IsDraftOf whole (put l (group c f end) ∷ ls) r (seen ds front ps asides)
unbracket_popped ds fs ps asides front None e n whole c l ls f r b = absurd (never_empty ds fs ps asides whole (inside c f) (l ∷ ls) (Closes c ∷ r) (nil_from_length fs (n refl)) b)
unbracket_popped ds fs ps asides front (Some x) e n whole c l ls f r b = unbracket_seen ds fs ps asides front x e whole c l ls f r b

-- before the first symbol
pub new_seen : (ds : List Draft) (fs new : List OpenLayer) (ps : List Piece) (asides : List ℕ) (text : List Sym) → ds ≡ [] → fs ≡ [] → ps ≡ [] → Opens_ fs new 0 (length text)
    → IsDraftOf text (node end ∷ []) text (seen ds new ps asides)
new_seen ds fs new ps asides text d f p h =
    open_seen ds fs ps asides 0 (length text) new h (sym (ap length p)) text [] text refl (s.none_built text (seen ds fs ps asides) (ap views d) (ap (all_opened asides) f) p)
