-- The labels of serial clauses about what is written.
use Rattle.std.proofs.Common.{◌≡◌, ◌<◌, ◌≤◌, ◌+◌, ◌-◌, ℕ, zero, suc, Bool, true, false, List, [], ◌∷◌, ◌++◌, length, drop, drop-cons, take, get_or, refl, sym, ap, subst, ◌∙◌, arith, add-one, append_assoc, None, Some, nat_eq, nat_lt, slice_get}
use Rattle.std.proofs.Math.Seq.{take-length}
use Rattle.std.proofs.lemmas.Bool.{eqb-true, false≢true}
use Rattle.std.proofs.lemmas.Bool.Decides.{nat_tests}
use Rattle.std.proofs.lemmas.Cmp.{nat_eq_equiv}
use Rattle.std.proofs.lemmas.List.{take_more}
use Rattle.std.proofs.lemmas.Option.{same_Some, slice_get_past}
use Rattle.std.specs.Option.{option_map, option_map_or}
use Rattle.std.specs.Prelude.{◌&&◌, ◌||◌, cond, map, if◌then◌else◌}
use Rattle.std.specs.declared.option.Option.{Option}
use Rattle.a68_annot.specs.declared.annotated.Annotated.{Annotated}
use Rattle.a68_elab.specs.Made.{is_label, kind_at, parts_at}
use Rattle.a68_elab.specs.Programs.{Mark, jump_by, mark_of, misfit}
use Rattle.a68_elab.specs.Trees.{is_label_in, jump}
use Rattle.a68_emit.specs.Seats.{AreLabels, AreSameNumbers, has_pair, labels_among, marks_in, marks_of}
use Rattle.a68_emit.specs.declared.seat.Clause.{Clause}
use Rattle.a68_tree.specs.declared.node.Node.{Node}

-- ---- the labels among the nodes of a clause

-- a node before the last one
labels_here : (a : Annotated) (ids : List ℕ) (i : ℕ) → suc i < length ids
    → labels_among a (drop i ids) ≡ (if is_label (kind_at a (get_or ids i 0)) then get_or ids i 0 ∷ labels_among a (drop (suc i) ids) else labels_among a (drop (suc i) ids))
labels_here a [] i less = absurd (omega arith)
labels_here a (x ∷ []) i less = absurd (omega arith)
labels_here a (x ∷ (y ∷ ids)) zero less = refl
labels_here a (x ∷ (y ∷ ids)) (suc i) less = labels_here a (y ∷ ids) i (omega arith)

or_nothing : (h e : Bool) → h ≡ (h || (e && false))
or_nothing true e = refl
or_nothing false true = refl
or_nothing false false = refl

cond_or : (b before : Bool) → cond b true before ≡ (before || b)
cond_or true true = refl
cond_or true false = refl
cond_or false true = refl
cond_or false false = refl

-- a node is noted that is a label, or none
pub label_noted : (a : Annotated) (old new : List (ℕ × ℕ)) (id part : ℕ) → is_label (kind_at a part) ≡ true
    → ((key : ℕ × ℕ) → has_pair new key.0 key.1 ≡ cond (nat_eq id key.0 && nat_eq part key.1) true (has_pair old key.0 key.1))
    → (clause label : ℕ) → has_pair new clause label ≡ (has_pair old clause label || (nat_eq clause id && (is_label (kind_at a part) && nat_eq label part)))
label_noted a old new id part is updates clause label =
    updates (clause, label) ∙ cond_or (nat_eq id clause && nat_eq part label) (has_pair old clause label)
    ∙ ap (λ (t : Bool). has_pair old clause label || (t && nat_eq part label)) (nat_eq_equiv.symm id clause)
    ∙ ap (λ (t : Bool). has_pair old clause label || (nat_eq clause id && t)) (nat_eq_equiv.symm part label)
    ∙ ap (λ (t : Bool). has_pair old clause label || (nat_eq clause id && (t && nat_eq label part))) (sym is)

pub no_label_noted : (a : Annotated) (known : List (ℕ × ℕ)) (id part : ℕ) → is_label (kind_at a part) ≡ false
    → (clause label : ℕ) → has_pair known clause label ≡ (has_pair known clause label || (nat_eq clause id && (is_label (kind_at a part) && nat_eq label part)))
no_label_noted a known id part is clause label =
    or_nothing (has_pair known clause label) (nat_eq clause id) ∙ ap (λ (t : Bool). has_pair known clause label || (nat_eq clause id && (t && nat_eq label part))) (sym is)

-- one node more is noted
pub label_on : (a : Annotated) (ids : List ℕ) (i id : ℕ) (old new : List (ℕ × ℕ)) (whole : (clause label : ℕ) → Bool) → i + 1 < length ids
    → ((clause label : ℕ) → (has_pair old clause label || (nat_eq clause id && is_label_in label (labels_among a (drop i ids)))) ≡ whole clause label)
    → ((clause label : ℕ) → has_pair new clause label ≡ (has_pair old clause label || (nat_eq clause id && (is_label (kind_at a (get_or ids i 0)) && nat_eq label (get_or ids i 0)))))
    → (clause label : ℕ) → (has_pair new clause label || (nat_eq clause id && is_label_in label (labels_among a (drop (i + 1) ids)))) ≡ whole clause label
label_on a ids i id old new whole less before noted clause label =
    let one : i + 1 ≡ suc i = add-one i in
    rw one (ap (λ (t : Bool). t || (nat_eq clause id && is_label_in label rest)) (noted clause label)
    ∙ go (has_pair old clause label) (nat_eq clause id) (is_label (kind_at a x))
    ∙ ap (λ (l : List ℕ). has_pair old clause label || (nat_eq clause id && is_label_in label l)) (sym (labels_here a ids i (omega arith))) ∙ before clause label)
  where
    x : ℕ
    x = get_or ids i 0

    rest : List ℕ
    rest = labels_among a (drop (suc i) ids)

    go : (h e b : Bool) → ((h || (e && (b && nat_eq label x))) || (e && is_label_in label rest)) ≡ (h || (e && is_label_in label (if b then x ∷ rest else rest)))
    go true e b = refl
    go false false b = refl
    go false true true = refl
    go false true false = refl

no_label : (a : Annotated) (ids : List ℕ) (i : ℕ) → length ids ≤ i + 1 → labels_among a (drop i ids) ≡ []
no_label a [] zero e = refl
no_label a [] (suc i) e = refl
no_label a (x ∷ []) zero e = refl
no_label a (x ∷ (y ∷ ids)) zero e = absurd (omega arith)
no_label a (x ∷ ids) (suc i) e = no_label a ids i (omega arith)

pub labels_whole : (a : Annotated) (ids : List ℕ) (i id : ℕ) (known : List (ℕ × ℕ)) (whole : (clause label : ℕ) → Bool) → length ids ≤ i + 1
    → ((clause label : ℕ) → (has_pair known clause label || (nat_eq clause id && is_label_in label (labels_among a (drop i ids)))) ≡ whole clause label)
    → (clause label : ℕ) → has_pair known clause label ≡ whole clause label
labels_whole a ids i id known whole past e clause label =
    or_nothing (has_pair known clause label) (nat_eq clause id)
    ∙ ap (λ (l : List ℕ). has_pair known clause label || (nat_eq clause id && is_label_in label l)) (sym (no_label a ids i past)) ∙ e clause label

-- ---- the labels of all clauses

-- those of the nodes before one
abbrev pub AreLabelsBefore : Annotated → ℕ → List (ℕ × ℕ) → Type 0
AreLabelsBefore a n pairs = (clause label : ℕ) → has_pair pairs clause label ≡ (nat_lt clause n && is_label_in label (labels_among a (parts_at a clause)))

pub before_none : (a : Annotated) (pairs : List (ℕ × ℕ)) → pairs ≡ [] → AreLabelsBefore a 0 pairs
before_none a pairs e clause label =
    let none : nat_lt clause 0 ≡ false = grind (arith, nat_tests) in
    ap (λ (l : List (ℕ × ℕ)). has_pair l clause label) e ∙ ap (λ (t : Bool). t && is_label_in label (labels_among a (parts_at a clause))) (sym none)

parts_are : (o : Option Node) (ps : List ℕ) → option_map (λ (n : Node). n.parts) o ≡ Some ps → ps ≡ option_map_or (λ (n : Node). n.parts) o []
parts_are None ps e = absurd (cc)
parts_are (Some n) ps e = sym (same_Some n.parts ps e)

pub before_more : (a : Annotated) (n : ℕ) (parts : List ℕ) (old new : List (ℕ × ℕ)) → option_map (λ (m : Node). m.parts) (slice_get a.tree.nodes n) ≡ Some parts → AreLabelsBefore a n old
    → ((clause label : ℕ) → has_pair new clause label ≡ (has_pair old clause label || (nat_eq clause n && is_label_in label (labels_among a parts)))) → AreLabelsBefore a (n + 1) new
before_more a n parts old new there before noted clause label =
    noted clause label ∙ ap (λ (t : Bool). t || (nat_eq clause n && is_label_in label (labels_among a parts))) (before clause label) ∙ go (nat_eq clause n) refl
  where
    has : Bool
    has = is_label_in label (labels_among a (parts_at a clause))

    kept : (d : Bool) → nat_lt clause n ≡ d → nat_eq clause n ≡ false → nat_lt clause (n + 1) ≡ d
    kept true d e = grind (arith, nat_tests, d)
    kept false d e = grind (arith, nat_tests, d, e)

    or_false : (b : Bool) → (b || false) ≡ b
    or_false true = refl
    or_false false = refl

    or_same : (b h : Bool) → ((b && h) || h) ≡ h
    or_same true true = refl
    or_same true false = refl
    or_same false h = refl

    go : (b : Bool) → nat_eq clause n ≡ b → ((nat_lt clause n && has) || (b && is_label_in label (labels_among a parts))) ≡ (nat_lt clause (n + 1) && has)
    go true e =
        let same : clause ≡ n = eqb-true clause n e in
        let these : is_label_in label (labels_among a parts) ≡ has =
        ap (λ (l : List ℕ). is_label_in label (labels_among a l)) (parts_are (slice_get a.tree.nodes n) parts there) ∙ ap (λ (k : ℕ). is_label_in label (labels_among a (parts_at a k))) (sym same) in
        let less : nat_lt clause (n + 1) ≡ true = grind (arith, nat_tests, same) in
        ap (λ (t : Bool). (nat_lt clause n && has) || t) these ∙ or_same (nat_lt clause n) has ∙ ap (λ (t : Bool). t && has) (sym less)
    go false e = or_false (nat_lt clause n && has) ∙ ap (λ (t : Bool). t && has) (sym (kept (nat_lt clause n) refl e))

pub all_labels : (a : Annotated) (n : ℕ) (pairs : List (ℕ × ℕ)) → length a.tree.nodes ≤ n → AreLabelsBefore a n pairs → AreLabels a pairs
all_labels a n pairs all before clause label = before clause label ∙ go (nat_lt clause n) refl
  where
    go : (b : Bool) → nat_lt clause n ≡ b → (b && is_label_in label (labels_among a (parts_at a clause))) ≡ is_label_in label (labels_among a (parts_at a clause))
    go true e = refl
    go false e =
        let past : n ≤ clause = grind (arith, nat_tests, e) in
        let none : slice_get a.tree.nodes clause ≡ None = slice_get_past a.tree.nodes clause (omega (arith, all, past)) in
        sym (ap (λ (o : Option Node). is_label_in label (labels_among a (option_map_or (λ (m : Node). m.parts) o []))) none)

-- ---- marks

abbrev mark : (depth height l : ℕ) → Mark
mark depth height l = record { label = l; depth = depth; height = height }

-- the marks of one clause in front of others
pub mark_passed : (labels : List ℕ) (label depth height : ℕ) (ms : List Mark) → is_label_in label labels ≡ false
    → mark_of label (map (λ l. record { label = l; depth = depth; height = height }) labels ++ ms) ≡ mark_of label ms
mark_passed [] label depth height ms none = refl
mark_passed (l ∷ labels) label depth height ms none = go (nat_eq label l) none (mark_passed labels label depth height ms)
  where
    rest : Option Mark
    rest = mark_of label (map (λ x. mark depth height x) labels ++ ms)

    go : (b : Bool) → (b || is_label_in label labels) ≡ false → (is_label_in label labels ≡ false → rest ≡ mark_of label ms)
        → (if b then Some (mark depth height l) else rest) ≡ mark_of label ms
    go true e f = absurd (false≢true (sym e))
    go false e f = f e

pub mark_found : (labels : List ℕ) (label : ℕ) (c : Clause) (ms : List Mark) → is_label_in label labels ≡ true
    → AreSameNumbers (mark_of label (map (λ l. record { label = l; depth = c.depth; height = c.height }) labels ++ ms)) (Some c)
mark_found [] label c ms some = absurd (false≢true some)
mark_found (l ∷ labels) label c ms some = go (nat_eq label l) some (mark_found labels label c ms)
  where
    rest : Option Mark
    rest = mark_of label (map (λ x. mark c.depth c.height x) labels ++ ms)

    go : (b : Bool) → (b || is_label_in label labels) ≡ true → (is_label_in label labels ≡ true → AreSameNumbers rest (Some c))
        → AreSameNumbers (if b then Some (mark c.depth c.height l) else rest) (Some c)
    go true e f = (refl, refl)
    go false e f = f e

pub found_as : (o o2 : Option Mark) (c : Clause) → o ≡ o2 → AreSameNumbers o2 (Some c) → AreSameNumbers o (Some c)
found_as o o2 c e h = subst (λ (x : Option Mark). AreSameNumbers x (Some c)) (sym e) h

pub none_found : (o : Option Mark) → o ≡ None → AreSameNumbers o None
none_found o e = subst (λ (x : Option Mark). AreSameNumbers x None) (sym e) tt

-- ---- jumps

pub jump_is : (place label depth : ℕ) (yields : Bool) (o : Option Mark) (c : Clause) → AreSameNumbers o (Some c) → jump_by place label yields depth o ≡ jump place label (depth - c.depth) c.height yields
jump_is place label depth yields None c h = absurd h
jump_is place label depth yields (Some m) c h =
    ap (λ (n : ℕ). jump place label (depth - n) m.height yields) h.0 ∙ ap (λ (n : ℕ). jump place label (depth - c.depth) n yields) h.1

pub misfit_is : (place label depth : ℕ) (yields : Bool) (o : Option Mark) → AreSameNumbers o None → jump_by place label yields depth o ≡ misfit place yields
misfit_is place label depth yields None h = refl
misfit_is place label depth yields (Some m) h = absurd h

-- one clause more
pub clause_passed : (a : Annotated) (cs : List Clause) (i label : ℕ) (d : Clause) (o : Option Mark) → i < length cs → is_label_in label (labels_among a (parts_at a (get_or cs i d).id)) ≡ false
    → o ≡ mark_of label (marks_of a (drop i cs)) → o ≡ mark_of label (marks_of a (drop (i + 1) cs))
clause_passed a cs i label d o less none e =
    let c = get_or cs i d in
    let rest = drop (i + 1) cs in
    let here : drop i cs ≡ c ∷ rest = rw add-one (drop-cons cs i d less) in
    e ∙ ap (λ (l : List Clause). mark_of label (marks_of a l)) here ∙ mark_passed (labels_among a (parts_at a c.id)) label c.depth c.height (marks_of a rest) none

pub clause_found : (a : Annotated) (cs : List Clause) (i label : ℕ) (d : Clause) (o : Option Mark) → i < length cs → is_label_in label (labels_among a (parts_at a (get_or cs i d).id)) ≡ true
    → o ≡ mark_of label (marks_of a (drop i cs)) → AreSameNumbers o (Some (get_or cs i d))
clause_found a cs i label d o less some e =
    let c = get_or cs i d in
    let rest = drop (i + 1) cs in
    let here : drop i cs ≡ c ∷ rest = rw add-one (drop-cons cs i d less) in
    found_as o _ c (e ∙ ap (λ (l : List Clause). mark_of label (marks_of a l)) here) (mark_found (labels_among a (parts_at a c.id)) label c (marks_of a rest) some)

marks_push : (a : Annotated) (cs : List Clause) (c : Clause) → marks_of a (cs ++ c ∷ []) ≡ marks_of a cs ++ marks_of a (c ∷ [])
marks_push a [] c = refl
marks_push a (x ∷ cs) c =
    let first = marks_in a x in
    ap (λ (l : List Mark). first ++ l) (marks_push a cs c) ∙ sym (append_assoc first (marks_of a cs) (marks_of a (c ∷ [])))

-- a clause more is copied
pub clause_copied : (a : Annotated) (xs : List Mark) (new all : List Clause) (i : ℕ) (d : Clause) → i < length all → marks_of a new ≡ xs ++ marks_of a (take i all)
    → marks_of a (new ++ get_or all i d ∷ []) ≡ xs ++ marks_of a (take (i + 1) all)
clause_copied a xs new all i d less e =
    let c = get_or all i d in
    marks_push a new c ∙ ap (λ (l : List Mark). l ++ marks_of a (c ∷ [])) e ∙ append_assoc xs (marks_of a (take i all)) (marks_of a (c ∷ []))
    ∙ ap (λ (l : List Mark). xs ++ l) (sym (ap (marks_of a) (take_more all i d less) ∙ marks_push a (take i all) c))

pub clauses_whole : (a : Annotated) (xs : List Mark) (new all : List Clause) (i : ℕ) → i ≡ length all → marks_of a new ≡ xs ++ marks_of a (take i all) → marks_of a new ≡ xs ++ marks_of a all
clauses_whole a xs new all i end e = e ∙ ap (λ (l : List Clause). xs ++ marks_of a l) (ap (λ (n : ℕ). take n all) end ∙ take-length all)
