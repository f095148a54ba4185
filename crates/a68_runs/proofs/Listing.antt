-- Bounds that are listed one after the other.
use Rattle.std.proofs.Common.{◌≡◌, ◌≢◌, ◌≤◌, ◌<◌, ◌+◌, ◌-◌, ℕ, zero, suc, Bool, true, false, List, [], ◌∷◌, ◌++◌, length, drop, take, get_or, refl, sym, ◌∙◌, ap, subst, arith, append_assoc, append-nil, add-one, drop-cons, None, Some}
use Rattle.std.proofs.lemmas.List.{map-append}
use Rattle.std.specs.Option.{option_map_or}
use Rattle.std.specs.Prelude.{map, nat_eq, slice_get, if◌then◌else◌}
use Rattle.std.specs.declared.option.Option.{Option}
use Rattle.a68_annot.specs.declared.annotated.Annotated.{Annotated}
use Rattle.a68_annot.specs.declared.note.Note.{Note}
use Rattle.a68_elab.specs.Made as made
use Rattle.a68_elab.specs.Made.{from_definition, further, most_bounds}
use Rattle.a68_elab.specs.declared.bound.Bound.{Bound}
use Rattle.a68_elab.specs.declared.bound.Bound.TheVariants as bound
use Rattle.a68_layout.specs.Rooms.{bounds_needed}
use Rattle.a68_runs.specs.Bounds.{AreAdded, outwards, seen_from}

-- ---- lists up to some length

module _ {X : Type 0} where
  take_twice : (m : ℕ) (xs ys : List X) → take m (take m xs ++ ys) ≡ take m (xs ++ ys)
  take_twice zero xs ys = refl
  take_twice (suc m) [] ys = refl
  take_twice (suc m) (x ∷ xs) ys = ap (λ (l : List X). x ∷ l) (take_twice m xs ys)

  -- what is alike up to some length is so with more behind it
  pub take_same : (m : ℕ) (xs ys zs : List X) → take m xs ≡ take m ys → take m (xs ++ zs) ≡ take m (ys ++ zs)
  take_same m xs ys zs e = sym (take_twice m xs zs) ∙ ap (λ (l : List X). take m (l ++ zs)) e ∙ take_twice m ys zs

  -- behind so many nothing is taken
  pub take_full : (m : ℕ) (xs ys : List X) → m ≤ length xs → take m xs ≡ take m (xs ++ ys)
  take_full zero xs ys le = refl
  take_full (suc m) [] ys le = absurd (omega arith)
  take_full (suc m) (x ∷ xs) ys le = ap (λ (l : List X). x ∷ l) (take_full m xs ys (omega arith))

-- ---- what is added

pub most_is : most_bounds ≡ 1048577
unfolding most_bounds
most_is = refl

pub none_added : (frames : Option ℕ) (old : List Bound) → AreAdded frames old old []
none_added frames old = ap (λ (l : List Bound). take most_bounds l) (sym (append-nil old))

pub full_added : (frames : Option ℕ) (old more : List Bound) → most_bounds ≤ length old → AreAdded frames old old more
full_added frames old more le = take_full most_bounds old (map (seen_from frames) more) le

-- some, and others behind them
pub and_added : (frames : Option ℕ) (old between new xs ys : List Bound) → AreAdded frames old between xs → AreAdded frames between new ys → AreAdded frames old new (xs ++ ys)
and_added frames old between new xs ys p q =
    let s = seen_from frames in
    q ∙ take_same most_bounds between (old ++ map s xs) (map s ys) p
    ∙ ap (λ (l : List Bound). take most_bounds l) (append_assoc old (map s xs) (map s ys) ∙ ap (λ (l : List Bound). old ++ l) (sym (map-append s xs ys)))

-- with what is left to be added, all are
pub more_added : (frames : Option ℕ) (old new xs ys : List Bound) → AreAdded frames old new xs
    → take most_bounds (new ++ map (seen_from frames) ys) ≡ take most_bounds (old ++ map (seen_from frames) (xs ++ ys))
more_added frames old new xs ys p = and_added frames old new (new ++ map (seen_from frames) ys) xs ys p refl

pub exactly_added : (frames : Option ℕ) (old new xs : List Bound) → new ≡ old ++ map (seen_from frames) xs → AreAdded frames old new xs
exactly_added frames old new xs e = ap (λ (l : List Bound). take most_bounds l) e

-- ---- rows and fields

pub rows_end : (a : Annotated) (inner : ℕ → List Bound) (i part : ℕ) (ids : List ℕ) → i < length ids → part ≡ get_or ids i 0 → made.is_bound (made.kind_at a part) ≡ false
    → made.row_bounds a inner (drop i ids) ≡ inner part
rows_end a inner i part ids less same none =
    ap (λ (l : List ℕ). made.row_bounds a inner l) (drop-cons ids i 0 less)
    ∙ ap (λ (k : ℕ). if made.is_bound (made.kind_at a k) then made.dimension a (made.parts_at a k) ++ made.row_bounds a inner (drop (suc i) ids) else inner k) (sym same)
    ∙ ap (λ (b : Bool). if b then made.dimension a (made.parts_at a part) ++ made.row_bounds a inner (drop (suc i) ids) else inner part) none

pub rows_next : (a : Annotated) (inner : ℕ → List Bound) (i part : ℕ) (ids : List ℕ) → i < length ids → part ≡ get_or ids i 0 → made.is_bound (made.kind_at a part) ≡ true
    → made.row_bounds a inner (drop i ids) ≡ made.dimension a (made.parts_at a part) ++ made.row_bounds a inner (drop (i + 1) ids)
rows_next a inner i part ids less same is =
    rw add-one
    (ap (λ (l : List ℕ). made.row_bounds a inner l) (drop-cons ids i 0 less)
    ∙ ap (λ (k : ℕ). if made.is_bound (made.kind_at a k) then made.dimension a (made.parts_at a k) ++ made.row_bounds a inner (drop (suc i) ids) else inner k) (sym same)
    ∙ ap (λ (b : Bool). if b then made.dimension a (made.parts_at a part) ++ made.row_bounds a inner (drop (suc i) ids) else inner part) is)

pub fields_next : (a : Annotated) (inner : ℕ → List Bound) (last : List Bound) (i part : ℕ) (ids : List ℕ) → i < length ids → part ≡ get_or ids i 0 → made.is_field (made.kind_at a part) ≡ true
    → made.field_bounds a inner last (drop i ids) ≡ last ++ made.field_bounds a inner last (drop (i + 1) ids)
fields_next a inner last i part ids less same is =
    rw add-one
    (ap (λ (l : List ℕ). made.field_bounds a inner last l) (drop-cons ids i 0 less)
    ∙ ap (λ (k : ℕ). if made.is_field (made.kind_at a k) then last ++ made.field_bounds a inner last (drop (suc i) ids) else made.field_bounds a inner (inner k) (drop (suc i) ids)) (sym same)
    ∙ ap (λ (b : Bool). if b then last ++ made.field_bounds a inner last (drop (suc i) ids) else made.field_bounds a inner (inner part) (drop (suc i) ids)) is)

pub fields_past : (a : Annotated) (inner : ℕ → List Bound) (last : List Bound) (i part : ℕ) (ids : List ℕ) → i < length ids → part ≡ get_or ids i 0 → made.is_field (made.kind_at a part) ≡ false
    → made.field_bounds a inner last (drop i ids) ≡ made.field_bounds a inner (inner part) (drop (i + 1) ids)
fields_past a inner last i part ids less same none =
    rw add-one
    (ap (λ (l : List ℕ). made.field_bounds a inner last l) (drop-cons ids i 0 less)
    ∙ ap (λ (k : ℕ). if made.is_field (made.kind_at a k) then last ++ made.field_bounds a inner last (drop (suc i) ids) else made.field_bounds a inner (inner k) (drop (suc i) ids)) (sym same)
    ∙ ap (λ (b : Bool). if b then last ++ made.field_bounds a inner last (drop (suc i) ids) else made.field_bounds a inner (inner part) (drop (suc i) ids)) none)

-- ---- mode words

further_twice : (f hops k : ℕ) → further (further f hops) k ≡ further f (further hops k)
further_twice f hops k = omega arith

-- a bound of a definition, seen from so far out
from_there : (frames : Option ℕ) (hops : ℕ) (b : Bound) → seen_from (Some (outwards frames hops)) b ≡ seen_from frames (from_definition hops b)
from_there None hops (bound.Written id) = refl
from_there None hops (bound.Meant n) = refl
from_there None hops (bound.Defined k id) = refl
from_there (Some f) hops (bound.Written id) = refl
from_there (Some f) hops (bound.Meant n) = refl
from_there (Some f) hops (bound.Defined k id) = ap (λ (n : ℕ). bound.Defined n id) (further_twice f hops k)

pub all_from_there : (frames : Option ℕ) (hops : ℕ) (bs : List Bound) → map (seen_from (Some (outwards frames hops))) bs ≡ map (seen_from frames) (map (from_definition hops) bs)
all_from_there frames hops [] = refl
all_from_there frames hops (b ∷ bs) =
    ap (λ (x : Bound). x ∷ map (seen_from (Some (outwards frames hops))) bs) (from_there frames hops b)
    ∙ ap (λ (l : List Bound). seen_from frames (from_definition hops b) ∷ l) (all_from_there frames hops bs)

pub word_added : (frames : Option ℕ) (hops : ℕ) (old new bs : List Bound) → AreAdded (Some (outwards frames hops)) old new bs → AreAdded frames old new (map (from_definition hops) bs)
word_added frames hops old new bs p = p ∙ ap (λ (l : List Bound). take most_bounds (old ++ l)) (all_from_there frames hops bs)

-- bounds that are seen from where they are written
pub all_here : (bs : List Bound) → map (seen_from None) bs ≡ bs
all_here [] = refl
all_here (bound.Written id ∷ bs) = ap (λ (l : List Bound). bound.Written id ∷ l) (all_here bs)
all_here (bound.Meant n ∷ bs) = ap (λ (l : List Bound). bound.Meant n ∷ l) (all_here bs)
all_here (bound.Defined k id ∷ bs) = ap (λ (l : List Bound). bound.Defined k id ∷ l) (all_here bs)

pub word_is : (a : Annotated) (inner : ℕ → List Bound) (o : Option Note) (note : Note) (d : ℕ) (ids : List ℕ) → o ≡ Some note → note.definition ≡ Some d
    → made.word_bounds a inner o ids ≡ map (from_definition note.step.hops) (inner (made.last_id (made.parts_at a d)))
word_is a inner o note d ids e f =
    ap (λ (m : Option Note). made.word_bounds a inner m ids) e
    ∙ ap (λ (m : Option ℕ). option_map_or (λ k. map (from_definition note.step.hops) (inner (made.last_id (made.parts_at a k)))) m (made.field_bounds a inner [] ids)) f

pub word_whole : (a : Annotated) (inner : ℕ → List Bound) (o : Option Note) (note : Note) (frames : Option ℕ) (d declarer out : ℕ) (ids : List ℕ) (old new : List Bound) → o ≡ Some note
    → note.definition ≡ Some d → declarer ≡ made.last_id (made.parts_at a d) → out ≡ outwards frames note.step.hops → AreAdded (Some out) old new (inner declarer)
    → AreAdded frames old new (made.word_bounds a inner o ids)
word_whole a inner o note frames d declarer out ids old new e f last far p =
    let there : AreAdded (Some (outwards frames note.step.hops)) old new (inner (made.last_id (made.parts_at a d))) =
    subst (λ (k : ℕ). AreAdded (Some (outwards frames note.step.hops)) old new (inner k)) last (subst (λ (n : ℕ). AreAdded (Some n) old new (inner declarer)) far p) in
    subst (λ (bs : List Bound). AreAdded frames old new bs) (sym (word_is a inner o note d ids e f)) (word_added frames note.step.hops old new (inner (made.last_id (made.parts_at a d))) there)

-- ---- declarers

module _ (a : Annotated) (depth id : ℕ) where
  -- whether the mode of the declarer has no rows
  abbrev has_none : Bool
  has_none = nat_eq 0 (bounds_needed a.modes (made.mode_of a id))

  pub within_none : has_none ≡ true → made.bounds_within depth a id ≡ []
  within_none e = go depth
    where
      go : (n : ℕ) → made.bounds_within n a id ≡ []
      go zero = refl
      go (suc n) = ap (λ (b : Bool). if b then [] else made.bounds_by a (made.bounds_within n a) id (made.parts_at a id)) e

  pub within_past : slice_get a.tree.nodes id ≡ None → slice_get a.notes id ≡ None → made.bounds_within depth a id ≡ []
  within_past e f = go depth has_none refl
    where
      by_parts : (n : ℕ) → made.bounds_by a (made.bounds_within n a) id (made.parts_at a id) ≡ []
      by_parts n = rw (e, f) refl

      go : (n : ℕ) (b : Bool) → has_none ≡ b → made.bounds_within n a id ≡ []
      go zero b is = refl
      go (suc n) true is = ap (λ (b : Bool). if b then [] else made.bounds_by a (made.bounds_within n a) id (made.parts_at a id)) is
      go (suc n) false is = ap (λ (b : Bool). if b then [] else made.bounds_by a (made.bounds_within n a) id (made.parts_at a id)) is ∙ by_parts n

  -- those of a declarer that is looked at
  within_by : depth ≢ 0 → has_none ≡ false → made.bounds_within depth a id ≡ made.bounds_by a (made.bounds_within (depth - 1) a) id (made.parts_at a id)
  within_by some e = go depth some
    where
      go : (n : ℕ) → n ≢ 0 → made.bounds_within n a id ≡ made.bounds_by a (made.bounds_within (n - 1) a) id (made.parts_at a id)
      go zero some = absurd (some refl)
      go (suc n) some =
          let less : n ≡ suc n - 1 = omega arith in
          ap (λ (b : Bool). if b then [] else made.bounds_by a (made.bounds_within n a) id (made.parts_at a id)) e
          ∙ ap (λ (k : ℕ). made.bounds_by a (made.bounds_within k a) id (made.parts_at a id)) less

  pub within_string : depth ≢ 0 → has_none ≡ false → made.named_at a made.strings id ≡ true → made.bounds_within depth a id ≡ bound.Meant 1 ∷ bound.Meant 0 ∷ []
  within_string some e is =
      let inner = made.bounds_within (depth - 1) a in
      let ids = made.parts_at a id in
      within_by some e
      ∙ ap (λ (b : Bool). if b then bound.Meant 1 ∷ bound.Meant 0 ∷ [] else (if made.begins_with made.is_bound a ids then made.row_bounds a inner ids else made.word_bounds a inner (slice_get a.notes id) ids)) is

  -- those of one that is not STRING
  within_other : depth ≢ 0 → has_none ≡ false → made.named_at a made.strings id ≡ false → (ids : List ℕ) → ids ≡ made.parts_at a id
      → made.bounds_within depth a id
      ≡ (if made.begins_with made.is_bound a ids then made.row_bounds a (made.bounds_within (depth - 1) a) ids else made.word_bounds a (made.bounds_within (depth - 1) a) (slice_get a.notes id) ids)
  within_other some e is ids same =
      let inner = made.bounds_within (depth - 1) a in
      let other : List ℕ → List Bound = λ l. if made.begins_with made.is_bound a l then made.row_bounds a inner l else made.word_bounds a inner (slice_get a.notes id) l in
      within_by some e
      ∙ ap (λ (b : Bool). if b then bound.Meant 1 ∷ bound.Meant 0 ∷ [] else other (made.parts_at a id)) is
      ∙ ap other (sym same)

  pub within_rows : depth ≢ 0 → has_none ≡ false → made.named_at a made.strings id ≡ false → (ids : List ℕ) → ids ≡ made.parts_at a id → made.begins_with made.is_bound a ids ≡ true
      → made.bounds_within depth a id ≡ made.row_bounds a (made.bounds_within (depth - 1) a) ids
  within_rows some e is ids same rows =
      let inner = made.bounds_within (depth - 1) a in
      within_other some e is ids same ∙ ap (λ (b : Bool). if b then made.row_bounds a inner ids else made.word_bounds a inner (slice_get a.notes id) ids) rows

  pub within_word : depth ≢ 0 → has_none ≡ false → made.named_at a made.strings id ≡ false → (ids : List ℕ) → ids ≡ made.parts_at a id → made.begins_with made.is_bound a ids ≡ false
      → made.bounds_within depth a id ≡ made.word_bounds a (made.bounds_within (depth - 1) a) (slice_get a.notes id) ids
  within_word some e is ids same rows =
      let inner = made.bounds_within (depth - 1) a in
      within_other some e is ids same ∙ ap (λ (b : Bool). if b then made.row_bounds a inner ids else made.word_bounds a inner (slice_get a.notes id) ids) rows

-- the same are added
pub added_as : (frames : Option ℕ) (old new xs ys : List Bound) → ys ≡ xs → AreAdded frames old new xs → AreAdded frames old new ys
added_as frames old new xs ys e p = subst (λ (bs : List Bound). AreAdded frames old new bs) (sym e) p

-- those of the first of these nodes
pub first_is : (a : Annotated) (ids : List ℕ) (x n : ℕ) (old new : List Bound) → 0 < length ids → x ≡ get_or ids 0 0 → n ≡ length a.tree.nodes → made.is_declarer (made.kind_at a x) ≡ true → old ≡ []
    → AreAdded None old new (made.bounds_within n a x) → take most_bounds new ≡ made.first_bounds a ids
first_is a [] x n old new some at all is none p = absurd (omega arith)
first_is a (y ∷ ids) x n old new some at all is none p =
    p
    ∙ ap (λ (l : List Bound). take most_bounds (l ++ map (seen_from None) (made.bounds_within n a x))) none
    ∙ ap (λ (l : List Bound). take most_bounds l) (all_here (made.bounds_within n a x))
    ∙ ap (λ (k : ℕ). take most_bounds (made.bounds_within k a x)) all
    ∙ sym (ap (λ (b : Bool). if b then take most_bounds (made.bounds_within (length a.tree.nodes) a x) else []) is)
    ∙ ap (λ (k : ℕ). if made.is_declarer (made.kind_at a k) then take most_bounds (made.bounds_within (length a.tree.nodes) a k) else []) at
