-- Declarers whose bounds are yet to be added.
use Rattle.std.proofs.Common.{◌≡◌, ◌≢◌, ◌≤◌, ◌<◌, ◌+◌, ◌-◌, ℕ, zero, suc, Bool, true, false, List, [], ◌∷◌, ◌++◌, length, drop, take, get_or, refl, sym, ◌∙◌, ap, arith, append_assoc, append-nil, None, Some}
use Rattle.std.proofs.lemmas.List.{drop_all, length-append, length-map, map-append}
use Rattle.std.specs.Option.{option_map_or}
use Rattle.std.specs.Prelude.{map, slice_get, if◌then◌else◌}
use Rattle.std.specs.declared.option.Option.{Option}
use Rattle.a68_annot.specs.declared.annotated.Annotated.{Annotated}
use Rattle.a68_annot.specs.declared.note.Note.{Note}
use Rattle.a68_elab.specs.Made as made
use Rattle.a68_elab.specs.Made.{bounds_within, field_bounds, from_definition, most_bounds, row_bounds, word_bounds}
use Rattle.a68_elab.specs.declared.bound.Bound.{Bound}
use Rattle.a68_runs.proofs.Listing.{all_from_there, fields_next, fields_past, rows_end, rows_next, take_full, word_is}
use Rattle.a68_runs.specs.Bounds.{AreAdded, outwards, seen_from}
use Rattle.a68_runs.specs.Opens.{all_of, listed, looks_of, marks_within, those_of}
use Rattle.a68_runs.specs.declared.bounds.Open.{Open}

pub all_of-append : (a : Annotated) (xs ys : List Open) → all_of a (xs ++ ys) ≡ all_of a xs ++ all_of a ys
all_of-append a [] ys = refl
all_of-append a (x ∷ xs) ys = ap (λ (l : List Bound). those_of a x ++ l) (all_of-append a xs ys) ∙ sym (append_assoc (those_of a x) (all_of a xs) (all_of a ys))

pub looks_of-append : (a : Annotated) (xs ys : List Open) → looks_of a (xs ++ ys) ≡ looks_of a xs + looks_of a ys
looks_of-append a [] ys = let none : looks_of a ys ≡ 0 + looks_of a ys = omega arith in none
looks_of-append a (x ∷ xs) ys = omega (arith, looks_of-append a xs ys)

-- ---- rows

module _ (a : Annotated) (depth : ℕ) (frames : Option ℕ) (ids : List ℕ) where
  -- behind the dimensions the declarer of the elements is opened
  pub rows_opened : (i part : ℕ) (old new : List Bound) (opens opens0 opens' : List Open) → i < length ids → part ≡ get_or ids i 0 → made.is_bound (made.kind_at a part) ≡ false
      → new ++ map (seen_from frames) (row_bounds a (bounds_within depth a) (drop i ids)) ≡ old ++ map (seen_from frames) (row_bounds a (bounds_within depth a) ids)
      → opens0 ≡ opens → opens' ≡ record { depth = depth; frames = frames; id = part } ∷ opens0
      → new ++ all_of a opens' ≡ old ++ map (seen_from frames) (row_bounds a (bounds_within depth a) ids) ++ all_of a opens
  rows_opened i part old new opens opens0 opens' less same none so_far kept e =
      ap (λ (l : List Open). new ++ all_of a l) e
      ∙ ap (λ (l : List Open). new ++ (map (seen_from frames) (bounds_within depth a part) ++ all_of a l)) kept
      ∙ sym (append_assoc new (map (seen_from frames) (bounds_within depth a part)) (all_of a opens))
      ∙ ap (λ (l : List Bound). (new ++ map (seen_from frames) l) ++ all_of a opens) (sym (rows_end a (bounds_within depth a) i part ids less same none))
      ∙ ap (λ (l : List Bound). l ++ all_of a opens) so_far

  pub rows_looked : (i part : ℕ) (opens opens0 opens' : List Open) → i < length ids → part ≡ get_or ids i 0 → made.is_bound (made.kind_at a part) ≡ false
      → length (row_bounds a (marks_within depth a) (drop i ids)) ≤ length (row_bounds a (marks_within depth a) ids)
      → opens0 ≡ opens → opens' ≡ record { depth = depth; frames = frames; id = part } ∷ opens0 → looks_of a opens' ≤ length (row_bounds a (marks_within depth a) ids) + looks_of a opens
  rows_looked i part opens opens0 opens' less same none few kept e =
      let here : length (row_bounds a (marks_within depth a) (drop i ids)) ≡ length (marks_within depth a part) =
      ap (λ (l : List Bound). length l) (rows_end a (marks_within depth a) i part ids less same none) in
      omega (arith, here, few, ap (looks_of a) e, ap (looks_of a) kept)

  -- one more dimension is added
  pub rows_more : (i part : ℕ) (old new more : List Bound) → i < length ids → part ≡ get_or ids i 0 → made.is_bound (made.kind_at a part) ≡ true
      → new ++ map (seen_from frames) (row_bounds a (bounds_within depth a) (drop i ids)) ≡ old ++ map (seen_from frames) (row_bounds a (bounds_within depth a) ids)
      → more ≡ new ++ map (seen_from frames) (made.dimension a (made.parts_at a part))
      → more ++ map (seen_from frames) (row_bounds a (bounds_within depth a) (drop (i + 1) ids)) ≡ old ++ map (seen_from frames) (row_bounds a (bounds_within depth a) ids)
  rows_more i part old new more less same is so_far e =
      let s = seen_from frames in
      let dim = made.dimension a (made.parts_at a part) in
      let rest = row_bounds a (bounds_within depth a) (drop (i + 1) ids) in
      ap (λ (l : List Bound). l ++ map s rest) e ∙ append_assoc new (map s dim) (map s rest) ∙ ap (λ (l : List Bound). new ++ l) (sym (map-append s dim rest))
      ∙ ap (λ (l : List Bound). new ++ map s l) (sym (rows_next a (bounds_within depth a) i part ids less same is)) ∙ so_far

  pub rows_fewer : (i part : ℕ) → i < length ids → part ≡ get_or ids i 0 → made.is_bound (made.kind_at a part) ≡ true
      → length (row_bounds a (marks_within depth a) (drop i ids)) ≤ length (row_bounds a (marks_within depth a) ids)
      → length (row_bounds a (marks_within depth a) (drop (i + 1) ids)) ≤ length (row_bounds a (marks_within depth a) ids)
  rows_fewer i part less same is few =
      let dim = made.dimension a (made.parts_at a part) in
      let rest = row_bounds a (marks_within depth a) (drop (i + 1) ids) in
      omega (arith, few, ap (λ (l : List Bound). length l) (rows_next a (marks_within depth a) i part ids less same is), length-append dim rest)

  -- no part is left
  pub rows_done : (old new : List Bound) (opens opens' : List Open) (i : ℕ) → length ids ≤ i
      → new ++ map (seen_from frames) (row_bounds a (bounds_within depth a) (drop i ids)) ≡ old ++ map (seen_from frames) (row_bounds a (bounds_within depth a) ids)
      → opens' ≡ opens → new ++ all_of a opens' ≡ old ++ map (seen_from frames) (row_bounds a (bounds_within depth a) ids) ++ all_of a opens
  rows_done old new opens opens' i past so_far same =
      let none : new ≡ new ++ map (seen_from frames) (row_bounds a (bounds_within depth a) (drop i ids)) =
      sym (append-nil new) ∙ ap (λ (l : List ℕ). new ++ map (seen_from frames) (row_bounds a (bounds_within depth a) l)) (sym (drop_all i ids past)) in
      ap (λ (l : List Open). new ++ all_of a l) same ∙ ap (λ (l : List Bound). l ++ all_of a opens) (none ∙ so_far)

-- ---- fields

all_of-listed : (a : Annotated) (depth : ℕ) (frames : Option ℕ) (last : Option ℕ) → all_of a (listed depth frames last) ≡ map (seen_from frames) (option_map_or (bounds_within depth a) last [])
all_of-listed a depth frames None = refl
all_of-listed a depth frames (Some n) = append-nil (map (seen_from frames) (bounds_within depth a n))

looks_of-listed : (a : Annotated) (depth : ℕ) (frames : Option ℕ) (last : Option ℕ) → looks_of a (listed depth frames last) ≡ length (option_map_or (marks_within depth a) last [])
looks_of-listed a depth frames None = refl
looks_of-listed a depth frames (Some n) = omega arith

module _ (a : Annotated) (depth : ℕ) (frames : Option ℕ) (ids : List ℕ) (i part : ℕ) (less : i < length ids) (same : part ≡ get_or ids i 0) (last : Option ℕ) (found : List Open) where
  -- a field, before which a declarer stands last
  pub field_found : (more : List Open) → made.is_field (made.kind_at a part) ≡ true → more ≡ found ++ listed depth frames last
      → all_of a found ++ map (seen_from frames) (field_bounds a (bounds_within depth a) (option_map_or (bounds_within depth a) last []) (drop i ids))
      ≡ map (seen_from frames) (field_bounds a (bounds_within depth a) [] ids)
      → all_of a more ++ map (seen_from frames) (field_bounds a (bounds_within depth a) (option_map_or (bounds_within depth a) last []) (drop (i + 1) ids))
      ≡ map (seen_from frames) (field_bounds a (bounds_within depth a) [] ids)
  field_found more is e so_far =
      let s = seen_from frames in
      let here = option_map_or (bounds_within depth a) last [] in
      let rest = field_bounds a (bounds_within depth a) here (drop (i + 1) ids) in
      ap (λ (l : List Open). all_of a l ++ map s rest) e ∙ ap (λ (l : List Bound). l ++ map s rest) (all_of-append a found (listed depth frames last))
      ∙ append_assoc (all_of a found) (all_of a (listed depth frames last)) (map s rest)
      ∙ ap (λ (l : List Bound). all_of a found ++ (l ++ map s rest)) (all_of-listed a depth frames last)
      ∙ ap (λ (l : List Bound). all_of a found ++ l) (sym (map-append s here rest))
      ∙ ap (λ (l : List Bound). all_of a found ++ map s l) (sym (fields_next a (bounds_within depth a) here i part ids less same is)) ∙ so_far

  pub field_looked : (more : List Open) → made.is_field (made.kind_at a part) ≡ true → more ≡ found ++ listed depth frames last
      → looks_of a found + length (field_bounds a (marks_within depth a) (option_map_or (marks_within depth a) last []) (drop i ids)) ≡ length (field_bounds a (marks_within depth a) [] ids)
      → looks_of a more + length (field_bounds a (marks_within depth a) (option_map_or (marks_within depth a) last []) (drop (i + 1) ids)) ≡ length (field_bounds a (marks_within depth a) [] ids)
  field_looked more is e so_far =
      let here = option_map_or (marks_within depth a) last [] in
      let rest = field_bounds a (marks_within depth a) here (drop (i + 1) ids) in
      omega (
        arith,
        so_far,
        ap (looks_of a) e,
        looks_of-append a found (listed depth frames last),
        looks_of-listed a depth frames last,
        ap (λ (l : List Bound). length l) (fields_next a (marks_within depth a) here i part ids less same is),
        length-append here rest,
      )

  -- a declarer
  pub declarer_passed : made.is_field (made.kind_at a part) ≡ false
      → all_of a found ++ map (seen_from frames) (field_bounds a (bounds_within depth a) (option_map_or (bounds_within depth a) last []) (drop i ids))
      ≡ map (seen_from frames) (field_bounds a (bounds_within depth a) [] ids)
      → all_of a found ++ map (seen_from frames) (field_bounds a (bounds_within depth a) (bounds_within depth a part) (drop (i + 1) ids))
      ≡ map (seen_from frames) (field_bounds a (bounds_within depth a) [] ids)
  declarer_passed none so_far =
      ap (λ (l : List Bound). all_of a found ++ map (seen_from frames) l) (sym (fields_past a (bounds_within depth a) (option_map_or (bounds_within depth a) last []) i part ids less same none)) ∙ so_far

  pub declarer_looked : made.is_field (made.kind_at a part) ≡ false
      → looks_of a found + length (field_bounds a (marks_within depth a) (option_map_or (marks_within depth a) last []) (drop i ids)) ≡ length (field_bounds a (marks_within depth a) [] ids)
      → looks_of a found + length (field_bounds a (marks_within depth a) (marks_within depth a part) (drop (i + 1) ids)) ≡ length (field_bounds a (marks_within depth a) [] ids)
  declarer_looked none so_far =
      omega (arith, so_far, ap (λ (l : List Bound). length l) (fields_past a (marks_within depth a) (option_map_or (marks_within depth a) last []) i part ids less same none))

  -- one part more
  pub field_step : (more : List Open) (next : Option ℕ) (b : Bool) → made.is_field (made.kind_at a part) ≡ b → more ≡ found ++ (if b then listed depth frames last else []) → next ≡ (if b then last else Some part)
      → all_of a found ++ map (seen_from frames) (field_bounds a (bounds_within depth a) (option_map_or (bounds_within depth a) last []) (drop i ids))
      ≡ map (seen_from frames) (field_bounds a (bounds_within depth a) [] ids)
      → all_of a more ++ map (seen_from frames) (field_bounds a (bounds_within depth a) (option_map_or (bounds_within depth a) next []) (drop (i + 1) ids))
      ≡ map (seen_from frames) (field_bounds a (bounds_within depth a) [] ids)
  field_step more next true is e f so_far =
      ap (λ (o : Option ℕ). all_of a more ++ map (seen_from frames) (field_bounds a (bounds_within depth a) (option_map_or (bounds_within depth a) o []) (drop (i + 1) ids))) f
      ∙ field_found more is e so_far
  field_step more next false is e f so_far =
      ap (λ (o : Option ℕ). all_of a more ++ map (seen_from frames) (field_bounds a (bounds_within depth a) (option_map_or (bounds_within depth a) o []) (drop (i + 1) ids))) f
      ∙ ap (λ (l : List Open). all_of a l ++ map (seen_from frames) (field_bounds a (bounds_within depth a) (bounds_within depth a part) (drop (i + 1) ids))) (e ∙ append-nil found)
      ∙ declarer_passed is so_far

  pub look_step : (more : List Open) (next : Option ℕ) (b : Bool) → made.is_field (made.kind_at a part) ≡ b → more ≡ found ++ (if b then listed depth frames last else []) → next ≡ (if b then last else Some part)
      → looks_of a found + length (field_bounds a (marks_within depth a) (option_map_or (marks_within depth a) last []) (drop i ids)) ≡ length (field_bounds a (marks_within depth a) [] ids)
      → looks_of a more + length (field_bounds a (marks_within depth a) (option_map_or (marks_within depth a) next []) (drop (i + 1) ids)) ≡ length (field_bounds a (marks_within depth a) [] ids)
  look_step more next true is e f so_far =
      ap (λ (o : Option ℕ). looks_of a more + length (field_bounds a (marks_within depth a) (option_map_or (marks_within depth a) o []) (drop (i + 1) ids))) f ∙ field_looked more is e so_far
  look_step more next false is e f so_far =
      ap (λ (o : Option ℕ). looks_of a more + length (field_bounds a (marks_within depth a) (option_map_or (marks_within depth a) o []) (drop (i + 1) ids))) f
      ∙ ap (λ (l : List Open). looks_of a l + length (field_bounds a (marks_within depth a) (marks_within depth a part) (drop (i + 1) ids))) (e ∙ append-nil found)
      ∙ declarer_looked is so_far

-- ---- mode words

pub word_opened : (a : Annotated) (depth : ℕ) (frames : Option ℕ) (o : Option Note) (note : Note) (d declarer out : ℕ) (ids : List ℕ) (opens opens' : List Open) → o ≡ Some note → note.definition ≡ Some d
    → declarer ≡ made.last_id (made.parts_at a d) → out ≡ outwards frames note.step.hops → opens' ≡ record { depth = depth; frames = Some out; id = declarer } ∷ opens
    → all_of a opens' ≡ map (seen_from frames) (word_bounds a (bounds_within depth a) o ids) ++ all_of a opens
word_opened a depth frames o note d declarer out ids opens opens' e f last far is =
    let inner = bounds_within depth a in
    ap (all_of a) is
    ∙ ap (λ (n : ℕ). map (seen_from (Some n)) (inner declarer) ++ all_of a opens) far
    ∙ ap (λ (k : ℕ). map (seen_from (Some (outwards frames note.step.hops))) (inner k) ++ all_of a opens) last
    ∙ ap (λ (l : List Bound). l ++ all_of a opens) (all_from_there frames note.step.hops (inner (made.last_id (made.parts_at a d))))
    ∙ ap (λ (l : List Bound). map (seen_from frames) l ++ all_of a opens) (sym (word_is a inner o note d ids e f))

pub word_looked : (a : Annotated) (depth : ℕ) (frames : Option ℕ) (o : Option Note) (note : Note) (d declarer out : ℕ) (ids : List ℕ) (opens opens' : List Open) → o ≡ Some note → note.definition ≡ Some d
    → declarer ≡ made.last_id (made.parts_at a d) → opens' ≡ record { depth = depth; frames = Some out; id = declarer } ∷ opens
    → looks_of a opens' ≡ length (word_bounds a (marks_within depth a) o ids) + looks_of a opens
word_looked a depth frames o note d declarer out ids opens opens' e f last is =
    let inner = marks_within depth a in
    let long : length (inner declarer) ≡ length (word_bounds a inner o ids) =
    ap (λ (k : ℕ). length (inner k)) last ∙ sym (length-map (inner (made.last_id (made.parts_at a d))) (from_definition note.step.hops))
    ∙ ap (λ (l : List Bound). length l) (sym (word_is a inner o note d ids e f)) in
    ap (looks_of a) is ∙ ap (λ (n : ℕ). n + looks_of a opens) long

-- one that has no definition
pub fields_of_word : (a : Annotated) (inner : ℕ → List Bound) (o : Option Note) (note : Note) (ids : List ℕ) → o ≡ Some note → note.definition ≡ None
    → field_bounds a inner [] ids ≡ word_bounds a inner o ids
fields_of_word a inner o note ids e f =
    sym (ap (λ (m : Option Note). word_bounds a inner m ids) e
    ∙ ap (λ (m : Option ℕ). option_map_or (λ k. map (from_definition note.step.hops) (inner (made.last_id (made.parts_at a k)))) m (field_bounds a inner [] ids)) f)

-- ---- one declarer

some_marks : (a : Annotated) (depth id : ℕ) → 0 < length (marks_within depth a id)
some_marks a zero id = omega arith
some_marks a (suc n) id = omega arith

module _ (a : Annotated) (o : Open) (old : List Bound) (opens : List Open) where
  -- one without bounds
  pub nothing_opened : (bounds : List Bound) (opens' : List Open) → bounds_within o.depth a o.id ≡ [] → bounds ≡ old → opens' ≡ opens
      → bounds ++ all_of a opens' ≡ old ++ those_of a o ++ all_of a opens
  nothing_opened bounds opens' none same same_opens =
      ap (λ (l : List Bound). l ++ all_of a opens') same ∙ ap (λ (l : List Open). old ++ all_of a l) same_opens
      ∙ ap (λ (l : List Bound). l ++ all_of a opens) (sym (append-nil old))
      ∙ ap (λ (l : List Bound). (old ++ map (seen_from o.frames) l) ++ all_of a opens) (sym none)

  pub nothing_looked : (opens' : List Open) → opens' ≡ opens → looks_of a opens' < length (marks_within o.depth a o.id) + looks_of a opens
  nothing_looked opens' same = omega (arith, some_marks a o.depth o.id, ap (looks_of a) same)

  -- one whose bounds are added at once
  pub all_added : (bounds now : List Bound) (opens' : List Open) → bounds_within o.depth a o.id ≡ now → bounds ≡ old ++ map (seen_from o.frames) now → opens' ≡ opens
      → bounds ++ all_of a opens' ≡ old ++ those_of a o ++ all_of a opens
  all_added bounds now opens' is added same =
      ap (λ (l : List Open). bounds ++ all_of a l) same ∙ ap (λ (l : List Bound). l ++ all_of a opens) (added ∙ ap (λ (l : List Bound). old ++ map (seen_from o.frames) l) (sym is))

  -- one that is opened
  pub part_added : (inner bounds : List Bound) (opens' : List Open) → bounds_within o.depth a o.id ≡ inner → bounds ++ all_of a opens' ≡ old ++ map (seen_from o.frames) inner ++ all_of a opens
      → bounds ++ all_of a opens' ≡ old ++ those_of a o ++ all_of a opens
  part_added inner bounds opens' is e = e ∙ ap (λ (l : List Bound). (old ++ map (seen_from o.frames) l) ++ all_of a opens) (sym is)

  -- where only declarers are opened
  pub word_added_to : (inner : List Bound) (opens' : List Open) → bounds_within o.depth a o.id ≡ inner → all_of a opens' ≡ map (seen_from o.frames) inner ++ all_of a opens
      → old ++ all_of a opens' ≡ old ++ those_of a o ++ all_of a opens
  word_added_to inner opens' is e =
      part_added inner old opens' is (ap (λ (l : List Bound). old ++ l) e ∙ sym (append_assoc old (map (seen_from o.frames) inner) (all_of a opens)))

-- what is within a declarer that is looked at has fewer marks
module _ (a : Annotated) (depth id : ℕ) (ids : List ℕ) (some : depth ≢ 0) (parts : ids ≡ made.parts_at a id) where
  marks_are : (n : ℕ) → n ≢ 0 → length (marks_within n a id)
      ≡ 1 + (length (row_bounds a (marks_within (n - 1) a) ids) + length (word_bounds a (marks_within (n - 1) a) (slice_get a.notes id) ids))
  marks_are zero is = absurd (is refl)
  marks_are (suc n) is =
      let less : n ≡ suc n - 1 = omega arith in
      let whole : List ℕ → ℕ → List Bound = λ l k. row_bounds a (marks_within k a) l ++ word_bounds a (marks_within k a) (slice_get a.notes id) l in
      let same : length (whole (made.parts_at a id) n) ≡ length (whole ids (suc n - 1)) =
      ap (λ (l : List ℕ). length (whole l n)) (sym parts) ∙ ap (λ (k : ℕ). length (whole ids k)) less in
      omega (arith, same, length-append (row_bounds a (marks_within (suc n - 1) a) ids) (word_bounds a (marks_within (suc n - 1) a) (slice_get a.notes id) ids))

  pub rows_marked : (looks rest : ℕ) → looks ≤ length (row_bounds a (marks_within (depth - 1) a) ids) + rest → looks < length (marks_within depth a id) + rest
  rows_marked looks rest le = omega (arith, marks_are depth some, le)

  pub word_marked : (looks rest : ℕ) → looks ≡ length (word_bounds a (marks_within (depth - 1) a) (slice_get a.notes id) ids) + rest → looks < length (marks_within depth a id) + rest
  word_marked looks rest e = omega (arith, marks_are depth some, e)

-- ---- all of them

-- there are too many already
pub too_many : (a : Annotated) (first : Open) (old new : List Bound) (opens : List Open) → most_bounds ≤ length new → new ++ all_of a opens ≡ old ++ those_of a first
    → AreAdded first.frames old new (bounds_within first.depth a first.id)
too_many a first old new opens many e = take_full most_bounds new (all_of a opens) many ∙ ap (λ (l : List Bound). take most_bounds l) e

-- none is left
pub all_done : (a : Annotated) (first : Open) (old new : List Bound) (opens : List Open) → opens ≡ [] → new ++ all_of a opens ≡ old ++ those_of a first
    → AreAdded first.frames old new (bounds_within first.depth a first.id)
all_done a first old new opens none e =
    ap (λ (l : List Bound). take most_bounds l) (sym (append-nil new) ∙ ap (λ (l : List Open). new ++ all_of a l) (sym none) ∙ e)
