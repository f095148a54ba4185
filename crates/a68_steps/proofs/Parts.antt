-- The fields of structures, from the last one on.
use Rattle.std.proofs.Common.{◌≡◌, ◌+◌, ◌-◌, ◌<◌, ◌≤◌, ℕ, zero, suc, true, false, List, [], ◌∷◌, length, take, drop, get_or, refl, ap, sym, ◌∙◌, arith}
use Rattle.std.specs.Prelude.{None, Some, nat_eq, nat_lt}
use Rattle.a68_acts.specs.Operations.{part_at, part_of, part_in, fields_in, fields_of, names_rows, selected_from, selected}
use Rattle.a68_acts.specs.declared.operation.Doing.TheVariants.{Yields, Meets}
use Rattle.a68_values.specs.declared.act.FaultKind.TheVariants.{Kind}
use Rattle.std.proofs.lemmas.Bool.{eq-eqb, ne_eqb, lt-ltb}
use Rattle.std.proofs.lemmas.List.{at_drop_more}
use Rattle.a68_layout.specs.Widths.{width_by, width_within, width_of, width_of_fields}
use Rattle.a68_layout.proofs.Shaping.{no-shape, width-past, width-other}
use Rattle.a68_modes.specs.Nodes.{shape_at}
use Rattle.a68_modes.specs.declared.shape.Shape.{Shape}
use Rattle.a68_modes.specs.declared.shape.Shape.TheVariants.{Struct, Same}
use Rattle.a68_values.specs.Content.{Content, contents_of, structure}
use Rattle.a68_acts.specs.Fetching.{fetch_cell, fetch_by, fetch_fields, fetch_within, assign_cell, assign_by, assign_fields, assign_structure, assign_within, count_of, has_parts}
use Rattle.a68_acts.specs.declared.step.Step.{Step}
use Rattle.a68_acts.specs.declared.step.Step.TheVariants.{Stray}

pub count_of-contents : (vs : List Content) → count_of (contents_of vs) ≡ length vs
count_of-contents [] = refl
count_of-contents (v ∷ vs) = ap (λ n. suc n) (count_of-contents vs)

-- the cells of what is left of the fields are at most those of all
width-drop : (f : ℕ → ℕ) (i : ℕ) (fields : List (ℕ × ℕ)) → width_of_fields f (drop i fields) ≤ width_of_fields f fields
width-drop f zero fields = omega arith
width-drop f (suc i) [] = omega arith
width-drop f (suc i) (field ∷ fields) = omega (arith, width-drop f i fields)

module _ (f : ℕ → ℕ) (fields : List (ℕ × ℕ)) (i : ℕ) (d : ℕ × ℕ) (inside : i < length fields) (cell end : ℕ)
    (whole : cell + width_of_fields f (drop (i + 1) fields) ≡ end) (fits : width_of_fields f fields ≤ end) where
  one : width_of_fields f (drop i fields) ≡ f (get_or fields i d).1 + width_of_fields f (drop (i + 1) fields)
  one = at_drop_more (width_of_fields f) fields i d inside

  -- one more field has room before those behind it
  pub room-before : f (get_or fields i d).1 ≤ cell
  room-before = omega (arith, whole, fits, one, width-drop f i fields)

  pub whole-before : (first : ℕ) → first + f (get_or fields i d).1 ≡ cell → first + width_of_fields f (drop i fields) ≡ end
  whole-before first e = omega (arith, whole, one, e)

-- one more field is put in front
pub fetched-before : (F : ℕ → ℕ → List Step → List Step) (f : ℕ → ℕ) (fields : List (ℕ × ℕ)) (i : ℕ) (d : ℕ × ℕ) (cell first : ℕ) (steps new behind : List Step) → i < length fields
    → first + f (get_or fields i d).1 ≡ cell → steps ≡ fetch_fields F f (drop (i + 1) fields) cell behind → new ≡ F (get_or fields i d).1 first steps
    → new ≡ fetch_fields F f (drop i fields) first behind
fetched-before F f fields i d cell first steps new behind inside e made this =
    this ∙ ap (F (get_or fields i d).1 first) (made ∙ ap (λ c. fetch_fields F f (drop (i + 1) fields) c behind) (sym e))
    ∙ sym (at_drop_more (λ fs. fetch_fields F f fs first behind) fields i d inside)

pub assigned-before : (F : ℕ → ℕ → Content → List Step → List Step) (f : ℕ → ℕ) (fields : List (ℕ × ℕ)) (i : ℕ) (d : ℕ × ℕ) (cell first : ℕ) (v : Content) (gone : List Content)
    (steps new behind : List Step) → i < length fields → first + f (get_or fields i d).1 ≡ cell → steps ≡ assign_fields F f (drop (i + 1) fields) cell (contents_of gone) behind
    → new ≡ F (get_or fields i d).1 first v steps → new ≡ assign_fields F f (drop i fields) first (contents_of (v ∷ gone)) behind
assigned-before F f fields i d cell first v gone steps new behind inside e made this =
    this ∙ ap (F (get_or fields i d).1 first v) (made ∙ ap (λ c. assign_fields F f (drop (i + 1) fields) c (contents_of gone) behind) (sym e))
    ∙ sym (at_drop_more (λ fs. assign_fields F f fs first (contents_of (v ∷ gone)) behind) fields i d inside)

-- ---- values of one cell

module _ (n : ℕ) (modes : List Shape) (m end : ℕ) (past : length modes ≤ m) (fits : width_within n modes m ≤ end) where
  pub some-past : 1 ≤ end
  some-past = omega (arith, width-past n modes m past)

  pub whole-past : end - 1 + width_within n modes m ≡ end
  whole-past = omega (arith, width-past n modes m past)

pub fetched-past : (n : ℕ) (modes : List Shape) (m cell : ℕ) (behind : List Step) → length modes ≤ m → Stray ∷ behind ≡ fetch_within n modes m cell behind
fetched-past zero modes m cell behind past = refl
fetched-past (suc n) modes m cell behind past = sym (ap (λ s. fetch_by (fetch_within n modes) (width_within n modes) s cell behind) (no-shape modes m past))

pub assigned-past : (n : ℕ) (modes : List Shape) (m cell : ℕ) (v : Content) (behind : List Step) → length modes ≤ m → Stray ∷ behind ≡ assign_within n modes m cell v behind
assigned-past zero modes m cell v behind past = refl
assigned-past (suc n) modes m cell v behind past = sym (ap (λ s. assign_by (assign_within n modes) (width_within n modes) s cell v behind) (no-shape modes m past))

module _ (n : ℕ) (modes : List Shape) (m end : ℕ) (s : Shape) (e : s ≡ shape_at modes m) (a : (x : List (ℕ × ℕ)) → s ≡ Struct x → ⊥) (b : (x : ℕ) → s ≡ Same x → ⊥)
    (fits : width_within n modes m ≤ end) where
  pub some-other : 1 ≤ end
  some-other = omega (arith, width-other n modes m s e a b)

  pub whole-other : end - 1 + width_within n modes m ≡ end
  whole-other = omega (arith, width-other n modes m s e a b)

fetch_by-other : (F : ℕ → ℕ → List Step → List Step) (f : ℕ → ℕ) (s : Shape) (cell : ℕ) (behind : List Step) → ((x : List (ℕ × ℕ)) → s ≡ Struct x → ⊥)
    → ((x : ℕ) → s ≡ Same x → ⊥) → fetch_cell s cell ∷ behind ≡ fetch_by F f s cell behind
fetch_by-other F f (Struct fields) cell behind a b = absurd (a fields refl)
fetch_by-other F f (Same m) cell behind a b = absurd (b m refl)
fetch_by-other F f _ cell behind a b = refl

pub fetched-other : (n : ℕ) (modes : List Shape) (m cell : ℕ) (s : Shape) (behind : List Step) → (n ≡ 0 → ⊥) → s ≡ shape_at modes m → ((x : List (ℕ × ℕ)) → s ≡ Struct x → ⊥)
    → ((x : ℕ) → s ≡ Same x → ⊥) → fetch_cell s cell ∷ behind ≡ fetch_within n modes m cell behind
fetched-other zero modes m cell s behind some e a b = absurd (some refl)
fetched-other (suc n) modes m cell s behind some e a b =
    fetch_by-other (fetch_within n modes) (width_within n modes) s cell behind a b ∙ ap (λ x. fetch_by (fetch_within n modes) (width_within n modes) x cell behind) e

assign_by-other : (F : ℕ → ℕ → Content → List Step → List Step) (f : ℕ → ℕ) (s : Shape) (cell : ℕ) (v : Content) (behind : List Step)
    → ((x : List (ℕ × ℕ)) → s ≡ Struct x → ⊥) → ((x : ℕ) → s ≡ Same x → ⊥) → assign_cell s cell v ∷ behind ≡ assign_by F f s cell v behind
assign_by-other F f (Struct fields) cell v behind a b = absurd (a fields refl)
assign_by-other F f (Same m) cell v behind a b = absurd (b m refl)
assign_by-other F f _ cell v behind a b = refl

pub assigned-other : (n : ℕ) (modes : List Shape) (m cell : ℕ) (s : Shape) (v : Content) (behind : List Step) → (n ≡ 0 → ⊥) → s ≡ shape_at modes m
    → ((x : List (ℕ × ℕ)) → s ≡ Struct x → ⊥) → ((x : ℕ) → s ≡ Same x → ⊥) → assign_cell s cell v ∷ behind ≡ assign_within n modes m cell v behind
assigned-other zero modes m cell s v behind some e a b = absurd (some refl)
assigned-other (suc n) modes m cell s v behind some e a b =
    assign_by-other (assign_within n modes) (width_within n modes) s cell v behind a b ∙ ap (λ x. assign_by (assign_within n modes) (width_within n modes) x cell v behind) e

-- ---- structures

-- the cells and the steps of a structure are those of its fields
pub width-structure : (n k : ℕ) (modes : List Shape) (m : ℕ) (fields : List (ℕ × ℕ)) → (n ≡ 0 → ⊥) → k ≡ n - 1 → Struct fields ≡ shape_at modes m
    → width_of_fields (width_within k modes) fields ≡ width_within n modes m
width-structure zero k modes m fields some less e = absurd (some refl)
width-structure (suc n) k modes m fields some less e =
    let same : k ≡ n = omega (arith, less) in
    ap (λ j. width_of_fields (width_within j modes) fields) same ∙ ap (λ s. width_by (width_within n modes) s) e

pub steps-structure : (n k : ℕ) (modes : List Shape) (m : ℕ) (fields : List (ℕ × ℕ)) (cell : ℕ) (v : Content) (behind : List Step) → (n ≡ 0 → ⊥) → k ≡ n - 1
    → Struct fields ≡ shape_at modes m → assign_structure (assign_within k modes) (width_within k modes) fields cell v behind ≡ assign_within n modes m cell v behind
steps-structure zero k modes m fields cell v behind some less e = absurd (some refl)
steps-structure (suc n) k modes m fields cell v behind some less e =
    let same : k ≡ n = omega (arith, less) in
    ap (λ j. assign_structure (assign_within j modes) (width_within j modes) fields cell v behind) same
    ∙ ap (λ s. assign_by (assign_within n modes) (width_within n modes) s cell v behind) e

pub other-count : (v : Content) (parts : List Content) (n : ℕ) → v ≡ structure (contents_of parts) → (length parts ≡ n → ⊥) → has_parts v n ≡ false
other-count v parts n e other = ap (λ x. has_parts x n) e ∙ ap (λ k. nat_eq k n) (count_of-contents parts) ∙ ne_eqb (length parts) n other

module _ (F : ℕ → ℕ → Content → List Step → List Step) (f : ℕ → ℕ) (fields : List (ℕ × ℕ)) (cell : ℕ) (behind : List Step) where
  -- one that has as many parts as there are fields
  pub assigned-structure : (v : Content) (parts : List Content) → v ≡ structure (contents_of parts) → length parts ≡ length fields
      → assign_fields F f fields cell (contents_of parts) behind ≡ assign_structure F f fields cell v behind
  assigned-structure v parts e same =
      let count : nat_eq (count_of (contents_of parts)) (length fields) ≡ true = ap (λ k. nat_eq k (length fields)) (count_of-contents parts) ∙ eq-eqb (length parts) (length fields) same in
      rw (e, count) refl

  -- any other
  pub assigned-stray : (v : Content) → has_parts v (length fields) ≡ false → Stray ∷ behind ≡ assign_structure F f fields cell v behind
  assigned-stray (structure vs) e = rw e refl
  assigned-stray _ e = refl

part_at-past : (k : ℕ) (vs : List Content) → length vs ≤ k → part_at k (contents_of vs) ≡ None
part_at-past k [] past = refl
part_at-past zero (v ∷ vs) past = absurd (omega arith)
part_at-past (suc k) (v ∷ vs) past = part_at-past k vs (omega arith)

part_at-there : (k : ℕ) (vs : List Content) (d : Content) → k < length vs → part_at k (contents_of vs) ≡ Some (get_or vs k d)
part_at-there k [] d inside = absurd (omega arith)
part_at-there zero (v ∷ vs) d inside = refl
part_at-there (suc k) (v ∷ vs) d inside = part_at-there k vs d (omega arith)

pub no-part : (k : ℕ) (vs : List Content) → length vs ≤ k → Meets Kind ≡ part_of k (contents_of vs)
no-part k vs past = rw (part_at-past k vs past) refl

pub this-part : (k : ℕ) (vs : List Content) (v d : Content) → k < length vs → v ≡ get_or vs k d → Yields v ≡ part_of k (contents_of vs)
this-part k vs v d inside e = rw (part_at-there k vs d inside) (ap (λ x. Yields x) e)

pub part_in-past : (k : ℕ) (v : Content) (vs : List Content) → v ≡ structure (contents_of vs) → length vs ≤ k → None ≡ part_in k v
part_in-past k v vs e past = rw (e, part_at-past k vs past) refl

pub part_in-there : (k : ℕ) (v : Content) (vs : List Content) (w d : Content) → v ≡ structure (contents_of vs) → k < length vs → w ≡ get_or vs k d → Some w ≡ part_in k v
part_in-there k v vs w d e inside same = rw (e, part_at-there k vs d inside) (ap (λ x. Some x) same)

-- the shape of a mode that has fields
pub structure-shape : (s : Shape) (fields : List (ℕ × ℕ)) → Some fields ≡ fields_in s → s ≡ Struct fields
structure-shape (Struct own) fields e = cc
structure-shape _ fields e = absurd (cc)

-- the field of one that has it
pub selected-here : (modes : List Shape) (m k : ℕ) (v : Content) (fields : List (ℕ × ℕ)) → Some fields ≡ fields_of modes (shape_at modes m) → k < length fields
    → selected_from (names_rows modes (shape_at modes m)) (width_of_fields (width_of modes) (take k fields)) k v ≡ selected modes m k v
selected-here modes m k v fields e inside =
    let few : nat_lt k (length fields) ≡ true = lt-ltb k (length fields) inside in
    rw (← e, few) refl
