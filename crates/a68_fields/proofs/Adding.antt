-- Fields that are added in turn.
use Rattle.std.proofs.Common.{◌≡◌, ◌<◌, ◌≤◌, ◌⊎◌, ◌+◌, ℕ, zero, suc, drop_of_length-le, Bool, true, false, nat_eq, List, [], ◌∷◌, length, drop, get_or, refl, sym, ap, ◌∙◌, arith, subst, add-one, inl, inr, ⊎_elim, Option, Some, None, eq-eqb}
use Rattle.std.specs.Prelude.{◌&&◌, if◌then◌else◌, slice_index_or}
use Rattle.std.proofs.lemmas.Bool.Decides.{eqb_tells}
use Rattle.a68_fields.specs.Fields.{AreFieldsBefore, AreFieldsOf, IsAdded, at_key, fields_of, first_field, or_else}
use Rattle.a68_fields.specs.declared.table.Field.{Field}
use Rattle.a68_modes.specs.Nodes.{shape_at}
use Rattle.a68_modes.specs.declared.shape.Shape.{Shape}
use Rattle.a68_modes.specs.declared.shape.Shape.TheVariants.{Blank}

-- ---- keys

both_no : (a b : Bool) → (a ≡ false) ⊎ (b ≡ false) → (a && b) ≡ false
both_no true b h = ⊎_elim (λ e. absurd (cc)) (λ e. e) h
both_no false b h = refl

-- two keys that differ in one number are not equal
pub apart : (n t node tag : ℕ) → ((n ≡ node) × (t ≡ tag) → ⊥) → (nat_eq node n && nat_eq tag t) ≡ false
apart n t node tag h =
    both_no (nat_eq node n) (nat_eq tag t)
    (⊎_elim (λ a. ⊎_elim (λ b. absurd (h (sym a.1, sym b.1))) (λ b. inr b.0) (eqb_tells tag t)) (λ a. inl a.0) (eqb_tells node n))

-- ---- one field more

pub record Added (node : ℕ) (added : List (ℕ × ℕ)) (place : ℕ) (old new : List ((ℕ × ℕ) × Field)) : Type 0 where
  pub own : (tag : ℕ) → or_else (at_key new node tag) (first_field (place + 1) tag (drop (place + 1) added)) ≡ or_else (at_key old node tag) (first_field place tag (drop place added))
  pub others : (other tag : ℕ) → (other ≡ node → ⊥) → at_key new other tag ≡ at_key old other tag

-- the fields from a place on
next : (added : List (ℕ × ℕ)) (place from : ℕ) (t : ℕ) → place < length added
    → first_field from t (drop place added) ≡ (if nat_eq (get_or added place (0, 0)).0 t then Some (record { place = from; mode = (get_or added place (0, 0)).1 }) else first_field (suc from) t (drop (suc place) added))
next [] place from t below = absurd (omega arith)
next (f ∷ fs) zero from t below = refl
next (f ∷ fs) (suc place) from t below = next fs place from t (omega arith)

module _ (node : ℕ) (added : List (ℕ × ℕ)) (place : ℕ) (below : place < length added) (old new : List ((ℕ × ℕ) × Field)) where
  abbrev tag : ℕ
  tag = (get_or added place (0, 0)).0

  abbrev field : Field
  field = record { place = place; mode = (get_or added place (0, 0)).1 }

  there : (t : ℕ) → first_field place t (drop place added) ≡ (if nat_eq tag t then Some field else first_field (suc place) t (drop (suc place) added))
  there t = next added place place t below

  -- a field of a tag that is there changes nothing
  again : new ≡ old → (other : Field) → at_key old node tag ≡ Some other → Added node added place old new
  again stays other found = rw stays (record {
    own = λ t. rw (add-one place) (rw (there t) (⊎_elim
        (λ h. subst (λ n. or_else (at_key old node n) (first_field (suc place) n (drop (suc place) added)) ≡ or_else (at_key old node n) (if nat_eq tag n then Some field else first_field (suc place) n (drop (suc place) added))) h.1
        (rw found refl))
        (λ h. ap (λ b. or_else (at_key old node t) (if b then Some field else first_field (suc place) t (drop (suc place) added))) (sym h.0))
        (eqb_tells tag t)));
    others = λ other t apart. refl;
  })

  -- a new one is found from then on
  fresh : at_key old node tag ≡ None → at_key new node tag ≡ Some field → ((n t : ℕ) → ((n ≡ node) × (t ≡ tag) → ⊥) → at_key new n t ≡ at_key old n t) → Added node added place old new
  fresh none is_new rest = record {
    own = λ t. rw (add-one place) (rw (there t) (⊎_elim
        (λ h. subst (λ n. or_else (at_key new node n) (first_field (suc place) n (drop (suc place) added)) ≡ or_else (at_key old node n) (if nat_eq tag n then Some field else first_field (suc place) n (drop (suc place) added))) h.1
        (rw (none, is_new) (ap (λ b. if b then Some field else first_field (suc place) tag (drop (suc place) added)) (sym (eq-eqb tag tag refl)))))
        (λ h. rw (rest node t (λ e. h.1 (sym e.1))) (ap (λ b. or_else (at_key old node t) (if b then Some field else first_field (suc place) t (drop (suc place) added))) (sym h.0)))
        (eqb_tells tag t)));
    others = λ other t apart. rest other t (λ e. apart e.0);
  }

  pub added_more : (is_new : Bool) → IsAdded old new node tag field is_new → Added node added place old new
  added_more false h = again h.0 h.1.0 h.1.1
  added_more true h = fresh h.0 h.1 h.2

-- ---- all fields of a structure

-- where no field is left
none_left : (found : Option Field) → or_else found None ≡ found
none_left None = refl
none_left (Some found) = refl

pub added_all : (added : List (ℕ × ℕ)) (place : ℕ) → length added ≤ place → (tag : ℕ) (found : Option Field) → found ≡ or_else found (first_field place tag (drop place added))
added_all added place past tag found =
    let none : drop place added ≡ [] = drop_of_length-le added past in
    sym (none_left found) ∙ ap (λ rest. or_else found (first_field place tag rest)) (sym none)

-- ---- all structures

-- one structure more
pub fields_more : (nodes : List Shape) (count : ℕ) (old new : List ((ℕ × ℕ) × Field)) → AreFieldsBefore nodes old count
    → ((tag : ℕ) → at_key new count tag ≡ first_field 0 tag (fields_of (shape_at nodes count))) → ((n tag : ℕ) → (n ≡ count → ⊥) → at_key new n tag ≡ at_key old n tag)
    → AreFieldsBefore nodes new (count + 1)
fields_more nodes count old new before own others = (
  λ n tag h. ⊎_elim (λ e. subst (λ k. at_key new k tag ≡ first_field 0 tag (fields_of (shape_at nodes k))) (sym e.1) (own tag))
      (λ e. let d = e.1 in others n tag e.1 ∙ before.0 n tag (omega arith)) (eqb_tells n count),
  λ n tag h. others n tag (λ e. absurd (omega arith)) ∙ before.1 n tag (omega arith),
)

-- a number of no node has no fields
pub past_all : (nodes : List Shape) (node : ℕ) → length nodes ≤ node → shape_at nodes node ≡ Blank
past_all [] node h = refl
past_all (s ∷ ss) zero h = absurd (omega arith)
past_all (s ∷ ss) (suc node) h = past_all ss node (omega arith)

below_or : (k n : ℕ) → (k < n) ⊎ (n ≤ k)
below_or k zero = inr (omega arith)
below_or zero (suc n) = inl (omega arith)
below_or (suc k) (suc n) = ⊎_elim (λ h. inl (omega arith)) (λ h. inr (omega arith)) (below_or k n)

pub fields_all : (nodes : List Shape) (entries : List ((ℕ × ℕ) × Field)) → AreFieldsBefore nodes entries (length nodes) → AreFieldsOf nodes entries
fields_all nodes entries all node tag =
    ⊎_elim (λ h. all.0 node tag h)
    (λ h. all.1 node tag h ∙ ap (λ s. first_field 0 tag (fields_of s)) (sym (past_all nodes node h)))
    (below_or node (length nodes))
