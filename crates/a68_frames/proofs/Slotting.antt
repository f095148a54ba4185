-- The slots of ranges, as they are noted.
use Rattle.std.proofs.Common.{◌≡◌, ◌≤◌, ℕ, zero, suc, ◌+◌, Bool, true, false, List, [], ◌∷◌, ◌++◌, length, take, refl, sym, ap, ◌∙◌, arith, subst, ⊎_elim, Some, None, slice_get, Option, length-append, nat_eq, eqb-true, eq-eqb, ne_eqb, add-one}
use Rattle.std.specs.Prelude.{slice_index_or, if◌then◌else◌}
use Rattle.std.proofs.lemmas.Bool.{false≢true}
use Rattle.std.proofs.lemmas.Bool.Decides.{eqb_tells}
use Rattle.a68_ranges.proofs.Taking.{some_one, take_next, read, past, below_or}
use Rattle.a68_ranges.proofs.Layering.{get_front, get_last}
use Rattle.a68_ranges.specs.Nodes.{kind_at}
use Rattle.a68_ranges.specs.Definitions.{declared_in}
use Rattle.a68_ranges.specs.Tables.{at_key}
use Rattle.a68_frames.specs.Frames.{has_slot, with_slots, slots_in, makes, makes_frame, place_behind, place_of}
use Rattle.a68_frames.specs.Tables.{IsPlaceIn, IsSlotNoted, AreSlotsBefore, AreMade}
use Rattle.a68_tree.specs.Trees.{Built}

with_slots_append : (tree : Built) (ps qs : List ℕ) → with_slots tree (ps ++ qs) ≡ with_slots tree ps ++ with_slots tree qs
with_slots_append tree [] qs = refl
with_slots_append tree (p ∷ ps) qs = go (has_slot (kind_at tree p)) (with_slots_append tree ps qs)
  where
    go : (b : Bool) → with_slots tree (ps ++ qs) ≡ with_slots tree ps ++ with_slots tree qs
        → (if b then p ∷ with_slots tree (ps ++ qs) else with_slots tree (ps ++ qs)) ≡ (if b then p ∷ with_slots tree ps else with_slots tree ps) ++ with_slots tree qs
    go true e = ap (λ xs. p ∷ xs) e
    go false e = e

with_slots_next : (tree : Built) (list : List ℕ) (i id : ℕ) → slice_get list i ≡ Some id
    → with_slots tree (take (i + 1) list) ≡ with_slots tree (take i list) ++ (if has_slot (kind_at tree id) then id ∷ [] else [])
with_slots_next tree list i id is = ap (with_slots tree) (take_next list i id is) ∙ with_slots_append tree (take i list) (id ∷ [])

append_nil : (xs : List ℕ) → xs ++ [] ≡ xs
append_nil [] = refl
append_nil (x ∷ xs) = ap (λ ys. x ∷ ys) (append_nil xs)

-- ---- the last place of a number

-- it is a place
pub place_is : (xs : List ℕ) (d : ℕ) → IsPlaceIn xs d (place_of xs d)
place_is [] d = λ place e. absurd (cc)
place_is (x ∷ xs) d = go (place_of xs d) (nat_eq x d) refl (place_is xs d)
  where
    go : (o : Option ℕ) (here : Bool) → nat_eq x d ≡ here → IsPlaceIn xs d o → IsPlaceIn (x ∷ xs) d (place_behind o here)
    go (Some place) here e is = subst (λ n. slice_get (x ∷ xs) n ≡ Some d) (sym (add-one place)) is
    go None true e never = ap (λ n. Some n) (eqb-true x d e)
    go None false e never = none
      where
        none : (place : ℕ) → slice_get (x ∷ xs) place ≡ Some d → ⊥
        none zero is = false≢true (sym e ∙ eq-eqb x d (some_one is))
        none (suc place) is = never place is

-- another number behind the list changes none
place_more : (xs : List ℕ) (id d : ℕ) → (d ≡ id → ⊥) → place_of (xs ++ id ∷ []) d ≡ place_of xs d
place_more [] id d apart = ⊎_elim (λ h. absurd (apart (sym h.1))) (λ h. ap (place_behind None) (ne_eqb id d (λ e. h.1 e))) (eqb_tells id d)
place_more (x ∷ xs) id d apart = ap (λ o. place_behind o (nat_eq x d)) (place_more xs id d apart)

-- the number behind a list has its last place
place_last : (xs : List ℕ) (id : ℕ) → place_of (xs ++ id ∷ []) id ≡ Some (length xs)
place_last [] id = ap (place_behind None) (eq-eqb id id refl)
place_last (x ∷ xs) id = rw (place_last xs id) (ap (λ n. Some n) (add-one (length xs)))

-- the slots of these definitions are noted
pub record Slotted (range : ℕ) (xs : List ℕ) (old new : List ((ℕ × ℕ) × ℕ)) (slot : ℕ) : Type 0 where
  pub count : slot ≡ length xs
  pub places : (d : ℕ) → at_key new range d ≡ place_of xs d
  pub others : (r d : ℕ) → (r ≡ range → ⊥) → at_key new r d ≡ at_key old r d

slotted_one : (range id : ℕ) (xs : List ℕ) (old mid new : List ((ℕ × ℕ) × ℕ)) (slot next : ℕ) (b : Bool) → Slotted range xs old mid slot → IsSlotNoted mid new range id slot b next
    → Slotted range (xs ++ (if b then id ∷ [] else [])) old new next
slotted_one range id xs old mid new slot next false before noted = rw (noted.0, noted.1, append_nil xs) before
slotted_one range id xs old mid new slot next true before noted =
    let count = before.count in
    let next_is = noted.0 in
    record {
      count = omega (arith, length-append xs (id ∷ []));
      places = λ d. ⊎_elim
          (λ h. subst (λ k. at_key new range k ≡ place_of (xs ++ id ∷ []) k) (sym h.1)
          (noted.1 ∙ ap (λ n. Some n) count ∙ sym (place_last xs id)))
          (λ h. noted.2 range d (λ e. h.1 e.1) ∙ before.places d ∙ sym (place_more xs id d h.1))
          (eqb_tells d id);
      others = λ r d apart. noted.2 r d (λ e. apart e.0) ∙ before.others r d apart;
    }

-- one node more of a range
pub slotted_more : (tree : Built) (range : ℕ) (list : List ℕ) (i id : ℕ) (old mid new : List ((ℕ × ℕ) × ℕ)) (slot next : ℕ) → slice_get list i ≡ Some id
    → Slotted range (with_slots tree (take i list)) old mid slot → IsSlotNoted mid new range id slot (has_slot (kind_at tree id)) next
    → Slotted range (with_slots tree (take (i + 1) list)) old new next
slotted_more tree range list i id old mid new slot next is before noted =
    subst (λ ys. Slotted range ys old new next) (sym (with_slots_next tree list i id is))
    (slotted_one range id (with_slots tree (take i list)) old mid new slot next (has_slot (kind_at tree id)) before noted)

pub none_slotted : (range : ℕ) (old : List ((ℕ × ℕ) × ℕ)) → ((d : ℕ) → at_key old range d ≡ None) → Slotted range [] old old 0
none_slotted range old fresh = record {
  count = refl;
  places = fresh;
  others = λ r d apart. refl;
}

-- one range more
pub ranges_more : (tree : Built) (range count : ℕ) (declared : List ℕ) (old new : List ((ℕ × ℕ) × ℕ)) (counts : List ℕ) (made : List Bool) (makes_one : Bool)
    → AreSlotsBefore tree range old counts made → declared ≡ declared_in tree range → count ≡ length (with_slots tree declared)
    → ((d : ℕ) → at_key new range d ≡ place_of (with_slots tree declared) d) → ((r d : ℕ) → (r ≡ range → ⊥) → at_key new r d ≡ at_key old r d)
    → makes_one ≡ makes (kind_at tree range) count → AreSlotsBefore tree (range + 1) new (counts ++ count ∷ []) (made ++ makes_one ∷ [])
unfolding slots_in makes_frame
ranges_more tree range count declared old new counts made makes_one before declared_is count_is places others makes_is =
    let counted = before.counted in
    let told = before.told in
    let here : with_slots tree declared ≡ slots_in tree range = ap (with_slots tree) declared_is in
    let long : count ≡ length (slots_in tree range) = count_is ∙ ap (λ (xs : List ℕ). length xs) here in
    record {
      counted = omega (arith, length-append counts (count ∷ []));
      counts_are = λ r h. ⊎_elim
          (λ e. subst (λ k. slice_get (counts ++ count ∷ []) k ≡ Some (length (slots_in tree k))) (sym e.1)
          (rw counted at (get_last counts count) ∙ ap (λ (n : ℕ). Some n) long))
          (λ e. let d = e.1 in get_front counts (count ∷ []) r (length (slots_in tree r)) (before.counts_are r (omega arith)))
          (eqb_tells r range);
      told = omega (arith, length-append made (makes_one ∷ []));
      makes_are = λ r h. ⊎_elim
          (λ e. subst (λ k. slice_get (made ++ makes_one ∷ []) k ≡ Some (makes_frame tree k)) (sym e.1)
          (rw told at (get_last made makes_one) ∙ ap (λ (b : Bool). Some b) (makes_is ∙ ap (makes (kind_at tree range)) long)))
          (λ e. let d = e.1 in get_front made (makes_one ∷ []) r (makes_frame tree r) (before.makes_are r (omega arith)))
          (eqb_tells r range);
      places = λ r d h. ⊎_elim
          (λ e. subst (λ k. at_key new k d ≡ place_of (slots_in tree k) d) (sym e.1) (places d ∙ ap (λ (xs : List ℕ). place_of xs d) here))
          (λ e. let n = e.1 in others r d e.1 ∙ before.places r d (omega arith))
          (eqb_tells r range);
      none = λ r d h. others r d (λ e. absurd (omega arith)) ∙ before.none r d (omega arith);
    }

-- which ranges make frames, at any number
pub are_made : (tree : Built) (entries : List ((ℕ × ℕ) × ℕ)) (counts : List ℕ) (made : List Bool) → AreSlotsBefore tree (length tree.nodes) entries counts made → AreMade tree made
unfolding slots_in makes_frame declared_in
are_made tree entries counts made are = λ r. ⊎_elim
    (λ h. let told = are.told in some_one (sym (read made r false (omega arith)) ∙ are.makes_are r h))
    (λ h. let told = are.told in past_made made r (omega arith) ∙ none_made r (past tree.nodes r h))
    (below_or r (length tree.nodes))
  where
    past_made : (xs : List Bool) (k : ℕ) → length xs ≤ k → slice_index_or xs k false ≡ false
    past_made [] k h = refl
    past_made (x ∷ xs) zero h = absurd (omega arith)
    past_made (x ∷ xs) (suc k) h = past_made xs k (omega arith)

    none_made : (r : ℕ) → slice_get tree.nodes r ≡ None → false ≡ makes_frame tree r
    none_made r e = rw e refl
