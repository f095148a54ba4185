-- Strands that wait for units go on as soon as these have closed, and no strand waits for units that have.
use Rattle.std.proofs.Common.{◌≡◌, ◌∙◌, ◌⊎◌, inl, inr, ℕ, zero, suc, Bool, true, false, List, [], ◌∷◌, ◌++◌, map, refl, ap, sym, subst, true≢false}
use Rattle.std.specs.Prelude.{None, Some, ◌&&◌, slice_get, slice_set, if◌then◌else◌}
use Rattle.a68_code.specs.declared.code.Code.{Code}
use Rattle.a68_exec.proofs.Alive.{active}
use Rattle.a68_exec.proofs.Settled.{settle_rests, settle_still}
use Rattle.a68_acts.specs.declared.want.Want.{Want}
use Rattle.a68_acts.specs.declared.want.Want.TheVariants as want
use Rattle.a68_instructions.specs.Machine.{State, settle, next_state, beginning}
use Rattle.a68_exec.specs.Runs.{has_closed, is_passive, is_closed, all_closed, woken, woken_in, begun, strands_after}
use Rattle.a68_instructions.specs.declared.ask.Stance.{Stance}
use Rattle.a68_instructions.specs.declared.ask.Stance.TheVariants.{Idle, Asking, Failed, Waits, Closed}

-- each strand has settled, and none waits for units that have closed
pub record IsCalm (code : Code) (strands : List State) : Type 0 where
  pub rests : (k : ℕ) (st : State) → slice_get strands k ≡ Some st → next_state code st ≡ None
  pub due : (k : ℕ) (st : State) (first count : ℕ) → slice_get strands k ≡ Some st → st.stance ≡ Waits first count → all_closed strands first count ≡ false

-- ---- lists

get-mapped : {A B : Type 0} (f : A → B) (xs : List A) (k : ℕ) (y : B) → slice_get (map f xs) k ≡ Some y → (x : A) × (slice_get xs k ≡ Some x) × (f x ≡ y)
get-mapped f [] k y e = absurd (cc)
get-mapped f (x ∷ xs) zero y e = (x, refl, cc)
get-mapped f (x ∷ xs) (suc k) y e = get-mapped f xs k y e

map-same : (f : State → State) (xs : List State) → ((k : ℕ) (x : State) → slice_get xs k ≡ Some x → f x ≡ x) → map f xs ≡ xs
map-same f [] same = refl
map-same f (x ∷ xs) same =
    ap (λ (y : State). y ∷ map f xs) (same 0 x refl) ∙ ap (λ (ys : List State). x ∷ ys) (map-same f xs (λ k y e. same (suc k) y e))

abbrev In : State → List State → Type 0
In z xs = (j : ℕ) × (slice_get xs j ≡ Some z)

get-joined : (xs new : List State) (k : ℕ) (z : State) → slice_get (xs ++ new) k ≡ Some z → (slice_get xs k ≡ Some z) ⊎ In z new
get-joined [] new k z e = inr (k, e)
get-joined (x ∷ xs) new zero z e = inl e
get-joined (x ∷ xs) new (suc k) z e = get-joined xs new k z e

get-after : (xs new : List State) (n : ℕ) (next : State) (k : ℕ) (z : State) → slice_get (slice_set xs n next ++ new) k ≡ Some z
    → (z ≡ next) ⊎ ((slice_get xs k ≡ Some z) ⊎ In z new)
get-after [] new n next k z e = inr (inr (k, e))
get-after (x ∷ xs) new zero next zero z e = inl (cc)
get-after (x ∷ xs) new zero next (suc k) z e = inr (get-joined xs new k z e)
get-after (x ∷ xs) new (suc n) next zero z e = inr (inl e)
get-after (x ∷ xs) new (suc n) next (suc k) z e = get-after xs new n next k z e

-- ---- what has closed

pub all_same : (xs ys : List State) → ((j : ℕ) → is_closed xs j ≡ is_closed ys j) → (first n : ℕ) → all_closed xs first n ≡ all_closed ys first n
all_same xs ys same first zero = refl
all_same xs ys same first (suc n) = ap (λ b. b && all_closed xs (suc first) n) (same first) ∙ ap (λ b. is_closed ys first && b) (all_same xs ys same (suc first) n)

closed-mapped : (f : State → State) (xs : List State) → ((k : ℕ) (x : State) → slice_get xs k ≡ Some x → has_closed (f x).stance ≡ has_closed x.stance) → (j : ℕ)
    → is_closed (map f xs) j ≡ is_closed xs j
closed-mapped f [] same j = refl
closed-mapped f (x ∷ xs) same zero = same 0 x refl
closed-mapped f (x ∷ xs) same (suc j) = closed-mapped f xs (λ k y e. same (suc k) y e) j

closed-joined : (xs new : List State) → ((j : ℕ) → is_closed new j ≡ false) → (j : ℕ) → is_closed (xs ++ new) j ≡ is_closed xs j
closed-joined [] new none j = none j
closed-joined (x ∷ xs) new none zero = refl
closed-joined (x ∷ xs) new none (suc j) = closed-joined xs new none j

closed-after : (xs new : List State) (n : ℕ) (next : State) → is_closed xs n ≡ false → has_closed next.stance ≡ false → ((j : ℕ) → is_closed new j ≡ false) → (j : ℕ)
    → is_closed (slice_set xs n next ++ new) j ≡ is_closed xs j
closed-after [] new n next was is none j = none j
closed-after (x ∷ xs) new zero next was is none zero = is ∙ sym was
closed-after (x ∷ xs) new zero next was is none (suc j) = closed-joined xs new none j
closed-after (x ∷ xs) new (suc n) next was is none zero = refl
closed-after (x ∷ xs) new (suc n) next was is none (suc j) = closed-after xs new n next was is none j

not-closed : (s : Stance) → is_passive s ≡ false → has_closed s ≡ false
not-closed Idle e = refl
not-closed (Asking want wait) e = refl
not-closed (Failed why) e = refl
not-closed (Waits first count) e = refl
not-closed Closed e = absurd (true≢false e)

none-closed : (new : List State) → ((j : ℕ) (st : State) → slice_get new j ≡ Some st → is_passive st.stance ≡ false) → (j : ℕ) → is_closed new j ≡ false
none-closed [] live j = refl
none-closed (x ∷ xs) live zero = not-closed x.stance (live 0 x refl)
none-closed (x ∷ xs) live (suc j) = none-closed xs (λ k st e. live (suc k) st e) j

-- ---- waking

module _ (code : Code) (all : List State) where
  -- a strand that has settled, and does not wait for units that have closed, stays
  pub woken_still : (st : State) → next_state code st ≡ None → ((first count : ℕ) → st.stance ≡ Waits first count → all_closed all first count ≡ false) → woken code all st ≡ st
  woken_still st none due = by_stance st.stance refl
    where
      by_stance : (s : Stance) → st.stance ≡ s → settle code (woken_in all st s) ≡ st
      by_stance Idle e = settle_still code st none
      by_stance (Asking want wait) e = settle_still code st none
      by_stance (Failed why) e = settle_still code st none
      by_stance Closed e = settle_still code st none
      by_stance (Waits first count) e =
          ap (λ (b : Bool). settle code (if b then record st { at = suc st.at; stance = Idle } else st)) (due first count e) ∙ settle_still code st none

  -- to be woken closes nothing
  pub woken_closed : (st : State) → next_state code st ≡ None → has_closed (woken code all st).stance ≡ has_closed st.stance
  woken_closed st none = by_stance st.stance refl
    where
      stays : has_closed (settle code st).stance ≡ has_closed st.stance
      stays = ap (λ (x : State). has_closed x.stance) (settle_still code st none)

      by_test : (first count : ℕ) (b : Bool) → st.stance ≡ Waits first count
          → has_closed (settle code (if b then record st { at = suc st.at; stance = Idle } else st)).stance ≡ has_closed st.stance
      by_test first count true e = not-closed _ (active code (record st { at = suc st.at; stance = Idle }) refl) ∙ sym (ap has_closed e)
      by_test first count false e = stays

      by_stance : (s : Stance) → st.stance ≡ s → has_closed (settle code (woken_in all st s)).stance ≡ has_closed st.stance
      by_stance Idle e = stays
      by_stance (Asking want wait) e = stays
      by_stance (Failed why) e = stays
      by_stance Closed e = stays
      by_stance (Waits first count) e = by_test first count (all_closed all first count) e

  -- one that waits behind it waited before, for units that have not closed
  waited : (st : State) (first count : ℕ) → next_state code st ≡ None → (woken code all st).stance ≡ Waits first count
      → (st.stance ≡ Waits first count) × (all_closed all first count ≡ false)
  waited st first count none w = by_stance st.stance refl w
    where
      here : (settle code st).stance ≡ Waits first count → st.stance ≡ Waits first count
      here h = sym (ap (λ (x : State). x.stance) (settle_still code st none)) ∙ h

      other : (s : Stance) → st.stance ≡ s → is_passive s ≡ false → (settle code st).stance ≡ Waits first count → (st.stance ≡ Waits first count) × (all_closed all first count ≡ false)
      other s e live h = absurd (true≢false (ap is_passive (sym (here h) ∙ e) ∙ live))

      by_test : (f c : ℕ) (b : Bool) → all_closed all f c ≡ b → st.stance ≡ Waits f c
          → (settle code (if b then record st { at = suc st.at; stance = Idle } else st)).stance ≡ Waits first count
          → (st.stance ≡ Waits first count) × (all_closed all first count ≡ false)
      by_test f c true t e h = absurd (true≢false (sym (ap is_passive h) ∙ active code (record st { at = suc st.at; stance = Idle }) refl))
      by_test f c false t e h =
          let same : Waits f c ≡ Waits first count = sym e ∙ here h in
          let p : f ≡ first = cc in
          let q : c ≡ count = cc in
          (here h, sym (ap (λ k. all_closed all k count) p) ∙ sym (ap (λ k. all_closed all f k) q) ∙ t)

      by_stance : (s : Stance) → st.stance ≡ s → (settle code (woken_in all st s)).stance ≡ Waits first count → (st.stance ≡ Waits first count) × (all_closed all first count ≡ false)
      by_stance Idle e h = other Idle e refl h
      by_stance (Asking want wait) e h = other (Asking want wait) e refl h
      by_stance (Failed why) e h = other (Failed why) e refl h
      by_stance Closed e h = absurd (cc (e, here h))
      by_stance (Waits f c) e h = by_test f c (all_closed all f c) refl e h

-- behind an act of strands that have settled no strand waits for units that have closed
pub calm_after : (code : Code) (all : List State) → ((k : ℕ) (st : State) → slice_get all k ≡ Some st → next_state code st ≡ None) → IsCalm code (map (woken code all) all)
calm_after code all settled = record {
  rests = λ k st e. let x = get-mapped (woken code all) all k st e in subst (λ (y : State). next_state code y ≡ None) x.2 (settle_rests code (woken_in all x.0 x.0.stance));
  due = λ k st first count e w.
      let x = get-mapped (woken code all) all k st e in
      let was = waited code all x.0 first count (settled k x.0 x.1) (ap (λ (y : State). y.stance) x.2 ∙ w) in
      all_same (map (woken code all) all) all (closed-mapped (woken code all) all (λ j y h. woken_closed code all y (settled j y h))) first count ∙ was.1;
}

-- what is known of new strands and of one that goes on: they have settled, and neither wait nor have closed
abbrev pub Goes : Code → State → Type 0
Goes code st = (next_state code st ≡ None) × (is_passive st.stance ≡ false)

no-wait : (s : Stance) (first count : ℕ) (P : Type 0) → is_passive s ≡ false → s ≡ Waits first count → P
no-wait s first count P live e = absurd (true≢false (ap is_passive (sym e) ∙ live))

-- an act wakes no strand, unless the one that did it has closed or waits for units which have
pub none_woken : (code : Code) (strands new : List State) (n : ℕ) (next : State) → IsCalm code strands → is_closed strands n ≡ false → next_state code next ≡ None
    → has_closed next.stance ≡ false → ((first count : ℕ) → next.stance ≡ Waits first count → all_closed (slice_set strands n next ++ new) first count ≡ false)
    → ((j : ℕ) (st : State) → slice_get new j ≡ Some st → Goes code st) → strands_after code strands n next new ≡ slice_set strands n next ++ new
none_woken code strands new n next calm was none open_ due fresh = map-same (woken code (slice_set strands n next ++ new)) (slice_set strands n next ++ new) stays
  where
    same : (j : ℕ) → is_closed (slice_set strands n next ++ new) j ≡ is_closed strands j
    same j = closed-after strands new n next was open_ (none-closed new (λ k st e. (fresh k st e).1)) j

    stays : (k : ℕ) (x : State) → slice_get (slice_set strands n next ++ new) k ≡ Some x → woken code (slice_set strands n next ++ new) x ≡ x
    stays k x e =
        elim (get-after strands new n next k x e) [
          | inl is ↦ woken_still code (slice_set strands n next ++ new) x (ap (next_state code) is ∙ none)
              (λ first count w. due first count (sym (ap (λ (y : State). y.stance) is) ∙ w))
          | inr there ↦ elim there [
            | inl old ↦ woken_still code (slice_set strands n next ++ new) x (calm.rests k x old)
                (λ first count w. all_same (slice_set strands n next ++ new) strands same first count ∙ calm.due k x first count old w)
            | inr born ↦ let is = fresh born.0 x born.1 in
                woken_still code (slice_set strands n next ++ new) x is.0 (λ first count w. no-wait x.stance first count _ is.1 w)
          ]
        ]

-- a strand that goes on has not closed, and waits for nothing
pub goes_open : (s : Stance) → is_passive s ≡ false → has_closed s ≡ false
goes_open s live = not-closed s live

pub goes_waits : (s : Stance) (first count : ℕ) (P : Type 0) → is_passive s ≡ false → s ≡ Waits first count → P
goes_waits s first count P live e = no-wait s first count P live e

-- each act leaves the strands so
pub calm_kept : (code : Code) (strands new : List State) (n : ℕ) (next : State) → IsCalm code strands → next_state code next ≡ None
    → ((j : ℕ) (st : State) → slice_get new j ≡ Some st → next_state code st ≡ None) → IsCalm code (strands_after code strands n next new)
calm_kept code strands new n next calm none fresh = calm_after code (slice_set strands n next ++ new) (λ k st e.
    elim (get-after strands new n next k st e) [
      | inl is ↦ ap (next_state code) is ∙ none
      | inr there ↦ elim there [ inl old ↦ calm.rests k st old | inr born ↦ fresh born.0 st born.1 ]
    ])

-- the strands that an act makes are such
pub begun_goes : (code : Code) (st : State) (w : Want) (j : ℕ) (x : State) → slice_get (begun code st w) j ≡ Some x → Goes code x
begun_goes code st (want.Fork entrances) j x e =
    let at = get-mapped (λ (at : ℕ). settle code (beginning at st.chain)) entrances j x e in
    (subst (λ (y : State). next_state code y ≡ None) at.2 (settle_rests code (beginning at.0 st.chain)), subst (λ (y : State). is_passive y.stance ≡ false) at.2 (active code (beginning at.0 st.chain) refl))
begun_goes code st _ j x e = absurd (cc)
