-- Frames by their numbers, and chains of them.
use Rattle.std.proofs.Common.{◌≡◌, ◌⊎◌, inl, inr, Bool, true, false, ℕ, zero, suc, ◌+◌, ◌<◌, ◌≤◌, List, [], ◌∷◌, ◌++◌, length, get_or, ap, sym, ◌∙◌, refl, arith}
use Rattle.std.specs.Prelude.{None, Some, slice_get, slice_set, nat_eq, if◌then◌else◌, sum_by}
use Rattle.std.specs.declared.option.Option.{Option}
use Rattle.std.specs.Option.{option_map}
use Rattle.std.proofs.lemmas.List.Sums.{get_or-le-sum_by, sum_by-set}
use Rattle.std.proofs.lemmas.Option.{same_Some, slice_get-map, slice_get_within, get_or_from_slice_get}
use Rattle.a68_acts.specs.Store as store
use Rattle.a68_acts.specs.Store.{chain_step, chain_within, chain_of, frame_weight, slot_weight}
use Rattle.a68_store.specs.Frames.{frame_of, frames_of, AreLinked}
use Rattle.a68_store.specs.declared.frame.Frame.{Frame}
use Rattle.a68_values.specs.Content.{Content}
use Rattle.a68_values.specs.declared.chain.Environ.{Environ}

pub length-frames_of : (bound : List (Option Content)) (fs : List Frame) → length (frames_of bound fs) ≡ length fs
length-frames_of bound [] = refl
length-frames_of bound (g ∷ fs) = let more = length-frames_of bound fs in omega (arith, more)

-- ---- a list by place, after a write and behind one more element

module _ {A : Type 0} where
  pub get-set_same : (xs : List A) (i : ℕ) (x y : A) → slice_get xs i ≡ Some x → slice_get (slice_set xs i y) i ≡ Some y
  get-set_same [] i x y e = cc
  get-set_same (z ∷ xs) zero x y e = refl
  get-set_same (z ∷ xs) (suc i) x y e = get-set_same xs i x y e

  -- an element of a list after a write is the one written, or it was there before
  pub get-set_cases : (xs : List A) (i j : ℕ) (y z : A) → slice_get (slice_set xs i y) j ≡ Some z → ((i ≡ j) × (z ≡ y)) ⊎ (slice_get xs j ≡ Some z)
  get-set_cases [] i j y z e = inr e
  get-set_cases (x ∷ xs) zero zero y z e = inl (refl, cc)
  get-set_cases (x ∷ xs) zero (suc j) y z e = inr e
  get-set_cases (x ∷ xs) (suc i) zero y z e = inr e
  get-set_cases (x ∷ xs) (suc i) (suc j) y z e =
      elim (get-set_cases xs i j y z e) [ inl p ↦ inl (ap suc p.0, p.1) | inr q ↦ inr q ]

  pub get-append : (xs ys : List A) (i : ℕ) → i < length xs → slice_get (xs ++ ys) i ≡ slice_get xs i
  get-append [] ys i h = absurd (omega arith)
  get-append (x ∷ xs) ys zero h = refl
  get-append (x ∷ xs) ys (suc i) h = get-append xs ys i (omega arith)

  pub get-append_last : (xs : List A) (x : A) → slice_get (xs ++ x ∷ []) (length xs) ≡ Some x
  get-append_last [] x = refl
  get-append_last (y ∷ xs) x = get-append_last xs x

  pub get-append_cases : (xs : List A) (x : A) (i : ℕ) (z : A) → slice_get (xs ++ x ∷ []) i ≡ Some z → ((i ≡ length xs) × (z ≡ x)) ⊎ (slice_get xs i ≡ Some z)
  get-append_cases [] x zero z e = inl (refl, cc)
  get-append_cases [] x (suc i) z e = cc
  get-append_cases (y ∷ xs) x zero z e = inr e
  get-append_cases (y ∷ xs) x (suc i) z e =
      elim (get-append_cases xs x i z e) [ inl p ↦ inl (ap suc p.0, p.1) | inr q ↦ inr q ]

-- ---- a slot that is bound

-- what the frames count once a slot is bound
pub sum-bind : (fs : List store.Frame) (f s : ℕ) (frame : store.Frame) (old new : Option Content) → slice_get fs f ≡ Some frame
    → slice_get frame.slots s ≡ Some old
    → sum_by frame_weight (slice_set fs f (record frame { slots = slice_set frame.slots s new })) + slot_weight old ≡ sum_by frame_weight fs + slot_weight new
sum-bind fs f s frame old new is bound =
    let there : f < length fs = slice_get_within fs f frame is in
    let here : s < length frame.slots = slice_get_within frame.slots s old bound in
    let this : get_or fs f frame ≡ frame = get_or_from_slice_get fs f frame frame is in
    let that : get_or frame.slots s old ≡ old = get_or_from_slice_get frame.slots s old old bound in
    let frames = rw this at (sum_by-set frame_weight fs f (record frame { slots = slice_set frame.slots s new }) frame there) in
    let slots = rw that at (sum_by-set slot_weight frame.slots s new old here) in
    omega (arith, frames, slots)

pub slot-le-counted : (fs : List store.Frame) (f s : ℕ) (frame : store.Frame) (old : Option Content) → slice_get fs f ≡ Some frame
    → slice_get frame.slots s ≡ Some old → slot_weight old ≤ sum_by frame_weight fs
slot-le-counted fs f s frame old is bound =
    let there : f < length fs = slice_get_within fs f frame is in
    let here : s < length frame.slots = slice_get_within frame.slots s old bound in
    let this : get_or fs f frame ≡ frame = get_or_from_slice_get fs f frame frame is in
    let that : get_or frame.slots s old ≡ old = get_or_from_slice_get frame.slots s old old bound in
    let frames : frame_weight frame ≤ sum_by frame_weight fs = rw this at (get_or-le-sum_by frame_weight fs f frame there) in
    let slots : slot_weight old ≤ frame_weight frame = rw that at (get_or-le-sum_by slot_weight frame.slots s old here) in
    omega (arith, frames, slots)

pub linked-bind : (fs : List store.Frame) (f : ℕ) (frame : store.Frame) (slots : List (Option Content)) → AreLinked fs → slice_get fs f ≡ Some frame
    → AreLinked (slice_set fs f (record frame { slots = slots }))
linked-bind fs f frame slots linked is g other e pos =
    elim (get-set_cases fs f g _ other e) [
      | inl p ↦ let out : frame.outer < g = linked g frame (ap (λ i. slice_get fs i) (sym p.0) ∙ is) pos in let same : other.outer ≡ frame.outer = ap (λ (x : store.Frame). x.outer) p.1 in omega (arith, out, same)
      | inr q ↦ linked g other q pos
    ]

pub linked-enter : (fs : List store.Frame) (new : store.Frame) → AreLinked fs → new.outer < length fs → AreLinked (fs ++ new ∷ [])
linked-enter fs new linked within g other e pos =
    elim (get-append_cases fs new g other e) [
      | inl p ↦ let same : other.outer ≡ new.outer = ap (λ (x : store.Frame). x.outer) p.1 in let here : g ≡ length fs = p.0 in omega (arith, same, here, within)
      | inr q ↦ linked g other q pos
    ]

-- ---- chains

not-zero : (f : ℕ) → nat_eq f 0 ≡ false → 0 < f
not-zero zero e = cc
not-zero (suc f) e = omega arith

not-zero_eq : (n : ℕ) → nat_eq (suc n) 0 ≡ false
not-zero_eq n = grind arith

-- a step of a chain depends on what stands about the frame alone
step-same : (f : ℕ) (o : Option store.Frame) (g h : ℕ → List Environ) → ((frame : store.Frame) → o ≡ Some frame → 0 < f → g frame.outer ≡ h frame.outer)
    → chain_step f o g ≡ chain_step f o h
step-same f None g h e = refl
step-same f (Some frame) g h e = ap (λ l. record { frame = f; scope = frame.scope } ∷ l) (outwards (nat_eq f 0) refl)
  where
    outwards : (zero_or : Bool) → nat_eq f 0 ≡ zero_or → (if zero_or then [] else g frame.outer) ≡ (if zero_or then [] else h frame.outer)
    outwards true z = refl
    outwards false z = e frame refl (not-zero f z)

-- more steps than there are frames about it change nothing
pub chain-enough : (fs : List store.Frame) → AreLinked fs → (m n f : ℕ) → f < m → f < n → chain_within m fs f ≡ chain_within n fs f
chain-enough fs linked zero n f h i = absurd (omega arith)
chain-enough fs linked (suc m) zero f h i = absurd (omega arith)
chain-enough fs linked (suc m) (suc n) f h i =
    step-same f (slice_get fs f) (chain_within m fs) (chain_within n fs)
    (λ frame is pos. chain-enough fs linked m n frame.outer (omega (arith, linked f frame is pos)) (omega (arith, linked f frame is pos)))

-- frames that are made later change no chain
pub chain-append : (fs : List store.Frame) (new : store.Frame) → AreLinked fs → (n f : ℕ) → f < length fs → chain_within n (fs ++ new ∷ []) f ≡ chain_within n fs f
chain-append fs new linked zero f h = refl
chain-append fs new linked (suc n) f h =
    ap (λ o. chain_step f o (chain_within n (fs ++ new ∷ []))) (get-append fs (new ∷ []) f h)
    ∙ step-same f (slice_get fs f) (chain_within n (fs ++ new ∷ [])) (chain_within n fs)
    (λ frame is pos. chain-append fs new linked n frame.outer (omega (arith, linked f frame is pos, h)))

-- the chain of a frame is the frame, and the chain of the one about it where there is one
pub chain-of-step : (fs : List store.Frame) (f : ℕ) (frame : store.Frame) → AreLinked fs → slice_get fs f ≡ Some frame
    → chain_of fs f ≡ chain_step f (Some frame) (chain_of fs)
unfolding chain_of
chain-of-step fs f frame linked is =
    ap (λ o. chain_step f o (chain_within f fs)) is
    ∙ step-same f (Some frame) (chain_within f fs) (chain_of fs)
    (λ other same pos.
    let this : other ≡ frame = cc in
    let out : other.outer < f = rw this (linked f frame is pos) in
    chain-enough fs linked f (suc other.outer) other.outer out (omega arith))

-- the chain of the outermost frame
pub chain-outermost : (fs : List store.Frame) (frame : store.Frame) → AreLinked fs → slice_get fs 0 ≡ Some frame → chain_of fs 0 ≡ record { frame = 0; scope = frame.scope } ∷ []
chain-outermost fs frame linked is = chain-of-step fs 0 frame linked is

-- the chain of any other frame
pub chain-inner : (fs : List store.Frame) (f : ℕ) (frame : store.Frame) → AreLinked fs → slice_get fs f ≡ Some frame → 0 < f
    → chain_of fs f ≡ record { frame = f; scope = frame.scope } ∷ chain_of fs frame.outer
chain-inner fs zero frame linked is pos = absurd (omega arith)
chain-inner fs (suc f) frame linked is pos = chain-of-step fs (suc f) frame linked is ∙ rw (not-zero_eq f) refl

-- the chain of a new frame
pub chain-enter : (fs : List store.Frame) (new : store.Frame) → AreLinked fs → new.outer < length fs
    → chain_of (fs ++ new ∷ []) (length fs) ≡ record { frame = length fs; scope = new.scope } ∷ chain_of fs new.outer
unfolding chain_of
chain-enter fs new linked within =
    chain-inner (fs ++ new ∷ []) (length fs) new (linked-enter fs new linked within) (get-append_last fs new) (omega arith)
    ∙ ap (λ l. record { frame = length fs; scope = new.scope } ∷ l) (chain-append fs new linked (suc new.outer) new.outer within)

pub frames_of-push : (bound : List (Option Content)) (fs : List Frame) (new : Frame) → frames_of bound (fs ++ new ∷ []) ≡ frames_of bound fs ++ frame_of bound new ∷ []
frames_of-push bound [] new = refl
frames_of-push bound (g ∷ fs) new = ap (λ l. frame_of bound g ∷ l) (frames_of-push bound fs new)

-- ---- chains ask for no slots

link-in : (one other : List (Option Content)) (o : Option Frame) (frame : store.Frame) → option_map (frame_of one) o ≡ Some frame
    → (same : store.Frame) × (option_map (frame_of other) o ≡ Some same) × (same.outer ≡ frame.outer)
link-in one other None frame e = cc
link-in one other (Some g) frame e = (frame_of other g, refl, ap (λ (x : store.Frame). x.outer) (same_Some _ _ e))

pub linked-other : (one other : List (Option Content)) (fs : List Frame) → AreLinked (frames_of one fs) → AreLinked (frames_of other fs)
linked-other one other fs linked f frame is pos =
    let found = link-in other one (slice_get fs f) frame (sym (slice_get-map (frame_of other) fs f) ∙ is) in
    let out : found.0.outer < f = linked f found.0 (slice_get-map (frame_of one) fs f ∙ found.1) pos in
    let same : found.0.outer ≡ frame.outer = found.2 in
    omega (arith, out, same)

step-other : (one other : List (Option Content)) (f : ℕ) (o : Option Frame) (g h : ℕ → List Environ) → ((n : ℕ) → g n ≡ h n)
    → chain_step f (option_map (frame_of one) o) g ≡ chain_step f (option_map (frame_of other) o) h
step-other one other f None g h e = refl
step-other one other f (Some frame) g h e = ap (λ (l : List Environ). let this : Environ = record { frame = f; scope = frame.scope } in this ∷ (if nat_eq f 0 then [] else l)) (e frame.outer)

chain-other_in : (one other : List (Option Content)) (fs : List Frame) (n f : ℕ) → chain_within n (frames_of one fs) f ≡ chain_within n (frames_of other fs) f
chain-other_in one other fs zero f = refl
chain-other_in one other fs (suc n) f =
    ap (λ o. chain_step f o (chain_within n (frames_of one fs))) (slice_get-map (frame_of one) fs f)
    ∙ step-other one other f (slice_get fs f) (chain_within n (frames_of one fs)) (chain_within n (frames_of other fs)) (λ m. chain-other_in one other fs n m)
    ∙ ap (λ o. chain_step f o (chain_within n (frames_of other fs))) (sym (slice_get-map (frame_of other) fs f))

pub chain-other : (one other : List (Option Content)) (fs : List Frame) (f : ℕ) → chain_of (frames_of one fs) f ≡ chain_of (frames_of other fs) f
unfolding chain_of
chain-other one other fs f = chain-other_in one other fs (suc f) f
