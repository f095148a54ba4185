-- The slots of all frames, which stand one behind the other in one list.
use Rattle.std.proofs.Common.{◌≡◌, Bool, true, false, ℕ, zero, suc, ◌+◌, ◌-◌, ◌<◌, ◌≤◌, List, [], ◌∷◌, ◌++◌, length, take, drop, get_or, ap, sym, ◌∙◌, refl, arith}
use Rattle.std.specs.Prelude.{None, Some, slice_get, slice_set, replicate, nat_lt, if◌then◌else◌, sum_by}
use Rattle.std.specs.declared.option.Option.{Option}
use Rattle.std.specs.Option.{option_and_then, option_map, option_map_or}
use Rattle.std.proofs.lemmas.List.{drop_more, get_or-drop, take_more, length-take, length-drop, length-take-le, length-replicate, take_all, take-append-le, take-set-le, drop_at, drop-append-le, drop-set-lt, drop-set-add}
use Rattle.std.proofs.lemmas.Bool.{ltb-true, ltb-false}
use Rattle.std.proofs.lemmas.Grind.{drop_more_same}
use Rattle.std.proofs.lemmas.List.Sums.{sum_by-cons}
use Rattle.std.proofs.lemmas.Option.{same_Some, slice_get-map, slice_get_past}
use Rattle.a68_acts.specs.Store as store
use Rattle.a68_acts.specs.Store.{frame_weight, slot_weight}
use Rattle.a68_store.specs.Frames.{frame_of, frames_of, place_in, AreLaid}
use Rattle.a68_store.specs.declared.frame.Frame.{Frame}
use Rattle.a68_store.proofs.Counts.{length-le-weight}
use Rattle.a68_values.specs.Content.{Content}

-- ---- a stretch of a list

later : (n i : ℕ) → suc n + i ≡ suc (n + i)
later n i = omega arith

module _ {A : Type 0} where
  take-of-set : (n : ℕ) (xs : List A) (i : ℕ) (y : A) → take n (slice_set xs i y) ≡ slice_set (take n xs) i y
  take-of-set zero xs i y = refl
  take-of-set (suc n) [] i y = refl
  take-of-set (suc n) (x ∷ xs) zero y = refl
  take-of-set (suc n) (x ∷ xs) (suc i) y = ap (λ l. x ∷ l) (take-of-set n xs i y)

  get-take : (n : ℕ) (xs : List A) (i : ℕ) → i < n → slice_get (take n xs) i ≡ slice_get xs i
  get-take zero xs i h = absurd (omega (arith, h))
  get-take (suc n) [] i h = refl
  get-take (suc n) (x ∷ xs) zero h = refl
  get-take (suc n) (x ∷ xs) (suc i) h = get-take n xs i (omega (arith, h))

  get-drop : (n : ℕ) (xs : List A) (i : ℕ) → slice_get (drop n xs) i ≡ slice_get xs (n + i)
  get-drop zero xs i = ap (λ j. slice_get xs j) (omega arith)
  get-drop (suc n) [] i = refl
  get-drop (suc n) (x ∷ xs) i = get-drop n xs i ∙ sym (ap (λ j. slice_get (x ∷ xs) j) (later n i))

  -- an element of a stretch
  pub get-stretch : (from count i : ℕ) (xs : List A) → i < count → slice_get (take count (drop from xs)) i ≡ slice_get xs (from + i)
  get-stretch from count i xs h = get-take count (drop from xs) i h ∙ get-drop from xs i

  pub length-stretch : (from count : ℕ) (xs : List A) → from + count ≤ length xs → length (take count (drop from xs)) ≡ count
  length-stretch from count xs h = length-take-le count (drop from xs) (omega (arith, length-drop from xs, h))

  -- a stretch where an element is written within it, before it and behind it
  stretch-set : (from count i : ℕ) (xs : List A) (y : A) → take count (drop from (slice_set xs (from + i) y)) ≡ slice_set (take count (drop from xs)) i y
  stretch-set from count i xs y = ap (λ l. take count l) (drop-set-add from xs i y) ∙ take-of-set count (drop from xs) i y

  stretch-after : (from count i : ℕ) (xs : List A) (y : A) → i < from → take count (drop from (slice_set xs i y)) ≡ take count (drop from xs)
  stretch-after from count i xs y h = ap (λ l. take count l) (drop-set-lt from xs i y h)

  stretch-before : (from count i : ℕ) (xs : List A) (y : A) → from + count ≤ i → take count (drop from (slice_set xs i y)) ≡ take count (drop from xs)
  stretch-before from count i xs y h =
      let there : i ≡ from + (i - from) = omega (arith, h) in
      ap (λ j. take count (drop from (slice_set xs j y))) there
      ∙ ap (λ l. take count l) (drop-set-add from xs (i - from) y)
      ∙ take-set-le count (drop from xs) (i - from) y (omega (arith, h))

  -- a stretch of a list that grows
  stretch-grown : (from count : ℕ) (xs ys : List A) → from + count ≤ length xs → take count (drop from (xs ++ ys)) ≡ take count (drop from xs)
  stretch-grown from count xs ys h =
      ap (λ l. take count l) (drop-append-le from xs ys (omega (arith, h)))
      ∙ take-append-le count (drop from xs) ys (omega (arith, length-drop from xs, h))

  -- the stretch that is added
  stretch-added : (from count : ℕ) (xs : List A) (y : A) → from ≡ length xs → take count (drop from (xs ++ replicate count y)) ≡ replicate count y
  stretch-added from count xs y h =
      ap (λ l. take count l) (drop_at xs (replicate count y) from (sym h))
      ∙ take_all count (replicate count y) (omega (arith, length-replicate count y))

  -- one element more of a list whose elements are taken one by one
  pub taken-step : (from i : ℕ) (xs ys : List A) (x y : A) → drop (from + i) ys ≡ drop (from + i) xs → from + i < length xs → from + i < length ys → x ≡ get_or ys (from + i) x
      → (take i (drop from xs) ++ x ∷ [] ≡ take (i + 1) (drop from xs)) × (drop (from + (i + 1)) (slice_set ys (from + i) y) ≡ drop (from + (i + 1)) xs)
  taken-step from i xs ys x y rest here there read =
      let same : x ≡ get_or xs (from + i) x =
      read ∙ ap (λ l. get_or l 0 x) (sym (drop_more ys (from + i) x there) ∙ rest ∙ drop_more xs (from + i) x here) in
      let next : from + (i + 1) ≡ from + i + 1 = omega arith in (
        ap (λ z. take i (drop from xs) ++ z ∷ []) (same ∙ sym (get_or-drop from xs i x)) ∙ sym (take_more (drop from xs) i x (omega (arith, length-drop from xs, here))),
        drop-set-lt (from + (i + 1)) ys (from + i) y (omega arith)
            ∙ ap (λ k. drop k ys) next
            ∙ drop_more_same ys xs (from + i) rest
            ∙ ap (λ k. drop k xs) (sym next),
      )

-- ---- frames that are laid one behind the other

laid-end : (fs : List Frame) (from to : ℕ) → AreLaid from fs to → from ≤ to
laid-end [] from to laid = omega (arith, laid)
laid-end (g ∷ fs) from to laid = omega (arith, laid-end fs (from + g.count) to laid.1)

pub laid-at : (fs : List Frame) (from to f : ℕ) (g : Frame) → AreLaid from fs to → slice_get fs f ≡ Some g → (from ≤ g.first) × (g.first + g.count ≤ to)
laid-at [] from to f g laid is = cc
laid-at (h ∷ fs) from to zero g laid is =
    let same : h ≡ g = same_Some h g is in
    let first : h.first ≡ g.first = ap (λ (x : Frame). x.first) same in
    let count : h.count ≡ g.count = ap (λ (x : Frame). x.count) same in
    let behind = laid-end fs (from + h.count) to laid.1 in
    (omega (arith, first, laid.0), omega (arith, first, count, laid.0, behind))
laid-at (h ∷ fs) from to (suc f) g laid is = let behind = laid-at fs (from + h.count) to f g laid.1 is in (omega (arith, behind.0), behind.1)

-- frames behind a slot that is bound stay
frames-behind : (fs : List Frame) (from to i : ℕ) (bound : List (Option Content)) (y : Option Content) → AreLaid from fs to → i < from
    → frames_of (slice_set bound i y) fs ≡ frames_of bound fs
frames-behind [] from to i bound y laid h = refl
frames-behind (g ∷ fs) from to i bound y laid h =
    let same = stretch-after g.first g.count i bound y (omega (arith, laid.0, h)) in
    ap (λ (l : List (Option Content)). let this : store.Frame = record { outer = g.outer; scope = g.scope; slots = l } in this ∷ frames_of (slice_set bound i y) fs) same
    ∙ ap (λ l. frame_of bound g ∷ l) (frames-behind fs (from + g.count) to i bound y laid.1 (omega (arith, h)))

-- to bind a slot of a frame changes the slots of that frame alone
pub frames-bind : (fs : List Frame) (from to f : ℕ) (g : Frame) (i : ℕ) (bound : List (Option Content)) (y : Option Content) → AreLaid from fs to → slice_get fs f ≡ Some g
    → i < g.count → frames_of (slice_set bound (g.first + i) y) fs ≡ slice_set (frames_of bound fs) f (record (frame_of bound g) { slots = slice_set (frame_of bound g).slots i y })
frames-bind [] from to f g i bound y laid is within = cc
frames-bind (h ∷ fs) from to zero g i bound y laid is within =
    let same : h ≡ g = same_Some h g is in
    let first : h.first ≡ g.first = ap (λ (x : Frame). x.first) same in
    let count : h.count ≡ g.count = ap (λ (x : Frame). x.count) same in
    ap (λ (x : Frame). frame_of (slice_set bound (g.first + i) y) x ∷ frames_of (slice_set bound (g.first + i) y) fs) same
    ∙ ap (λ (l : List (Option Content)). let this : store.Frame = record { outer = g.outer; scope = g.scope; slots = l } in this ∷ frames_of (slice_set bound (g.first + i) y) fs)
    (stretch-set g.first g.count i bound y)
    ∙ ap (λ (l : List store.Frame). let this : store.Frame = record { outer = g.outer; scope = g.scope; slots = slice_set (take g.count (drop g.first bound)) i y } in this ∷ l)
    (frames-behind fs (from + h.count) to (g.first + i) bound y laid.1 (omega (arith, laid.0, first, count, within)))
frames-bind (h ∷ fs) from to (suc f) g i bound y laid is within =
    let behind = laid-at fs (from + h.count) to f g laid.1 is in
    let same = stretch-before h.first h.count (g.first + i) bound y (omega (arith, laid.0, behind.0)) in
    ap (λ (l : List (Option Content)). let this : store.Frame = record { outer = h.outer; scope = h.scope; slots = l } in this ∷ frames_of (slice_set bound (g.first + i) y) fs) same
    ∙ ap (λ l. frame_of bound h ∷ l) (frames-bind fs (from + h.count) to f g i bound y laid.1 is within)

-- slots that are added change no frame
pub frames-grown : (fs : List Frame) (from to : ℕ) (bound more : List (Option Content)) → AreLaid from fs to → to ≤ length bound → frames_of (bound ++ more) fs ≡ frames_of bound fs
frames-grown [] from to bound more laid within = refl
frames-grown (g ∷ fs) from to bound more laid within =
    let behind = laid-end fs (from + g.count) to laid.1 in
    let same = stretch-grown g.first g.count bound more (omega (arith, laid.0, behind, within)) in
    ap (λ (l : List (Option Content)). let this : store.Frame = record { outer = g.outer; scope = g.scope; slots = l } in this ∷ frames_of (bound ++ more) fs) same
    ∙ ap (λ l. frame_of bound g ∷ l) (frames-grown fs (from + g.count) to bound more laid.1 within)

pub laid-push : (fs : List Frame) (from to : ℕ) (g : Frame) → AreLaid from fs to → g.first ≡ to → AreLaid from (fs ++ g ∷ []) (to + g.count)
laid-push [] from to g laid first = (omega (arith, laid, first), omega (arith, laid))
laid-push (h ∷ fs) from to g laid first = (laid.0, laid-push fs (from + h.count) to g laid.1 first)

-- a new frame whose slots are not bound
pub frame-added : (bound : List (Option Content)) (g : Frame) (outer scope n : ℕ) → g.outer ≡ outer → g.scope ≡ scope → g.count ≡ n → g.first ≡ length bound
    → ◌≡◌ {A = store.Frame} (frame_of (bound ++ replicate n None) g) (record { outer = outer; scope = scope; slots = replicate n None })
frame-added bound g outer scope n out in_scope count first = rw (out, in_scope, count, stretch-added g.first n bound None first) refl

-- the store counts each slot
pub laid-weight : (fs : List Frame) (from to : ℕ) (bound : List (Option Content)) → AreLaid from fs to → to ≤ length bound → to ≤ from + sum_by frame_weight (frames_of bound fs)
laid-weight [] from to bound laid within = omega (arith, laid)
laid-weight (g ∷ fs) from to bound laid within =
    let behind = laid-end fs (from + g.count) to laid.1 in
    let long : length (frame_of bound g).slots ≡ g.count = length-stretch g.first g.count bound (omega (arith, laid.0, behind, within)) in
    let heavy = length-le-weight (frame_of bound g).slots in
    let more = laid-weight fs (from + g.count) to bound laid.1 within in
    let sum = sum_by-cons frame_weight (frame_of bound g) (frames_of bound fs) in
    omega (arith, long, heavy, more, sum)

-- ---- the place of a slot

pub frame-at : (fs : List Frame) (bound : List (Option Content)) (f : ℕ) (g : Frame) → slice_get fs f ≡ Some g → slice_get (frames_of bound fs) f ≡ Some (frame_of bound g)
frame-at fs bound f g is = slice_get-map (frame_of bound) fs f ∙ ap (λ o. option_map (frame_of bound) o) is

found-by : (b : Bool) (i p : ℕ) (g : Frame) → nat_lt i g.count ≡ b → ◌≡◌ {A = Option ℕ} (if b then Some (g.first + i) else None) (Some p) → (i < g.count) × (p ≡ g.first + i)
found-by true i p g test e = (ltb-true i g.count test, sym (same_Some _ _ e))
found-by false i p g test e = cc

found-in : (o : Option Frame) (i p : ℕ) → option_and_then (λ (g : Frame). if nat_lt i g.count then Some (g.first + i) else None) o ≡ Some p
    → (g : Frame) × (o ≡ Some g) × (i < g.count) × (p ≡ g.first + i)
found-in None i p e = cc
found-in (Some g) i p e = let found = found-by (nat_lt i g.count) i p g refl e in (g, refl, found.0, found.1)

-- the frame of a place
pub place-found : (fs : List Frame) (f i p : ℕ) → place_in fs f i ≡ Some p → (g : Frame) × (slice_get fs f ≡ Some g) × (i < g.count) × (p ≡ g.first + i)
place-found fs f i p e = found-in (slice_get fs f) i p e

agree-by : (b : Bool) (i : ℕ) (g : Frame) (bound : List (Option Content)) → nat_lt i g.count ≡ b
    → slice_get (take g.count (drop g.first bound)) i ≡ option_and_then (λ p. slice_get bound p) (if b then Some (g.first + i) else None)
agree-by true i g bound test = get-stretch g.first g.count i bound (ltb-true i g.count test)
agree-by false i g bound test = slice_get_past (take g.count (drop g.first bound)) i (omega (arith, ltb-false i g.count test, length-take g.count (drop g.first bound)))

agree-in : (o : Option Frame) (i : ℕ) (bound : List (Option Content))
    → option_and_then (λ (frame : store.Frame). slice_get frame.slots i) (option_map (frame_of bound) o)
    ≡ option_and_then (λ p. slice_get bound p) (option_and_then (λ (g : Frame). if nat_lt i g.count then Some (g.first + i) else None) o)
agree-in None i bound = refl
agree-in (Some g) i bound = agree-by (nat_lt i g.count) i g bound refl

-- a slot of a frame is the one at its place
pub slots-agree : (fs : List Frame) (bound : List (Option Content)) (f i : ℕ)
    → option_and_then (λ (frame : store.Frame). slice_get frame.slots i) (slice_get (frames_of bound fs) f) ≡ option_and_then (λ p. slice_get bound p) (place_in fs f i)
slots-agree fs bound f i = ap (λ o. option_and_then (λ (frame : store.Frame). slice_get frame.slots i) o) (slice_get-map (frame_of bound) fs f) ∙ agree-in (slice_get fs f) i bound

-- ---- what is kept

pub kept-none : (fs : List Frame) (bound : List (Option Content)) → slice_get fs 1 ≡ None
    → ◌≡◌ {A = List (Option Content)} (option_map_or (λ (frame : store.Frame). frame.slots) (slice_get (frames_of bound fs) 1) []) []
kept-none fs bound e =
    ap (λ o. option_map_or (λ (frame : store.Frame). frame.slots) o []) (slice_get-map (frame_of bound) fs 1 ∙ ap (λ o. option_map (frame_of bound) o) e)
