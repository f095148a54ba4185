-- What a call knows of the slot at a place, and the store once a slot is bound or a frame is entered.
use Rattle.std.proofs.Common.{◌≡◌, ℕ, zero, suc, ◌+◌, ◌<◌, ◌≤◌, List, [], ◌∷◌, length, get_or, ap, sym, ◌∙◌, refl, arith, ◌++◌, length-append}
use Rattle.std.specs.Prelude.{None, Some, slice_get, slice_set, sum_by, replicate, ◌*◌}
use Rattle.std.proofs.Math.ListN.{set, length-set}
use Rattle.std.specs.declared.vec.Vec.{Vec}
use Rattle.std.specs.declared.alloc.Global.{Global}
use Rattle.std.specs.Option.{option_and_then}
use Rattle.std.proofs.lemmas.List.Folds.{sum_by-replicate}
use Rattle.std.proofs.lemmas.List.{length-replicate}
use Rattle.std.proofs.lemmas.List.Sums.{sum_by_push}
use Rattle.std.specs.declared.option.Option.{Option}
use Rattle.std.proofs.lemmas.Option.{slice_get-get_or}
use Rattle.a68_acts.specs.Does.{with_slot}
use Rattle.a68_acts.specs.Store as store
use Rattle.a68_acts.specs.Store.{Store, chain_of, counted, slot_weight, frame_weight, most_counted}
use Rattle.a68_values.specs.declared.held.Held.{Held}
use Rattle.a68_store.specs.Frames.{frame_of, frames_of, links_of, place_in, slot_in, AreLinked, HasRoom}
use Rattle.a68_store.specs.Inside.{store_of, IsSound}
use Rattle.a68_store.specs.declared.frame.Frame.{Frame}
use Rattle.a68_store.specs.declared.store.Store.TheInside.{Inside}
use Rattle.a68_store.proofs.FramesLemmas.{length-frames_of, frames_of-push, sum-bind, slot-le-counted, linked-bind, linked-enter, linked-other, chain-other}
use Rattle.a68_store.proofs.Places.{place-found, frame-at, laid-at, get-stretch, length-stretch, frames-bind, frames-grown, frame-added, laid-push, laid-weight, slots-agree}
use Rattle.a68_values.specs.Content.{Content}

-- the slot of a frame stands at this place
pub record Stands (s : Inside) (f i p : ℕ) : Type 0 where
  pub frame : Frame
  pub is : slice_get s.frames.items f ≡ Some frame
  pub within : i < frame.count
  pub place : p ≡ frame.first + i
  pub there : p < length s.slots.items

pub stands : (s : Inside) (f i p : ℕ) (fs : List Frame) → IsSound s → fs ≡ s.frames.items → Some p ≡ place_in fs f i → Stands s f i p
stands s f i p fs sound same e =
    let found = place-found s.frames.items f i p (ap (λ l. place_in l f i) (sym same) ∙ sym e) in
    let laid = laid-at s.frames.items 0 (length s.slots.items) f found.0 sound.laid found.1 in
    record {
      frame = found.0;
      is = found.1;
      within = found.2;
      place = found.3;
      there = omega (arith, laid.1, found.2, found.3);
    }

-- the frame as contracts see it, and its slot
pub frame-seen : (s : Inside) (f i p : ℕ) (at : Stands s f i p) → slice_get (frames_of s.slots.items s.frames.items) f ≡ Some (frame_of s.slots.items at.frame)
frame-seen s f i p at = frame-at s.frames.items s.slots.items f at.frame at.is

pub slot-seen : (s : Inside) (f i p : ℕ) (at : Stands s f i p) (x : Option Content) → x ≡ get_or s.slots.items p x → slice_get (frame_of s.slots.items at.frame).slots i ≡ Some x
slot-seen s f i p at x read =
    get-stretch at.frame.first at.frame.count i s.slots.items at.within
    ∙ ap (λ j. slice_get s.slots.items j) (sym at.place)
    ∙ slice_get-get_or s.slots.items p x at.there
    ∙ ap (λ o. Some o) (sym read)

-- the frame that callers see
pub frame-told : (s : Inside) (self : Store) (f i p : ℕ) (at : Stands s f i p) → store_of s ≡ self → slice_get self.frames f ≡ Some (frame_of s.slots.items at.frame)
frame-told s self f i p at view = ap (λ (x : Store). slice_get x.frames f) (sym view) ∙ frame-seen s f i p at

-- a frame that the code reads has as many slots as it says
pub count-read : (s : Inside) (self : Store) (f : ℕ) (g : Frame) → store_of s ≡ self → IsSound s → f < length self.frames → g ≡ get_or s.frames.items f g
    → (frame : store.Frame) × (slice_get self.frames f ≡ Some frame) × (g.count ≡ length frame.slots)
count-read s self f g view sound there read =
    let many : length (frames_of s.slots.items s.frames.items) ≡ length self.frames = ap (λ (x : Store). length x.frames) view in
    let here : f < length s.frames.items = omega (arith, length-frames_of s.slots.items s.frames.items, many, there) in
    let is : slice_get s.frames.items f ≡ Some g = slice_get-get_or s.frames.items f g here ∙ ap (λ o. Some o) (sym read) in
    let laid = laid-at s.frames.items 0 (length s.slots.items) f g sound.laid is in (
      frame_of s.slots.items g,
      ap (λ (x : Store). slice_get x.frames f) (sym view) ∙ frame-at s.frames.items s.slots.items f g is,
      sym (length-stretch g.first g.count s.slots.items laid.1),
    )

-- the slot that callers see
pub slot-agrees : (s : Inside) (self : Store) (f i : ℕ) (fs : List Frame) → store_of s ≡ self → fs ≡ s.frames.items
    → slot_in self f i ≡ option_and_then (λ p. slice_get s.slots.items p) (place_in fs f i)
slot-agrees s self f i fs view same =
    ap (λ (x : Store). slot_in x f i) (sym view) ∙ slots-agree s.frames.items s.slots.items f i ∙ ap (λ l. option_and_then (λ p. slice_get s.slots.items p) (place_in l f i)) (sym same)

pub slot-none : (s : Inside) (self : Store) (f i : ℕ) (fs : List Frame) → store_of s ≡ self → fs ≡ s.frames.items → None ≡ place_in fs f i → slot_in self f i ≡ None
slot-none s self f i fs view same e = slot-agrees s self f i fs view same ∙ ap (λ o. option_and_then (λ p. slice_get s.slots.items p) o) (sym e)

pub slot-some : (s : Inside) (self : Store) (f i p : ℕ) (fs : List Frame) (x : Option Content) → store_of s ≡ self → IsSound s → fs ≡ s.frames.items → Some p ≡ place_in fs f i
    → x ≡ get_or s.slots.items p x → slot_in self f i ≡ Some x
slot-some s self f i p fs x view sound same e read =
    slot-agrees s self f i fs view same
    ∙ ap (λ o. option_and_then (λ j. slice_get s.slots.items j) o) (sym e)
    ∙ slice_get-get_or s.slots.items p x (stands s f i p fs sound same e).there
    ∙ ap (λ o. Some o) (sym read)

-- what a slot counts is among what the store counts
pub weight-fits : (s : Inside) (f i p : ℕ) (at : Stands s f i p) (x : Option Content) → IsSound s → x ≡ get_or s.slots.items p x → slot_weight x ≤ s.counted
weight-fits s f i p at x sound read =
    let small = slot-le-counted (frames_of s.slots.items s.frames.items) f i (frame_of s.slots.items at.frame) x (frame-seen s f i p at) (slot-seen s f i p at x read) in
    omega (arith, small, sound.counted_is)

-- ---- the store once a slot is bound

frames-bound : (s : Inside) (f i p : ℕ) (at : Stands s f i p) (v : Content) → IsSound s
    → frames_of (slice_set s.slots.items p (Some v)) s.frames.items
    ≡ slice_set (frames_of s.slots.items s.frames.items) f (record (frame_of s.slots.items at.frame) { slots = slice_set (frame_of s.slots.items at.frame).slots i (Some v) })
frames-bound s f i p at v sound =
    ap (λ j. frames_of (slice_set s.slots.items j (Some v)) s.frames.items) at.place
    ∙ frames-bind s.frames.items 0 (length s.slots.items) f at.frame i s.slots.items (Some v) sound.laid at.is at.within

-- a store in which a slot is written, and all else but the count is as it was
pub record IsWritten (s t : Inside) (p : ℕ) (v : Content) : Type 0 where
  pub cells : t.cells ≡ s.cells
  pub frames : t.frames ≡ s.frames
  pub slots : t.slots.items ≡ slice_set s.slots.items p (Some v)
  pub kept : t.kept ≡ s.kept
  pub text : t.text ≡ s.text
  pub strands : t.strands ≡ s.strands

pub bound-sound : (s t : Inside) (f i p : ℕ) (at : Stands s f i p) (x : Option Content) (v : Content) → IsSound s → x ≡ get_or s.slots.items p x → IsWritten s t p v
    → t.counted + slot_weight x ≡ s.counted + slot_weight (Some v) → t.counted ≤ most_counted → IsSound t
bound-sound s t f i p at x v sound read written counts few =
    let frames : frames_of t.slots.items t.frames.items
    ≡ slice_set (frames_of s.slots.items s.frames.items) f (record (frame_of s.slots.items at.frame) { slots = slice_set (frame_of s.slots.items at.frame).slots i (Some v) }) = rw (written.frames, written.slots) (frames-bound s f i p at v sound) in
    let sum = sum-bind (frames_of s.slots.items s.frames.items) f i (frame_of s.slots.items at.frame) x (Some v) (frame-seen s f i p at) (slot-seen s f i p at x read) in
    let same : sum_by frame_weight (frames_of t.slots.items t.frames.items) + slot_weight x ≡ sum_by frame_weight (frames_of s.slots.items s.frames.items) + slot_weight (Some v) = rw frames sum in
    let many : length t.cells.items ≡ length s.cells.items = ap (λ (c : Vec Held Global). length c.items) written.cells in
    record {
      counted_is = omega (arith, same, many, counts, sound.counted_is);
      few = few;
      opened = rw written.frames sound.opened;
      linked = rw frames (linked-bind (frames_of s.slots.items s.frames.items) f (frame_of s.slots.items at.frame) _ sound.linked (frame-seen s f i p at));
      laid = rw (written.frames, written.slots, length-set s.slots.items p (Some v)) sound.laid;
      none_kept = rw written.kept sound.none_kept;
      room_to_keep = rw (written.frames, written.kept) sound.room_to_keep;
      short = rw written.text sound.short;
      strands_few = rw written.strands sound.strands_few;
    }

pub bound-view : (s t : Inside) (f i p : ℕ) (at : Stands s f i p) (v : Content) → IsSound s → IsWritten s t p v → store_of t ≡ with_slot (store_of s) f i (frame_of s.slots.items at.frame) v
bound-view s t f i p at v sound written = rw (written.cells, written.text, written.strands, written.frames, written.slots, frames-bound s f i p at v sound) refl

-- ---- the store once a frame is entered

-- a store with one frame more, whose slots are not bound
pub record IsEntered (s t : Inside) (new : Frame) (n : ℕ) : Type 0 where
  pub cells : t.cells ≡ s.cells
  pub frames : t.frames.items ≡ s.frames.items ++ new ∷ []
  pub slots : t.slots.items ≡ s.slots.items ++ replicate n None
  pub text : t.text ≡ s.text
  pub strands : t.strands ≡ s.strands
  pub first : new.first ≡ length s.slots.items
  pub count : new.count ≡ n

frames-entered : (s t : Inside) (new : Frame) (n : ℕ) → IsSound s → IsEntered s t new n
    → ◌≡◌ {A = List store.Frame} (frames_of t.slots.items t.frames.items)
    (frames_of s.slots.items s.frames.items ++ record { outer = new.outer; scope = new.scope; slots = replicate n None } ∷ [])
frames-entered s t new n sound e =
    let bound = s.slots.items ++ replicate n None in
    let grown = frames-grown s.frames.items 0 (length s.slots.items) s.slots.items (replicate n None) sound.laid (omega arith) in
    let added = frame-added s.slots.items new new.outer new.scope n refl refl e.count e.first in
    rw (e.frames, e.slots, frames_of-push bound s.frames.items new, grown, added) refl

pub entered-sound : (s t : Inside) (new : Frame) (n : ℕ) → IsSound s → IsEntered s t new n → new.outer < length s.frames.items → t.kept.items ≡ [] → HasRoom t.frames.items t.kept
    → t.counted ≡ s.counted + n → t.counted ≤ most_counted → IsSound t
entered-sound s t new n sound e outer none room counts few =
    let fs = frames_of s.slots.items s.frames.items in
    let made : store.Frame = record { outer = new.outer; scope = new.scope; slots = replicate n None } in
    let frames = frames-entered s t new n sound e in
    let sum = sum_by_push frame_weight fs made in
    let weight : frame_weight made ≡ n * 1 = sum_by-replicate slot_weight n None in
    let all : sum_by frame_weight (frames_of t.slots.items t.frames.items) ≡ sum_by frame_weight fs + frame_weight made = rw frames sum in
    let many : length t.cells.items ≡ length s.cells.items = ap (λ (c : Vec Held Global). length c.items) e.cells in
    let long : length t.frames.items ≡ length s.frames.items + 1 = ap (λ l. length l) e.frames ∙ length-append s.frames.items (new ∷ []) in
    let there : new.outer < length fs = omega (arith, outer, length-frames_of s.slots.items s.frames.items) in
    let end : length t.slots.items ≡ length s.slots.items + new.count =
    ap (λ l. length l) e.slots ∙ length-append s.slots.items (replicate n None) ∙ ap (λ k. length s.slots.items + k) (length-replicate n None ∙ sym e.count) in
    record {
      counted_is = omega (arith, all, weight, many, counts, sound.counted_is);
      few = few;
      opened = omega (arith, long);
      linked = rw frames (linked-enter fs made sound.linked there);
      laid = rw (e.frames, end) (laid-push s.frames.items 0 (length s.slots.items) new sound.laid e.first);
      none_kept = none;
      room_to_keep = room;
      short = rw e.text sound.short;
      strands_few = rw e.strands sound.strands_few;
    }

pub entered-view : (s t : Inside) (new : Frame) (n : ℕ) → IsSound s → IsEntered s t new n
    → store_of t ≡ record (store_of s) { frames = frames_of s.slots.items s.frames.items ++ record { outer = new.outer; scope = new.scope; slots = replicate n None } ∷ [] }
entered-view s t new n sound e = rw (e.cells, e.text, e.strands, frames-entered s t new n sound e) refl

-- the slots of all frames are no more than the store counts
pub slots-few : (s : Inside) → IsSound s → length s.slots.items ≤ s.counted
slots-few s sound =
    let few = laid-weight s.frames.items 0 (length s.slots.items) s.slots.items sound.laid (omega arith) in
    omega (arith, few, sound.counted_is)

pub frame-there : (fs : List store.Frame) (f : ℕ) → f < length fs → (frame : store.Frame) × (slice_get fs f ≡ Some frame)
frame-there [] f h = absurd (omega arith)
frame-there (g ∷ fs) zero h = (g, refl)
frame-there (g ∷ fs) (suc f) h = frame-there fs f (omega arith)

-- the links of frames are linked as they are, and make the same chains
pub links-linked : (s : Inside) → IsSound s → AreLinked (links_of s.frames.items)
links-linked s sound = linked-other s.slots.items [] s.frames.items sound.linked

pub links-chain : (s : Inside) (self : Store) (f : ℕ) → store_of s ≡ self → chain_of (links_of s.frames.items) f ≡ chain_of self.frames f
links-chain s self f view = chain-other [] s.slots.items s.frames.items f ∙ ap (λ (x : Store). chain_of x.frames f) view
