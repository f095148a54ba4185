-- The chains of frames, as they grow.
use Rattle.std.proofs.Common.{◌≡◌, ◌<◌, ◌≤◌, ℕ, ◌+◌, Bool, true, false, List, [], ◌∷◌, ◌++◌, length, refl, sym, ap, ◌∙◌, arith, subst, ⊎_elim, Some, None, slice_get, Option, length-append, append_assoc}
use Rattle.std.specs.Prelude.{if◌then◌else◌, slice_index_or}
use Rattle.std.proofs.lemmas.Bool.{false≢true}
use Rattle.a68_ranges.proofs.Taking.{some_one, read}
use Rattle.a68_ranges.proofs.Layering.{get_front, get_last, get_pushed, below_more, layerless}
use Rattle.a68_ranges.specs.Links.{IsBelow, LayersAreLinked, has_layer, is_routine_text, layered}
use Rattle.a68_ranges.specs.Nodes.{kind_at}
use Rattle.a68_ranges.specs.Surroundings.{Lies}
use Rattle.a68_ranges.specs.Tables.{Nested, outermost, within, AreRanges, RangeTables}
use Rattle.a68_ranges.specs.declared.nests.Layer.{Layer}
use Rattle.a68_frames.specs.Frames.{makes, makes_frame, slots_in, with_slots}
use Rattle.a68_frames.specs.Tables.{Framed, passed, entered, AreChained, AreAboutBefore, TellsFrames, IsLayerAdded, Extends, frame_at}
use Rattle.a68_frames.specs.Tables.{outermost as none_about}
use Rattle.a68_tree.specs.Trees.{Built}
use Rattle.a68_tree.specs.declared.kind.NodeKind.{NodeKind}
use Rattle.a68_tree.specs.declared.kind.NodeKind.TheVariants as kind

-- ---- what is told stays told

framed_more : {tree : Built} {frames : List Layer} {nest : Option ℕ} {ranges : List ℕ} (more : List Layer) → Framed tree frames nest ranges → Framed tree (frames ++ more) nest ranges
framed_more more none_about = none_about
framed_more more (passed out rest) = passed out (framed_more more rest)
framed_more {frames = frames} more (entered i frame is makes rest) = entered i frame (get_front frames more i frame is) makes (framed_more more rest)

pub framed_extends : (tree : Built) (frames new : List Layer) (nest : Option ℕ) (ranges : List ℕ) → Extends frames new → Framed tree frames nest ranges → Framed tree new nest ranges
framed_extends tree frames new nest ranges e f = rw e.1 (framed_more e.0 f)

pub extends_more : (old mid new : List Layer) → Extends old mid → Extends mid new → Extends old new
extends_more old mid new a b = (a.0 ++ b.0, b.1 ∙ ap (λ (xs : List Layer). xs ++ b.0) a.1 ∙ append_assoc old a.0 b.0)

pub extends_longer : (old new : List Layer) → Extends old new → length old ≤ length new
extends_longer old new e = rw e.1 (omega (arith, length-append old e.0))

append_nil : (xs : List Layer) → xs ++ [] ≡ xs
append_nil [] = refl
append_nil (x ∷ xs) = ap (λ ys. x ∷ ys) (append_nil xs)

pub extends_none : (old : List Layer) → Extends old old
extends_none old = ([], sym (append_nil old))

-- ---- the layers of a nest, taken apart

record Outwards (layers : List Layer) (layer : Layer) (ranges : List ℕ) : Type 0 where
  more : List ℕ
  is : ranges ≡ layer.range ∷ more
  rest : Nested layers layer.outer more

nested_in : {layers : List Layer} {nest : Option ℕ} {ranges : List ℕ} → Nested layers nest ranges → (number : ℕ) (layer : Layer) → nest ≡ Some number → slice_get layers number ≡ Some layer → Outwards layers layer ranges
nested_in outermost number layer e is = absurd (cc)
nested_in {layers = layers} (within {ranges = more} i other it rest) number layer e is =
    let same : other ≡ layer = some_one (sym it ∙ ap (slice_get layers) (some_one e) ∙ is) in
    record { more = more; is = ap (λ (l : Layer). l.range ∷ more) same; rest = subst (λ (l : Layer). Nested layers l.outer more) same rest }

nested_none : {layers : List Layer} {nest : Option ℕ} {ranges : List ℕ} → Nested layers nest ranges → nest ≡ None → ranges ≡ []
nested_none outermost e = refl
nested_none (within i layer is rest) e = absurd (cc)

-- the frames of a layer that is there
pub framed_at : (tree : Built) (layers : List Layer) (by_layer : List (Option ℕ)) (frames : List Layer) (layer : Option ℕ) (ranges : List ℕ) → AreChained tree layers by_layer frames → IsBelow (length by_layer) layer
    → Nested layers layer ranges → Framed tree frames (frame_at by_layer layer) ranges
framed_at tree layers by_layer frames None ranges are there n = rw (nested_none n refl) none_about
framed_at tree layers by_layer frames (Some number) ranges are there n = are.tells number (slice_index_or by_layer number None) (read by_layer number None there) ranges n

pub is_below : (by_layer : List (Option ℕ)) (frames : List Layer) (layer : Option ℕ) → LayersAreLinked by_layer frames → IsBelow (length by_layer) layer → IsBelow (length frames) (frame_at by_layer layer)
is_below by_layer frames None linked out = tt
is_below by_layer frames (Some n) linked out = linked.there n (slice_index_or by_layer n None) (read by_layer n None out)

-- ---- ranges without layers make no frames

no_frame : (tree : Built) (range : ℕ) → has_layer tree range ≡ false → makes_frame tree range ≡ false
unfolding makes_frame slots_in
no_frame tree range e =
    let none = layerless tree range e in
    ap (λ (ds : List ℕ). makes (kind_at tree range) (length (with_slots tree ds))) none.0 ∙ go (kind_at tree range) none.1
  where
    go : (k : NodeKind) → is_routine_text k ≡ false → makes k 0 ≡ false
    go kind.RoutineText e = absurd (false≢true (sym e))
    go _ e = refl

framed_head : {tree : Built} {frames : List Layer} {nest : Option ℕ} {ranges : List ℕ} (range : ℕ) (some more : List ℕ) → Framed tree frames nest ranges → ranges ≡ range ∷ some
    → ((n : Option ℕ) → Framed tree frames n some → Framed tree frames n more) → Framed tree frames nest (range ∷ more)
framed_head range some more none_about e on = absurd (cc)
framed_head {tree = tree} {frames = frames} {nest = nest} range some more (passed {range = r} {more = rs} out rest) e on =
    let head : r ≡ range = cc in
    let tail : rs ≡ some = cc in
    passed (subst (λ x. makes_frame tree x ≡ false) head out) (on nest (subst (λ xs. Framed tree frames nest xs) tail rest))
framed_head {tree = tree} {frames = frames} range some more (entered {more = rs} i frame is made rest) e on =
    let head : frame.range ≡ range = cc in
    let tail : rs ≡ some = cc in
    subst (λ x. Framed tree frames (Some i) (x ∷ more)) head (entered i frame is made (on frame.outer (subst (λ xs. Framed tree frames frame.outer xs) tail rest)))

-- the frames of the ranges that have layers are those of all ranges
framed_on : (tree : Built) (frames : List Layer) (ranges : List ℕ) (nest : Option ℕ) → Framed tree frames nest (layered tree ranges) → Framed tree frames nest ranges
framed_on tree frames [] nest f = f
framed_on tree frames (range ∷ ranges) nest f = go (has_layer tree range) refl (λ n g. framed_on tree frames ranges n g) f
  where
    go : (b : Bool) → has_layer tree range ≡ b → ((n : Option ℕ) → Framed tree frames n (layered tree ranges) → Framed tree frames n ranges)
        → Framed tree frames nest (if b then range ∷ layered tree ranges else layered tree ranges) → Framed tree frames nest (range ∷ ranges)
    go true e on f = framed_head range (layered tree ranges) ranges f refl on
    go false e on f = passed (no_frame tree range e) (on nest f)

-- ---- one layer more

module _ (by_layer by_new : List (Option ℕ)) (frames new : List Layer) (layer : Layer) where
  pub added_extends : (b : Bool) → IsLayerAdded by_layer frames by_new new layer b → Extends frames new
  added_extends false a = ([], a.0 ∙ sym (append_nil frames))
  added_extends true a = (record { range = layer.range; outer = frame_at by_layer layer.outer } ∷ [], a.0)

  abbrev last_of : (b : Bool) → Option ℕ
  last_of false = frame_at by_layer layer.outer
  last_of true = Some (length frames)

  added_last : (b : Bool) → IsLayerAdded by_layer frames by_new new layer b → by_new ≡ by_layer ++ last_of b ∷ []
  added_last false a = a.1
  added_last true a = a.1

  last_below : (b : Bool) → IsLayerAdded by_layer frames by_new new layer b → LayersAreLinked by_layer frames → IsBelow (length by_layer) layer.outer → IsBelow (length new) (last_of b)
  last_below false a linked out = rw a.0 (is_below by_layer frames layer.outer linked out)
  last_below true a linked out = rw a.0 (omega (arith, length-append frames (record { range = layer.range; outer = frame_at by_layer layer.outer } ∷ [])))

  out_more : (b : Bool) → IsLayerAdded by_layer frames by_new new layer b → LayersAreLinked by_layer frames → IsBelow (length by_layer) layer.outer
      → (i : ℕ) (frame : Layer) → slice_get new i ≡ Some frame → IsBelow i frame.outer
  out_more false a linked out i frame e = linked.out i frame (subst (λ (xs : List Layer). slice_get xs i ≡ Some frame) a.0 e)
  out_more true a linked out i frame e =
      let last : Layer = record { range = layer.range; outer = frame_at by_layer layer.outer } in
      ⊎_elim (λ h. linked.out i frame h)
      (λ h. subst (λ (l : Layer). IsBelow i l.outer) h.1 (subst (λ k. IsBelow k (frame_at by_layer layer.outer)) (sym h.0) (is_below by_layer frames layer.outer linked out)))
      (get_pushed frames last frame i (subst (λ (xs : List Layer). slice_get xs i ≡ Some frame) a.0 e))

  pub linked_more : (b : Bool) → IsLayerAdded by_layer frames by_new new layer b → LayersAreLinked by_layer frames → IsBelow (length by_layer) layer.outer → LayersAreLinked by_new new
  linked_more b a linked out = record {
    out = out_more b a linked out;
    there = λ at nest e. ⊎_elim
        (λ h. below_more (length frames) (length new) nest (extends_longer frames new (added_extends b a)) (linked.there at nest h))
        (λ h. subst (λ o. IsBelow (length new) o) h.1 (last_below b a linked out))
        (get_pushed by_layer (last_of b) nest at (subst (λ (xs : List (Option ℕ)). slice_get xs at ≡ Some nest) (added_last b a) e));
  }

  tells_last : (tree : Built) (b : Bool) → IsLayerAdded by_layer frames by_new new layer b → b ≡ makes_frame tree layer.range → (more : List ℕ) → Framed tree frames (frame_at by_layer layer.outer) more
      → Framed tree new (last_of b) (layer.range ∷ more)
  tells_last tree false a e more f = passed (sym e) (rw a.0 f)
  tells_last tree true a e more f =
      let frame : Layer = record { range = layer.range; outer = frame_at by_layer layer.outer } in
      rw a.0 (entered (length frames) frame (get_last frames frame) (sym e) (framed_more (frame ∷ []) f))

  pub chained_more : (tree : Built) (layers : List Layer) (b : Bool) → IsLayerAdded by_layer frames by_new new layer b → b ≡ makes_frame tree layer.range → slice_get layers (length by_layer) ≡ Some layer → IsBelow (length by_layer) layer.outer
      → AreChained tree layers by_layer frames → AreChained tree layers by_new new
  chained_more tree layers b a e is out are = record {
    tells = λ number nest at ranges n. ⊎_elim
        (λ h. framed_extends tree frames new nest ranges (added_extends b a) (are.tells number nest h ranges n))
        (λ h. let o = nested_in n number layer refl (ap (slice_get layers) h.0 ∙ is) in
        subst (λ x. Framed tree new x ranges) h.1 (subst (λ rs. Framed tree new (last_of b) rs) (sym o.is)
        (tells_last tree b a e o.more (framed_at tree layers by_layer frames layer.outer o.more are out o.rest))))
        (get_pushed by_layer (last_of b) nest number (subst (λ (xs : List (Option ℕ)). slice_get xs number ≡ Some nest) (added_last b a) at));
  }

-- ---- one node more

pub about_more : (tree : Built) (count : ℕ) (about : List (Option ℕ)) (frames new : List Layer) (nest : Option ℕ) → AreAboutBefore tree count about frames → Extends frames new
    → ((i : ℕ) (frame : Layer) → slice_get new i ≡ Some frame → IsBelow i frame.outer) → IsBelow (length new) nest
    → TellsFrames tree new count nest → AreAboutBefore tree (count + 1) (about ++ nest ∷ []) new
about_more tree count about frames new nest before extends out there tells =
    let long = before.long in
    record {
      long = omega (arith, length-append about (nest ∷ []));
      linked = record {
        out = out;
        there = λ at n e. ⊎_elim
            (λ h. below_more (length frames) (length new) n (extends_longer frames new extends) (before.linked.there at n h))
            (λ h. subst (λ o. IsBelow (length new) o) h.1 there)
            (get_pushed about nest n at e);
      };
      tells = λ at n e. ⊎_elim
          (λ h. let t = before.tells at n h in record { ranges = t.ranges; lies = t.lies; framed = framed_extends tree frames new n t.ranges extends t.framed })
          (λ h. subst (λ o. TellsFrames tree new at o) h.1 (subst (λ k. TellsFrames tree new k nest) (sym (h.0 ∙ long)) tells))
          (get_pushed about nest n at e);
    }

-- what a layer about a node tells
pub tells_by : (tree : Built) (tables : RangeTables) (at : ℕ) (layer : Option ℕ) (by_layer : List (Option ℕ)) (frames : List Layer) → AreRanges tree tables → at < length tables.nests.about
    → ((ranges : List ℕ) → Lies tree at ranges → Nested tables.nests.layers layer (layered tree ranges)) → AreChained tree tables.nests.layers by_layer frames → IsBelow (length by_layer) layer
    → TellsFrames tree frames at (frame_at by_layer layer)
tells_by tree tables at layer by_layer frames are low nested chained there =
    let t = are.nests.about at (slice_index_or tables.nests.about at None) (read tables.nests.about at None low) in
    record { ranges = t.ranges; lies = t.lies; framed = framed_on tree frames t.ranges (frame_at by_layer layer) (framed_at tree tables.nests.layers by_layer frames layer (layered tree t.ranges) chained there (nested t.ranges t.lies)) }

-- ---- a layer that is the same as an earlier one

nested_twin : {layers : List Layer} {nest : Option ℕ} {ranges : List ℕ} (number twin : ℕ) → nest ≡ Some number → slice_get layers twin ≡ slice_get layers number → Nested layers nest ranges → Nested layers (Some twin) ranges
nested_twin number twin e same outermost = absurd (cc)
nested_twin {layers = layers} number twin e same (within i layer is rest) = within twin layer (same ∙ ap (slice_get layers) (sym (some_one e)) ∙ is) rest

pub chained_twin : (tree : Built) (layers : List Layer) (by_layer : List (Option ℕ)) (frames : List Layer) (number twin : ℕ) (frame : Option ℕ) → number ≡ length by_layer → slice_get by_layer twin ≡ Some frame
    → slice_get layers twin ≡ slice_get layers number → AreChained tree layers by_layer frames → AreChained tree layers (by_layer ++ frame ∷ []) frames
chained_twin tree layers by_layer frames number twin frame all at same are = record {
  tells = λ n nest e ranges nested. ⊎_elim
      (λ h. are.tells n nest h ranges nested)
      (λ h. are.tells twin nest (at ∙ ap (λ (o : Option ℕ). Some o) h.1) ranges (nested_twin number twin refl same (subst (λ k. Nested layers (Some k) ranges) (h.0 ∙ sym all) nested)))
      (get_pushed by_layer frame nest n e);
}
