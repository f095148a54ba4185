-- Where definitions stand, as they are looked up along chains.
use Rattle.std.proofs.Common.{◌≡◌, ◌<◌, ◌≤◌, ℕ, suc, ◌+◌, Bool, true, false, List, [], ◌∷◌, ◌++◌, length, refl, sym, ap, ◌∙◌, arith, subst, ⊎_elim, Some, None, slice_get, Option}
use Rattle.std.specs.Prelude.{slice_index_or, nat_lt, if◌then◌else◌}
use Rattle.std.proofs.lemmas.Bool.{false≢true}
use Rattle.std.proofs.lemmas.Bool.Decides.{nat_tests}
use Rattle.a68_ranges.proofs.Taking.{some_one, read, past, below_or}
use Rattle.a68_ranges.proofs.Looking.{lies_one}
use Rattle.a68_ranges.specs.Nodes.{kind_at}
use Rattle.a68_ranges.specs.Definitions.{declared_in}
use Rattle.a68_ranges.specs.Surroundings.{Lies}
use Rattle.a68_ranges.specs.Tables.{at_key}
use Rattle.a68_ranges.specs.declared.nests.Layer.{Layer}
use Rattle.a68_frames.proofs.Slotting.{place_is}
use Rattle.a68_frames.specs.Frames.{makes, makes_frame, slots_in, frames_of, moved, place_of, way_by, way_from, IsFirstWay, SlotStandsAt, WaysAreOne}
use Rattle.a68_frames.specs.Tables.{Framed, outermost, passed, entered, FindsSlot, nowhere, here, further, IsPlaceIn, AreSlotsBefore, AreFrames, IsWay, FrameTables}
use Rattle.a68_tree.specs.Trees.{Built}
use Rattle.a68_tree.specs.declared.kind.NodeKind.{NodeKind}
use Rattle.a68_tree.specs.declared.kind.NodeKind.TheVariants as kind
use Rattle.a68_tree.specs.declared.node.FrameStep.{FrameStep}

-- ---- the walk outwards

pub moved_none : (found : Option FrameStep) → moved 0 found ≡ found
moved_none None = refl
moved_none (Some step) = let e : step.hops + 0 ≡ step.hops = omega arith in ap (λ n. Some (record { hops = n; slot = step.slot })) e

-- ---- slots at any number

slots_past : (tree : Built) (range : ℕ) → length tree.nodes ≤ range → slots_in tree range ≡ []
unfolding slots_in declared_in
slots_past tree range h = rw (past tree.nodes range h) refl

pub place_there : (tree : Built) (entries : List ((ℕ × ℕ) × ℕ)) (counts : List ℕ) (made : List Bool) → AreSlotsBefore tree (length tree.nodes) entries counts made
    → (range d : ℕ) → at_key entries range d ≡ place_of (slots_in tree range) d
place_there tree entries counts made are range d =
    ⊎_elim (λ h. are.places range d h)
    (λ h. rw (are.none range d h, slots_past tree range h) refl)
    (below_or range (length tree.nodes))

pub placed : (tree : Built) (entries : List ((ℕ × ℕ) × ℕ)) (counts : List ℕ) (made : List Bool) → AreSlotsBefore tree (length tree.nodes) entries counts made
    → (range d : ℕ) → IsPlaceIn (slots_in tree range) d (at_key entries range d)
placed tree entries counts made are range d =
    subst (IsPlaceIn (slots_in tree range) d) (sym (place_there tree entries counts made are range d)) (place_is (slots_in tree range) d)

positive : (n : ℕ) → nat_lt 0 (suc n) ≡ true
positive n = grind (arith, nat_tests)

no_length : (xs : List ℕ) (form : NodeKind) → makes form (length xs) ≡ false → (place d : ℕ) → slice_get xs place ≡ Some d → ⊥
no_length [] form e place d is = absurd (cc)
no_length (x ∷ xs) kind.RoutineText e place d is = absurd (false≢true (sym e))
no_length (x ∷ xs) _ e place d is = absurd (false≢true (sym e ∙ positive (length xs)))

-- a range that makes no frame has no slot
pub no_slot : (tree : Built) (range : ℕ) → makes_frame tree range ≡ false → (place d : ℕ) → slice_get (slots_in tree range) place ≡ Some d → ⊥
unfolding makes_frame
no_slot tree range e place d is = no_length (slots_in tree range) (kind_at tree range) e place d is

-- ---- from the chain to the ranges

pub record Stands (tree : Built) (d : ℕ) (ranges : List ℕ) (hops slot : ℕ) : Type 0 where
  pub inner : List ℕ
  pub range : ℕ
  pub outer : List ℕ
  pub whole : ranges ≡ inner ++ range ∷ outer
  pub slot_is : slice_get (slots_in tree range) slot ≡ Some d
  pub hops_are : hops ≡ frames_of tree inner

-- what was found of a definition in these ranges
abbrev pub Found : Built → (d : ℕ) → List ℕ → Option FrameStep → Type 0
Found tree d ranges None = (inner outer : List ℕ) (range slot : ℕ) → ranges ≡ inner ++ range ∷ outer → slice_get (slots_in tree range) slot ≡ Some d → ⊥
Found tree d ranges (Some step) = Stands tree d ranges step.hops step.slot

first_is : {x y : ℕ} {xs ys : List ℕ} → x ∷ xs ≡ y ∷ ys → x ≡ y
first_is e = cc

rest_is : {x y : ℕ} {xs ys : List ℕ} → x ∷ xs ≡ y ∷ ys → xs ≡ ys
rest_is e = cc

found_none : (tree : Built) (d : ℕ) → Found tree d [] None
found_none tree d [] outer range slot e is = absurd (cc)
found_none tree d (x ∷ inner) outer range slot e is = absurd (cc)

none_more : (tree : Built) (d first : ℕ) (more : List ℕ) → ((slot : ℕ) → slice_get (slots_in tree first) slot ≡ Some d → ⊥) → Found tree d more None → Found tree d (first ∷ more) None
none_more tree d first more never none [] outer range slot e is = never slot (subst (λ r. slice_get (slots_in tree r) slot ≡ Some d) (sym (first_is e)) is)
none_more tree d first more never none (x ∷ inner) outer range slot e is = none inner outer range slot (rest_is e) is

frames_by : (tree : Built) (first n : ℕ) (inner : List ℕ) (b : Bool) → makes_frame tree first ≡ b → n ≡ frames_of tree inner → (if b then n + 1 else n) ≡ frames_of tree (first ∷ inner)
frames_by tree first n inner b e is = rw (e, is) refl

found_passed : (tree : Built) (d first : ℕ) (more : List ℕ) (found : Option FrameStep) → makes_frame tree first ≡ false → Found tree d more found → Found tree d (first ∷ more) found
found_passed tree d first more None e none = none_more tree d first more (λ slot is. no_slot tree first e slot d is) none
found_passed tree d first more (Some step) e s = record {
  inner = first ∷ s.inner;
  range = s.range;
  outer = s.outer;
  whole = ap (λ xs. first ∷ xs) s.whole;
  slot_is = s.slot_is;
  hops_are = frames_by tree first step.hops s.inner false e s.hops_are;
}

found_moved : (tree : Built) (d first : ℕ) (more : List ℕ) (found : Option FrameStep) → makes_frame tree first ≡ true → ((slot : ℕ) → slice_get (slots_in tree first) slot ≡ Some d → ⊥) → Found tree d more found
    → Found tree d (first ∷ more) (moved 1 found)
found_moved tree d first more None e never none = none_more tree d first more never none
found_moved tree d first more (Some step) e never s = record {
  inner = first ∷ s.inner;
  range = s.range;
  outer = s.outer;
  whole = ap (λ xs. first ∷ xs) s.whole;
  slot_is = s.slot_is;
  hops_are = frames_by tree first step.hops s.inner true e s.hops_are;
}

found_first : (tree : Built) (d first slot : ℕ) (more : List ℕ) → slice_get (slots_in tree first) slot ≡ Some d → Stands tree d (first ∷ more) 0 slot
found_first tree d first slot more is = record { inner = []; range = first; outer = more; whole = refl; slot_is = is; hops_are = refl }

module _ (tree : Built) (frames : List Layer) (entries : List ((ℕ × ℕ) × ℕ)) (d : ℕ) (place : (range : ℕ) → IsPlaceIn (slots_in tree range) d (at_key entries range d)) where
  pub none_at : {nest : Option ℕ} {found : Option FrameStep} → FindsSlot frames entries d nest found → nest ≡ None → found ≡ None
  none_at nowhere e = refl
  none_at (here i frame is at) e = absurd (cc)
  none_at (further i frame is at rest) e = absurd (cc)

  found_at : {nest : Option ℕ} {found : Option FrameStep} (more : List ℕ) → FindsSlot frames entries d nest found → (i : ℕ) (frame : Layer) → nest ≡ Some i → slice_get frames i ≡ Some frame → makes_frame tree frame.range ≡ true
      → ((rest : Option FrameStep) → FindsSlot frames entries d frame.outer rest → Found tree d more rest) → Found tree d (frame.range ∷ more) found
  found_at more nowhere i frame e is made go = absurd (cc)
  found_at more (here {slot = slot} j other it at) i frame e is made go =
      let same : other ≡ frame = some_one (sym it ∙ ap (slice_get frames) (some_one e) ∙ is) in
      found_first tree d frame.range slot more (subst (IsPlaceIn (slots_in tree frame.range) d) (subst (λ (l : Layer). at_key entries l.range d ≡ Some slot) same at) (place frame.range))
  found_at more (further {found = rest} j other it at out) i frame e is made go =
      let same : other ≡ frame = some_one (sym it ∙ ap (slice_get frames) (some_one e) ∙ is) in
      found_moved tree d frame.range more rest made
      (subst (IsPlaceIn (slots_in tree frame.range) d) (subst (λ (l : Layer). at_key entries l.range d ≡ None) same at) (place frame.range))
      (go rest (subst (λ (l : Layer). FindsSlot frames entries d l.outer rest) same out))

  pub found_in : {to : Option ℕ} {ranges : List ℕ} → Framed tree frames to ranges → (nest : Option ℕ) (found : Option FrameStep) → nest ≡ to → FindsSlot frames entries d nest found → Found tree d ranges found
  found_in outermost nest found e r = subst (Found tree d []) (sym (none_at r e)) (found_none tree d)
  found_in (passed {range = range} {more = more} frameless rest) nest found e r = found_passed tree d range more found frameless (found_in rest nest found e r)
  found_in (entered {more = more} i frame is made rest) nest found e r = found_at more r i frame e is made (λ f q. found_in rest frame.outer f refl q)

-- ---- the one way from the ranges

no_place : (xs : List ℕ) (d : ℕ) → ((place n : ℕ) → slice_get xs place ≡ Some n → ⊥) → place_of xs d ≡ None
no_place [] d never = refl
no_place (x ∷ xs) d never = absurd (never 0 x refl)

module _ (tree : Built) (frames : List Layer) (entries : List ((ℕ × ℕ) × ℕ)) (d : ℕ) (there : (range : ℕ) → at_key entries range d ≡ place_of (slots_in tree range) d) where
  way_past : (range : ℕ) (rest : Option FrameStep) → makes_frame tree range ≡ false → rest ≡ way_from (place_of (slots_in tree range) d) (frames_of tree (range ∷ [])) rest
  way_past range rest frameless =
      rw (no_place (slots_in tree range) d (no_slot tree range frameless), frameless) (sym (moved_none rest))

  way_here : (range slot : ℕ) (rest : Option FrameStep) → at_key entries range d ≡ Some slot → Some (record { hops = 0; slot = slot }) ≡ way_from (place_of (slots_in tree range) d) (frames_of tree (range ∷ [])) rest
  way_here range slot rest at = rw (sym (there range) ∙ at) refl

  way_further : (range : ℕ) (rest : Option FrameStep) → makes_frame tree range ≡ true → at_key entries range d ≡ None → moved 1 rest ≡ way_from (place_of (slots_in tree range) d) (frames_of tree (range ∷ [])) rest
  way_further range rest made at = rw (sym (there range) ∙ at, made) refl

  way_at : {nest : Option ℕ} {found : Option FrameStep} (more : List ℕ) → FindsSlot frames entries d nest found → (i : ℕ) (frame : Layer) → nest ≡ Some i → slice_get frames i ≡ Some frame → makes_frame tree frame.range ≡ true
      → ((rest : Option FrameStep) → FindsSlot frames entries d frame.outer rest → rest ≡ way_by tree d more) → found ≡ way_by tree d (frame.range ∷ more)
  way_at more nowhere i frame e is made go = absurd (cc)
  way_at more (here {slot = slot} j other it at) i frame e is made go =
      let same : other ≡ frame = some_one (sym it ∙ ap (slice_get frames) (some_one e) ∙ is) in
      way_here frame.range slot (way_by tree d more) (subst (λ (l : Layer). at_key entries l.range d ≡ Some slot) same at)
  way_at more (further {found = rest} j other it at out) i frame e is made go =
      let same : other ≡ frame = some_one (sym it ∙ ap (slice_get frames) (some_one e) ∙ is) in
      ap (moved 1) (go rest (subst (λ (l : Layer). FindsSlot frames entries d l.outer rest) same out))
      ∙ way_further frame.range (way_by tree d more) made (subst (λ (l : Layer). at_key entries l.range d ≡ None) same at)

  way_in : {to : Option ℕ} {ranges : List ℕ} → Framed tree frames to ranges → (nest : Option ℕ) (found : Option FrameStep) → nest ≡ to → FindsSlot frames entries d nest found → found ≡ way_by tree d ranges
  way_in outermost nest found e r = none_at tree frames entries d (λ range. subst (IsPlaceIn (slots_in tree range) d) (sym (there range)) (place_is (slots_in tree range) d)) r e
  way_in (passed {range = range} {more = more} frameless rest) nest found e r = way_in rest nest found e r ∙ way_past range (way_by tree d more) frameless
  way_in (entered {more = more} i frame is made rest) nest found e r = way_at more r i frame e is made (λ f q. way_in rest frame.outer f refl q)

-- ---- the way to a definition

stands_way : (tree : Built) (at d : ℕ) (ranges : List ℕ) (found : Option FrameStep) → Lies tree at ranges → Found tree d ranges found → IsWay tree at d found
stands_way tree at d ranges None lies none = λ hops slot s. none s.inner s.outer s.range slot (lies_one lies s.lies refl ∙ s.whole) s.slot_is
stands_way tree at d ranges (Some step) lies s =
    record { inner = s.inner; range = s.range; outer = s.outer; ranges = ranges; lies = lies; whole = s.whole; slot_is = s.slot_is; hops_are = s.hops_are }

pub way_is : (tree : Built) (t : FrameTables) (at d : ℕ) (found : Option FrameStep) → AreFrames tree t → at < length t.chain.about
    → FindsSlot t.chain.frames t.places d (slice_index_or t.chain.about at None) found → IsWay tree at d found
way_is tree t at d found are low r =
    let nest : Option ℕ = slice_index_or t.chain.about at None in
    let tells = are.chain.tells at nest (read t.chain.about at None low) in
    stands_way tree at d tells.ranges found tells.lies
    (found_in tree t.chain.frames t.places d (λ range. placed tree t.places t.slots t.makes are.slots range d) tells.framed nest found refl r)

pub first_way_is : (tree : Built) (t : FrameTables) (at d : ℕ) (found : Option FrameStep) → AreFrames tree t → at < length t.chain.about
    → FindsSlot t.chain.frames t.places d (slice_index_or t.chain.about at None) found → IsFirstWay tree at d found
first_way_is tree t at d found are low r =
    let nest : Option ℕ = slice_index_or t.chain.about at None in
    let tells = are.chain.tells at nest (read t.chain.about at None low) in
    (tells.ranges, tells.lies, way_in tree t.chain.frames t.places d (λ range. place_there tree t.places t.slots t.makes are.slots range d) tells.framed nest found refl r)

pub one_way : WaysAreOne
one_way tree at d one other a b = a.2 ∙ ap (way_by tree d) (lies_one a.1 b.1 refl) ∙ sym b.2

pub stands_by : (tree : Built) (at d hops slot : ℕ) (found : Option FrameStep) (step : FrameStep) → IsWay tree at d found → SlotStandsAt tree at d hops slot → ((s : FrameStep) → found ≡ Some s → step ≡ s)
    → SlotStandsAt tree at d step.hops step.slot
stands_by tree at d hops slot None step way stands is = absurd (way hops slot stands)
stands_by tree at d hops slot (Some s) step way stands is = rw (is s refl) way
