-- What ranges use from outside, as needs are lowered.
use Rattle.std.proofs.Common.{◌≡◌, ◌<◌, ◌≤◌, ◌⊎◌, ℕ, ◌+◌, Bool, true, false, List, [], ◌∷◌, ◌++◌, length, refl, sym, ap, ◌∙◌, arith, subst, inl, inr, ⊎_elim, Some, None, slice_get, Option}
use Rattle.std.specs.Prelude.{slice_index_or, nat_lt, if◌then◌else◌}
use Rattle.std.proofs.lemmas.Bool.{false≢true}
use Rattle.std.proofs.lemmas.Bool.Decides.{eqb_tells, nat_tests}
use Rattle.a68_ranges.proofs.Taking.{some_one, read, is_there, past, below_or}
use Rattle.a68_ranges.proofs.Looking.{lies_one, defines_there}
use Rattle.a68_ranges.specs.Nodes.{kind_at, name_at}
use Rattle.a68_ranges.proofs.Single.{definition_one}
use Rattle.a68_ranges.specs.Definitions.{defines, FirstDefinition, here, further, IsWordDefinition, Undefined}
use Rattle.a68_ranges.specs.Standard.{IsTagOf}
use Rattle.a68_ranges.specs.Tables.{at_key}
use Rattle.a68_ranges.specs.Twice.{IsTwice, single_tag}
use Rattle.a68_ranges.specs.declared.nests.Layer.{Layer}
use Rattle.a68_ranges.specs.declared.sort.IndicatorKind.TheVariants as sorts
use Rattle.a68_frames.proofs.Finding.{no_slot, none_at, found_in, placed, Found}
use Rattle.a68_frames.specs.Frames.{makes_frame, slots_in, frames_of, moved}
use Rattle.a68_frames.specs.Needs.{Innermost, Uses, outside, within, HasSlotFor, UsesSlotAt, UsesTag, IsNeed}
use Rattle.a68_frames.specs.Needs.{here as innermost_here, further as innermost_further}
use Rattle.a68_frames.specs.Outlooks.{CrossesText}
use Rattle.a68_ranges.specs.Links.{is_routine_text}
use Rattle.a68_frames.specs.Tables.{AreTexts, Framed, outermost, passed, entered, TellsFrames, FindsSlot, nowhere, Crosses, crossed, onwards, IsPlaceIn, IsAtMost, Lowers, AreLowered, IsOneLowered, least_of, lowered, TextUsesTagAt, TextUsesSlotAt, UsesBefore, AreFrames, FrameTables, AreNeedsBefore, IsApplied, is_tag, below}
use Rattle.a68_frames.specs.Tables.{here as reaches_here, further as reaches_further}
use Rattle.a68_tree.specs.Trees.{Built}
use Rattle.a68_tree.specs.declared.node.FrameStep.{FrameStep}
use Rattle.a68_tree.specs.declared.node.Node.{Node}
use Rattle.std.specs.Option.{option_map_or}
use Rattle.a68_tree.specs.declared.kind.NodeKind.{NodeKind}
use Rattle.a68_tree.specs.declared.kind.NodeKind.TheVariants as kind

-- ---- relations over lists of ranges, taken apart

head_is : {x y : ℕ} {xs ys : List ℕ} → x ∷ xs ≡ y ∷ ys → x ≡ y
head_is e = cc

tail_is : {x y : ℕ} {xs ys : List ℕ} → x ∷ xs ≡ y ∷ ys → xs ≡ ys
tail_is e = cc

module _ (tree : Built) (Has : ℕ → Type 0) where
  innermost_one : {xs ys : List ℕ} {h g : ℕ} → Innermost tree Has xs h → Innermost tree Has ys g → xs ≡ ys → h ≡ g
  innermost_one (innermost_here a) (innermost_here b) e = refl
  innermost_one (innermost_here a) (innermost_further never rest) e = absurd (never (subst Has (head_is e) a))
  innermost_one (innermost_further never rest) (innermost_here b) e = absurd (never (subst Has (sym (head_is e)) b))
  innermost_one (innermost_further {range = r} {hops = h} n a) (innermost_further {range = s} {hops = g} m b) e =
      let same = innermost_one a b (tail_is e) in
      let one = head_is e in
      rw (same, one) refl

  uses_in : {ranges : List ℕ} {user hops : ℕ} → Uses tree Has ranges user hops → (r : ℕ) (more : List ℕ) → ranges ≡ r ∷ more
      → (Has r → ⊥) × (((user ≡ r) × Innermost tree Has more hops) ⊎ Uses tree Has more user hops)
  uses_in {hops = hops} (outside never inner) r more e =
      (subst (λ x. Has x → ⊥) (head_is e) never, inl (head_is e, subst (λ xs. Innermost tree Has xs hops) (tail_is e) inner))
  uses_in {user = user} {hops = hops} (within never rest) r more e =
      (subst (λ x. Has x → ⊥) (head_is e) never, inr (subst (λ xs. Uses tree Has xs user hops) (tail_is e) rest))

-- ---- steps along a chain, taken apart

pub crosses_in : {frames : List Layer} {nest : Option ℕ} {steps range left : ℕ} → Crosses frames nest steps range left → (i : ℕ) (frame : Layer) (n : ℕ) → nest ≡ Some i → slice_get frames i ≡ Some frame → steps ≡ n + 1
    → ((range ≡ frame.range) × (left ≡ n)) ⊎ Crosses frames frame.outer n range left
crosses_in {frames = frames} (crossed {left = left} j other it) i frame n e is s =
    let same : other ≡ frame = some_one (sym it ∙ ap (slice_get frames) (some_one e) ∙ is) in
    inl (ap (λ (l : Layer). l.range) same, omega arith)
crosses_in {frames = frames} {left = left} (onwards {steps = m} {range = range} j other it rest) i frame n e is s =
    let same : other ≡ frame = some_one (sym it ∙ ap (slice_get frames) (some_one e) ∙ is) in
    let one : m ≡ n = omega arith in
    inr (subst (λ k. Crosses frames frame.outer k range left) one (subst (λ (l : Layer). Crosses frames l.outer m range left) same rest))

pub no_steps : {frames : List Layer} {nest : Option ℕ} {steps range left : ℕ} → Crosses frames nest steps range left → steps ≡ 0 → ⊥
no_steps (crossed i frame is) e = absurd (omega arith)
no_steps (onwards i frame is rest) e = absurd (omega arith)

pub no_nest : {frames : List Layer} {nest : Option ℕ} {steps range left : ℕ} → Crosses frames nest steps range left → nest ≡ None → ⊥
no_nest (crossed i frame is) e = absurd (cc)
no_nest (onwards i frame is rest) e = absurd (cc)

reaches_on : {frames : List Layer} {entries : List ((ℕ × ℕ) × ℕ)} {d : ℕ} {nest : Option ℕ} {found : Option FrameStep} → FindsSlot frames entries d nest found → (i : ℕ) (frame : Layer) → nest ≡ Some i → slice_get frames i ≡ Some frame
    → ((slot : ℕ) × (at_key entries frame.range d ≡ Some slot) × (found ≡ Some (record { hops = 0; slot = slot })))
    ⊎ ((at_key entries frame.range d ≡ None) × ((rest : Option FrameStep) × FindsSlot frames entries d frame.outer rest × (found ≡ moved 1 rest)))
reaches_on nowhere i frame e is = absurd (cc)
reaches_on {frames = frames} {entries = entries} {d = d} (reaches_here {slot = slot} j other it at) i frame e is =
    let same : other ≡ frame = some_one (sym it ∙ ap (slice_get frames) (some_one e) ∙ is) in
    inl (slot, subst (λ (l : Layer). at_key entries l.range d ≡ Some slot) same at, refl)
reaches_on {frames = frames} {entries = entries} {d = d} (reaches_further {found = rest} j other it at out) i frame e is =
    let same : other ≡ frame = some_one (sym it ∙ ap (slice_get frames) (some_one e) ∙ is) in
    inr (subst (λ (l : Layer). at_key entries l.range d ≡ None) same at, (rest, subst (λ (l : Layer). FindsSlot frames entries d l.outer rest) same out, refl))

-- ---- the walk to a definition passes what uses it

module _ (tree : Built) (Has : ℕ → Type 0) (frames : List Layer) where
  pub record Agrees (nest : Option ℕ) (found : Option FrameStep) (ranges : List ℕ) : Type 0 where
    pub step : FrameStep
    pub is : found ≡ Some step
    pub innermost : Innermost tree Has ranges step.hops
    pub to : (range hops : ℕ) → Crosses frames nest step.hops range hops → (makes_frame tree range ≡ true) × Uses tree Has ranges range hops
    pub from : (range hops : ℕ) → makes_frame tree range ≡ true → Uses tree Has ranges range hops → Crosses frames nest step.hops range hops

  adds_none : (first h : ℕ) → makes_frame tree first ≡ false → h + frames_of tree (first ∷ []) ≡ h
  adds_none first h e = rw e (omega arith)

  adds_one : (first h : ℕ) → makes_frame tree first ≡ true → h + frames_of tree (first ∷ []) ≡ h + 1
  adds_one first h e = rw e refl

  agree_passed : (first : ℕ) (more : List ℕ) (nest : Option ℕ) (found : Option FrameStep) → makes_frame tree first ≡ false → (Has first → ⊥) → Agrees nest found more → Agrees nest found (first ∷ more)
  agree_passed first more nest found frameless never a = record {
    step = a.step;
    is = a.is;
    innermost = subst (Innermost tree Has (first ∷ more)) (adds_none first a.step.hops frameless) (innermost_further never a.innermost);
    to = λ range hops c. let t = a.to range hops c in (t.0, within never t.1);
    from = λ range hops makes u. ⊎_elim
        (λ h. absurd (false≢true (sym frameless ∙ ap (makes_frame tree) (sym h.0) ∙ makes)))
        (λ h. a.from range hops makes h) (uses_in tree Has u first more refl).1;
  }

  agree_here : (i : ℕ) (frame : Layer) (more : List ℕ) (nest : Option ℕ) (found : Option FrameStep) → Has frame.range → (slot : ℕ) → found ≡ Some (record { hops = 0; slot = slot })
      → Agrees nest found (frame.range ∷ more)
  agree_here i frame more nest found has slot is = record {
    step = record { hops = 0; slot = slot };
    is = is;
    innermost = innermost_here has;
    to = λ range hops c. absurd (no_steps c refl);
    from = λ range hops makes u. absurd ((uses_in tree Has u frame.range more refl).0 has);
  }

  agree_further : (i : ℕ) (frame : Layer) (more : List ℕ) (nest : Option ℕ) (found rest : Option FrameStep) → nest ≡ Some i → slice_get frames i ≡ Some frame → makes_frame tree frame.range ≡ true
      → (Has frame.range → ⊥) → found ≡ moved 1 rest → Agrees frame.outer rest more → Agrees nest found (frame.range ∷ more)
  agree_further i frame more nest found rest e is makes never moves a = record {
    step = record { hops = a.step.hops + 1; slot = a.step.slot };
    is = moves ∙ ap (moved 1) a.is;
    innermost = subst (Innermost tree Has (frame.range ∷ more)) (adds_one frame.range a.step.hops makes) (innermost_further never a.innermost);
    to = λ range hops c. ⊎_elim
        (λ h. (
          subst (λ r. makes_frame tree r ≡ true) (sym h.0) makes,
          subst (λ r. Uses tree Has (frame.range ∷ more) r hops) (sym h.0)
              (outside never (subst (Innermost tree Has more) (sym h.1) a.innermost)),
        ))
        (λ h. let t = a.to range hops h in (t.0, within never t.1))
        (crosses_in c i frame a.step.hops e is refl);
    from = λ range hops m u. subst (λ n. Crosses frames n (a.step.hops + 1) range hops) (sym e) (⊎_elim
        (λ h. let same = innermost_one tree Has h.1 a.innermost refl in
        subst (λ r. Crosses frames (Some i) (a.step.hops + 1) r hops) (sym h.0)
        (subst (λ k. Crosses frames (Some i) (k + 1) frame.range hops) same (crossed i frame is)))
        (λ h. onwards i frame is (a.from range hops m h))
        (uses_in tree Has u frame.range more refl).1);
  }

moved_some : (rest : Option FrameStep) (step : FrameStep) → moved 1 rest ≡ Some step → (s : FrameStep) × (rest ≡ Some s)
moved_some None step e = absurd (cc)
moved_some (Some s) step e = (s, refl)

record Split (tree : Built) (d : ℕ) (ranges : List ℕ) : Type 0 where
  inner : List ℕ
  outer : List ℕ
  range : ℕ
  slot : ℕ
  whole : ranges ≡ inner ++ range ∷ outer
  slot_is : slice_get (slots_in tree range) slot ≡ Some d

innermost_split : (tree : Built) (d : ℕ) {ranges : List ℕ} {hops : ℕ} → Innermost tree (HasSlotFor tree d) ranges hops → Split tree d ranges
innermost_split tree d (innermost_here {range = range} {more = more} has) = record { inner = []; outer = more; range = range; slot = has.0; whole = refl; slot_is = has.1 }
innermost_split tree d (innermost_further {range = range} never rest) =
    let s = innermost_split tree d rest in
    record { inner = range ∷ s.inner; outer = s.outer; range = s.range; slot = s.slot; whole = ap (λ xs. range ∷ xs) s.whole; slot_is = s.slot_is }

uses_split : (tree : Built) (d : ℕ) {ranges : List ℕ} {user hops : ℕ} → Uses tree (HasSlotFor tree d) ranges user hops → Split tree d ranges
uses_split tree d (outside {user = user} never inner) =
    let s = innermost_split tree d inner in
    record { inner = user ∷ s.inner; outer = s.outer; range = s.range; slot = s.slot; whole = ap (λ xs. user ∷ xs) s.whole; slot_is = s.slot_is }
uses_split tree d (within {range = range} never rest) =
    let s = uses_split tree d rest in
    record { inner = range ∷ s.inner; outer = s.outer; range = s.range; slot = s.slot; whole = ap (λ xs. range ∷ xs) s.whole; slot_is = s.slot_is }

module _ (tree : Built) (d : ℕ) (frames : List Layer) (entries : List ((ℕ × ℕ) × ℕ)) (place : (range : ℕ) → IsPlaceIn (slots_in tree range) d (at_key entries range d)) where
  placed_none : (range slot : ℕ) → at_key entries range d ≡ None → slice_get (slots_in tree range) slot ≡ Some d → ⊥
  placed_none range slot e is = let p = subst (IsPlaceIn (slots_in tree range) d) e (place range) in p slot is

  placed_some : (range slot : ℕ) → at_key entries range d ≡ Some slot → slice_get (slots_in tree range) slot ≡ Some d
  placed_some range slot e = subst (IsPlaceIn (slots_in tree range) d) e (place range)

  -- the walk that finds a slot passes what uses it
  agree_slots : {to : Option ℕ} {ranges : List ℕ} → Framed tree frames to ranges → (nest : Option ℕ) (found : Option FrameStep) (step : FrameStep) → nest ≡ to → found ≡ Some step → FindsSlot frames entries d nest found
      → Agrees tree (HasSlotFor tree d) frames nest found ranges
  agree_slots outermost nest found step e is r = let f : None ≡ Some step = sym (none_at tree frames entries d place r e) ∙ is in absurd (cc)
  agree_slots (passed {range = range} {more = more} frameless rest) nest found step e is r =
      agree_passed tree (HasSlotFor tree d) frames range more nest found frameless (λ w. no_slot tree range frameless w.0 d w.1) (agree_slots rest nest found step e is r)
  agree_slots (entered {more = more} i frame at made rest) nest found step e is r =
      ⊎_elim
      (λ h. agree_here tree (HasSlotFor tree d) frames i frame more nest found (h.0, placed_some frame.range h.0 h.1) h.0 h.2)
      (λ h. let s = moved_some h.1.0 step (sym h.1.2 ∙ is) in
      agree_further tree (HasSlotFor tree d) frames i frame more nest found h.1.0 e at made (λ w. placed_none frame.range w.0 h.0 w.1) h.1.2 (agree_slots rest frame.outer h.1.0 s.0 refl s.1 h.1.1))
      (reaches_on r i frame e at)

  -- where none is found, nothing uses it
  unused_slots : {to : Option ℕ} {ranges : List ℕ} → Framed tree frames to ranges → (nest : Option ℕ) (found : Option FrameStep) → nest ≡ to → found ≡ None → FindsSlot frames entries d nest found
      → (user hops : ℕ) → Uses tree (HasSlotFor tree d) ranges user hops → ⊥
  unused_slots {ranges = ranges} framed nest found e is r user hops u =
      let none = subst (Found tree d ranges) is (found_in tree frames entries d place framed nest found e r) in
      let h = uses_split tree d u in
      none h.inner h.outer h.range h.slot h.whole h.slot_is

-- ---- needs that are lowered

pub same_twice : {X : Type 0} (xs : List X) (k : ℕ) (x y : X) → slice_get xs k ≡ Some x → slice_get xs k ≡ Some y → x ≡ y
same_twice xs k x y a b = some_one (sym a ∙ b)

at_most_self : (n : ℕ) (o : Option ℕ) → o ≡ Some n → IsAtMost n o
at_most_self n o e = rw e (omega arith)

pub lowered_none : (Used : ℕ → ℕ → Type 0) (needs : List (Option ℕ)) → ((range hops : ℕ) → Used range hops → ⊥) → AreLowered Used needs needs
lowered_none Used needs never = record {
  long = refl;
  each = λ range x y a b. let e = same_twice needs range x y a b in record {
    source = λ n h. inl (e ∙ h);
    kept = λ n h. at_most_self n y (sym e ∙ h);
    all = λ n u. absurd (never range n u);
  };
}

pub lowered_same : (Used Other : ℕ → ℕ → Type 0) (old new : List (Option ℕ)) → ((range hops : ℕ) → Used range hops → Other range hops) → ((range hops : ℕ) → Other range hops → Used range hops)
    → AreLowered Used old new → AreLowered Other old new
lowered_same Used Other old new to from are = record {
  long = are.long;
  each = λ range x y a b. let l = are.each range x y a b in record {
    source = λ n h. ⊎_elim (λ s. inl s) (λ s. inr (to range n s)) (l.source n h);
    kept = l.kept;
    all = λ n u. l.all n (from range n u);
  };
}

at_most_on : (m n : ℕ) (o : Option ℕ) → m ≤ n → IsAtMost m o → IsAtMost n o
at_most_on m n None h a = a
at_most_on m n (Some k) h a = omega arith

through : (n : ℕ) (mid new : Option ℕ) → IsAtMost n mid → ((m : ℕ) → mid ≡ Some m → IsAtMost m new) → IsAtMost n new
through n None new a kept = absurd a
through n (Some m) new a kept = at_most_on m n new a (kept m refl)

least_under : (o : Option ℕ) (h : ℕ) → least_of o h ≤ h
least_under None h = omega arith
least_under (Some k) h = omega arith

least_source : (o : Option ℕ) (h n : ℕ) → least_of o h ≡ n → (o ≡ Some n) ⊎ (h ≡ n)
least_source None h n e = inr e
least_source (Some k) h n e = ⊎_elim (λ l. inl (ap (λ (x : ℕ). Some x) (omega arith))) (λ l. inr (omega arith)) (below_or k h)

least_kept : (n h : ℕ) → least_of (Some n) h ≤ n
least_kept n h = omega arith

-- one range is lowered, and then what the others use
module _ (Used More : ℕ → ℕ → Type 0) (own m : ℕ) (last : Used own m) (before : (range n : ℕ) → More range n → Used range n) (cases : (range n : ℕ) → Used range n → ((range ≡ own) × (n ≡ m)) ⊎ More range n) where
  used_last : (range n : ℕ) → own ≡ range → m ≡ n → Used range n
  used_last range n at_range at_left = subst (λ r. Used r n) at_range (subst (Used own) at_left last)

  lowers_here : (range : ℕ) (x w y : Option ℕ) → own ≡ range → w ≡ Some (least_of x m) → Lowers (More range) w y → Lowers (Used range) x y
  lowers_here range x w y at_range is_w l =
      let at_w : (n : ℕ) → least_of x m ≤ n → IsAtMost n y = λ n h. through n w y (rw is_w h) l.kept in
      record {
        source = λ n h. ⊎_elim
            (λ s. ⊎_elim (λ q. inl q) (λ q. inr (used_last range n at_range q)) (least_source x m n (some_one (sym is_w ∙ s))))
            (λ s. inr (before range n s)) (l.source n h);
        kept = λ n h. at_w n (rw h (least_kept n m));
        all = λ n u. ⊎_elim (λ q. let d = q.1 in let under = least_under x m in at_w n (omega arith)) (λ q. l.all n q) (cases range n u);
      }

  lowers_there : (range : ℕ) (x w y : Option ℕ) → (own ≡ range → ⊥) → w ≡ x → Lowers (More range) w y → Lowers (Used range) x y
  lowers_there range x w y apart is_w l = record {
    source = λ n h. ⊎_elim (λ s. inl (sym is_w ∙ s)) (λ s. inr (before range n s)) (l.source n h);
    kept = λ n h. l.kept n (is_w ∙ h);
    all = λ n u. ⊎_elim (λ q. absurd (apart (sym q.0))) (λ q. l.all n q) (cases range n u);
  }

  pub lower_more : (cur mid final : List (Option ℕ)) → IsOneLowered own m cur mid → AreLowered More mid final → AreLowered Used cur final
  lower_more cur mid final one are = record {
    long = are.long ∙ one.long;
    each = λ range x y a b.
        let w : Option ℕ = slice_index_or mid range None in
        let low = is_there cur range x a in
        let long = one.long in
        let g : slice_get mid range ≡ Some w = read mid range None (omega arith) in
        let l = are.each range w y g b in
        let w_is = one.each range x w a g in
        ⊎_elim
        (λ h. lowers_here range x w y h.1 (w_is ∙ ap (λ t. lowered t m x) h.0) l)
        (λ h. lowers_there range x w y h.1 (w_is ∙ ap (λ t. lowered t m x) h.0) l)
        (eqb_tells own range);
  }

-- ---- the needs by one node more

told_text : (form : NodeKind) → is_routine_text form ≡ true → form ≡ kind.RoutineText
told_text kind.RoutineText e = refl
told_text _ e = absurd (false≢true e)

text_makes : (tree : Built) (text : ℕ) → kind_at tree text ≡ kind.RoutineText → makes_frame tree text ≡ true
unfolding makes_frame
text_makes tree text e = rw e refl

-- no range uses what is not defined in the tree
pub unused : (tree : Built) (at : ℕ) (range hops : ℕ) → (kind_at tree at ≡ kind.Tag → Undefined tree at sorts.Tag (name_at tree at)) → TextUsesTagAt tree at range hops → ⊥
unused tree at range hops none u = none u.1.tag u.1.definition u.1.applied

module _ (tree : Built) (at d : ℕ) (frames : List Layer) (entries : List ((ℕ × ℕ) × ℕ)) (place : (range : ℕ) → IsPlaceIn (slots_in tree range) d (at_key entries range d)) (nest : Option ℕ) (t : TellsFrames tree frames at nest) where
  -- what is found is what uses the definition
  pub lowered_slot : (texts : List Bool) → AreTexts tree texts → (step : FrameStep) (old new : List (Option ℕ)) → FindsSlot frames entries d nest (Some step) → AreLowered (CrossesText frames texts nest step.hops) old new
      → AreLowered (TextUsesSlotAt tree at d) old new
  lowered_slot texts texts_are step old new r lowers =
      let a = agree_slots tree d frames entries place t.framed nest (Some step) step refl refl r in
      let same : step ≡ a.step = some_one a.is in
      lowered_same (CrossesText frames texts nest step.hops) (TextUsesSlotAt tree at d) old new
      (λ range hops c.
      let u = a.to range hops (subst (λ (s : FrameStep). Crosses frames nest s.hops range hops) same c.0) in
      (told_text (kind_at tree range) (sym (texts_are range) ∙ c.1), record { ranges = t.ranges; lies = t.lies; uses = u.1 }))
      (λ range hops u. (
        subst (λ (s : FrameStep). Crosses frames nest s.hops range hops) (sym same)
            (a.from range hops (text_makes tree range u.0) (subst (λ rs. Uses tree (HasSlotFor tree d) rs range hops) (lies_one u.1.lies t.lies refl) u.1.uses)),
        texts_are range ∙ ap is_routine_text u.0,
      ))
      lowers

  -- what has no slot is not used
  pub unused_slot : (found : Option FrameStep) (needs : List (Option ℕ)) → found ≡ None → FindsSlot frames entries d nest found → AreLowered (TextUsesSlotAt tree at d) needs needs
  unused_slot found needs is r =
      lowered_none (TextUsesSlotAt tree at d) needs
      (λ range hops u. unused_slots tree d frames entries place t.framed nest found refl is r range hops
      (subst (λ rs. Uses tree (HasSlotFor tree d) rs range hops) (lies_one u.1.lies t.lies refl) u.1.uses))

-- a use of the tag that a node applies is one of its definition
pub lowered_tag : (tree : Built) → ((id : ℕ) → IsTwice tree id → ⊥) → (at d : ℕ) (old new : List (Option ℕ)) → kind_at tree at ≡ kind.Tag → IsWordDefinition tree at sorts.Tag (name_at tree at) d
    → AreLowered (TextUsesSlotAt tree at d) old new → AreLowered (TextUsesTagAt tree at) old new
lowered_tag tree once at d old new tag def are =
    lowered_same (TextUsesSlotAt tree at d) (TextUsesTagAt tree at) old new
    (λ range hops u. (u.0, record { definition = d; tag = tag; applied = def; uses = u.1 }))
    (λ range hops u.
    let same = definition_one tree sorts.Tag (name_at tree at) single_tag once at u.1.definition d u.1.applied def in
    (u.0, subst (λ x. UsesSlotAt tree at x range hops) same u.1.uses))
    are

lowers_both : (P Q R : ℕ → Type 0) (mid new : Option ℕ) → ((n : ℕ) → P n → R n) → ((n : ℕ) → Q n → R n) → ((n : ℕ) → R n → P n ⊎ Q n) → Lowers P None mid → Lowers Q mid new → Lowers R None new
lowers_both P Q R mid new p q both a b = record {
  source = λ n h. ⊎_elim (λ s. ⊎_elim (λ t. inl t) (λ t. inr (p n t)) (a.source n s)) (λ s. inr (q n s)) (b.source n h);
  kept = λ n h. absurd (cc);
  all = λ n u. ⊎_elim (λ s. through n mid new (a.all n s) b.kept) (λ s. b.all n s) (both n u);
}

pub needs_more : (tree : Built) (count : ℕ) (cur new : List (Option ℕ)) → AreNeedsBefore tree count cur → AreLowered (TextUsesTagAt tree count) cur new → AreNeedsBefore tree (count + 1) new
needs_more tree count cur new are more = record {
  long = more.long ∙ are.long;
  each = λ range need is.
      let mid : Option ℕ = slice_index_or cur range None in
      let low = is_there new range need is in
      let long = more.long in
      let g : slice_get cur range ≡ Some mid = read cur range None (omega arith) in
      lowers_both (UsesBefore tree count range) (TextUsesTagAt tree count range) (UsesBefore tree (count + 1) range) mid need
      (λ n u. let h = u.1 in (u.0, omega arith, u.2))
      (λ n u. (count, omega arith, u))
      (λ n u. let h = u.1 in ⊎_elim (λ s. inr (subst (λ k. TextUsesTagAt tree k range n) s.1 u.2)) (λ s. let d = s.1 in inl (u.0, omega arith, u.2)) (eqb_tells u.0 count))
      (are.each range mid g) (more.each range mid need g is);
}

tag_there : (tree : Built) (at : ℕ) → kind_at tree at ≡ kind.Tag → at < length tree.nodes
tag_there tree at e = ⊎_elim (λ h. h) (λ h. absurd (skip (slice_get tree.nodes at) (past tree.nodes at h) e)) (below_or at (length tree.nodes))
  where
    skip : (o : Option Node) → o ≡ None → option_map_or (λ (n : Node). n.kind) o kind.Skip ≡ kind.Tag → ⊥
    skip None e k = absurd (cc)
    skip (Some n) e k = absurd (cc)

-- the need of a routine text
pub need_is : (tree : Built) (text : ℕ) (need : Option ℕ) → kind_at tree text ≡ kind.RoutineText → Lowers (UsesBefore tree (length tree.nodes) text) None need → IsNeed (UsesTag tree text) need
need_is tree text None form l = λ hops u. l.all hops (u.0, tag_there tree u.0 u.1.tag, (form, u.1))
need_is tree text (Some n) form l = (
  ⊎_elim (λ s. absurd (cc)) (λ s. (s.0, s.2.1)) (l.source n refl),
  λ other u. l.all other (u.0, tag_there tree u.0 u.1.tag, (form, u.1)),
)

-- ---- the tag that a node applies

first_sort : (tree : Built) (name : ℕ) {ranges : List ℕ} {d : ℕ} → FirstDefinition tree sorts.Tag name ranges d → defines (kind_at tree d) ≡ Some sorts.Tag
first_sort tree name (here s) = s.sort_is
first_sort tree name (further never rest) = first_sort tree name rest

tag_is : (form : NodeKind) → is_tag form ≡ true → form ≡ kind.Tag
tag_is kind.Tag e = refl
tag_is _ e = absurd (false≢true e)

applied_by : (tree : Built) (at : ℕ) (found : Option ℕ) → kind_at tree at ≡ kind.Tag → IsTagOf tree at (name_at tree at) found → IsApplied tree at (below (length tree.nodes) found)
applied_by tree at None tag of = λ _. of.0
applied_by tree at (Some id) tag of = go (nat_lt id (length tree.nodes)) refl
  where
    go : (b : Bool) → nat_lt id (length tree.nodes) ≡ b → IsApplied tree at (if b then Some id else None)
    go true e =
        let low : id < length tree.nodes = grind (arith, nat_tests, e) in
        ⊎_elim (λ h. (tag, h)) (λ h. absurd (omega (arith, h.3))) of
    go false e =
        let high : length tree.nodes ≤ id = grind (arith, nat_tests, e) in
        λ _. ⊎_elim (λ h. let low = defines_there tree id sorts.Tag (first_sort tree (name_at tree at) h.first) in absurd (omega arith)) (λ h. h.0) of

pub applied_is : (tree : Built) (at : ℕ) (node : Node) (found : Option ℕ) → slice_get tree.nodes at ≡ Some node → is_tag node.kind ≡ true → IsTagOf tree at node.name found → IsApplied tree at (below (length tree.nodes) found)
applied_is tree at node found is tag of =
    let kind_is : kind_at tree at ≡ node.kind = rw is refl in
    let named : name_at tree at ≡ node.name = rw is refl in
    applied_by tree at found (kind_is ∙ tag_is node.kind tag) (subst (λ n. IsTagOf tree at n found) (sym named) of)

pub applied_none : (tree : Built) (at : ℕ) (node : Node) → slice_get tree.nodes at ≡ Some node → is_tag node.kind ≡ false → IsApplied tree at None
applied_none tree at node is tag = λ e.
    let kind_is : kind_at tree at ≡ node.kind = rw is refl in
    let form : node.kind ≡ kind.Tag = sym kind_is ∙ e in
    absurd (false≢true (sym tag ∙ ap is_tag form))

-- ---- the needs by a use of a definition

module _ (tree : Built) (t : FrameTables) (at d : ℕ) (are : AreFrames tree t) (low : at < length t.chain.about) where
  abbrev nest_at : Option ℕ
  nest_at = slice_index_or t.chain.about at None

  abbrev place_of : (range : ℕ) → IsPlaceIn (slots_in tree range) d (at_key t.places range d)
  place_of range = placed tree t.places t.slots t.makes are.slots range d

  abbrev tells_of : TellsFrames tree t.chain.frames at nest_at
  tells_of = are.chain.tells at nest_at (read t.chain.about at None low)

  pub lowered_use : (step : FrameStep) (old new : List (Option ℕ)) → FindsSlot t.chain.frames t.places d nest_at (Some step) → AreLowered (CrossesText t.chain.frames t.texts nest_at step.hops) old new
      → AreLowered (TextUsesSlotAt tree at d) old new
  lowered_use step old new r lowers = lowered_slot tree at d t.chain.frames t.places place_of nest_at tells_of t.texts are.texts step old new r lowers

  pub lowered_unused : (found : Option FrameStep) (needs : List (Option ℕ)) → found ≡ None → FindsSlot t.chain.frames t.places d nest_at found → AreLowered (TextUsesSlotAt tree at d) needs needs
  lowered_unused found needs is r = unused_slot tree at d t.chain.frames t.places place_of nest_at tells_of found needs is r
