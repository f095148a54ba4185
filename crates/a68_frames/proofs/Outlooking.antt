-- What is seen outwards from frames.
use Rattle.std.proofs.Common.{◌≡◌, ◌<◌, ◌≤◌, ℕ, zero, suc, ◌+◌, ◌-◌, ◌^◌, Bool, true, false, nat_eq, List, [], ◌∷◌, ◌++◌, length, drop, refl, sym, ap, ◌∙◌, arith, subst, inl, inr, ⊎_elim, Some, None, slice_get, Option, length-append}
use Rattle.std.specs.Prelude.{◌&&◌, slice_index_or, if◌then◌else◌}
use Rattle.std.specs.Option.{option_map, option_map_or}
use Rattle.std.proofs.lemmas.Bool.{false≢true}
use Rattle.a68_maps.proofs.Forks.{nothing_found, nothing_is_made, stay_on}
use Rattle.a68_maps.specs.Found.{found, IsMade, IsWith, Stay}
use Rattle.a68_maps.specs.declared.maps.Fork.{Fork}
use Rattle.a68_frames.proofs.Needing.{crosses_in, no_steps, no_nest, lower_more}
use Rattle.a68_frames.specs.Frames.{frames_of, has_slot, makes_frame, moved, place_behind, place_of, slots_in, with_slots}
use Rattle.a68_frames.specs.Outlooks.{IsDeep, none_deep, one_deeper, IsHolder, held_nowhere, held_here, held_further, IsText, text_nowhere, text_here, text_further, CrossesText, IsUpTo, IsOutward, view_at, no_view, AreOutward, AreHolders, HavePlaces, HoldsToo, HoldsAll, held_by, AreFirstViews, IsNextView}
use Rattle.a68_frames.specs.Tables.{Framed, outermost, passed, entered, FindsSlot, nowhere, here, further, Crosses, crossed, onwards, AreTexts, AreLowered, IsOneLowered}
use Rattle.a68_frames.specs.declared.outlook.View.{View}
use Rattle.a68_ranges.proofs.Layering.{get_pushed}
use Rattle.a68_ranges.proofs.Taking.{some_one, read, is_there, below_or, past}
use Rattle.a68_ranges.specs.Definitions.{declared_in}
use Rattle.a68_ranges.specs.Links.{IsBelow, is_routine_text}
use Rattle.a68_ranges.specs.Nodes.{kind_at}
use Rattle.a68_ranges.specs.Tables.{at_key}
use Rattle.a68_ranges.specs.declared.nests.Layer.{Layer}
use Rattle.a68_tree.specs.Trees.{Built}
use Rattle.a68_tree.specs.declared.node.FrameStep.{FrameStep}
use Rattle.a68_tree.specs.declared.node.Node.{Node}
use Rattle.a68_tree.specs.declared.kind.NodeKind.TheVariants as kind

-- ---- how many frames there are

same_frame : (frames : List Layer) (i j : ℕ) (one other : Layer) → Some i ≡ Some j → slice_get frames i ≡ Some one → slice_get frames j ≡ Some other → one ≡ other
same_frame frames i j one other e a b = some_one (sym a ∙ ap (slice_get frames) (some_one e) ∙ b)

deep_none : {frames : List Layer} {start : Option ℕ} {n : ℕ} → IsDeep frames start n → start ≡ None → n ≡ 0
deep_none none_deep e = refl
deep_none (one_deeper i frame is rest) e = absurd (cc)

deep_in : {frames : List Layer} {start : Option ℕ} {n : ℕ} → IsDeep frames start n → (i : ℕ) (frame : Layer) → start ≡ Some i → slice_get frames i ≡ Some frame → (m : ℕ) × (n ≡ m + 1) × IsDeep frames frame.outer m
deep_in none_deep i frame e is = absurd (cc)
deep_in {frames = frames} (one_deeper {depth = m} j other it rest) i frame e is =
    (m, refl, subst (λ (l : Layer). IsDeep frames l.outer m) (same_frame frames j i other frame e it is) rest)

pub deep_one : {frames : List Layer} {start other : Option ℕ} {n m : ℕ} → IsDeep frames start n → IsDeep frames other m → start ≡ other → n ≡ m
deep_one none_deep b e = sym (deep_none b (sym e))
deep_one {m = m} (one_deeper {depth = n} i frame is rest) b e =
    let d = deep_in b i frame (sym e) is in
    let one = deep_one rest d.2 refl in
    let two = d.1 in
    omega (arith, one, two)

counts : (tree : Built) (range : ℕ) (more : List ℕ) (b : Bool) → makes_frame tree range ≡ b → frames_of tree (range ∷ more) ≡ (if b then frames_of tree more + 1 else frames_of tree more)
counts tree range more b e = rw e refl

pub framed_deep : {tree : Built} {frames : List Layer} {nest : Option ℕ} {ranges : List ℕ} → Framed tree frames nest ranges → (start : Option ℕ) (n : ℕ) → IsDeep frames start n → start ≡ nest → n ≡ frames_of tree ranges
framed_deep outermost start n deep e = deep_none deep e
framed_deep {tree = tree} (passed {range = range} {more = more} frameless rest) start n deep e = framed_deep rest start n deep e ∙ sym (counts tree range more false frameless)
framed_deep {tree = tree} (entered {more = more} i frame is made rest) start n deep e =
    let d = deep_in deep i frame e is in
    d.1 ∙ ap (λ k. k + 1) (framed_deep rest frame.outer d.0 d.2 refl) ∙ sym (counts tree frame.range more true made)

-- ---- where a definition has its slot

moved_map : (k l : ℕ) (o : Option ℕ) → k + 1 ≡ l → moved 1 (option_map (λ s. record { hops = k; slot = s }) o) ≡ option_map (λ s. record { hops = l; slot = s }) o
moved_map k l None e = refl
moved_map k l (Some s) e = ap (λ (h : ℕ). let step : FrameStep = record { hops = h; slot = s } in Some step) e

pub held_none : {frames : List Layer} {entries : List ((ℕ × ℕ) × ℕ)} {d : ℕ} {start holder : Option ℕ} → IsHolder frames entries d start holder → holder ≡ None → FindsSlot frames entries d start None
held_none held_nowhere e = nowhere
held_none (held_here i frame is at) e = absurd (cc)
held_none (held_further i frame is at rest) e = further i frame is at (held_none rest e)

pub held_there : {frames : List Layer} {entries : List ((ℕ × ℕ) × ℕ)} {d : ℕ} {start holder : Option ℕ} → IsHolder frames entries d start holder → (j : ℕ) → holder ≡ Some j → j < length frames
held_there held_nowhere j e = absurd (cc)
held_there {frames = frames} (held_here i frame is at) j e = subst (λ k. k < length frames) (some_one e) (is_there frames i frame is)
held_there (held_further i frame is at rest) j e = held_there rest j e

pub held_some : {frames : List Layer} {entries : List ((ℕ × ℕ) × ℕ)} {d : ℕ} {start holder : Option ℕ} → IsHolder frames entries d start holder → (j : ℕ) → holder ≡ Some j → (n m : ℕ) → IsDeep frames start n → IsDeep frames (Some j) m
    → (frame : Layer) → slice_get frames j ≡ Some frame → (m ≤ n) × FindsSlot frames entries d start (option_map (λ s. record { hops = n - m; slot = s }) (at_key entries frame.range d))
held_some held_nowhere j e n m deep to frame is = absurd (cc)
held_some {frames = frames} {entries = entries} {d = d} (held_here {slot = slot} i one it at) j e n m deep to frame is =
    let same : one ≡ frame = same_frame frames i j one frame e it is in
    let level : n ≡ m = deep_one deep to e in
    let none : 0 ≡ n - m = omega (arith, level) in
    let at_frame : at_key entries frame.range d ≡ Some slot = subst (λ (l : Layer). at_key entries l.range d ≡ Some slot) same at in (
      omega (arith, level),
      subst (λ o. FindsSlot frames entries d (Some i) (option_map (λ s. record { hops = n - m; slot = s }) o)) (sym at_frame)
          (subst (λ h. FindsSlot frames entries d (Some i) (Some (record { hops = h; slot = slot }))) none (here i one it at)),
    )
held_some {frames = frames} {entries = entries} {d = d} (held_further i one it at rest) j e n m deep to frame is =
    let out = deep_in deep i one refl it in
    let more = out.1 in
    let found = held_some rest j e out.0 m out.2 to frame is in
    let under = found.0 in
    let one_more : (out.0 - m) + 1 ≡ n - m = omega (arith, more, under) in (
      omega (arith, more, under),
      subst (FindsSlot frames entries d (Some i)) (moved_map (out.0 - m) (n - m) (at_key entries frame.range d) one_more) (further i one it at found.1),
    )

-- ---- what is seen from a frame

pub outward_at : (frames : List Layer) (texts : List Bool) (views : List View) (start : Option ℕ) → AreOutward frames texts views → IsBelow (length frames) start → IsOutward frames texts start (view_at views start)
outward_at frames texts views None are below = record { deep = none_deep; few = omega arith; text = text_nowhere; low = tt }
outward_at frames texts views (Some i) are below = let long = are.long in are.each i (slice_index_or views i no_view) (read views i no_view (omega (arith, long, below)))

pub holder_at : (frames : List Layer) (entries : List ((ℕ × ℕ) × ℕ)) (maps : List Fork) (views : List View) (start : Option ℕ) (d : ℕ) → AreHolders frames entries maps views → length views ≡ length frames
    → IsBelow (length frames) start → d < 2 ^ 32 → IsHolder frames entries d start (found maps (view_at views start).slots d)
holder_at frames entries maps views None d are long below low = subst (IsHolder frames entries d None) (sym (nothing_found maps d)) held_nowhere
holder_at frames entries maps views (Some i) d are long below low = are i d (slice_index_or views i no_view) (read views i no_view (omega (arith, long, below))) low

-- ---- routine texts

pub text_at : {frames : List Layer} {texts : List Bool} {start text : Option ℕ} → IsText frames texts start text → (t : ℕ) → text ≡ Some t → (frame : Layer) × (slice_get frames t ≡ Some frame) × (slice_index_or texts frame.range false ≡ true)
text_at text_nowhere t e = absurd (cc)
text_at {frames = frames} (text_here i frame is told) t e = (frame, subst (λ k. slice_get frames k ≡ Some frame) (some_one e) is, told)
text_at (text_further i frame is told rest) t e = text_at rest t e

some_steps : {frames : List Layer} {nest : Option ℕ} {range left : ℕ} (steps : ℕ) → Crosses frames nest steps range left → steps ≡ steps - 1 + 1
some_steps zero c = absurd (no_steps c refl)
some_steps (suc n) c = omega arith

module _ (frames : List Layer) (texts : List Bool) where
  -- beyond a frame that is of no routine text
  beyond : (i : ℕ) (frame : Layer) (steps range left : ℕ) → slice_get frames i ≡ Some frame → slice_index_or texts frame.range false ≡ false → CrossesText frames texts (Some i) steps range left
      → CrossesText frames texts frame.outer (steps - 1) range left
  beyond i frame steps range left is told c = ⊎_elim
      (λ h. absurd (false≢true (sym told ∙ ap (λ r. slice_index_or texts r false) (sym h.0) ∙ c.1)))
      (λ h. (h, c.1))
      (crosses_in c.0 i frame (steps - 1) refl is (some_steps steps c.0))

  pub no_text : {start text : Option ℕ} → IsText frames texts start text → text ≡ None → (steps range left : ℕ) → CrossesText frames texts start steps range left → ⊥
  no_text text_nowhere e steps range left c = no_nest c.0 refl
  no_text (text_here i frame is told) e steps range left c = absurd (cc)
  no_text (text_further i frame is told rest) e steps range left c = no_text rest e (steps - 1) range left (beyond i frame steps range left is told c)

  -- the steps from a frame pass those routine texts that the steps from the innermost of them pass
  pub record Skips (start : Option ℕ) (t n m : ℕ) : Type 0 where
    pub under : m ≤ n
    pub to : (steps range left : ℕ) → CrossesText frames texts start steps range left → (k : ℕ) × (steps ≡ n - m + k) × CrossesText frames texts (Some t) k range left
    pub from : (k range left : ℕ) → CrossesText frames texts (Some t) k range left → CrossesText frames texts start (n - m + k) range left

  pub skips : {start text : Option ℕ} → IsText frames texts start text → (t : ℕ) → text ≡ Some t → (n m : ℕ) → IsDeep frames start n → IsDeep frames (Some t) m → Skips start t n m
  skips text_nowhere t e n m deep to = absurd (cc)
  skips (text_here i frame is told) t e n m deep to =
      let level : n ≡ m = deep_one deep to e in
      record {
        under = omega (arith, level);
        to = λ steps range left c. (steps, omega (arith, level), subst (λ s. CrossesText frames texts s steps range left) e c);
        from = λ k range left c.
            let none : k ≡ n - m + k = omega (arith, level) in
            subst (λ s. CrossesText frames texts (Some i) s range left) none (subst (λ s. CrossesText frames texts s k range left) (sym e) c);
      }
  skips (text_further i frame is told rest) t e n m deep to =
      let out = deep_in deep i frame refl is in
      let more = out.1 in
      let s = skips rest t e out.0 m out.2 to in
      let under = s.under in
      record {
        under = omega (arith, more, under);
        to = λ steps range left c.
            let g = s.to (steps - 1) range left (beyond i frame steps range left is told c) in
            let some = some_steps steps c.0 in
            let e = g.1 in
            (g.0, omega (arith, more, under, some, e), g.2);
        from = λ k range left c.
            let g = s.from k range left c in
            let one : out.0 - m + k + 1 ≡ n - m + k = omega (arith, more, under) in
            (subst (λ s. Crosses frames (Some i) s range left) one (onwards i frame is g.0), g.1);
      }

-- ---- the map of a frame

stay_same : (maps : List Fork) → Stay maps maps
stay_same maps = λ map is. (is, λ key. refl)

pub too_none : (maps : List Fork) (map : Option ℕ) (id number : ℕ) (counts : Bool) → IsMade maps map → counts ≡ false → HoldsToo maps maps map id number counts map
too_none maps map id number counts made e = record {
  stay = stay_same maps;
  is = made;
  has = λ d low. ap (λ b. if b && nat_eq id d then Some number else found maps map d) (sym e);
}

pub too_one : (old new : List Fork) (map : Option ℕ) (id number : ℕ) (counts : Bool) (made : Option ℕ) → counts ≡ true → IsWith old new map id number made → HoldsToo old new map id number counts made
too_one old new map id number counts made e with = record {
  stay = with.stay;
  is = with.is;
  has = λ d low. with.has d low ∙ ap (λ b. if b && nat_eq id d then Some number else found old map d) (sym e);
}

drop_all : (xs : List ℕ) → drop (length xs) xs ≡ []
drop_all [] = refl
drop_all (x ∷ xs) = drop_all xs

drop_read : (xs : List ℕ) (place : ℕ) → place < length xs → drop place xs ≡ slice_index_or xs place 0 ∷ drop (suc place) xs
drop_read [] place h = absurd (omega arith)
drop_read (x ∷ xs) zero h = refl
drop_read (x ∷ xs) (suc place) h = drop_read xs place (omega arith)

pub holds_none : (tree : Built) (maps : List Fork) (map : Option ℕ) (list : List ℕ) (number : ℕ) → IsMade maps map → HoldsAll maps maps map (with_slots tree (drop (length list) list)) number map
holds_none tree maps map list number made = record {
  stay = stay_same maps;
  is = made;
  has = λ d low. ap (λ ds. held_by number (place_of (with_slots tree ds) d) (found maps map d)) (sym (drop_all list));
}

pub holds_more : (tree : Built) (old mid new : List Fork) (map some next : Option ℕ) (list : List ℕ) (place number : ℕ) → place < length list → HoldsAll old mid map (with_slots tree (drop (suc place) list)) number some
    → HoldsToo mid new some (slice_index_or list place 0) number (has_slot (kind_at tree (slice_index_or list place 0))) next → HoldsAll old new map (with_slots tree (drop place list)) number next
holds_more tree old mid new map some next list place number h one more = record {
  stay = stay_on old mid new one.stay more.stay;
  is = more.is;
  has = λ d low.
      more.has d low
      ∙ ap (λ o. if has_slot (kind_at tree (slice_index_or list place 0)) && nat_eq (slice_index_or list place 0) d then Some number else o) (one.has d low)
      ∙ by (has_slot (kind_at tree (slice_index_or list place 0))) d (found old map d)
      ∙ ap (λ ds. held_by number (place_of (with_slots tree ds) d) (found old map d)) (sym (drop_read list place h));
}
  where
    held : (p : Option ℕ) (b : Bool) (o : Option ℕ) → (if b then Some number else held_by number p o) ≡ held_by number (place_behind p b) o
    held (Some p) true o = refl
    held (Some p) false o = refl
    held None true o = refl
    held None false o = refl

    by : (b : Bool) (d : ℕ) (o : Option ℕ) → (if b && nat_eq (slice_index_or list place 0) d then Some number else held_by number (place_of (with_slots tree (drop (suc place) list)) d) o)
        ≡ held_by number (place_of (if b then slice_index_or list place 0 ∷ with_slots tree (drop (suc place) list) else with_slots tree (drop (suc place) list)) d) o
    by true d o = held (place_of (with_slots tree (drop (suc place) list)) d) (nat_eq (slice_index_or list place 0) d) o
    by false d o = refl

-- ---- what is seen from the next frame

slots_are : (tree : Built) (range : ℕ) → slots_in tree range ≡ with_slots tree (declared_in tree range)
unfolding slots_in
slots_are tree range = refl

under_below : (count : ℕ) (outer : Option ℕ) → IsBelow count outer → option_map_or (λ k. suc k) outer 0 ≤ count
under_below count None below = omega arith
under_below count (Some i) below = omega (arith, below)

up_more : (count bound : ℕ) (text : Option ℕ) (outer : Option ℕ) → option_map_or (λ k. suc k) outer 0 ≤ bound → IsUpTo text outer → bound ≤ count → IsUpTo text (Some count)
up_more count bound None outer h up more = tt
up_more count bound (Some t) outer h up more = omega (arith, h, up, more)

module _ (tree : Built) (frames : List Layer) (texts : List Bool) (old new : List Fork) (views : List View) (count : ℕ) (frame : Layer) (are : AreFirstViews tree frames texts old views count) (is : slice_get frames count ≡ Some frame)
    (below : IsBelow count frame.outer) where
  pub outside_made : (outer : Option ℕ) → IsBelow count outer → IsMade old (view_at views outer).slots
  outside_made None b = nothing_is_made old
  outside_made (Some i) b = let long = are.long in are.made i (slice_index_or views i no_view) (read views i no_view (omega (arith, long, b)))

  pub outside_is : (outer : Option ℕ) → IsBelow count outer → IsOutward frames texts outer (view_at views outer)
  outside_is None b = record { deep = none_deep; few = omega arith; text = text_nowhere; low = tt }
  outside_is (Some i) b = let long = are.long in are.each i (slice_index_or views i no_view) (read views i no_view (omega (arith, long, b)))

  outside_holds : (outer : Option ℕ) → IsBelow count outer → (entries : List ((ℕ × ℕ) × ℕ)) → HavePlaces tree entries → (d : ℕ) → d < 2 ^ 32 → IsHolder frames entries d outer (found old (view_at views outer).slots d)
  outside_holds None b entries have d low = subst (IsHolder frames entries d None) (sym (nothing_found old d)) held_nowhere
  outside_holds (Some i) b entries have d low = let long = are.long in are.holders entries have i d (slice_index_or views i no_view) (read views i no_view (omega (arith, long, b))) low

  text_is : (told : Bool) (text : Option ℕ) → slice_index_or texts frame.range false ≡ told → IsText frames texts frame.outer text → IsText frames texts (Some count) (if told then Some count else text)
  text_is true text e t = text_here count frame is e
  text_is false text e t = text_further count frame is e t

  text_low : (told : Bool) (text : Option ℕ) → IsUpTo text frame.outer → IsUpTo (if told then Some count else text) (Some count)
  text_low true text up = omega arith
  text_low false text up = up_more count count text frame.outer (under_below count frame.outer below) up (omega arith)

  held_is : (entries : List ((ℕ × ℕ) × ℕ)) (d : ℕ) (place holder : Option ℕ) → at_key entries frame.range d ≡ place → IsHolder frames entries d frame.outer holder → IsHolder frames entries d (Some count) (held_by count place holder)
  held_is entries d (Some slot) holder at out = held_here count frame is at
  held_is entries d None holder at out = held_further count frame is at out

  -- there is room for one frame more
  pub outside_few : (view_at views frame.outer).depth ≤ count
  outside_few = let few = (outside_is frame.outer below).few in let under = under_below count frame.outer below in omega (arith, few, under)

  pub next_is : (view : View) (list : List ℕ) → list ≡ declared_in tree frame.range → HoldsAll old new (view_at views frame.outer).slots (with_slots tree list) count view.slots → view.depth ≡ (view_at views frame.outer).depth + 1
      → view.text ≡ (if slice_index_or texts frame.range false then Some count else (view_at views frame.outer).text) → IsNextView tree frames texts old new count view
  next_is view list list_is holds depth_is text_at = record {
    stay = holds.stay;
    is = holds.is;
    outward = record {
      deep = subst (IsDeep frames (Some count)) (sym depth_is) (one_deeper count frame is (outside_is frame.outer below).deep);
      few = let few = outside_few in omega (arith, few, depth_is);
      text = subst (IsText frames texts (Some count)) (sym text_at) (text_is (slice_index_or texts frame.range false) _ refl (outside_is frame.outer below).text);
      low = subst (λ t. IsUpTo t (Some count)) (sym text_at) (text_low (slice_index_or texts frame.range false) _ (outside_is frame.outer below).low);
    };
    holder = λ entries have d low.
        subst (IsHolder frames entries d (Some count)) (sym (holds.has d low))
        (held_is entries d (place_of (with_slots tree list) d) _ (have frame.range d ∙ ap (λ ss. place_of ss d) (slots_are tree frame.range ∙ ap (with_slots tree) (sym list_is)))
        (outside_holds frame.outer below entries have d low));
  }

-- ---- what is seen from all frames

pub views_none : (tree : Built) (frames : List Layer) (texts : List Bool) (maps : List Fork) → AreFirstViews tree frames texts maps [] 0
views_none tree frames texts maps = record { long = refl; made = λ i view e. absurd (cc); each = λ i view e. absurd (cc); holders = λ entries have i d view e. absurd (cc) }

pub views_more : (tree : Built) (frames : List Layer) (texts : List Bool) (old new : List Fork) (views : List View) (count : ℕ) (view : View) → AreFirstViews tree frames texts old views count → IsNextView tree frames texts old new count view
    → AreFirstViews tree frames texts new (views ++ view ∷ []) (count + 1)
views_more tree frames texts old new views count view are next = record {
  long = let d = are.long in omega (arith, d, length-append views (view ∷ []));
  made = λ i v e. ⊎_elim
      (λ h. (next.stay v.slots (are.made i v h)).0)
      (λ h. subst (λ (w : View). IsMade new w.slots) h.1 next.is)
      (get_pushed views view v i e);
  each = λ i v e. ⊎_elim
      (λ h. are.each i v h)
      (λ h. subst (λ k. IsOutward frames texts (Some k) v) (sym (h.0 ∙ are.long)) (subst (λ (w : View). IsOutward frames texts (Some count) w) h.1 next.outward))
      (get_pushed views view v i e);
  holders = λ entries have i d v e low. ⊎_elim
      (λ h. subst (IsHolder frames entries d (Some i)) (sym ((next.stay v.slots (are.made i v h)).1 d)) (are.holders entries have i d v h low))
      (λ h.
      subst (λ k. IsHolder frames entries d (Some k) (found new v.slots d)) (sym (h.0 ∙ are.long))
      (subst (λ (w : View). IsHolder frames entries d (Some count) (found new w.slots d)) h.1 (next.holder entries have d low)))
      (get_pushed views view v i e);
}

-- ---- which nodes are routine texts

pub texts_more : (tree : Built) (node : ℕ) (texts : List Bool) → length texts ≡ node → ((range : ℕ) → range < node → slice_index_or texts range false ≡ is_routine_text (kind_at tree range))
    → (range : ℕ) → range < node + 1 → slice_index_or (texts ++ is_routine_text (kind_at tree node) ∷ []) range false ≡ is_routine_text (kind_at tree range)
texts_more tree node texts long are = λ range low. ⊎_elim
    (λ h. kept texts range (omega (arith, long, h)) ∙ are range h)
    (λ h. let same : range ≡ length texts = omega (arith, long, h, low) in subst (λ r. slice_index_or (texts ++ is_routine_text (kind_at tree node) ∷ []) r false ≡ is_routine_text (kind_at tree r)) (sym same)
    (last texts ∙ ap (λ n. is_routine_text (kind_at tree n)) (sym long)))
    (below_or range node)
  where
    kept : (ts : List Bool) (k : ℕ) → k < length ts → slice_index_or (ts ++ is_routine_text (kind_at tree node) ∷ []) k false ≡ slice_index_or ts k false
    kept [] k h = absurd (omega arith)
    kept (t ∷ ts) zero h = refl
    kept (t ∷ ts) (suc k) h = kept ts k (omega arith)

    last : (ts : List Bool) → slice_index_or (ts ++ is_routine_text (kind_at tree node) ∷ []) (length ts) false ≡ is_routine_text (kind_at tree node)
    last [] = refl
    last (t ∷ ts) = last ts

-- a number of no node is no routine text
pub texts_all : (tree : Built) (texts : List Bool) (node : ℕ) → node ≡ length tree.nodes → length texts ≡ node → ((range : ℕ) → range < node → slice_index_or texts range false ≡ is_routine_text (kind_at tree range)) → AreTexts tree texts
texts_all tree texts node all long are = λ range. ⊎_elim
    (λ h. are range h)
    (λ h. none texts range (omega (arith, long, h)) ∙ sym (skip range (omega (arith, all, h))))
    (below_or range node)
  where
    none : (ts : List Bool) (k : ℕ) → length ts ≤ k → slice_index_or ts k false ≡ false
    none [] k h = refl
    none (t ∷ ts) zero h = absurd (omega arith)
    none (t ∷ ts) (suc k) h = none ts k (omega arith)

    skip : (range : ℕ) → length tree.nodes ≤ range → is_routine_text (kind_at tree range) ≡ false
    skip range h = ap (λ (o : Option Node). is_routine_text (option_map_or (λ (n : Node). n.kind) o kind.Skip)) (past tree.nodes range h)

-- ---- the needs of routine texts

-- no routine text is passed by so few steps
pub too_few : (frames : List Layer) (texts : List Bool) (start : Option ℕ) (t n m steps : ℕ) → Skips frames texts start t n m → steps ≤ n - m → (range left : ℕ) → CrossesText frames texts start steps range left → ⊥
too_few frames texts start t n m steps s few range left c =
    let g = s.to steps range left c in
    let e = g.1 in
    no_steps g.2.0 (omega (arith, few, e))

-- the innermost routine text is lowered, and then those outside it
pub lower_text : (frames : List Layer) (texts : List Bool) (start : Option ℕ) (t n m steps left : ℕ) (frame : Layer) → Skips frames texts start t n m → slice_get frames t ≡ Some frame → slice_index_or texts frame.range false ≡ true
    → steps ≡ n - m + (left + 1) → (cur mid final : List (Option ℕ)) → IsOneLowered frame.range left cur mid → AreLowered (CrossesText frames texts frame.outer left) mid final → AreLowered (CrossesText frames texts start steps) cur final
lower_text frames texts start t n m steps left frame s is told e cur mid final one are =
    lower_more (CrossesText frames texts start steps) (CrossesText frames texts frame.outer left) frame.range left
    (on frame.range left (crossed t frame is, told))
    (λ range k c. on range k (onwards t frame is c.0, c.1))
    (λ range k c.
    let g = s.to steps range k c in
    let same = g.1 in
    let all : g.0 ≡ left + 1 = omega (arith, e, same) in
    ⊎_elim (λ h. inl h) (λ h. inr (h, g.2.1)) (crosses_in g.2.0 t frame left refl is all))
    cur mid final one are
  where
    on : (range k : ℕ) → CrossesText frames texts (Some t) (left + 1) range k → CrossesText frames texts start steps range k
    on range k c = subst (λ n. CrossesText frames texts start n range k) (sym e) (s.from (left + 1) range k c)

-- what the steps to a routine text are
pub skips_at : (frames : List Layer) (texts : List Bool) (views : List View) (start : Option ℕ) (t : ℕ) → AreOutward frames texts views → IsBelow (length frames) start → (view_at views start).text ≡ Some t
    → Skips frames texts start t (view_at views start).depth (view_at views (Some t)).depth
skips_at frames texts views start t are below e =
    let from = outward_at frames texts views start are below in
    let low = text_at from.text t e in
    skips frames texts from.text t e (view_at views start).depth (view_at views (Some t)).depth from.deep (outward_at frames texts views (Some t) are (is_there frames t low.0 low.1)).deep

-- its number is at most that of the frame
pub text_under : (frames : List Layer) (texts : List Bool) (views : List View) (start : Option ℕ) (t : ℕ) → AreOutward frames texts views → IsBelow (length frames) start → (view_at views start).text ≡ Some t
    → t < option_map_or (λ k. suc k) start 0
text_under frames texts views start t are below e = subst (λ o. IsUpTo o start) e (outward_at frames texts views start are below).low

-- the measure of a walk outwards
pub outer_under : (t : ℕ) (start outer : Option ℕ) → t < option_map_or (λ k. suc k) start 0 → IsBelow t outer → option_map_or (λ k. suc k) outer 0 < option_map_or (λ k. suc k) start 0
outer_under t start None low below = omega (arith, low)
outer_under t start (Some i) low below = omega (arith, low, below)
