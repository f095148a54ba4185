-- A list of nodes with one node more.
use Rattle.std.proofs.Common.{◌≡◌, ◌<◌, ◌⊎◌, ◌++◌, ℕ, zero, suc, List, [], ◌∷◌, Bool, false, Option, Some, None, length, refl, sym, ap, ◌∙◌, arith, subst, inl, inr, ⊎_elim, length-append}
use Rattle.std.specs.Prelude.{◌↔◌, map}
use Rattle.std.specs.List.{Contains}
use Rattle.std.proofs.Math.ListN.{get_or-append}
use Rattle.std.proofs.Math.Seq.{get_or-append_seam}
use Rattle.std.proofs.lemmas.Bool.{cases_eq}
use Rattle.std.proofs.lemmas.List.{length-map}
use Rattle.std.proofs.lemmas.List.Elements.{All-contains, All-weaker}
use Rattle.a68_modes.specs.declared.shape.Shape.{Shape}
use Rattle.a68_modes.specs.declared.shape.Shape.TheVariants.{Union, Same, Blank}
use Rattle.a68_modes.specs.Nodes.{shape_at, ShapeIsWithin, HoldsNodes}
use Rattle.a68_equiv.specs.declared.mode.Mode.{Mode}
use Rattle.a68_equiv.specs.declared.steps.Inward.{Inward}
use Rattle.a68_equiv.specs.declared.steps.Inward.TheVariants.{BesidesNames, BesidesStructures, WithinUnions}
use Rattle.a68_equiv.specs.Ways.{steps_of, row, Way, IsWellFormed, AreWellFormed}
use Rattle.a68_equiv.specs.Ways.Way.{last_step, more_steps}
use Rattle.a68_equiv.specs.Spread.{IsLed, IsSpread}
use Rattle.a68_equiv.specs.Unfolding.{behind, word_or, unfolded, leads_within, passes_on, is_union, IsMember, IsInMode, IsModePart, Alike}
use Rattle.a68_equiv.specs.Graph.{IsShapeRow, IsRowOf}
use Rattle.a68_equiv.specs.ModeKeys.{bare}
use Rattle.a68_equiv.proofs.Chains.{steps, counted, ends}
use Rattle.a68_equiv.proofs.Grasp.{behind_below}
use Rattle.a68_equiv.proofs.Meekly.{way_join}
use Rattle.a68_equiv.proofs.Parting.{parts_at}
use Rattle.a68_equiv.proofs.Rowing.{row_is}
use Rattle.a68_equiv.proofs.Stepping.{steps_within, row_of_map, closed}

abbrev word_of : Shape → Option ℕ
word_of (Same t) = Some t
word_of _ = None

abbrev word_next : List Shape → ℕ → Option ℕ
word_next nodes m = word_of (shape_at nodes m)

-- as many steps as there are mode words lead behind all of them
at_end : (nodes : List Shape) (k m : ℕ) → steps (word_next nodes) k m < k → (t : ℕ) → shape_at nodes (behind nodes k m) ≡ Same t → ⊥
at_end nodes zero m h t e = omega arith
at_end nodes (suc k) m h t e = go (shape_at nodes m) refl (at_end nodes k) h e
  where
    go : (s : Shape) → shape_at nodes m ≡ s → ((u : ℕ) → steps (word_next nodes) k u < k → (t : ℕ) → shape_at nodes (behind nodes k u) ≡ Same t → ⊥)
        → counted (steps (word_next nodes) k) (word_of s) < suc k → shape_at nodes (word_or (behind nodes k) m s) ≡ Same t → ⊥
    go (Same u) f ih h e = ih u (omega arith) t e
    go _ f ih h e = cc

one_more : (nodes : List Shape) (k m : ℕ) → ((t : ℕ) → shape_at nodes (behind nodes k m) ≡ Same t → ⊥) → behind nodes (suc k) m ≡ behind nodes k m
one_more nodes zero m h = go (shape_at nodes m) h
  where
    go : (s : Shape) → ((t : ℕ) → s ≡ Same t → ⊥) → word_or (behind nodes zero) m s ≡ m
    go (Same t) h = absurd (h t refl)
    go _ h = refl
one_more nodes (suc k) m h = go (shape_at nodes m) (one_more nodes k) h
  where
    go : (s : Shape) → ((t : ℕ) → ((u : ℕ) → shape_at nodes (behind nodes k t) ≡ Same u → ⊥) → behind nodes (suc k) t ≡ behind nodes k t)
        → ((u : ℕ) → shape_at nodes (word_or (behind nodes k) m s) ≡ Same u → ⊥) → word_or (behind nodes (suc k)) m s ≡ word_or (behind nodes k) m s
    go (Same t) ih h = ih t h
    go _ ih h = refl

-- where one list has the members of another, it has what stands in a node of a shape
at_other : (nodes others : List Shape) (m n : ℕ) (s : Shape) (place x : ℕ) → (IsMember nodes m x → IsMember others n x) → IsInMode nodes m s place x → IsInMode others n s place x
at_other nodes others m n (Union ms) place x f h = (h.0, f h.1)
at_other nodes others m n _ place x f h = h

at_below : (nodes : List Shape) (n m : ℕ) (s : Shape) (place x : ℕ) → ShapeIsWithin n s → (IsMember nodes m x → x < n) → IsInMode nodes m s place x → x < n
at_below nodes n m (Union ms) place x within f h = f h.1
at_below nodes n m _ place x within f h = rw (← h.1) (within place 0 h.0)

-- a step leads to a node of the list
step_below : (nodes : List Shape) → HoldsNodes nodes → (which : Inward) (a b : ℕ) → a < length nodes → Contains (row (map (steps_of which) nodes) a) b → b < length nodes
step_below nodes holds which a b h i =
    let l = length-map nodes (steps_of which) in
    let lt = All-contains (λ m. m < length (map (steps_of which) nodes)) (row (map (steps_of which) nodes) a) b (closed which nodes holds a (omega arith)) i in
    omega arith

pub way_below : (nodes : List Shape) → HoldsNodes nodes → (which : Inward) (a b : ℕ) → a < length nodes → Way (map (steps_of which) nodes) a b → b < length nodes
way_below nodes holds which a b h (last_step i) = step_below nodes holds which a b h i
way_below nodes holds which a b h (more_steps {b = c} i w) = way_below nodes holds which c b (step_below nodes holds which a c h i) w

pub part_below : (nodes : List Shape) → HoldsNodes nodes → (a p : Mode) (place : ℕ) → a.id < length nodes → IsModePart nodes a place p → p.id < length nodes
part_below nodes holds a p place h part =
    at_below nodes (length nodes) a.id (unfolded nodes a.id) place p.id (holds.within (behind nodes (length nodes) a.id) (behind_below nodes holds (length nodes) a.id h))
    (λ is. way_below nodes holds WithinUnions a.id p.id h is.way) part.at

module _ (nodes : List Shape) (s : Shape) (holds : HoldsNodes nodes) (formed : AreWellFormed nodes) (within : ShapeIsWithin (length nodes) s) where
  no_loops : (m : ℕ) → m < length nodes → (t : ℕ) → unfolded nodes m ≡ Same t → ⊥
  no_loops m h = at_end nodes (length nodes) m (ends (word_next nodes) (length nodes) (Way (map (steps_of BesidesNames) nodes)) inside step (way_join (map (steps_of BesidesNames) nodes)) (λ x g w. (formed x g).names w) m h)
    where
      word_in : (s : Shape) (k : ℕ) → word_of s ≡ Some k → Contains (steps_of BesidesNames s) k
      word_in (Same t) k e = let same : t ≡ k = cc in (0, omega arith, same)
      word_in _ k e = absurd (cc)

      step : (m k : ℕ) → m < length nodes → word_next nodes m ≡ Some k → Way (map (steps_of BesidesNames) nodes) m k
      step m k h e = last_step (rw (row_of_map (steps_of BesidesNames) nodes m h) (word_in (shape_at nodes m) k e))

      inside : (m k : ℕ) → m < length nodes → word_next nodes m ≡ Some k → k < length nodes
      inside m k h e = way_below nodes holds BesidesNames m k h (step m k h e)

  pub longer : length (nodes ++ s ∷ []) ≡ suc (length nodes)
  longer = omega (arith, length-append nodes (s ∷ []))

  old_shape : (m : ℕ) → m < length nodes → shape_at (nodes ++ s ∷ []) m ≡ shape_at nodes m
  old_shape m h = get_or-append nodes (s ∷ []) Blank m h

  pub new_shape : shape_at (nodes ++ s ∷ []) (length nodes) ≡ s
  new_shape = get_or-append_seam nodes s [] Blank

  same_behind : (k m : ℕ) → m < length nodes → behind (nodes ++ s ∷ []) k m ≡ behind nodes k m
  same_behind zero m h = refl
  same_behind (suc k) m h = rw (old_shape m h) (go (shape_at nodes m) (holds.within m h) (same_behind k))
    where
      go : (t : Shape) → ShapeIsWithin (length nodes) t → ((j : ℕ) → j < length nodes → behind (nodes ++ s ∷ []) k j ≡ behind nodes k j)
          → word_or (behind (nodes ++ s ∷ []) k) m t ≡ word_or (behind nodes k) m t
      go (Same t) w ih = ih t (w 0 0 (omega arith))
      go _ w ih = refl

  pub old_unfolded : (m : ℕ) → m < length nodes → unfolded (nodes ++ s ∷ []) m ≡ unfolded nodes m
  old_unfolded m h =
      let e : behind (nodes ++ s ∷ []) (length (nodes ++ s ∷ [])) m ≡ behind nodes (length nodes) m =
      ap (λ (k : ℕ). behind (nodes ++ s ∷ []) k m) longer ∙ same_behind (suc (length nodes)) m h ∙ one_more nodes (length nodes) m (no_loops m h) in
      ap (shape_at (nodes ++ s ∷ [])) e ∙ old_shape (behind nodes (length nodes) m) (behind_below nodes holds (length nodes) m h)

  pub new_unfolded : unfolded (nodes ++ s ∷ []) (length nodes) ≡ bare nodes s
  new_unfolded = ap (λ (k : ℕ). shape_at (nodes ++ s ∷ []) (behind (nodes ++ s ∷ []) k (length nodes))) longer ∙ ap (λ (t : Shape). shape_at (nodes ++ s ∷ []) (word_or (behind (nodes ++ s ∷ []) (length nodes)) (length nodes) t)) new_shape ∙ go s within new_shape
    where
      go : (t : Shape) → ShapeIsWithin (length nodes) t → shape_at (nodes ++ s ∷ []) (length nodes) ≡ t → shape_at (nodes ++ s ∷ []) (word_or (behind (nodes ++ s ∷ []) (length nodes)) (length nodes) t) ≡ bare nodes t
      go (Same t) w e =
          let h : t < length nodes = w 0 0 (omega arith) in
          ap (shape_at (nodes ++ s ∷ [])) (same_behind (length nodes) t h) ∙ old_shape (behind nodes (length nodes) t) (behind_below nodes holds (length nodes) t h)
      go _ w e = e

  row_old : (which : Inward) (a : ℕ) → a < length nodes → row (map (steps_of which) (nodes ++ s ∷ [])) a ≡ row (map (steps_of which) nodes) a
  row_old which a h =
      row_of_map (steps_of which) (nodes ++ s ∷ []) a (let l = longer in omega arith) ∙ ap (steps_of which) (old_shape a h) ∙ sym (row_of_map (steps_of which) nodes a h)

  row_new : (which : Inward) → row (map (steps_of which) (nodes ++ s ∷ [])) (length nodes) ≡ steps_of which s
  row_new which = row_of_map (steps_of which) (nodes ++ s ∷ []) (length nodes) (let l = longer in omega arith) ∙ ap (steps_of which) new_shape

  way_out : (which : Inward) (a b : ℕ) → a < length nodes → Way (map (steps_of which) (nodes ++ s ∷ [])) a b → Way (map (steps_of which) nodes) a b
  way_out which a b h (last_step i) = last_step (rw (row_old which a h) at i)
  way_out which a b h (more_steps {b = c} i w) =
      let j : Contains (row (map (steps_of which) nodes) a) c = rw (row_old which a h) at i in
      more_steps j (way_out which c b (step_below nodes holds which a c h j) w)

  way_in : (which : Inward) (a b : ℕ) → a < length nodes → Way (map (steps_of which) nodes) a b → Way (map (steps_of which) (nodes ++ s ∷ [])) a b
  way_in which a b h (last_step i) = last_step (rw (row_old which a h) i)
  way_in which a b h (more_steps {b = c} i w) =
      let j : Contains (row (map (steps_of which) (nodes ++ s ∷ [])) a) c = rw (row_old which a h) i in
      more_steps j (way_in which c b (step_below nodes holds which a c h i) w)

  -- from the new node
  first_step : (which : Inward) (c : ℕ) → Contains (row (map (steps_of which) (nodes ++ s ∷ [])) (length nodes)) c → Contains (steps_of which s) c
  first_step which c i = rw (row_new which) at i

  first_below : (which : Inward) (c : ℕ) → Contains (steps_of which s) c → c < length nodes
  first_below which c i = All-contains (λ m. m < length nodes) (steps_of which s) c (steps_within which (length nodes) s within) i

  new_below : (which : Inward) (b : ℕ) → Way (map (steps_of which) (nodes ++ s ∷ [])) (length nodes) b → b < length nodes
  new_below which b (last_step i) = first_below which b (first_step which b i)
  new_below which b (more_steps {b = c} i w) =
      let lt = first_below which c (first_step which c i) in
      way_below nodes holds which c b lt (way_out which c b lt w)

  -- the new list is well formed
  each_formed : (m : ℕ) → (m < length nodes) ⊎ (m ≡ length nodes) → IsWellFormed (nodes ++ s ∷ []) m
  each_formed m (inl h) = record { names = λ w. (formed m h).names (way_out BesidesNames m m h w); structures = λ w. (formed m h).structures (way_out BesidesStructures m m h w) }
  each_formed m (inr e) = rw e record {
    names = λ w. let b = new_below BesidesNames (length nodes) w in omega arith;
    structures = λ w. let b = new_below BesidesStructures (length nodes) w in omega arith;
  }

  place : (m : ℕ) → m < suc (length nodes) → (m < length nodes) ⊎ (m ≡ length nodes)
  place m h = ⊎_elim (λ e. inr e) (λ ne. inl (omega arith)) (cases_eq m (length nodes))

  pub still_formed : AreWellFormed (nodes ++ s ∷ [])
  still_formed m h = each_formed m (place m (let l = longer in omega arith))

  -- members
  pub member_out : (m x : ℕ) → m < length nodes → IsMember (nodes ++ s ∷ []) m x → IsMember nodes m x
  member_out m x h is =
      let w = way_out WithinUnions m x h is.way in
      record { way = w; last = subst (λ (t : Shape). leads_within t ≡ false) (old_shape x (way_below nodes holds WithinUnions m x h w)) is.last }

  pub member_in : (m x : ℕ) → m < length nodes → IsMember nodes m x → IsMember (nodes ++ s ∷ []) m x
  member_in m x h is = record { way = way_in WithinUnions m x h is.way; last = rw (old_shape x (way_below nodes holds WithinUnions m x h is.way)) is.last }

  new_member : (x : ℕ) → IsMember (nodes ++ s ∷ []) (length nodes) x ↔ IsSpread nodes (steps_of WithinUnions s) x
  new_member x = (λ is. record { led = go is.way; last = subst (λ (t : Shape). leads_within t ≡ false) (old_shape x (new_below WithinUnions x is.way)) is.last }, λ is. record { way = back is.led; last = rw (old_shape x (new_below WithinUnions x (back is.led))) is.last })
    where
      go : Way (map (steps_of WithinUnions) (nodes ++ s ∷ [])) (length nodes) x → IsLed nodes (steps_of WithinUnions s) x
      go (last_step i) = record { from = x; begun = first_step WithinUnions x i; way = inl refl }
      go (more_steps {b = c} i w) =
          let j = first_step WithinUnions c i in
          record { from = c; begun = j; way = inr (way_out WithinUnions c x (first_below WithinUnions c j) w) }

      back : IsLed nodes (steps_of WithinUnions s) x → Way (map (steps_of WithinUnions) (nodes ++ s ∷ [])) (length nodes) x
      back led =
          let i : Contains (row (map (steps_of WithinUnions) (nodes ++ s ∷ [])) (length nodes)) led.from = rw (row_new WithinUnions) led.begun in
          ⊎_elim (λ e. last_step (subst (Contains (row (map (steps_of WithinUnions) (nodes ++ s ∷ [])) (length nodes))) e i)) (λ w. more_steps i (way_in WithinUnions led.from x (first_below WithinUnions led.from led.begun) w)) led.way

  -- parts
  pub part_out : (a p : Mode) (place : ℕ) → a.id < length nodes → IsModePart (nodes ++ s ∷ []) a place p → IsModePart nodes a place p
  part_out a p place h part = record {
    at = at_other (nodes ++ s ∷ []) nodes a.id a.id (unfolded nodes a.id) place p.id (member_out a.id p.id h) (subst (λ (t : Shape). IsInMode (nodes ++ s ∷ []) a.id t place p.id) (old_unfolded a.id h) part.at);
    flex = part.flex ∙ ap (passes_on a.fixed) (old_unfolded a.id h);
  }

  pub part_in : (a p : Mode) (place : ℕ) → a.id < length nodes → IsModePart nodes a place p → IsModePart (nodes ++ s ∷ []) a place p
  part_in a p place h part = record {
    at = subst (λ (t : Shape). IsInMode (nodes ++ s ∷ []) a.id t place p.id) (sym (old_unfolded a.id h)) (at_other nodes (nodes ++ s ∷ []) a.id a.id (unfolded nodes a.id) place p.id (member_in a.id p.id h) part.at);
    flex = part.flex ∙ ap (passes_on a.fixed) (sym (old_unfolded a.id h));
  }

  bare_within : ShapeIsWithin (length nodes) (bare nodes s)
  bare_within = go s within
    where
      go : (t : Shape) → ShapeIsWithin (length nodes) t → ShapeIsWithin (length nodes) (bare nodes t)
      go (Same t) w = let h : t < length nodes = w 0 0 (omega arith) in holds.within (behind nodes (length nodes) t) (behind_below nodes holds (length nodes) t h)
      go _ w = w

  pub inside : (a p : Mode) (at : ℕ) → a.id < suc (length nodes) → IsModePart (nodes ++ s ∷ []) a at p → p.id < length nodes
  inside a p at h part = go (place a.id h)
    where
      go : (a.id < length nodes) ⊎ (a.id ≡ length nodes) → p.id < length nodes
      go (inl lt) = part_below nodes holds a p at lt (part_out a p at lt part)
      go (inr e) = at_below (nodes ++ s ∷ []) (length nodes) (length nodes) (bare nodes s) at p.id bare_within (λ is. new_below WithinUnions p.id is.way)
          (subst (λ (t : Shape). IsInMode (nodes ++ s ∷ []) (length nodes) t at p.id) new_unfolded (subst (λ (m : ℕ). IsInMode (nodes ++ s ∷ []) m (unfolded (nodes ++ s ∷ []) m) at p.id) e part.at))

  -- unfoldings of nodes that were there
  pub grows : (depth : ℕ) (a b : Mode) → a.id < length nodes → b.id < length nodes → Alike nodes depth a b → Alike (nodes ++ s ∷ []) depth a b
  grows zero a b h g al = tt
  grows (suc depth) a b h g al = (
    rw (old_unfolded a.id h, old_unfolded b.id g) al.0,
    (
      λ at p part. let old = part_out a p at h part in let q = al.1.0 at p old in (q.0, part_in b q.0 at g q.1, grows depth p q.0 (part_below nodes holds a p at h old) (part_below nodes holds b q.0 at g q.1) q.2),
      λ at q part. let old = part_out b q at g part in let p = al.1.1 at q old in (p.0, part_in a p.0 at h p.1, grows depth p.0 q (part_below nodes holds a p.0 at h p.1) (part_below nodes holds b q at g old) p.2),
    ),
  )

  pub shrinks : (depth : ℕ) (a b : Mode) → a.id < length nodes → b.id < length nodes → Alike (nodes ++ s ∷ []) depth a b → Alike nodes depth a b
  shrinks zero a b h g al = tt
  shrinks (suc depth) a b h g al = (
    rw (old_unfolded a.id h, old_unfolded b.id g) at al.0,
    (
      λ at p old. let q = al.1.0 at p (part_in a p at h old) in let r = part_out b q.0 at g q.1 in (q.0, r, shrinks depth p q.0 (part_below nodes holds a p at h old) (part_below nodes holds b q.0 at g r) q.2),
      λ at q old. let p = al.1.1 at q (part_in b q at g old) in let r = part_out a p.0 at h p.1 in (p.0, r, shrinks depth p.0 q (part_below nodes holds a p.0 at h r) (part_below nodes holds b q at g old) p.2),
    ),
  )

  -- the rows of old nodes, and of the new one
  pub row_in : (a : Mode) (row : Bool × List ℕ) → a.id < length nodes → IsRowOf nodes a row → IsRowOf (nodes ++ s ∷ []) a row
  row_in a row h is = record {
    all = λ at p part. is.all at p (part_out a p at h part);
    only = λ at w st. let k = is.only at w st in let lt = k.1 in (k.0, (let l = longer in omega arith), part_in a k.0 at h k.2, k.3);
  }

  pub new_row : (fixed : Bool) (row : Bool × List ℕ) → IsShapeRow nodes (steps_of WithinUnions s) (bare nodes s) fixed row → IsRowOf (nodes ++ s ∷ []) (record { id = length nodes; fixed = fixed }) row
  new_row fixed row is =
      let at = parts_at (nodes ++ s ∷ []) nodes (steps_of WithinUnions s) (length nodes) (bare nodes s) is.items (λ u. new_member) is.parts in
      let below = All-weaker (λ m. m < length nodes) (λ m. m < length (nodes ++ s ∷ [])) (λ k g. let l = longer in omega arith) is.items is.below in
      let a : Mode = record { id = length nodes; fixed = fixed } in
      subst (λ (xs : List ℕ). IsRowOf (nodes ++ s ∷ []) a (row.0, xs)) (sym is.numbers)
      (row_is (nodes ++ s ∷ []) a is.items row.0 (passes_on fixed (bare nodes s)) (is.kind ∙ ap is_union (sym new_unfolded)) (ap (passes_on fixed) (sym new_unfolded)) (rw new_unfolded at) below)
