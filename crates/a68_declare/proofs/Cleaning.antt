-- Clean modes mean the same as those that they come from.
use Rattle.std.proofs.Common.{◌≡◌, ◌<◌, ◌≤◌, ◌⊎◌, ℕ, zero, suc, List, [], ◌∷◌, Bool as Truth, true, false, length, get_or, refl, sym, ap, ◌∙◌, arith, subst, inl, inr, ⊎_elim}
use Rattle.std.specs.Prelude.{◌↔◌, map}
use Rattle.std.specs.List.{Contains}
use Rattle.std.proofs.lemmas.Bool.{false≢true}
use Rattle.std.proofs.lemmas.List.{length-map}
use Rattle.a68_declare.proofs.Imaging.{map_has, get_map, map_same, same_count, same_shape, parts_renumbered, constructor_kept, constructor_union, passes_union, passes_renumbered, union_renumbered, leads_renumbered, image_other, other_image, image_union, union_image, images_of, at_other, other_at, at_union, union_at, passes_none, leads_by, union_leads, no_same, bare_other, steps_renumbered, wider, steps_union, dims_renumbered}
use Rattle.a68_declare.proofs.Looping.{no_sequence}
use Rattle.a68_declare.proofs.Standing.{standard_at, fifteen}
use Rattle.a68_declare.proofs.Serving.{bare_members, standard_image}
use Rattle.a68_declare.proofs.Words.{no_loops, way_behind}
use Rattle.a68_declare.specs.Clean.{AreFixed, CleansTo, IsBare, IsNode, IsRising, IsUnionImage, IsImage, UnionsHaveNoFlex, CleanMembersHaveNoFlex, renumbered}
use Rattle.a68_declare.specs.Numbering.{number_in, AreOnce, IsNumbering, IsShapeFrom, AreFull, AreTwins, HaveTwins}
use Rattle.a68_declarers.specs.Numbers.{twin_of}
use Rattle.a68_equiv.proofs.Grasp.{stays, behind_below}
use Rattle.a68_equiv.proofs.Growing.{way_below, part_below}
use Rattle.a68_equiv.proofs.Coding.{union_made}
use Rattle.a68_equiv.proofs.Meekly.{way_join}
use Rattle.a68_equiv.proofs.Numbers.{same_mode}
use Rattle.a68_equiv.proofs.Rowing.{no_steps, none_from}
use Rattle.a68_equiv.proofs.Stepping.{row_of_map}
use Rattle.a68_equiv.specs.Classes.{AreExact}
use Rattle.a68_equiv.specs.declared.mode.Mode.{Mode}
use Rattle.a68_equiv.specs.declared.steps.Inward.{Inward}
use Rattle.a68_equiv.specs.declared.steps.Inward.TheVariants.{BesidesNames, BesidesStructures, WithinUnions}
use Rattle.a68_equiv.specs.Dimensions.{HasDimensions, HaveDimensions}
use Rattle.a68_equiv.specs.Related.{as_it_stands, without_flex}
use Rattle.a68_equiv.specs.Unfolding.{behind, unfolded, constructor, leads_within, is_union, passes_on, IsMember, IsInMode, IsModePart, Alike, Equivalent}
use Rattle.a68_equiv.specs.Ways.{steps_of, row, Way, AreWellFormed}
use Rattle.a68_equiv.specs.Ways.Way.{last_step, more_steps}
use Rattle.a68_modes.specs.declared.shape.Shape.{Shape}
use Rattle.a68_modes.specs.declared.shape.Shape.TheVariants.{Union, Same, Blank}
use Rattle.a68_modes.specs.Nodes.{shape_at, parts_of, HoldsNodes}
use Rattle.a68_ranges.proofs.Taking.{below_or}

pub blank_past : (nodes : List Shape) (j : ℕ) → length nodes ≤ j → shape_at nodes j ≡ Blank
blank_past [] j h = refl
blank_past (s ∷ nodes) zero h = absurd (omega arith)
blank_past (s ∷ nodes) (suc j) h = blank_past nodes j (omega arith)

pub alike_itself : (nodes : List Shape) (depth : ℕ) (a : Mode) → Alike nodes depth a a
alike_itself nodes zero a = tt
alike_itself nodes (suc depth) a = (refl, (λ place p part. (p, part, alike_itself nodes depth p), λ place q part. (q, part, alike_itself nodes depth q)))

module _ (old new : List Shape) (classes to firsts : List ℕ) (holds : HoldsNodes old) (formed : AreWellFormed old) (full : AreFull old) (exact : AreExact old classes)
    (num : IsNumbering old to firsts) (new_holds : HoldsNodes new) (long : length new ≡ length firsts)
    (shapes : (j : ℕ) → 15 ≤ j → j < length firsts → IsShapeFrom old to (get_or firsts j 0) (shape_at new j)) where
  -- what stands in a mode has an equivalent one in each equivalent mode
  meets : (a b : ℕ) → a < length old → b < length old → Equivalent old (as_it_stands a) (as_it_stands b) → (place x : ℕ) → IsInMode old a (unfolded old a) place x
      → (y : ℕ) × IsInMode old b (unfolded old b) place y × (get_or to x 0 ≡ get_or to y 0)
  meets a b ha hb eq place x at =
      let part : IsModePart old (as_it_stands a) place (as_it_stands x) = record { at = at; flex = sym (passes_none (unfolded old a)) } in
      let q = (eq (suc exact.told_apart.0)).1.0 place (as_it_stands x) part in
      let hx = part_below old holds (as_it_stands a) (as_it_stands x) place ha part in
      let hy = part_below old holds (as_it_stands b) q.0 place hb q.1 in
      let plain : q.0 ≡ as_it_stands q.0.id = same_mode q.0 (as_it_stands q.0.id) refl (q.1.flex ∙ passes_none (unfolded old b)) in
      let class = exact.told_apart.1 (as_it_stands x) (as_it_stands q.0.id) hx hy (subst (λ m. Alike old exact.told_apart.0 (as_it_stands x) m) plain q.2) in
      (q.0.id, q.1.at, (num.same x q.0.id hx hy).1 ((exact.exact (as_it_stands x) (as_it_stands q.0.id) hx hy).0 class))

  turned : (a b : ℕ) → a < length old → b < length old → Equivalent old (as_it_stands a) (as_it_stands b) → Equivalent old (as_it_stands b) (as_it_stands a)
  turned a b h g e = (num.same b a g h).0 (sym ((num.same a b h g).1 e))

  one_kind : (a b : ℕ) → Equivalent old (as_it_stands a) (as_it_stands b) → is_union (unfolded old a) ≡ is_union (unfolded old b)
  one_kind a b eq = sym (union_made false (unfolded old a)) ∙ ap is_union (eq 1).0 ∙ union_made false (unfolded old b)

  -- the shape of a mode's class serves each equivalent mode
  moved : (a b : ℕ) → a < length old → b < length old → Equivalent old (as_it_stands a) (as_it_stands b) → (s : Shape) → IsShapeFrom old to a s → IsShapeFrom old to b s
  moved a b ha hb eq s from = record { image = go (is_union (unfolded old a)) refl; once = from.once }
    where
      back : Equivalent old (as_it_stands b) (as_it_stands a)
      back = turned a b ha hb eq

      members : (images : List ℕ) → s ≡ Union images → is_union (unfolded old a) ≡ true → (y : ℕ) → Contains images y ↔ ((x : ℕ) × IsMember old b x × (number_in to x ≡ y))
      members images e u y =
          let ub = sym (one_kind a b eq) ∙ u in
          let was : IsUnionImage old (number_in to) a (Union images) = subst (IsUnionImage old (number_in to) a) e (union_image old (number_in to) a (unfolded old a) s u from.image) in (
            λ c.
                let x = (was y).0 c in
                let m = meets a b ha hb eq 0 x.0 (union_at old a (unfolded old a) 0 x.0 u (refl, x.1)) in
                (m.0, (at_union old b (unfolded old b) 0 m.0 ub m.1).1, sym m.2 ∙ x.2),
            λ x.
                let m = meets b a hb ha back 0 x.0 (union_at old b (unfolded old b) 0 x.0 ub (refl, x.1)) in
                (was y).1 (m.0, (at_union old a (unfolded old a) 0 m.0 u m.1).1, sym m.2 ∙ x.2),
          )

      other : is_union (unfolded old a) ≡ false → s ≡ renumbered (number_in to) (unfolded old b)
      other u =
          let ub = sym (one_kind a b eq) ∙ u in
          let count = same_count (unfolded old a) (unfolded old b) u ub (eq 1).0 in
          other_image old (number_in to) a (unfolded old a) s u from.image
          ∙ same_shape (number_in to) (unfolded old a) (unfolded old b) u ub (eq 1).0
          (map_same (number_in to) (parts_of (unfolded old a)) (parts_of (unfolded old b)) count (λ k h.
          let m = meets a b ha hb eq k (get_or (parts_of (unfolded old a)) k 0) (other_at old a (unfolded old a) k _ u (h, refl)) in
          let at = at_other old b (unfolded old b) k m.0 ub m.1 in
          m.2 ∙ ap (number_in to) (sym at.1)))

      go : (t : Truth) → is_union (unfolded old a) ≡ t → IsImage old (number_in to) b (unfolded old b) s
      go true u =
          let i = images_of old (number_in to) a s (union_image old (number_in to) a (unfolded old a) s u from.image) in
          image_union old (number_in to) b (unfolded old b) s (sym (one_kind a b eq) ∙ u) (subst (IsUnionImage old (number_in to) b) (sym i.1) (members i.0 i.1 u))
      go false u = image_other old (number_in to) b (unfolded old b) s (sym (one_kind a b eq) ∙ u) (other u)

  -- the node of each mode has the shape of its class
  pub image_at : (m : ℕ) → m < length old → IsShapeFrom old to m (shape_at new (get_or to m 0))
  image_at m h =
      let there = num.there m h in
      ⊎_elim
      (λ low.
      let t = fifteen old holds in
      let j = get_or to m 0 in
      let eq = (num.same j m (omega arith) h).0 (num.standard j low) in
      moved j m (omega arith) h eq (shape_at new j) (subst (IsShapeFrom old to j) (sym (standard_at new new_holds j low)) (standard_image old holds to num.standard j low)))
      (λ high.
      let j = get_or to m 0 in
      let g = num.firsts_there j there in
      moved (get_or firsts j 0) m g h ((num.same (get_or firsts j 0) m g h).0 (num.back j there)) (shape_at new j) (shapes j high there))
      (below_or (get_or to m 0) 15)

  -- what stands behind mode words is neither one nor blank
  never_word : (m : ℕ) → m < length old → (t : ℕ) → unfolded old m ≡ Same t → ⊥
  never_word m h = no_loops old holds formed m h

  never_blank : (m : ℕ) → m < length old → unfolded old m ≡ Blank → ⊥
  never_blank m h = full (behind old (length old) m) (behind_below old holds (length old) m h)

  member_below : (m x : ℕ) → m < length old → IsMember old m x → x < length old
  member_below m x h i = way_below old holds WithinUnions m x h i.way

  member_unfolded : (m x : ℕ) → IsMember old m x → unfolded old x ≡ shape_at old x
  member_unfolded m x i = ap (shape_at old) (stays old (length old) x (no_same (shape_at old x) i.last))

  -- members have nodes that are neither unions nor mode words
  plain_image : (m x : ℕ) → m < length old → IsMember old m x → leads_within (shape_at new (get_or to x 0)) ≡ false
  plain_image m x h i =
      let hx = member_below m x h i in
      let leads : leads_within (unfolded old x) ≡ false = ap leads_within (member_unfolded m x i) ∙ i.last in
      ap leads_within (other_image old (number_in to) x (unfolded old x) (shape_at new (get_or to x 0)) (leads_by (unfolded old x) leads) (image_at x hx).image)
      ∙ leads_renumbered (number_in to) (unfolded old x) ∙ leads

  -- the shape of a node is bare
  bare_at : (m : ℕ) → m < length old → IsBare new (shape_at new (get_or to m 0))
  bare_at m h = go (is_union (unfolded old m)) refl
    where
      go : (t : Truth) → is_union (unfolded old m) ≡ t → IsBare new (shape_at new (get_or to m 0))
      go true u =
          let i = union_image old (number_in to) m (unfolded old m) (shape_at new (get_or to m 0)) u (image_at m h).image in
          let is = images_of old (number_in to) m (shape_at new (get_or to m 0)) i in
          let once = subst AreOnce is.1 (image_at m h).once in
          let set : IsUnionImage old (number_in to) m (Union is.0) = subst (IsUnionImage old (number_in to) m) is.1 i in
          subst (IsBare new) (sym is.1) (
            once,
            λ y c.
                let x = (set y).0 c in
                subst (λ k. leads_within (shape_at new k) ≡ false) x.2 (plain_image m x.0 h x.1),
          )
      go false u =
          subst (IsBare new) (sym (other_image old (number_in to) m (unfolded old m) (shape_at new (get_or to m 0)) u (image_at m h).image))
          (bare_other new (number_in to) (unfolded old m) u (never_word m h) (never_blank m h))

  bare_new : (j : ℕ) → j < length new → IsBare new (shape_at new j)
  bare_new j h =
      let lt : j < length firsts = omega arith in
      subst (λ k. IsBare new (shape_at new k)) (num.back j lt) (bare_at (get_or firsts j 0) (num.firsts_there j lt))

  bare_word : (s : Shape) → IsBare new s → (t : ℕ) → s ≡ Same t → ⊥
  bare_word s b t e = subst (IsBare new) e b

  new_unfolded : (m : ℕ) → m < length old → unfolded new (get_or to m 0) ≡ shape_at new (get_or to m 0)
  new_unfolded m h = ap (shape_at new) (stays new (length new) (get_or to m 0) (bare_word (shape_at new (get_or to m 0)) (bare_at m h)))

  there_new : (m : ℕ) → m < length old → get_or to m 0 < length new
  there_new m h = let l = num.there m h in omega arith

  union_same : (m : ℕ) → m < length old → is_union (unfolded new (get_or to m 0)) ≡ is_union (unfolded old m)
  union_same m h = ap is_union (new_unfolded m h) ∙ go (is_union (unfolded old m)) refl
    where
      go : (t : Truth) → is_union (unfolded old m) ≡ t → is_union (shape_at new (get_or to m 0)) ≡ is_union (unfolded old m)
      go true u =
          let is = images_of old (number_in to) m (shape_at new (get_or to m 0)) (union_image old (number_in to) m (unfolded old m) (shape_at new (get_or to m 0)) u (image_at m h).image) in
          ap is_union is.1 ∙ sym u
      go false u = ap is_union (other_image old (number_in to) m (unfolded old m) (shape_at new (get_or to m 0)) u (image_at m h).image) ∙ union_renumbered (number_in to) (unfolded old m)

  -- the members of a node are the images of members
  members_are : (m : ℕ) → m < length old → is_union (unfolded old m) ≡ true → (y : ℕ) → IsMember new (get_or to m 0) y ↔ ((x : ℕ) × IsMember old m x × (number_in to x ≡ y))
  members_are m h u y =
      let i = union_image old (number_in to) m (unfolded old m) (shape_at new (get_or to m 0)) u (image_at m h).image in
      let is = images_of old (number_in to) m (shape_at new (get_or to m 0)) i in
      let set : IsUnionImage old (number_in to) m (Union is.0) = subst (IsUnionImage old (number_in to) m) is.1 i in
      let bare = bare_members new new_holds (get_or to m 0) is.0 (there_new m h) is.1 (λ z c. let x = (set z).0 c in subst (λ k. leads_within (shape_at new k) ≡ false) x.2 (plain_image m x.0 h x.1)) y in
      (λ b. (set y).0 (bare.1 b), λ x. bare.0 ((set y).1 x))

  -- what stands at a place of a node, and of a mode that it is for
  at_down : (m : ℕ) → m < length old → (place y : ℕ) → IsInMode new (get_or to m 0) (unfolded new (get_or to m 0)) place y → (x : ℕ) × IsInMode old m (unfolded old m) place x × (get_or to x 0 ≡ y)
  at_down m h place y at = go (is_union (unfolded old m)) refl
    where
      go : (t : Truth) → is_union (unfolded old m) ≡ t → (x : ℕ) × IsInMode old m (unfolded old m) place x × (get_or to x 0 ≡ y)
      go true u =
          let a = at_union new (get_or to m 0) (unfolded new (get_or to m 0)) place y (union_same m h ∙ u) at in
          let x = (members_are m h u y).0 a.1 in
          (x.0, union_at old m (unfolded old m) place x.0 u (a.0, x.1), x.2)
      go false u =
          let a = at_other new (get_or to m 0) (unfolded new (get_or to m 0)) place y (union_same m h ∙ u) at in
          let e = ap parts_of (new_unfolded m h ∙ other_image old (number_in to) m (unfolded old m) (shape_at new (get_or to m 0)) u (image_at m h).image) ∙ parts_renumbered (number_in to) (unfolded old m) in
          let count = ap length e ∙ length-map (parts_of (unfolded old m)) (number_in to) in
          let less = a.0 in
          let lt : place < length (parts_of (unfolded old m)) = omega arith in
          (get_or (parts_of (unfolded old m)) place 0, other_at old m (unfolded old m) place _ u (lt, refl), sym (get_map (number_in to) (parts_of (unfolded old m)) place lt) ∙ ap (λ (xs : List ℕ). get_or xs place 0) (sym e) ∙ a.1)

  at_up : (m : ℕ) → m < length old → (place x : ℕ) → IsInMode old m (unfolded old m) place x → IsInMode new (get_or to m 0) (unfolded new (get_or to m 0)) place (get_or to x 0)
  at_up m h place x at = go (is_union (unfolded old m)) refl
    where
      go : (t : Truth) → is_union (unfolded old m) ≡ t → IsInMode new (get_or to m 0) (unfolded new (get_or to m 0)) place (get_or to x 0)
      go true u =
          let a = at_union old m (unfolded old m) place x u at in
          union_at new (get_or to m 0) (unfolded new (get_or to m 0)) place (get_or to x 0) (union_same m h ∙ u) (a.0, (members_are m h u (get_or to x 0)).1 (x, a.1, refl))
      go false u =
          let a = at_other old m (unfolded old m) place x u at in
          let e = ap parts_of (new_unfolded m h ∙ other_image old (number_in to) m (unfolded old m) (shape_at new (get_or to m 0)) u (image_at m h).image) ∙ parts_renumbered (number_in to) (unfolded old m) in
          let count = ap length e ∙ length-map (parts_of (unfolded old m)) (number_in to) in
          let less = a.0 in
          other_at new (get_or to m 0) (unfolded new (get_or to m 0)) place (get_or to x 0) (union_same m h ∙ u)
          (omega arith, ap (λ (xs : List ℕ). get_or xs place 0) e ∙ get_map (number_in to) (parts_of (unfolded old m)) place a.0 ∙ ap (number_in to) a.1)

  -- what a node's shape says is what the mode's says
  image_same : (x : ℕ) → x < length old → {A : Type 0} (g : Shape → A) → ((images : List ℕ) (s : Shape) → is_union s ≡ true → g (Union images) ≡ g s) → ((s : Shape) → g (renumbered (number_in to) s) ≡ g s)
      → g (unfolded new (get_or to x 0)) ≡ g (unfolded old x)
  image_same x h g on_union on_other = ap g (new_unfolded x h) ∙ go (is_union (unfolded old x)) refl
    where
      go : (t : Truth) → is_union (unfolded old x) ≡ t → g (shape_at new (get_or to x 0)) ≡ g (unfolded old x)
      go true u =
          let is = images_of old (number_in to) x (shape_at new (get_or to x 0)) (union_image old (number_in to) x (unfolded old x) (shape_at new (get_or to x 0)) u (image_at x h).image) in
          ap g is.1 ∙ on_union is.0 (unfolded old x) u
      go false u = ap g (other_image old (number_in to) x (unfolded old x) (shape_at new (get_or to x 0)) u (image_at x h).image) ∙ on_other (unfolded old x)

  one_constructor : (fixed : Truth) (m : ℕ) → m < length old → constructor fixed (unfolded new (get_or to m 0)) ≡ constructor fixed (unfolded old m)
  one_constructor fixed m h = image_same m h (constructor fixed) (constructor_union fixed) (constructor_kept fixed (number_in to))

  passes_on_kept : (fixed : Truth) (m : ℕ) → m < length old → passes_on fixed (unfolded new (get_or to m 0)) ≡ passes_on fixed (unfolded old m)
  passes_on_kept fixed m h = image_same m h (passes_on fixed) (passes_union fixed) (passes_renumbered fixed (number_in to))

  at_below : (m : ℕ) → m < length old → (place x : ℕ) → IsInMode old m (unfolded old m) place x → x < length old
  at_below m h place x at = part_below old holds (as_it_stands m) (as_it_stands x) place h (record { at = at; flex = sym (passes_none (unfolded old m)) })

  -- modes whose nodes are alike are alike
  alike_back : (depth a b : ℕ) → a < length old → b < length old → Alike new depth (as_it_stands (get_or to a 0)) (as_it_stands (get_or to b 0)) → Alike old depth (as_it_stands a) (as_it_stands b)
  alike_back zero a b ha hb al = tt
  alike_back (suc depth) a b ha hb al = (
    sym (one_constructor false a ha) ∙ al.0 ∙ one_constructor false b hb,
    (
      λ place p part.
          let pp : p ≡ as_it_stands p.id = same_mode p (as_it_stands p.id) refl (part.flex ∙ passes_none (unfolded old a)) in
          let hp = at_below a ha place p.id part.at in
          let q = al.1.0 place (as_it_stands (get_or to p.id 0)) (record { at = at_up a ha place p.id part.at; flex = sym (passes_none (unfolded new (get_or to a 0))) }) in
          let d = at_down b hb place q.0.id q.1.at in
          let hd = at_below b hb place d.0 d.1 in
          let qq : q.0 ≡ as_it_stands (get_or to d.0 0) = same_mode q.0 (as_it_stands (get_or to d.0 0)) (sym d.2) (q.1.flex ∙ passes_none (unfolded new (get_or to b 0))) in (
            as_it_stands d.0,
            record { at = d.1; flex = sym (passes_none (unfolded old b)) },
            subst (λ x. Alike old depth x (as_it_stands d.0)) (sym pp) (alike_back depth p.id d.0 hp hd (subst (λ x. Alike new depth (as_it_stands (get_or to p.id 0)) x) qq q.2)),
          ),
      λ place q part.
          let qq : q ≡ as_it_stands q.id = same_mode q (as_it_stands q.id) refl (part.flex ∙ passes_none (unfolded old b)) in
          let hq = at_below b hb place q.id part.at in
          let p = al.1.1 place (as_it_stands (get_or to q.id 0)) (record { at = at_up b hb place q.id part.at; flex = sym (passes_none (unfolded new (get_or to b 0))) }) in
          let d = at_down a ha place p.0.id p.1.at in
          let hd = at_below a ha place d.0 d.1 in
          let pp : p.0 ≡ as_it_stands (get_or to d.0 0) = same_mode p.0 (as_it_stands (get_or to d.0 0)) (sym d.2) (p.1.flex ∙ passes_none (unfolded new (get_or to a 0))) in (
            as_it_stands d.0,
            record { at = d.1; flex = sym (passes_none (unfolded old a)) },
            subst (λ x. Alike old depth (as_it_stands d.0) x) (sym qq) (alike_back depth d.0 q.id hd hq (subst (λ x. Alike new depth x (as_it_stands (get_or to q.id 0))) pp p.2)),
          ),
    ),
  )

  apart_new : (i j : ℕ) → i < length new → j < length new → Equivalent new (as_it_stands i) (as_it_stands j) → i ≡ j
  apart_new i j hi hj eq =
      let li : i < length firsts = omega arith in
      let lj : j < length firsts = omega arith in
      let a = get_or firsts i 0 in
      let b = get_or firsts j 0 in
      let ha = num.firsts_there i li in
      let hb = num.firsts_there j lj in
      let same : Equivalent new (as_it_stands (get_or to a 0)) (as_it_stands (get_or to b 0)) =
      subst (λ x. Equivalent new (as_it_stands x) (as_it_stands (get_or to b 0))) (sym (num.back i li)) (subst (λ x. Equivalent new (as_it_stands i) (as_it_stands x)) (sym (num.back j lj)) eq) in
      sym (num.back i li) ∙ (num.same a b ha hb).1 (λ depth. alike_back depth a b ha hb (same depth)) ∙ num.back j lj

  pub cleans : ((j : ℕ) → 15 ≤ j → j < length firsts → IsRising (shape_at new j)) → CleansTo old (number_in to) new
  cleans rising = record {
    clean = record { holds = new_holds; bare = bare_new; apart = apart_new };
    there = there_new;
    onto = λ j h. let lt : j < length firsts = omega arith in (get_or firsts j 0, num.firsts_there j lt, num.back j lt);
    same = num.same;
    images = λ m h. (image_at m h).image;
    in_order = num.in_order;
    rising = λ j high h. rising j high (omega arith);
  }

  -- modes that are alike, with or without their FLEX, have nodes that are
  abbrev image_of : Mode → Mode
  image_of m = record { id = get_or to m.id 0; fixed = m.fixed }

  -- what stands in a node, and in a mode that it is for
  part_down : (a p : Mode) (place : ℕ) → a.id < length old → IsModePart new (image_of a) place p → (m : Mode) × IsModePart old a place m × (m.id < length old) × (image_of m ≡ p)
  part_down a p place h part =
      let d = at_down a.id h place p.id part.at in
      let m : Mode = record { id = d.0; fixed = passes_on a.fixed (unfolded old a.id) } in
      let here : IsModePart old a place m = record { at = d.1; flex = refl } in
      (m, here, part_below old holds a m place h here, same_mode (image_of m) p d.2 (sym (passes_on_kept a.fixed a.id h) ∙ sym part.flex))

  part_up : (a m : Mode) (place : ℕ) → a.id < length old → IsModePart old a place m → IsModePart new (image_of a) place (image_of m)
  part_up a m place h part = record { at = at_up a.id h place m.id part.at; flex = part.flex ∙ sym (passes_on_kept a.fixed a.id h) }

  alike_on : (depth : ℕ) (a b : Mode) → a.id < length old → b.id < length old → Alike old depth a b → Alike new depth (image_of a) (image_of b)
  alike_on zero a b ha hb al = tt
  alike_on (suc depth) a b ha hb al = (
    one_constructor a.fixed a.id ha ∙ al.0 ∙ sym (one_constructor b.fixed b.id hb),
    (
      λ place p part.
          let m = part_down a p place ha part in
          let n = al.1.0 place m.0 m.1 in
          let hn = part_below old holds b n.0 place hb n.1 in
          (image_of n.0, part_up b n.0 place hb n.1, subst (λ x. Alike new depth x (image_of n.0)) m.3 (alike_on depth m.0 n.0 m.2 hn n.2)),
      λ place q part.
          let n = part_down b q place hb part in
          let m = al.1.1 place n.0 n.1 in
          let hm = part_below old holds a m.0 place ha m.1 in
          (image_of m.0, part_up a m.0 place ha m.1, subst (λ x. Alike new depth (image_of m.0) x) n.3 (alike_on depth m.0 n.0 hm n.2 m.2)),
    ),
  )

  -- the nodes of modes without their FLEX
  pub new_twins : (fixed : List ℕ) → AreTwins to firsts fixed → HaveTwins old → AreFixed new fixed
  new_twins fixed are twins = record { long = ap length are ∙ length-map firsts (λ first. number_in to (twin_of first)) ∙ sym long; each = each }
    where
      each : (j : ℕ) → j < length new → IsNode new (without_flex j) (get_or fixed j 0)
      each j h =
          let lt : j < length firsts = omega arith in
          let m = get_or firsts j 0 in
          let hm = num.firsts_there j lt in
          let t = twins m hm in
          let e : get_or fixed j 0 ≡ get_or to (twin_of m) 0 = ap (λ (xs : List ℕ). get_or xs j 0) are ∙ get_map (λ first. number_in to (twin_of first)) firsts j lt in
          let node : IsNode new (without_flex (get_or to m 0)) (get_or to (twin_of m) 0) = record { there = there_new (twin_of m) t.there; equivalent = λ depth. alike_on depth (as_it_stands (twin_of m)) (without_flex m) t.there hm (t.equivalent depth) } in
          subst (λ k. IsNode new (without_flex j) k) (sym e) (subst (λ k. IsNode new (without_flex k) (get_or to (twin_of m) 0)) (num.back j lt) node)

  -- ---- well formed

  wider_way : (which : Inward) (a b : ℕ) → a < length old → Way (map (steps_of WithinUnions) old) a b → Way (map (steps_of which) old) a b
  wider_way which a b h (last_step i) = last_step (rw (row_of_map (steps_of which) old a h) (wider which (shape_at old a) b (rw (row_of_map (steps_of WithinUnions) old a h) at i)))
  wider_way which a b h (more_steps {b = c} i w) =
      more_steps (rw (row_of_map (steps_of which) old a h) (wider which (shape_at old a) c (rw (row_of_map (steps_of WithinUnions) old a h) at i)))
      (wider_way which c b (way_below old holds WithinUnions a c h (last_step i)) w)

  step_back : (which : Inward) (m y : ℕ) → m < length old → Contains (row (map (steps_of which) new) (get_or to m 0)) y → (x : ℕ) × Way (map (steps_of which) old) m x × (get_or to x 0 ≡ y)
  step_back which m y h c = go (is_union (unfolded old m)) refl
    where
      step : Contains (steps_of which (shape_at new (get_or to m 0))) y
      step = rw (row_of_map (steps_of which) new (get_or to m 0) (there_new m h)) at c

      go : (t : Truth) → is_union (unfolded old m) ≡ t → (x : ℕ) × Way (map (steps_of which) old) m x × (get_or to x 0 ≡ y)
      go true u =
          let i = union_image old (number_in to) m (unfolded old m) (shape_at new (get_or to m 0)) u (image_at m h).image in
          let is = images_of old (number_in to) m (shape_at new (get_or to m 0)) i in
          let set : IsUnionImage old (number_in to) m (Union is.0) = subst (IsUnionImage old (number_in to) m) is.1 i in
          let among : Contains is.0 y = subst (λ (xs : List ℕ). Contains xs y) (ap (steps_of which) is.1 ∙ steps_union which is.0) step in
          let x = (set y).0 among in
          (x.0, wider_way which m x.0 h x.1.way, x.2)
      go false u =
          let e = ap (steps_of which) (other_image old (number_in to) m (unfolded old m) (shape_at new (get_or to m 0)) u (image_at m h).image) ∙ steps_renumbered which (number_in to) (unfolded old m) u in
          let x = map_has (number_in to) (steps_of which (unfolded old m)) y (subst (λ (xs : List ℕ). Contains xs y) e step) in
          (x.0, way_behind old holds which m x.0 h x.1, x.2)

  way_back : (which : Inward) (m i j : ℕ) → m < length old → get_or to m 0 ≡ i → Way (map (steps_of which) new) i j → (x : ℕ) × Way (map (steps_of which) old) m x × (get_or to x 0 ≡ j)
  way_back which m i j h e (last_step c) = step_back which m j h (subst (λ k. Contains (row (map (steps_of which) new) k) j) (sym e) c)
  way_back which m i j h e (more_steps {b = k} c w) =
      let s = step_back which m k h (subst (λ n. Contains (row (map (steps_of which) new) n) k) (sym e) c) in
      let r = way_back which s.0 k j (way_below old holds which m s.0 h s.1) s.2 w in
      (r.0, way_join (map (steps_of which) old) m s.0 r.0 s.1 r.1, r.2)

  -- a ring of nodes would go on for ever among the modes
  abbrev For : ℕ → Type 0
  For j = (m : ℕ) × (m < length old) × (get_or to m 0 ≡ j)

  next_for : (which : Inward) (j : ℕ) → Way (map (steps_of which) new) j j → For j → For j
  next_for which j w (m, h, e) = let r = way_back which m j j h e w in (r.0, way_below old holds which m r.0 h r.1, r.2)

  run : (which : Inward) (j : ℕ) → Way (map (steps_of which) new) j j → For j → ℕ → For j
  run which j w start zero = start
  run which j w start (suc k) = next_for which j w (run which j w start k)

  no_ring : (which : Inward) → ((m : ℕ) → m < length old → Way (map (steps_of which) old) m m → ⊥) → (j : ℕ) → j < length new → Way (map (steps_of which) new) j j → ⊥
  unfolding next_for run
  no_ring which never j h w =
      let lt : j < length firsts = omega arith in
      let start : For j = (get_or firsts j 0, num.firsts_there j lt, num.back j lt) in
      no_sequence (length old) (λ k. (run which j w start k).0) (Way (map (steps_of which) old)) (λ k. (run which j w start k).1)
      (λ k. (way_back which (run which j w start k).0 j j (run which j w start k).1 (run which j w start k).2 w).1)
      (way_join (map (steps_of which) old)) never

  pub new_formed : AreWellFormed new
  new_formed j h = record {
    names = no_ring BesidesNames (λ m g. (formed m g).names) j h;
    structures = no_ring BesidesStructures (λ m g. (formed m g).structures) j h;
  }

  pub new_dims : HaveDimensions old → HaveDimensions new
  new_dims dims j = ⊎_elim (λ h.
      let lt : j < length firsts = omega arith in
      subst (λ k. HasDimensions (shape_at new k)) (num.back j lt) (here (get_or firsts j 0) (num.firsts_there j lt)))
      (λ g. past j g) (below_or j (length new))
    where
      past : (j : ℕ) → length new ≤ j → HasDimensions (shape_at new j)
      past j g = subst HasDimensions (sym (blank_past new j g)) tt

      here : (m : ℕ) → m < length old → HasDimensions (shape_at new (get_or to m 0))
      here m h = go (is_union (unfolded old m)) refl
        where
          go : (t : Truth) → is_union (unfolded old m) ≡ t → HasDimensions (shape_at new (get_or to m 0))
          go true u =
              let is = images_of old (number_in to) m (shape_at new (get_or to m 0)) (union_image old (number_in to) m (unfolded old m) (shape_at new (get_or to m 0)) u (image_at m h).image) in
              subst HasDimensions (sym is.1) tt
          go false u = subst HasDimensions (sym (other_image old (number_in to) m (unfolded old m) (shape_at new (get_or to m 0)) u (image_at m h).image)) (dims_renumbered (number_in to) (unfolded old m) (dims (behind old (length old) m)))

  -- ---- without FLEX

  -- a mode has no FLEX of its own, and what stands in it has none, unless it is a name or a procedure
  module _ (Free : ℕ → Type 0) (still : (x : ℕ) → x < length old → Free x → constructor true (unfolded old x) ≡ constructor false (unfolded old x))
      (parts : (x : ℕ) → x < length old → Free x → (place y : ℕ) → IsInMode old x (unfolded old x) place y → (passes_on true (unfolded old x) ≡ false) ⊎ Free y)
      (members : (m x : ℕ) → m < length old → is_union (unfolded old m) ≡ true → IsMember old m x → Free x) where
    passes_same : (x : ℕ) → x < length old → passes_on true (unfolded new (get_or to x 0)) ≡ passes_on true (unfolded old x)
    passes_same = passes_on_kept true

    still_new : (x : ℕ) → x < length old → Free x → constructor true (unfolded new (get_or to x 0)) ≡ constructor false (unfolded new (get_or to x 0))
    still_new x h free = one_constructor true x h ∙ still x h free ∙ sym (one_constructor false x h)

    like : (depth x : ℕ) → x < length old → Free x → ((y : ℕ) → y < length old → Free y → Alike new depth (without_flex (get_or to y 0)) (as_it_stands (get_or to y 0)))
        → (place : ℕ) (p : Mode) → IsModePart new (without_flex (get_or to x 0)) place p → Alike new depth p (as_it_stands p.id)
    like depth x h free ih place p part = go p.fixed refl
      where
        d : (y : ℕ) × IsInMode old x (unfolded old x) place y × (get_or to y 0 ≡ p.id)
        d = at_down x h place p.id part.at

        go : (b : Truth) → p.fixed ≡ b → Alike new depth p (as_it_stands p.id)
        go false e = subst (λ m. Alike new depth m (as_it_stands p.id)) (sym (same_mode p (as_it_stands p.id) refl e)) (alike_itself new depth (as_it_stands p.id))
        go true e =
            let y = d.0 in
            ⊎_elim
            (λ none. absurd (false≢true (sym (part.flex ∙ passes_same x h ∙ none) ∙ e)))
            (λ frees.
            let al : Alike new depth (without_flex p.id) (as_it_stands p.id) = subst (λ k. Alike new depth (without_flex k) (as_it_stands k)) d.2 (ih y (at_below x h place y d.1) frees) in
            subst (λ m. Alike new depth m (as_it_stands p.id)) (sym (same_mode p (without_flex p.id) refl e)) al)
            (parts x h free place y d.1)

    still_alike : (depth x : ℕ) → x < length old → Free x → Alike new depth (without_flex (get_or to x 0)) (as_it_stands (get_or to x 0))
    still_alike zero x h free = tt
    still_alike (suc depth) x h free = (
      still_new x h free,
      (
        λ place p part.
            (as_it_stands p.id, record { at = part.at; flex = sym (passes_none (unfolded new (get_or to x 0))) }, like depth x h free (still_alike depth) place p part),
        λ place q part.
            let qq : q ≡ as_it_stands q.id = same_mode q (as_it_stands q.id) refl (part.flex ∙ passes_none (unfolded new (get_or to x 0))) in
            let p : Mode = record { id = q.id; fixed = passes_on true (unfolded new (get_or to x 0)) } in
            let here : IsModePart new (without_flex (get_or to x 0)) place p = record { at = part.at; flex = refl } in
            (p, here, subst (λ m. Alike new depth p m) (sym qq) (like depth x h free (still_alike depth) place p here)),
      ),
    )

    -- the members of a node have no FLEX
    pub members_fixed : (j y : ℕ) → j < length new → IsMember new j y → Equivalent new (without_flex y) (as_it_stands y)
    members_fixed j y h i =
        let lt : j < length firsts = omega arith in
        let m = get_or firsts j 0 in
        let hm = num.firsts_there j lt in
        let im : IsMember new (get_or to m 0) y = subst (λ k. IsMember new k y) (sym (num.back j lt)) i in
        go m hm im (is_union (unfolded old m)) refl
      where
        go : (m : ℕ) → m < length old → IsMember new (get_or to m 0) y → (t : Truth) → is_union (unfolded old m) ≡ t → Equivalent new (without_flex y) (as_it_stands y)
        go m hm im true u =
            let x = (members_are m hm u y).0 im in
            subst (λ k. Equivalent new (without_flex k) (as_it_stands k)) x.2 (λ depth. still_alike depth x.0 (member_below m x.0 hm x.1) (members m x.0 hm u x.1))
        go m hm im false u =
            let leads : leads_within (shape_at new (get_or to m 0)) ≡ false =
            ap leads_within (other_image old (number_in to) m (unfolded old m) (shape_at new (get_or to m 0)) u (image_at m hm).image) ∙ leads_renumbered (number_in to) (unfolded old m) ∙ union_leads (unfolded old m) u (never_word m hm) in
            absurd (none_from (map (steps_of WithinUnions) new) (get_or to m 0) y (row_of_map (steps_of WithinUnions) new (get_or to m 0) (there_new m hm) ∙ no_steps (shape_at new (get_or to m 0)) leads) im.way)

  -- where the members of unions have no FLEX, those of the nodes have none
  pub new_fixed : UnionsHaveNoFlex old → CleanMembersHaveNoFlex new
  new_fixed unions j y h i = members_fixed (λ x. Equivalent old (without_flex x) (as_it_stands x)) (λ x hx free. (free 1).0) inner unions j y h i
    where
      inner : (x : ℕ) → x < length old → Equivalent old (without_flex x) (as_it_stands x) → (place z : ℕ) → IsInMode old x (unfolded old x) place z
          → (passes_on true (unfolded old x) ≡ false) ⊎ Equivalent old (without_flex z) (as_it_stands z)
      inner x hx free place z at = go (is_union (unfolded old x)) refl
        where
          go : (t : Truth) → is_union (unfolded old x) ≡ t → (passes_on true (unfolded old x) ≡ false) ⊎ Equivalent old (without_flex z) (as_it_stands z)
          go true u = inr (unions x z hx u (at_union old x (unfolded old x) place z u at).1)
          go false u = by (passes_on true (unfolded old x)) refl
            where
              by : (b : Truth) → passes_on true (unfolded old x) ≡ b → (passes_on true (unfolded old x) ≡ false) ⊎ Equivalent old (without_flex z) (as_it_stands z)
              by false e = inl e
              by true e = inr (λ depth.
                  let q = (free (suc depth)).1.0 place (without_flex z) (record { at = at; flex = sym e }) in
                  let a = at_other old x (unfolded old x) place z u at in
                  let b = at_other old x (unfolded old x) place q.0.id u q.1.at in
                  let qq : q.0 ≡ as_it_stands z = same_mode q.0 (as_it_stands z) (sym b.1 ∙ a.1) (q.1.flex ∙ passes_none (unfolded old x)) in
                  subst (λ m. Alike old depth (without_flex z) m) qq q.2)
