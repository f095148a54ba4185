-- Modes that stay sound where one more joins them.
use Rattle.std.proofs.Common.{◌≡◌, ◌<◌, ◌⊎◌, ◌++◌, ℕ, zero, suc, List, [], ◌∷◌, Bool as Truth, true, false, length, get_or, refl, sym, ap, ◌∙◌, arith, subst, inl, inr, ⊎_elim, length-append}
use Rattle.std.specs.List.{All}
use Rattle.std.proofs.Math.ListN.{get_or-append}
use Rattle.std.proofs.Math.Seq.{get_or-append_seam}
use Rattle.std.proofs.lemmas.Bool.{cases_eq}
use Rattle.std.proofs.lemmas.List.Elements.{All-contains, All-push}
use Rattle.a68_coerce.proofs.Longer.{alike_sym, interning_members}
use Rattle.a68_declare.proofs.Cleaning.{alike_itself}
use Rattle.a68_declare.specs.Clean.{AreFixed, CleanMembersHaveNoFlex, IsBare, IsNode}
use Rattle.a68_equiv.proofs.Dimensions.{one_more}
use Rattle.a68_equiv.proofs.Growing.{grows, shrinks, still_formed}
use Rattle.a68_equiv.specs.Classes.{IsAlready, IsNodeOf}
use Rattle.a68_equiv.specs.Dimensions.{HasDimensions}
use Rattle.a68_equiv.specs.Related.{as_it_stands, without_flex}
use Rattle.a68_equiv.specs.Unfolding.{constructor, leads_within, passes_on, Equivalent}
use Rattle.a68_equiv.specs.declared.mode.Mode.{Mode}
use Rattle.a68_mode_table.proofs.Alike.{fixed_by, flat}
use Rattle.a68_mode_table.proofs.Shapes.{found, new_at, old_at, simple_other, simple_plain}
use Rattle.a68_mode_table.specs.Growing.{AreSound}
use Rattle.a68_mode_table.specs.Simple.{IsSimple}
use Rattle.a68_modes.specs.declared.shape.Shape.{Shape}
use Rattle.a68_modes.specs.declared.shape.Shape.TheVariants.{Ref, Rows, Union, Proc, Same, Blank}
use Rattle.a68_modes.specs.Nodes.{shape_at, parts_of, ShapeIsWithin, HoldsNodes}

simple_is_bare : (nodes : List Shape) (s : Shape) → IsSimple s → IsBare nodes s
simple_is_bare nodes (Union ms) simple = absurd simple
simple_is_bare nodes (Same m) simple = absurd simple
simple_is_bare nodes Blank simple = absurd simple
simple_is_bare nodes _ simple = tt

-- a shape joins modes, of which none is equivalent to it
module _ (nodes : List Shape) (sound : AreSound nodes) (s : Shape) (within : ShapeIsWithin (length nodes) s) where
  -- a node of a mode stays one
  pub still_node : (mode : Mode) (id : ℕ) → mode.id < length nodes → IsNode nodes mode id → IsNode (nodes ++ s ∷ []) mode id
  still_node mode id h is = record {
    there = let l = length-append nodes (s ∷ []) in let lt = is.there in omega arith;
    equivalent = λ depth. grows nodes s sound.holds sound.formed within depth (as_it_stands id) mode is.there h (is.equivalent depth);
  }

  pub old_or_new : (m : ℕ) → m < length (nodes ++ s ∷ []) → (m < length nodes) ⊎ (m ≡ length nodes)
  old_or_new m h = let l = length-append nodes (s ∷ []) in ⊎_elim (λ e. inr e) (λ ne. inl (omega arith)) (cases_eq m (length nodes))

  module _ (dims : HasDimensions s) (twin : ℕ) (twin_is : IsNode (nodes ++ s ∷ []) (without_flex (length nodes)) twin) (holds : HoldsNodes (nodes ++ s ∷ [])) (none : (a : ℕ) → a < length nodes → IsAlready nodes s a → ⊥)
      (bare_too : IsBare (nodes ++ s ∷ []) s) (members : CleanMembersHaveNoFlex (nodes ++ s ∷ [])) where
    bare_on : (t : Shape) → ShapeIsWithin (length nodes) t → IsBare nodes t → IsBare (nodes ++ s ∷ []) t
    bare_on (Union ms) in_them bare = (
      bare.0,
      λ x c. subst (λ k. leads_within k ≡ false) (sym (get_or-append nodes (s ∷ []) Blank x (All-contains (λ m. m < length nodes) ms x in_them c))) (bare.1 x c),
    )
    bare_on (Same m) in_them bare = bare
    bare_on Blank in_them bare = bare
    bare_on _ in_them bare = tt

    each_bare : (m : ℕ) → m < length (nodes ++ s ∷ []) → IsBare (nodes ++ s ∷ []) (shape_at (nodes ++ s ∷ []) m)
    each_bare m h = go (old_or_new m h)
      where
        go : (m < length nodes) ⊎ (m ≡ length nodes) → IsBare (nodes ++ s ∷ []) (shape_at (nodes ++ s ∷ []) m)
        go (inl lt) = subst (IsBare (nodes ++ s ∷ [])) (sym (get_or-append nodes (s ∷ []) Blank m lt)) (bare_on (shape_at nodes m) (sound.holds.within m lt) (sound.clean.bare m lt))
        go (inr e) = subst (λ k. IsBare (nodes ++ s ∷ []) (shape_at (nodes ++ s ∷ []) k)) (sym e) (subst (IsBare (nodes ++ s ∷ [])) (sym (get_or-append_seam nodes s [] Blank)) bare_too)

    all_apart : (a b : ℕ) → a < length (nodes ++ s ∷ []) → b < length (nodes ++ s ∷ []) → Equivalent (nodes ++ s ∷ []) (as_it_stands a) (as_it_stands b) → a ≡ b
    all_apart a b ha hb eq = go (old_or_new a ha) (old_or_new b hb)
      where
        go : (a < length nodes) ⊎ (a ≡ length nodes) → (b < length nodes) ⊎ (b ≡ length nodes) → a ≡ b
        go (inl la) (inl lb) = sound.clean.apart a b la lb (λ depth. shrinks nodes s sound.holds sound.formed within depth (as_it_stands a) (as_it_stands b) la lb (eq depth))
        go (inl la) (inr e) = absurd (none a la (subst (λ k. Equivalent (nodes ++ s ∷ []) (as_it_stands a) (as_it_stands k)) e eq))
        go (inr e) (inl lb) =
            let back : Equivalent (nodes ++ s ∷ []) (as_it_stands b) (as_it_stands a) = λ depth. alike_sym (nodes ++ s ∷ []) depth (as_it_stands a) (as_it_stands b) (eq depth) in
            absurd (none b lb (subst (λ k. Equivalent (nodes ++ s ∷ []) (as_it_stands b) (as_it_stands k)) e back))
        go (inr e) (inr f) = e ∙ sym f

    each_fixed : (m : ℕ) → m < length (nodes ++ s ∷ []) → (id : ℕ) × IsNode (nodes ++ s ∷ []) (without_flex m) id
    each_fixed m h = go (old_or_new m h)
      where
        go : (m < length nodes) ⊎ (m ≡ length nodes) → (id : ℕ) × IsNode (nodes ++ s ∷ []) (without_flex m) id
        go (inl lt) = let n = sound.fixed m lt in (n.0, still_node (without_flex m) n.0 lt n.1)
        go (inr e) = (twin, subst (λ k. IsNode (nodes ++ s ∷ []) (without_flex k) twin) (sym e) twin_is)

    pub still_sound : AreSound (nodes ++ s ∷ [])
    still_sound = record {
      holds = holds;
      clean = record { holds = holds; bare = each_bare; apart = all_apart };
      formed = still_formed nodes s sound.holds sound.formed within;
      rows = one_more nodes s sound.rows dims;
      members = members;
      fixed = each_fixed;
    }

    pub still_fixed : (fixed : List ℕ) → AreFixed nodes fixed → AreFixed (nodes ++ s ∷ []) (fixed ++ twin ∷ [])
    still_fixed fixed are = record {
      long = let l = length-append nodes (s ∷ []) in let k = length-append fixed (twin ∷ []) in let e = are.long in omega arith;
      each = λ m h. go m (old_or_new m h);
    }
      where
        go : (m : ℕ) → (m < length nodes) ⊎ (m ≡ length nodes) → IsNode (nodes ++ s ∷ []) (without_flex m) (get_or (fixed ++ twin ∷ []) m 0)
        go m (inl lt) =
            let e = are.long in
            let below : m < length fixed = omega arith in
            subst (IsNode (nodes ++ s ∷ []) (without_flex m)) (sym (get_or-append fixed (twin ∷ []) 0 m below)) (still_node (without_flex m) (get_or fixed m 0) lt (are.each m lt))
        go m (inr e) =
            let here : get_or (fixed ++ twin ∷ []) m 0 ≡ twin = ap (λ k. get_or (fixed ++ twin ∷ []) k 0) (e ∙ sym are.long) ∙ get_or-append_seam fixed twin [] 0 in
            subst (IsNode (nodes ++ s ∷ []) (without_flex m)) (sym here) (subst (λ k. IsNode (nodes ++ s ∷ []) (without_flex k) twin) (sym e) twin_is)

-- ---- shapes that are no unions

module _ (nodes : List Shape) (sound : AreSound nodes) (s : Shape) (within : ShapeIsWithin (length nodes) s) (simple : IsSimple s) where
  pub node_stays : (mode : Mode) (id : ℕ) → mode.id < length nodes → IsNode nodes mode id → IsNode (nodes ++ s ∷ []) mode id
  node_stays = still_node nodes sound s within

  last_there : length nodes < length (nodes ++ s ∷ [])
  last_there = omega (arith, length-append nodes (s ∷ []))

  -- ---- the node of the new mode without its FLEX

  -- it is itself where none of the modes within it has FLEX that is taken away
  pub itself : constructor false s ≡ constructor true s → ((k : ℕ) → k < length (parts_of s) → Equivalent (nodes ++ s ∷ []) (as_it_stands (get_or (parts_of s) k 0)) (record { id = get_or (parts_of s) k 0; fixed = passes_on true s }))
      → IsNode (nodes ++ s ∷ []) (without_flex (length nodes)) (length nodes)
  itself same each = record {
    there = last_there;
    equivalent = fixed_by (nodes ++ s ∷ []) (length nodes) (length nodes) s s (new_at nodes sound s within simple) (new_at nodes sound s within simple) (simple_other s simple) (simple_other s simple) same refl each;
  }

  -- or an old one, whose shape it has without its FLEX
  pub old_twin : (a : ℕ) (t : Shape) → a < length nodes → shape_at nodes a ≡ t → IsSimple t → constructor false t ≡ constructor true s → length (parts_of t) ≡ length (parts_of s)
      → ((k : ℕ) → k < length (parts_of s) → Equivalent (nodes ++ s ∷ []) (as_it_stands (get_or (parts_of t) k 0)) (record { id = get_or (parts_of s) k 0; fixed = passes_on true s }))
      → IsNode (nodes ++ s ∷ []) (without_flex (length nodes)) a
  old_twin a t h e plain same count each = record {
    there = let l = last_there in omega arith;
    equivalent = fixed_by (nodes ++ s ∷ []) a (length nodes) t s (old_at nodes sound s within simple a h ∙ e) (new_at nodes sound s within simple) (simple_other t plain) (simple_other s simple) same count each;
  }

  -- ---- the longer list

  module _ (dims : HasDimensions s) (twin : ℕ) (twin_is : IsNode (nodes ++ s ∷ []) (without_flex (length nodes)) twin) (holds : HoldsNodes (nodes ++ s ∷ [])) (none : (a : ℕ) → a < length nodes → shape_at nodes a ≡ s → ⊥) where
    not_already : (a : ℕ) → a < length nodes → IsAlready nodes s a → ⊥
    not_already a h eq = none a h (found nodes sound s within simple a h eq)

    is_new : IsNodeOf nodes (nodes ++ s ∷ []) s (length nodes)
    is_new = inr (record { last = refl; added = refl; none = not_already })

    members_too : CleanMembersHaveNoFlex (nodes ++ s ∷ [])
    members_too = interning_members nodes (nodes ++ s ∷ []) s (length nodes) sound.holds sound.formed within sound.members is_new (simple_plain s simple)

    pub joined_sound : AreSound (nodes ++ s ∷ [])
    joined_sound = still_sound nodes sound s within dims twin twin_is holds not_already (simple_is_bare (nodes ++ s ∷ []) s simple) members_too

    pub joined_fixed : (fixed : List ℕ) → AreFixed nodes fixed → AreFixed (nodes ++ s ∷ []) (fixed ++ twin ∷ [])
    joined_fixed = still_fixed nodes sound s within dims twin twin_is holds not_already (simple_is_bare (nodes ++ s ∷ []) s simple) members_too

-- ---- names, procedures and rows

no_flex_within : (nodes : List Shape) (s : Shape) → passes_on true s ≡ false → (x : ℕ) → Equivalent nodes (as_it_stands x) (record { id = x; fixed = passes_on true s })
no_flex_within nodes s e x depth = subst (λ (b : Truth). Equivalent nodes (as_it_stands x) (record { id = x; fixed = b })) (sym e) (λ d. alike_itself nodes d (as_it_stands x)) depth

module _ (nodes : List Shape) (sound : AreSound nodes) where
  pub name_within : (of : ℕ) → of < length nodes → ShapeIsWithin (length nodes) (Ref of)
  name_within of h = one_there of h
    where
      one_there : (m : ℕ) → m < length nodes → All (λ k. k < length nodes) (m ∷ [])
      one_there m h zero d lt = h
      one_there m h (suc k) d lt = absurd (omega arith)

  pub name_itself : (of : ℕ) → of < length nodes → IsNode (nodes ++ Ref of ∷ []) (without_flex (length nodes)) (length nodes)
  name_itself of h = itself nodes sound (Ref of) (name_within of h) tt refl (λ k lt. no_flex_within (nodes ++ Ref of ∷ []) (Ref of) refl (get_or (of ∷ []) k 0))

  pub procedure_within : (params : List ℕ) (of : ℕ) → All (λ param. param < length nodes) params → of < length nodes → ShapeIsWithin (length nodes) (Proc params of)
  procedure_within params of all h = All-push (λ k. k < length nodes) params of all h

  pub procedure_itself : (params : List ℕ) (of : ℕ) → All (λ param. param < length nodes) params → of < length nodes → IsNode (nodes ++ Proc params of ∷ []) (without_flex (length nodes)) (length nodes)
  procedure_itself params of all h =
      itself nodes sound (Proc params of) (procedure_within params of all h) tt refl (λ k lt. no_flex_within (nodes ++ Proc params of ∷ []) (Proc params of) refl (get_or (parts_of (Proc params of)) k 0))

  pub row_within : (dims : ℕ) (flex : Truth) (of : ℕ) → of < length nodes → ShapeIsWithin (length nodes) (Rows dims flex of)
  row_within dims flex of h = name_within of h

  -- a row without FLEX, of an element without FLEX
  pub row_itself : (dims of plain : ℕ) → of < length nodes → IsNode nodes (without_flex of) plain → IsNode (nodes ++ Rows dims false plain ∷ []) (without_flex (length nodes)) (length nodes)
  row_itself dims of plain h is = itself nodes sound (Rows dims false plain) (row_within dims false plain is.there) tt refl each
    where
      each : (k : ℕ) → k < 1 → Equivalent (nodes ++ Rows dims false plain ∷ []) (as_it_stands (get_or (plain ∷ []) k 0)) (without_flex (get_or (plain ∷ []) k 0))
      each zero lt depth = grows nodes (Rows dims false plain) sound.holds sound.formed (row_within dims false plain is.there) depth (as_it_stands plain) (without_flex plain) is.there is.there
          (alike_sym nodes depth (without_flex plain) (as_it_stands plain) (flat nodes depth plain of (is.equivalent depth)))
      each (suc k) lt depth = absurd (omega arith)

  -- a row, where the row without FLEX is there
  pub row_twin : (dims : ℕ) (flex : Truth) (of plain first : ℕ) → of < length nodes → IsNode nodes (without_flex of) plain → first < length nodes → shape_at nodes first ≡ Rows dims false plain
      → IsNode (nodes ++ Rows dims flex of ∷ []) (without_flex (length nodes)) first
  row_twin dims flex of plain first h is lt e = old_twin nodes sound (Rows dims flex of) (row_within dims flex of h) tt first (Rows dims false plain) lt e tt refl refl each
    where
      each : (k : ℕ) → k < 1 → Equivalent (nodes ++ Rows dims flex of ∷ []) (as_it_stands (get_or (plain ∷ []) k 0)) (without_flex (get_or (of ∷ []) k 0))
      each zero lt depth = grows nodes (Rows dims flex of) sound.holds sound.formed (row_within dims flex of h) depth (as_it_stands plain) (without_flex of) is.there h (is.equivalent depth)
      each (suc k) lt depth = absurd (omega arith)
