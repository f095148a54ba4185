-- All modes are well formed, where those of mode definitions are: each ring of modes passes the mode of a definition.
use Rattle.std.proofs.Common.{◌≡◌, ◌<◌, ◌≤◌, ◌+◌, ◌-◌, ◌⊎◌, ℕ, zero, suc, List, [], ◌∷◌, Bool, true, false, length, refl, sym, ◌∙◌, arith, subst, inl, inr, ⊎_elim, Some}
use Rattle.std.specs.Prelude.{map, slice_index_or, nat_lt, if◌then◌else◌}
use Rattle.std.specs.List.{All, Contains}
use Rattle.std.proofs.lemmas.List.Elements.{All-contains, All-from_recursion, All-weaker}
use Rattle.std.proofs.lemmas.Bool.Decides.{nat_tests}
use Rattle.a68_declare.proofs.Standing.{standard_at}
use Rattle.a68_declare.specs.Broken.{root_of, IsIllFormed}
use Rattle.a68_declarers.proofs.Shaping.{form_low, shape_holds}
use Rattle.a68_declarers.proofs.There.{placed, declarer_there}
use Rattle.a68_declarers.specs.Declarers.{form_at, is_declarer, is_mode_definition, IsDeclarerAt, PartsFollow}
use Rattle.a68_declarers.specs.Modes.{ModesAreDeclared, AreOrdered}
use Rattle.a68_equiv.proofs.Growing.{way_below}
use Rattle.a68_equiv.proofs.Meekly.{way_join}
use Rattle.a68_equiv.proofs.Stepping.{row_of_map}
use Rattle.a68_equiv.specs.declared.steps.Inward.{Inward}
use Rattle.a68_equiv.specs.declared.steps.Inward.TheVariants.{BesidesNames, BesidesStructures, WithinUnions}
use Rattle.a68_equiv.specs.Ways.{steps_of, row, Way, IsWellFormed, AreWellFormed}
use Rattle.a68_equiv.specs.Ways.Way.{last_step, more_steps}
use Rattle.a68_modes.specs.declared.shape.Shape.{Shape}
use Rattle.a68_modes.specs.declared.shape.Shape.TheVariants.{Ref, Struct, Union, Proc, Same}
use Rattle.a68_modes.specs.Nodes.{shape_at, standard_shapes, parts_of, HoldsNodes}
use Rattle.a68_ranges.proofs.Taking.{below_or}
use Rattle.a68_ranges.specs.Definitions.{defines, FirstDefinition, here, further}
use Rattle.a68_ranges.specs.Nodes.{kind_at, parts_at}
use Rattle.a68_ranges.specs.declared.sort.IndicatorKind.TheVariants as sorts
use Rattle.a68_tree.specs.Trees.{Built}
use Rattle.a68_tree.specs.declared.kind.NodeKind.{NodeKind}
use Rattle.a68_tree.specs.declared.kind.NodeKind.TheVariants as kind

-- ---- a graph whose steps go down, but for those to roots

module _ (graph : List (List ℕ)) (rank : ℕ → ℕ) (Root : ℕ → Type 0) (count : ℕ)
    (within : (a b : ℕ) → a < count → Contains (row graph a) b → b < count)
    (falls : (a b : ℕ) → a < count → Contains (row graph a) b → (rank b < rank a) ⊎ Root b)
    (never : (r : ℕ) → r < count → Root r → Way graph r r → ⊥) where
  record Through (a b : ℕ) : Type 0 where
    root : ℕ
    there : root < count
    is : Root root
    before : Way graph a root
    behind : (root ≡ b) ⊎ Way graph root b

  through : (a b : ℕ) → a < count → Way graph a b → (rank b < rank a) ⊎ Through a b
  through a b h (last_step i) = ⊎_elim inl (λ r. inr (record { root = b; there = within a b h i; is = r; before = last_step i; behind = inl refl })) (falls a b h i)
  through a b h (more_steps {b = c} i w) = ⊎_elim
      (λ down. ⊎_elim (λ less. inl (omega arith)) (λ r. inr (record { root = c; there = within a c h i; is = r; before = last_step i; behind = inr w })) (falls a c h i))
      (λ t. inr (record { root = t.root; there = t.there; is = t.is; before = more_steps i t.before; behind = t.behind }))
      (through c b (within a c h i) w)

  pub no_ring : (a : ℕ) → a < count → Way graph a a → ⊥
  no_ring a h w = ⊎_elim (λ less. omega arith)
      (λ t. ⊎_elim
      (λ e. never t.root t.there t.is (subst (λ x. Way graph x t.root) (sym e) t.before))
      (λ v. never t.root t.there t.is (way_join graph t.root a t.root v t.before))
      t.behind)
      (through a a h w)

-- ---- the modes of declarers

-- steps lead to modes within the shape
pub steps_in : (which : Inward) (s : Shape) (b : ℕ) → Contains (steps_of which s) b → Contains (parts_of s) b
steps_in BesidesNames (Ref m) b c = absurd (let l = c.1 in omega arith)
steps_in BesidesNames (Proc ps m) b c = absurd (let l = c.1 in omega arith)
steps_in BesidesNames _ b c = c
steps_in BesidesStructures (Struct fs) b c = absurd (let l = c.1 in omega arith)
steps_in BesidesStructures (Proc (p ∷ ps) m) b c = absurd (let l = c.1 in omega arith)
steps_in BesidesStructures _ b c = c
steps_in WithinUnions (Same m) b c = c
steps_in WithinUnions (Union ms) b c = c
steps_in WithinUnions _ b c = absurd (let l = c.1 in omega arith)

abbrev low_ranks : List ℕ
low_ranks = 0 ∷ 0 ∷ 0 ∷ 0 ∷ 0 ∷ 0 ∷ 0 ∷ 1 ∷ 2 ∷ 1 ∷ 2 ∷ 1 ∷ 1 ∷ 0 ∷ 1 ∷ []

-- the standard modes lie below those of declarers, and later declarers below earlier ones
rank_of : (count : ℕ) → ℕ → ℕ
rank_of count m = if nat_lt m 15 then slice_index_or low_ranks m 0 else 3 + (count - m)

lows : All (λ r. r ≤ 2) low_ranks
lows = All-from_recursion (λ r. r ≤ 2) low_ranks (omega arith, (omega arith, (omega arith, (omega arith, (omega arith, (omega arith, (omega arith, (omega arith, (omega arith, (omega arith, (omega arith, (omega arith, (omega arith, (omega arith, (omega arith, tt)))))))))))))))

low_le : (m : ℕ) → m < 15 → slice_index_or low_ranks m 0 ≤ 2
low_le m h = lows m 0 h

rank_low : (count m : ℕ) → m < 15 → rank_of count m ≡ slice_index_or low_ranks m 0
unfolding rank_of
rank_low count m h = go (nat_lt m 15) refl
  where
    go : (b : Bool) → nat_lt m 15 ≡ b → (if b then slice_index_or low_ranks m 0 else 3 + (count - m)) ≡ slice_index_or low_ranks m 0
    go true e = refl
    go false e = let g : 15 ≤ m = grind (arith, nat_tests, e) in absurd (omega arith)

rank_high : (count m : ℕ) → 15 ≤ m → rank_of count m ≡ 3 + (count - m)
unfolding rank_of
rank_high count m h = go (nat_lt m 15) refl
  where
    go : (b : Bool) → nat_lt m 15 ≡ b → (if b then slice_index_or low_ranks m 0 else 3 + (count - m)) ≡ 3 + (count - m)
    go true e = let g : m < 15 = grind (arith, nat_tests, e) in absurd (omega arith)
    go false e = refl

-- the parts of a standard mode are standard, and lie lower
abbrev IsLower : (a b : ℕ) → Type 0
IsLower a b = (b < 15) × (slice_index_or low_ranks b 0 < slice_index_or low_ranks a 0)

lower_parts : (a : ℕ) → a < 15 → All (IsLower a) (parts_of (shape_at standard_shapes a))
lower_parts zero h = λ j d l. absurd (omega arith)
lower_parts (suc zero) h = λ j d l. absurd (omega arith)
lower_parts (suc (suc zero)) h = λ j d l. absurd (omega arith)
lower_parts (suc (suc (suc zero))) h = λ j d l. absurd (omega arith)
lower_parts (suc (suc (suc (suc zero)))) h = λ j d l. absurd (omega arith)
lower_parts (suc (suc (suc (suc (suc zero))))) h = λ j d l. absurd (omega arith)
lower_parts (suc (suc (suc (suc (suc (suc zero)))))) h = λ j d l. absurd (omega arith)
lower_parts (suc (suc (suc (suc (suc (suc (suc zero))))))) h = All-from_recursion (IsLower 7) (3 ∷ []) ((omega arith, omega arith), tt)
lower_parts (suc (suc (suc (suc (suc (suc (suc (suc zero)))))))) h = All-from_recursion (IsLower 8) (1 ∷ 13 ∷ 2 ∷ 3 ∷ 4 ∷ 7 ∷ 6 ∷ []) ((omega arith, omega arith), ((omega arith, omega arith), ((omega arith, omega arith), ((omega arith, omega arith), ((omega arith, omega arith), ((omega arith, omega arith), ((omega arith, omega arith), tt)))))))
lower_parts (suc (suc (suc (suc (suc (suc (suc (suc (suc zero))))))))) h = All-from_recursion (IsLower 9) (1 ∷ []) ((omega arith, omega arith), tt)
lower_parts (suc (suc (suc (suc (suc (suc (suc (suc (suc (suc zero)))))))))) h = All-from_recursion (IsLower 10) (12 ∷ []) ((omega arith, omega arith), tt)
lower_parts (suc (suc (suc (suc (suc (suc (suc (suc (suc (suc (suc zero))))))))))) h = All-from_recursion (IsLower 11) (2 ∷ []) ((omega arith, omega arith), tt)
lower_parts (suc (suc (suc (suc (suc (suc (suc (suc (suc (suc (suc (suc zero)))))))))))) h = All-from_recursion (IsLower 12) (3 ∷ []) ((omega arith, omega arith), tt)
lower_parts (suc (suc (suc (suc (suc (suc (suc (suc (suc (suc (suc (suc (suc zero))))))))))))) h = λ j d l. absurd (omega arith)
lower_parts (suc (suc (suc (suc (suc (suc (suc (suc (suc (suc (suc (suc (suc (suc zero)))))))))))))) h = All-from_recursion (IsLower 14) (13 ∷ []) ((omega arith, omega arith), tt)
lower_parts (suc (suc (suc (suc (suc (suc (suc (suc (suc (suc (suc (suc (suc (suc (suc m))))))))))))))) h = absurd (omega arith)

first_is : {tree : Built} {name d : ℕ} {ranges : List ℕ} → FirstDefinition tree sorts.ModeWord name ranges d → defines (kind_at tree d) ≡ Some sorts.ModeWord
first_is (here is) = is.sort_is
first_is (further none more) = first_is more

defines_mode : (k : NodeKind) → defines k ≡ Some sorts.ModeWord → is_mode_definition k ≡ true
unfolding defines
defines_mode kind.ModeDefinition e = refl
defines_mode _ e = absurd (cc)

module _ (tree : Built) (nodes : List Shape) (number : ℕ → Bool → ℕ) (holds : HoldsNodes nodes) (follow : PartsFollow tree)
    (declared : ModesAreDeclared tree nodes number) (ordered : AreOrdered tree nodes number) where
  -- the mode of a definition
  record IsRoot (b : ℕ) : Type 0 where
    definition : ℕ
    fixed : Bool
    is : is_mode_definition (kind_at tree definition) ≡ true
    same : b ≡ root_of tree number definition fixed

  abbrev Falls : (a b : ℕ) → Type 0
  Falls a b = (rank_of (length nodes) b < rank_of (length nodes) a) ⊎ IsRoot b

  falls_to_low : (a m : ℕ) → 15 ≤ a → m < 15 → Falls a m
  falls_to_low a m h l =
      let e = rank_high (length nodes) a h in
      let f = rank_low (length nodes) m l in
      let g = low_le m l in
      inl (omega arith)

  -- from the node of a declarer
  from_declarer : (d : ℕ) (fixed : Bool) → IsDeclarerAt tree d → All (Falls (number d fixed)) (parts_of (shape_at nodes (number d fixed)))
  from_declarer d fixed is =
      let low = ordered.low d fixed is in
      shape_holds (Falls (number d fixed)) tree number d fixed (form_at tree d) (shape_at nodes (number d fixed)) (form_low tree d)
      (λ m h. falls_to_low (number d fixed) m low h)
      (λ e f c. within e f c (is_declarer (kind_at tree e)) refl)
      (λ definition of. inr (record { definition = definition; fixed = fixed; is = defines_mode (kind_at tree definition) (first_is of.first); same = refl }))
      (declared.shapes d fixed is)
    where
      within : (e : ℕ) (f : Bool) → Contains (parts_at tree d) e → (b : Bool) → is_declarer (kind_at tree e) ≡ b → Falls (number d fixed) (number e f)
      within e f c true also =
          let at = placed (parts_at tree d) e c in
          let behind = follow d e (at.0, (declarer_there tree d is, at.1)) in
          let less = ordered.grows d e fixed f is also behind.0 in
          let low = ordered.low d fixed is in
          let g = rank_high (length nodes) (number d fixed) low in
          let h = rank_high (length nodes) (number e f) (omega arith) in
          let t = declared.there e f in
          inl (omega arith)
      within e f c false also =
          let none = ordered.none e f (λ t. let u : true ≡ false = sym t ∙ also in absurd (cc)) in
          falls_to_low (number d fixed) (number e f) (ordered.low d fixed is) (omega arith)

  all_fall : (a : ℕ) → a < length nodes → All (Falls a) (parts_of (shape_at nodes a))
  all_fall a h = ⊎_elim
      (λ low. subst (λ s. All (Falls a) (parts_of s)) (sym (standard_at nodes holds a low))
      (All-weaker (IsLower a) (Falls a) (λ b l.
      let e = rank_low (length nodes) a low in
      let f = rank_low (length nodes) b l.0 in
      let g = l.1 in
      inl (omega arith)) (parts_of (shape_at standard_shapes a)) (lower_parts a low)))
      (λ high.
      let o = ordered.onto a high h in
      subst (λ m. All (Falls m) (parts_of (shape_at nodes m))) o.3 (from_declarer o.0 o.1 o.2))
      (below_or a 15)

  step_falls : (which : Inward) (a b : ℕ) → a < length nodes → Contains (row (map (steps_of which) nodes) a) b → Falls a b
  step_falls which a b h c =
      let d : Contains (steps_of which (shape_at nodes a)) b = rw (row_of_map (steps_of which) nodes a h) at c in
      All-contains (Falls a) (parts_of (shape_at nodes a)) b (all_fall a h) (steps_in which (shape_at nodes a) b d)

  -- the modes of definitions lead back to themselves by no such way
  module _ (well : (d : ℕ) → IsIllFormed tree nodes number d → ⊥) where
    root_well : (which : Inward) → ((m : ℕ) → IsWellFormed nodes m → Way (map (steps_of which) nodes) m m → ⊥) → (r : ℕ) → r < length nodes → IsRoot r → Way (map (steps_of which) nodes) r r → ⊥
    root_well which never r h root w = go root.fixed root.same
      where
        ill : IsWellFormed nodes r → ⊥
        ill formed = never r formed w

        go : (fixed : Bool) → r ≡ root_of tree number root.definition fixed → ⊥
        go false e = well root.definition (record { is_definition = root.is; ill = inl (λ f. ill (subst (IsWellFormed nodes) (sym e) f)) })
        go true e = well root.definition (record { is_definition = root.is; ill = inr (λ f. ill (subst (IsWellFormed nodes) (sym e) f)) })

    no_way_back : (which : Inward) → ((m : ℕ) → IsWellFormed nodes m → Way (map (steps_of which) nodes) m m → ⊥) → (a : ℕ) → a < length nodes → Way (map (steps_of which) nodes) a a → ⊥
    no_way_back which never =
        no_ring (map (steps_of which) nodes) (rank_of (length nodes)) IsRoot (length nodes)
        (λ a b h c. way_below nodes holds which a b h (last_step c)) (step_falls which) (root_well which never)

    pub all_formed : AreWellFormed nodes
    all_formed m h = record {
      names = no_way_back BesidesNames (λ k f. f.names) m h;
      structures = no_way_back BesidesStructures (λ k f. f.structures) m h;
    }
