-- The union of INT and LONG INT, as it joins modes.
use Rattle.std.proofs.Common.{◌≡◌, ◌<◌, ◌≤◌, ◌⊎◌, ◌++◌, ℕ, zero, suc, List, [], ◌∷◌, Bool as Truth, true, false, nat_eq, length, refl, sym, ap, ◌∙◌, arith, subst, inl, inr, ⊎_elim, length-append}
use Rattle.std.specs.List.{All, Contains, IsDistinct}
use Rattle.std.specs.Prelude.{map, if◌then◌else◌}
use Rattle.std.proofs.Math.ListN.{get_or-append}
use Rattle.std.proofs.Math.Seq.{get_or-append_seam}
use Rattle.std.proofs.lemmas.Bool.{cases_lt}
use Rattle.std.proofs.lemmas.Bool.Decides.{nat_tests}
use Rattle.std.proofs.lemmas.List.Elements.{All-from_recursion}
use Rattle.a68_base.specs.declared.limits.TheConstants.{MOST_MODES}
use Rattle.a68_coerce.proofs.Longer.{alike_sym, alike_trans}
use Rattle.a68_declare.proofs.Imaging.{at_union, passes_none, union_at}
use Rattle.a68_declare.proofs.Serving.{bare_members}
use Rattle.a68_declare.proofs.Standing.{fifteen, standard_at}
use Rattle.a68_declare.specs.Clean.{AreFixed, CleanMembersHaveNoFlex, IsBare, IsNode}
use Rattle.a68_equiv.proofs.Growing.{grows, member_out, new_unfolded, old_unfolded, shrinks, way_below}
use Rattle.a68_equiv.proofs.Numbers.{same_mode}
use Rattle.a68_equiv.specs.Classes.{AreKept, Classified, IsAlready, IsNodeOf}
use Rattle.a68_equiv.specs.Related.{as_it_stands, without_flex}
use Rattle.a68_equiv.specs.declared.steps.Inward.TheVariants.{WithinUnions}
use Rattle.a68_equiv.specs.Unfolding.{unfolded, constructor, is_union, leads_within, passes_on, Alike, Equivalent, IsInMode, IsMember, IsModePart}
use Rattle.a68_equiv.specs.declared.mode.Mode.{Mode}
use Rattle.a68_mode_table.proofs.Alike.{fixed_by}
use Rattle.a68_mode_table.proofs.Joining.{old_or_new, still_fixed, still_node, still_sound}
use Rattle.a68_mode_table.proofs.Shapes.{as_written}
use Rattle.a68_mode_table.specs.Growing.{AreSound, IsNumberInterned, IsNumberMode, KeepsOld, an_old_number, a_new_number, number_mode}
use Rattle.a68_mode_table.specs.Table.{IsTable}
use Rattle.a68_modes.proofs.Holding.{grown}
use Rattle.a68_modes.specs.declared.shape.Shape.{Shape}
use Rattle.a68_modes.specs.declared.shape.Shape.TheVariants.{Int, Long, Union, Blank}
use Rattle.a68_modes.specs.Nodes.{shape_at, ShapeIsWithin, HoldsNodes}

-- one of two
of_two : (x : ℕ) → Contains (1 ∷ 13 ∷ []) x → (x ≡ 1) ⊎ (x ≡ 13)
of_two x (zero, lt, e) = inl (sym e)
of_two x (suc zero, lt, e) = inr (sym e)
of_two x (suc (suc k), lt, e) = absurd (omega arith)

module _ (nodes : List Shape) (sound : AreSound nodes) where
  abbrev more : List Shape
  more = nodes ++ number_mode ∷ []

  there : 15 ≤ length nodes
  there = fifteen nodes sound.holds

  pub number_within : ShapeIsWithin (length nodes) number_mode
  number_within = let t = there in All-from_recursion (λ m. m < length nodes) (1 ∷ 13 ∷ []) (omega arith, (omega arith, tt))

  last : length more ≡ suc (length nodes)
  last = omega (arith, length-append nodes (number_mode ∷ []))

  -- INT and LONG INT stand where they stood
  old_shape : (m : ℕ) → m < length nodes → shape_at more m ≡ shape_at nodes m
  old_shape m h = get_or-append nodes (number_mode ∷ []) Blank m h

  int_at : shape_at more 1 ≡ Int
  int_at = let t = there in old_shape 1 (omega arith) ∙ standard_at nodes sound.holds 1 (omega arith)

  long_at : shape_at more 13 ≡ Long
  long_at = let t = there in old_shape 13 (omega arith) ∙ standard_at nodes sound.holds 13 (omega arith)

  plain_member : (x : ℕ) → Contains (1 ∷ 13 ∷ []) x → leads_within (shape_at more x) ≡ false
  plain_member x c = ⊎_elim (λ e. ap (λ k. leads_within (shape_at more k)) e ∙ ap leads_within int_at) (λ e. ap (λ k. leads_within (shape_at more k)) e ∙ ap leads_within long_at) (of_two x c)

  number_bare : IsBare more number_mode
  unfolding IsDistinct
  number_bare = (((refl, tt), (tt, tt)), plain_member)

  number_is : unfolded more (length nodes) ≡ number_mode
  number_is = new_unfolded nodes number_mode sound.holds sound.formed number_within

  int_is : unfolded more 1 ≡ Int
  int_is = let t = there in old_unfolded nodes number_mode sound.holds sound.formed number_within 1 (omega arith) ∙ as_written nodes sound 1 (omega arith) ∙ standard_at nodes sound.holds 1 (omega arith)

  long_is : unfolded more 13 ≡ Long
  long_is = let t = there in old_unfolded nodes number_mode sound.holds sound.formed number_within 13 (omega arith) ∙ as_written nodes sound 13 (omega arith) ∙ standard_at nodes sound.holds 13 (omega arith)

  -- its members are the same without their FLEX
  flexless : (x : ℕ) → Contains (1 ∷ 13 ∷ []) x → Equivalent more (as_it_stands x) (without_flex x)
  flexless x c = ⊎_elim
      (λ e. subst (λ k. Equivalent more (as_it_stands k) (without_flex k)) (sym e) (fixed_by more 1 1 Int Int int_is int_is refl refl refl refl (λ k h. absurd (omega (arith, h)))))
      (λ e. subst (λ k. Equivalent more (as_it_stands k) (without_flex k)) (sym e) (fixed_by more 13 13 Long Long long_is long_is refl refl refl refl (λ k h. absurd (omega (arith, h)))))
      (of_two x c)

  module _ (holds : HoldsNodes more) where
    number_members : (x : ℕ) → IsMember more (length nodes) x → Contains (1 ∷ 13 ∷ []) x
    number_members x is =
        let l = last in
        (bare_members more holds (length nodes) (1 ∷ 13 ∷ []) (omega arith) (get_or-append_seam nodes number_mode [] Blank) plain_member x).1 is

    part_of : (fixed : Truth) (place : ℕ) (p : Mode) → IsModePart more (record { id = length nodes; fixed = fixed }) place p → Contains (1 ∷ 13 ∷ []) p.id
    part_of fixed place p part =
        number_members p.id (at_union more (length nodes) number_mode place p.id refl (subst (λ t. IsInMode more (length nodes) t place p.id) number_is part.at)).1

    same_without : (depth : ℕ) → Alike more depth (as_it_stands (length nodes)) (without_flex (length nodes))
    same_without zero = tt
    same_without (suc depth) = (
      ap (constructor false) number_is ∙ sym (ap (constructor true) number_is),
      (
        λ place p part.
            let plain = same_mode p (as_it_stands p.id) refl (part.flex ∙ passes_none (unfolded more (length nodes))) in (
              without_flex p.id,
              record { at = part.at; flex = sym (ap (passes_on true) number_is) },
              subst (λ m. Alike more depth m (without_flex p.id)) (sym plain) (flexless p.id (part_of false place p part) depth),
            ),
        λ place q part.
            let fixed = same_mode q (without_flex q.id) refl (part.flex ∙ ap (passes_on true) number_is) in (
              as_it_stands q.id,
              record { at = part.at; flex = sym (passes_none (unfolded more (length nodes))) },
              subst (Alike more depth (as_it_stands q.id)) (sym fixed) (flexless q.id (part_of true place q part) depth),
            ),
      ),
    )

    pub number_itself : IsNode more (without_flex (length nodes)) (length nodes)
    number_itself = record { there = let l = last in omega arith; equivalent = same_without }

    pub number_free : CleanMembersHaveNoFlex more
    number_free m x h is = go (old_or_new nodes sound number_mode number_within m h)
      where
        go : (m < length nodes) ⊎ (m ≡ length nodes) → Equivalent more (without_flex x) (as_it_stands x)
        go (inl lt) depth =
            let was = member_out nodes number_mode sound.holds sound.formed number_within m x lt is in
            let below = way_below nodes sound.holds WithinUnions m x lt was.way in
            grows nodes number_mode sound.holds sound.formed number_within depth (without_flex x) (as_it_stands x) below below (sound.members m x lt was depth)
        go (inr e) depth =
            let c = number_members x (subst (λ k. IsMember more k x) e is) in
            alike_sym more depth (as_it_stands x) (without_flex x) (flexless x c depth)

    pub number_joins : ((a : ℕ) → a < length nodes → IsAlready nodes number_mode a → ⊥) → AreSound more
    number_joins none = still_sound nodes sound number_mode number_within tt (length nodes) number_itself holds none number_bare number_free

    pub number_fixed : ((a : ℕ) → a < length nodes → IsAlready nodes number_mode a → ⊥) → (fixed : List ℕ) → AreFixed nodes fixed → AreFixed more (fixed ++ length nodes ∷ [])
    number_fixed none = still_fixed nodes sound number_mode number_within tt (length nodes) number_itself holds none number_bare number_free

-- ---- one way

old_one : (old : List Shape) → AreSound old → (a b : ℕ) → a < length old → b < length old → IsNumberMode old a → IsNumberMode old b → a ≡ b
old_one old sound a b ha hb p q =
    let new = old ++ number_mode ∷ [] in
    let within = number_within old sound in
    sound.clean.apart a b ha hb
    (λ depth. shrinks old number_mode sound.holds sound.formed within depth (as_it_stands a) (as_it_stands b) ha hb
    (alike_trans new depth (as_it_stands a) (as_it_stands (length old)) (as_it_stands b) (p depth) (alike_sym new depth (as_it_stands b) (as_it_stands (length old)) (q depth))))

pub numbers_one : (old new other : List Shape) (id next : ℕ) → AreSound old → IsNumberInterned old new id → IsNumberInterned old other next → (new ≡ other) × (id ≡ next)
numbers_one old new other id next sound (an_old_number lt e f) (an_old_number less g h) = (f ∙ sym h, old_one old sound id next lt less e g)
numbers_one old new other id next sound (an_old_number lt e f) (a_new_number none g h) = absurd (none id lt e)
numbers_one old new other id next sound (a_new_number none g h) (an_old_number lt e f) = absurd (none next lt e)
numbers_one old new other id next sound (a_new_number none e f) (a_new_number never g h) = (e ∙ sym g, f ∙ sym h)

-- ---- what was there stays

pub numbers_keep : (old new : List Shape) (id : ℕ) → IsNumberInterned old new id → KeepsOld old new id
numbers_keep old new id (an_old_number lt e f) = subst (λ xs. KeepsOld old xs id) (sym f) (record { longer = omega arith; kept = λ m h. refl; there = lt })
numbers_keep old new id (a_new_number none e f) =
    let l = length-append old (number_mode ∷ []) in
    subst (λ xs. KeepsOld old xs id) (sym e) (record { longer = omega arith; kept = λ m h. get_or-append old (number_mode ∷ []) Blank m h; there = omega arith })

pub numbers_keep_node : (old new : List Shape) (id : ℕ) → AreSound old → IsNumberInterned old new id → (mode : Mode) (k : ℕ) → mode.id < length old → IsNode old mode k → IsNode new mode k
numbers_keep_node old new id sound (an_old_number lt e f) mode k h is = subst (λ xs. IsNode xs mode k) (sym f) is
numbers_keep_node old new id sound (a_new_number none e f) mode k h is =
    subst (λ xs. IsNode xs mode k) (sym e) (still_node old sound number_mode (number_within old sound) mode k h is)

pub numbers_sound : (old new : List Shape) (id : ℕ) → AreSound old → length new ≤ MOST_MODES → IsNumberInterned old new id → AreSound new
numbers_sound old new id sound few (an_old_number lt e f) = subst AreSound (sym f) sound
numbers_sound old new id sound few (a_new_number none e f) =
    let l = length-append old (number_mode ∷ []) in
    let long = ap length e in
    let less : length old < 16777216 = omega arith in
    subst AreSound (sym e) (number_joins old sound (grown old number_mode sound.holds (number_within old sound) less) none)

-- ---- a table with it

module _ (nodes : List Shape) (classes : Classified) (fixed : List ℕ) (table : IsTable nodes classes fixed) (after : List Shape) (id : ℕ) (is : IsNodeOf nodes after number_mode id) where
  pub number_interned : IsNumberInterned nodes after id
  number_interned = go is
    where
      go : IsNodeOf nodes after number_mode id → IsNumberInterned nodes after id
      go (inl old) = an_old_number old.there old.equivalent old.unchanged
      go (inr new) = a_new_number new.none new.added new.last

  pub number_filed : HoldsNodes after → (now : Classified) → AreKept after now → IsTable after now (if nat_eq id (length nodes) then fixed ++ length nodes ∷ [] else fixed)
  number_filed holds now kept = go is
    where
      go : IsNodeOf nodes after number_mode id → IsTable after now (if nat_eq id (length nodes) then fixed ++ length nodes ∷ [] else fixed)
      go (inl old) =
          let lt = old.there in
          let e : nat_eq id (length nodes) ≡ false = grind (arith, nat_tests) in
          subst (λ (b : Truth). IsTable after now (if b then fixed ++ length nodes ∷ [] else fixed)) (sym e)
          (record { sound = subst AreSound (sym old.unchanged) table.sound; kept = kept; fixed_are = subst (λ xs. AreFixed xs fixed) (sym old.unchanged) table.fixed_are })
      go (inr new) =
          let last = new.last in
          let e : nat_eq id (length nodes) ≡ true = grind (arith, nat_tests) in
          let held = subst HoldsNodes new.added holds in
          subst (λ (b : Truth). IsTable after now (if b then fixed ++ length nodes ∷ [] else fixed)) (sym e) (record {
            sound = subst AreSound (sym new.added) (number_joins nodes table.sound held new.none);
            kept = kept;
            fixed_are = subst (λ xs. AreFixed xs (fixed ++ length nodes ∷ [])) (sym new.added) (number_fixed nodes table.sound held new.none fixed table.fixed_are);
          })
