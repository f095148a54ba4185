-- A shape joins modes in one way, and leaves them where they were.
use Rattle.std.proofs.Common.{◌≡◌, ◌<◌, ◌≤◌, ◌^◌, ◌⊎◌, ◌++◌, ℕ, List, [], ◌∷◌, Bool as Truth, false, length, refl, sym, ap, ◌∙◌, arith, subst, inl, inr, ⊎_elim, length-append}
use Rattle.std.specs.List.{All}
use Rattle.std.proofs.Math.ListN.{get_or-append}
use Rattle.std.proofs.Math.Seq.{get_or-append_seam}
use Rattle.std.proofs.lemmas.Bool.{cases_eq}
use Rattle.a68_base.specs.declared.limits.TheConstants.{MOST_MODES}
use Rattle.a68_declare.specs.Clean.{IsNode}
use Rattle.a68_equiv.specs.Dimensions.{HasDimensions}
use Rattle.a68_equiv.specs.Related.{without_flex}
use Rattle.a68_equiv.specs.declared.mode.Mode.{Mode}
use Rattle.a68_mode_table.proofs.Joining.{joined_sound, name_itself, name_within, node_stays, procedure_itself, procedure_within, row_itself, row_twin, row_within}
use Rattle.a68_mode_table.proofs.Shapes.{one_node, one_of_shape}
use Rattle.a68_mode_table.specs.Growing.{AreSound, IsInterned, an_old_one, a_new_one, IsRowInterned, KeepsShapes}
use Rattle.a68_mode_table.specs.Simple.{IsSimple}
use Rattle.a68_modes.proofs.Holding.{grown}
use Rattle.a68_modes.specs.declared.shape.Shape.{Shape}
use Rattle.a68_modes.specs.declared.shape.Shape.TheVariants.{Ref, Rows, Proc, Blank}
use Rattle.a68_modes.specs.Nodes.{shape_at, ShapeIsWithin}

-- no two nodes have one shape
abbrev AreDistinct : List Shape → Type 0
AreDistinct nodes = (a b : ℕ) → a < length nodes → b < length nodes → shape_at nodes a ≡ shape_at nodes b → a ≡ b

-- ---- one way

shape_one : (old new other : List Shape) (shape : Shape) (id next : ℕ) → AreDistinct old → IsInterned old shape new id → IsInterned old shape other next → (new ≡ other) × (id ≡ next)
shape_one old new other shape id next distinct (an_old_one lt e f) (an_old_one less g h) = (f ∙ sym h, distinct id next lt less (e ∙ sym g))
shape_one old new other shape id next distinct (an_old_one lt e f) (a_new_one none g h) = absurd (none id lt e)
shape_one old new other shape id next distinct (a_new_one none g h) (an_old_one lt e f) = absurd (none next lt e)
shape_one old new other shape id next distinct (a_new_one none e f) (a_new_one never g h) = (e ∙ sym g, f ∙ sym h)

still_distinct : (old : List Shape) (shape : Shape) → AreDistinct old → ((a : ℕ) → a < length old → shape_at old a ≡ shape → ⊥) → AreDistinct (old ++ shape ∷ [])
still_distinct old shape distinct none a b ha hb e = go (place a ha) (place b hb)
  where
    place : (m : ℕ) → m < length (old ++ shape ∷ []) → (m < length old) ⊎ (m ≡ length old)
    place m h = let l = length-append old (shape ∷ []) in ⊎_elim (λ e. inr e) (λ ne. inl (omega arith)) (cases_eq m (length old))

    early : (m : ℕ) → m < length old → shape_at (old ++ shape ∷ []) m ≡ shape_at old m
    early m h = get_or-append old (shape ∷ []) Blank m h

    late : (m : ℕ) → m ≡ length old → shape_at (old ++ shape ∷ []) m ≡ shape
    late m f = ap (shape_at (old ++ shape ∷ [])) f ∙ get_or-append_seam old shape [] Blank

    go : (a < length old) ⊎ (a ≡ length old) → (b < length old) ⊎ (b ≡ length old) → a ≡ b
    go (inl la) (inl lb) = distinct a b la lb (sym (early a la) ∙ e ∙ early b lb)
    go (inl la) (inr f) = absurd (none a la (sym (early a la) ∙ e ∙ late b f))
    go (inr f) (inl lb) = absurd (none b lb (sym (early b lb) ∙ sym e ∙ late a f))
    go (inr f) (inr g) = f ∙ sym g

distinct_on : (old new : List Shape) (shape : Shape) (id : ℕ) → AreDistinct old → IsInterned old shape new id → AreDistinct new
distinct_on old new shape id distinct (an_old_one lt e f) = subst AreDistinct (sym f) distinct
distinct_on old new shape id distinct (a_new_one none e f) = subst AreDistinct (sym e) (still_distinct old shape distinct none)

pub shapes_one : (old new other : List Shape) (shape : Shape) (id next : ℕ) → AreSound old → IsInterned old shape new id → IsInterned old shape other next → (new ≡ other) × (id ≡ next)
shapes_one old new other shape id next sound = shape_one old new other shape id next (one_of_shape old sound)

pub rows_one : (old new other : List Shape) (dims : ℕ) (flex : Truth) (of id next : ℕ) → AreSound old → of < length old → IsRowInterned old dims flex of new id → IsRowInterned old dims flex of other next
    → (new ≡ other) × (id ≡ next)
rows_one old new other dims flex of id next sound h p q =
    let distinct = one_of_shape old sound in
    let same = one_node old sound (without_flex of) q.fixed_element p.fixed_element q.element_is p.element_is in
    let other_first = subst (λ m. IsInterned old (Rows dims false m) q.between q.fixed) same q.fixed_is in
    let first = shape_one old p.between q.between (Rows dims false p.fixed_element) p.fixed q.fixed distinct p.fixed_is other_first in
    let second = subst (λ xs. IsInterned xs (Rows dims flex of) other next) (sym first.0) q.is in
    shape_one p.between new other (Rows dims flex of) id next (distinct_on old p.between (Rows dims false p.fixed_element) p.fixed distinct p.fixed_is) p.is second

-- ---- what was there stays

pub shape_keeps : (old new : List Shape) (shape : Shape) (id : ℕ) → IsInterned old shape new id → KeepsShapes old new id shape
shape_keeps old new shape id (an_old_one lt e f) = subst (λ xs. KeepsShapes old xs id shape) (sym f) (record { longer = omega arith; kept = λ m h. refl; there = lt; is = e })
shape_keeps old new shape id (a_new_one none e f) =
    let l = length-append old (shape ∷ []) in
    subst (λ xs. KeepsShapes old xs id shape) (sym e) (record {
      longer = omega arith;
      kept = λ m h. get_or-append old (shape ∷ []) Blank m h;
      there = omega arith;
      is = ap (shape_at (old ++ shape ∷ [])) f ∙ get_or-append_seam old shape [] Blank;
    })

pub row_keeps : (old new : List Shape) (dims : ℕ) (flex : Truth) (of id : ℕ) → IsRowInterned old dims flex of new id → KeepsShapes old new id (Rows dims flex of)
row_keeps old new dims flex of id p =
    let one = shape_keeps old p.between (Rows dims false p.fixed_element) p.fixed p.fixed_is in
    let two = shape_keeps p.between new (Rows dims flex of) id p.is in
    let l = one.longer in
    let k = two.longer in
    record { longer = omega arith; kept = λ m h. two.kept m (omega arith) ∙ one.kept m h; there = two.there; is = two.is }

pub node_kept : (old new : List Shape) (shape : Shape) (id : ℕ) → AreSound old → ShapeIsWithin (length old) shape → IsSimple shape → IsInterned old shape new id
    → (mode : Mode) (k : ℕ) → mode.id < length old → IsNode old mode k → IsNode new mode k
node_kept old new shape id sound within simple (an_old_one lt e f) mode k h is = subst (λ xs. IsNode xs mode k) (sym f) is
node_kept old new shape id sound within simple (a_new_one none e f) mode k h is = subst (λ xs. IsNode xs mode k) (sym e) (node_stays old sound shape within simple mode k h is)

-- ---- sound modes stay sound

sound_on : (old new : List Shape) (shape : Shape) (id : ℕ) → AreSound old → length new ≤ MOST_MODES → ShapeIsWithin (length old) shape → IsSimple shape → HasDimensions shape
    → (twin : ℕ) → IsNode (old ++ shape ∷ []) (without_flex (length old)) twin → IsInterned old shape new id → AreSound new
sound_on old new shape id sound few within simple dims twin twin_is (an_old_one lt e f) = subst AreSound (sym f) sound
sound_on old new shape id sound few within simple dims twin twin_is (a_new_one none e f) =
    let l = length-append old (shape ∷ []) in
    let long = ap length e in
    let less : length old < 16777216 = omega arith in
    subst AreSound (sym e) (joined_sound old sound shape within simple dims twin twin_is (grown old shape sound.holds within less) none)

pub name_sound : (old new : List Shape) (of id : ℕ) → AreSound old → length new ≤ MOST_MODES → of < length old → IsInterned old (Ref of) new id → AreSound new
name_sound old new of id sound few h = sound_on old new (Ref of) id sound few (name_within old sound of h) tt tt (length old) (name_itself old sound of h)

pub procedure_sound : (old new : List Shape) (params : List ℕ) (of id : ℕ) → AreSound old → length new ≤ MOST_MODES → All (λ param. param < length old) params → of < length old → IsInterned old (Proc params of) new id → AreSound new
procedure_sound old new params of id sound few all h =
    sound_on old new (Proc params of) id sound few (procedure_within old sound params of all h) tt tt (length old) (procedure_itself old sound params of all h)

module _ (old new : List Shape) (dims : ℕ) (flex : Truth) (of id : ℕ) (sound : AreSound old) (few : length new ≤ MOST_MODES) (some : 0 < dims) (small : dims < 2 ^ 32) (h : of < length old) (p : IsRowInterned old dims flex of new id) where
  one : KeepsShapes old p.between p.fixed (Rows dims false p.fixed_element)
  one = shape_keeps old p.between (Rows dims false p.fixed_element) p.fixed p.fixed_is

  two : KeepsShapes p.between new id (Rows dims flex of)
  two = shape_keeps p.between new (Rows dims flex of) id p.is

  of_there : of < length p.between
  of_there = let l = one.longer in omega arith

  fixed_within : ShapeIsWithin (length old) (Rows dims false p.fixed_element)
  fixed_within = row_within old sound dims false p.fixed_element p.element_is.there

  pub between_sound : AreSound p.between
  between_sound =
      let k = two.longer in
      sound_on old p.between (Rows dims false p.fixed_element) p.fixed sound (omega arith) fixed_within tt (some, small) (length old) (row_itself old sound dims of p.fixed_element h p.element_is) p.fixed_is

  element_between : IsNode p.between (without_flex of) p.fixed_element
  element_between = node_kept old p.between (Rows dims false p.fixed_element) p.fixed sound fixed_within tt p.fixed_is (without_flex of) p.fixed_element h p.element_is

  pub row_sound : AreSound new
  row_sound =
      sound_on p.between new (Rows dims flex of) id between_sound few (row_within p.between between_sound dims flex of of_there) tt (some, small) p.fixed
      (row_twin p.between between_sound dims flex of p.fixed_element p.fixed of_there element_between one.there one.is) p.is

  -- a node of an old mode stays one
  pub row_keeps_node : (mode : Mode) (k : ℕ) → mode.id < length old → IsNode old mode k → IsNode new mode k
  row_keeps_node mode k g is =
      let l = one.longer in
      node_kept p.between new (Rows dims flex of) id between_sound (row_within p.between between_sound dims flex of of_there) tt p.is mode k (omega arith)
      (node_kept old p.between (Rows dims false p.fixed_element) p.fixed sound fixed_within tt p.fixed_is mode k g is)

pub name_keeps_node : (old new : List Shape) (of id : ℕ) → AreSound old → of < length old → IsInterned old (Ref of) new id → (mode : Mode) (k : ℕ) → mode.id < length old → IsNode old mode k → IsNode new mode k
name_keeps_node old new of id sound h = node_kept old new (Ref of) id sound (name_within old sound of h) tt

pub procedure_keeps_node : (old new : List Shape) (params : List ℕ) (of id : ℕ) → AreSound old → All (λ param. param < length old) params → of < length old → IsInterned old (Proc params of) new id
    → (mode : Mode) (k : ℕ) → mode.id < length old → IsNode old mode k → IsNode new mode k
procedure_keeps_node old new params of id sound all h = node_kept old new (Proc params of) id sound (procedure_within old sound params of all h) tt
