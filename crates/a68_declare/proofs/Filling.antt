-- Nodes that get the shapes of their classes.
use Rattle.std.proofs.Common.{◌≡◌, ◌<◌, ◌≤◌, ◌+◌, ◌⊎◌, ℕ, List, [], Bool as Truth, true, false, length, get_or, set, refl, sym, ap, ◌∙◌, arith, subst, inl, inr, ⊎_elim, get_or-set_same, get_or-set_other, nat_eq}
use Rattle.std.specs.Prelude.{◌↔◌, map}
use Rattle.std.specs.List.{All, Contains, IsDistinct}
use Rattle.std.proofs.lemmas.Bool.{cases_eq}
use Rattle.std.proofs.lemmas.Bool.Decides.{eqb_tells, nat_tests}
use Rattle.std.proofs.lemmas.List.Sorted.{Contains-permutation, IsNonDecreasingBy-from_sort, IsPermutation-sym}
use Rattle.std.proofs.lemmas.Map.Keys.{IsDistinct-IsPermutation, IsStrictlyIncreasing-from_distinct}
use Rattle.std.specs.List.Sorted.{IsPermutation, IsSorted, IsStrictlyIncreasing}
use Rattle.std.specs.Ordering.{nat_cmp}
use Rattle.std.proofs.lemmas.List.Elements.{All-contains, All-from_get_or, Contains-get_or}
use Rattle.a68_declare.proofs.Imaging.{map_has, has_map, other_image, union_image, images_of, parts_renumbered}
use Rattle.a68_declare.specs.Clean.{IsUnionImage, IsImage, IsRising}
use Rattle.a68_declare.specs.Numbering.{number_in, AreImagesOf, IsNumbering, IsShapeFrom, AreShapesFrom}
use Rattle.a68_equiv.proofs.Grasp.{behind_below}
use Rattle.a68_equiv.proofs.Growing.{way_below}
use Rattle.a68_equiv.specs.declared.steps.Inward.TheVariants.{WithinUnions}
use Rattle.a68_equiv.specs.Related.{IsSelfOrMember}
use Rattle.a68_equiv.specs.Spread.{NotesModes}
use Rattle.a68_equiv.specs.Unfolding.{behind, unfolded, is_union, IsMember}
use Rattle.a68_modes.specs.declared.shape.Shape.{Shape}
use Rattle.a68_modes.specs.declared.shape.Shape.TheVariants.{Struct, Union, Blank}
use Rattle.a68_modes.specs.Nodes.{shape_at, parts_of, ShapeIsWithin, HoldsNodes}

pub other_key : (class c : ℕ) → (c ≡ class → ⊥) → nat_eq class c ≡ false
other_key class c h = ⊎_elim (λ s. absurd (h (sym s.1))) (λ s. s.0) (eqb_tells class c)

none_in : (x : ℕ) → Contains [] x → ⊥
none_in x i = let h = i.1 in omega arith

-- what is noted of the numbers of modes are their numbers
pub noted_images : (to modes found : List ℕ) → NotesModes (map (number_in to) modes) [] found → AreImagesOf to modes found
noted_images to modes found notes y = (
  λ c. ⊎_elim (λ n. absurd (none_in y n)) (λ m. map_has (number_in to) modes y m) (notes.only y c),
  λ x. notes.all y (subst (Contains (map (number_in to) modes)) x.2 (has_map (number_in to) modes x.0 x.1)),
)

-- in another order they are the same numbers; where they are sorted, and each stands once, they rise
pub sorted_images : (to modes found sorted : List ℕ) → AreImagesOf to modes found → IsPermutation found sorted → AreImagesOf to modes sorted
sorted_images to modes found sorted are moved y = (
  λ c. (are y).0 (Contains-permutation sorted found y (IsPermutation-sym found sorted moved) c),
  λ x. Contains-permutation found sorted y moved ((are y).1 x),
)

pub sorted_once : (found sorted : List ℕ) → IsDistinct nat_eq found → IsPermutation found sorted → IsDistinct nat_eq sorted
sorted_once found sorted once moved = IsDistinct-IsPermutation nat_eq (λ x y. grind (arith, nat_tests)) found sorted moved once

pub sorted_rise : (found sorted : List ℕ) → IsDistinct nat_eq found → IsPermutation found sorted → IsSorted nat_cmp sorted → IsStrictlyIncreasing sorted
sorted_rise found sorted once moved up = IsStrictlyIncreasing-from_distinct sorted (IsNonDecreasingBy-from_sort (λ x. x) sorted up) (sorted_once found sorted once moved)

-- each mode within such a shape is there
pub shape_there : (nodes : List Shape) (to firsts : List ℕ) (m : ℕ) (shape : Shape) → HoldsNodes nodes → IsNumbering nodes to firsts → m < length nodes → IsShapeFrom nodes to m shape → ShapeIsWithin (length firsts) shape
shape_there nodes to firsts m shape holds num h from = go (is_union (unfolded nodes m)) refl
  where
    go : (t : Truth) → is_union (unfolded nodes m) ≡ t → ShapeIsWithin (length firsts) shape
    go true u =
        let i = union_image nodes (number_in to) m (unfolded nodes m) shape u from.image in
        let is = images_of nodes (number_in to) m shape i in
        let set : IsUnionImage nodes (number_in to) m (Union is.0) = subst (IsUnionImage nodes (number_in to) m) is.1 i in
        subst (ShapeIsWithin (length firsts)) (sym is.1) (All-from_get_or (λ k. k < length firsts) is.0 0 (λ k l.
        let x = (set (get_or is.0 k 0)).0 (Contains-get_or is.0 k 0 l) in
        subst (λ y. y < length firsts) x.2 (num.there x.0 (way_below nodes holds WithinUnions m x.0 h x.1.way))))
    go false u =
        let e = ap parts_of (other_image nodes (number_in to) m (unfolded nodes m) shape u from.image) ∙ parts_renumbered (number_in to) (unfolded nodes m) in
        let within = holds.within (behind nodes (length nodes) m) (behind_below nodes holds (length nodes) m h) in
        subst (All (λ k. k < length firsts)) (sym e) (All-from_get_or (λ k. k < length firsts) (map (number_in to) (parts_of (unfolded nodes m))) 0 (λ k l.
        let x = map_has (number_in to) (parts_of (unfolded nodes m)) _ (Contains-get_or (map (number_in to) (parts_of (unfolded nodes m))) k 0 l) in
        subst (λ y. y < length firsts) x.2 (num.there x.0 (All-contains (λ y. y < length nodes) (parts_of (unfolded nodes m)) x.0 within x.1))))

pub filled_none : (nodes : List Shape) (to firsts : List ℕ) (new : List Shape) → ((j : ℕ) → 15 ≤ j → shape_at new j ≡ Blank) → AreShapesFrom nodes to firsts 15 new
filled_none nodes to firsts new blank = record { done = λ j h l. absurd (omega arith); rising = λ j h l. absurd (omega arith); blank = λ j h l. blank j l }

-- one node more
pub filled : (nodes : List Shape) (to firsts : List ℕ) (count : ℕ) (new : List Shape) (shape : Shape) → count < length new → IsShapeFrom nodes to (get_or firsts count 0) shape → IsRising shape → AreShapesFrom nodes to firsts count new
    → AreShapesFrom nodes to firsts (count + 1) (set new count shape)
filled nodes to firsts count new shape lt from up so = record { done = done; rising = rising; blank = blank }
  where
    rising : (j : ℕ) → 15 ≤ j → j < count + 1 → IsRising (shape_at (set new count shape) j)
    rising j h l = go (cases_eq j count)
      where
        go : (j ≡ count) ⊎ (j ≡ count → ⊥) → IsRising (shape_at (set new count shape) j)
        go (inl e) = subst (λ k. IsRising (shape_at (set new count shape) k)) (sym e) (subst IsRising (sym (get_or-set_same new count shape Blank lt)) up)
        go (inr ne) = subst IsRising (sym (get_or-set_other new count j shape Blank ne)) (so.rising j h (omega arith))

    done : (j : ℕ) → 15 ≤ j → j < count + 1 → IsShapeFrom nodes to (get_or firsts j 0) (shape_at (set new count shape) j)
    done j h l = go (cases_eq j count)
      where
        go : (j ≡ count) ⊎ (j ≡ count → ⊥) → IsShapeFrom nodes to (get_or firsts j 0) (shape_at (set new count shape) j)
        go (inl e) = subst (λ k. IsShapeFrom nodes to (get_or firsts k 0) (shape_at (set new count shape) k)) (sym e) (subst (IsShapeFrom nodes to (get_or firsts count 0)) (sym (get_or-set_same new count shape Blank lt)) from)
        go (inr ne) = subst (IsShapeFrom nodes to (get_or firsts j 0)) (sym (get_or-set_other new count j shape Blank ne)) (so.done j h (omega arith))

    blank : (j : ℕ) → count + 1 ≤ j → 15 ≤ j → shape_at (set new count shape) j ≡ Blank
    blank j h l = get_or-set_other new count j shape Blank (λ e. omega arith) ∙ so.blank j (omega arith) l

-- ---- one shape

pub struct_from : (nodes : List Shape) (to : List ℕ) (m : ℕ) (fields made now : List (ℕ × ℕ)) → unfolded nodes m ≡ Struct fields → now ≡ fields → made ≡ map (λ (field : ℕ × ℕ). (field.0, number_in to field.1)) now
    → IsShapeFrom nodes to m (Struct made)
struct_from nodes to m fields made now is same e = record { image = subst (λ s. IsImage nodes (number_in to) m s (Struct made)) (sym is) (ap Struct (e ∙ ap (map (λ (field : ℕ × ℕ). (field.0, number_in to field.1))) same)); once = tt }

pub union_from : (nodes : List Shape) (to : List ℕ) (m : ℕ) (written members now images : List ℕ) → unfolded nodes m ≡ Union written → now ≡ members → ((x : ℕ) → Contains members x ↔ IsSelfOrMember nodes m (unfolded nodes m) x)
    → AreImagesOf to now images → IsDistinct nat_eq images → IsShapeFrom nodes to m (Union images)
union_from nodes to m written members now images is same among set once = record {
  image = subst (λ s. IsImage nodes (number_in to) m s (Union images)) (sym is) (λ y. (
    λ c. let x = (set y).0 c in (x.0, (are x.0).0 (subst (λ (xs : List ℕ). Contains xs x.0) same x.1), x.2),
    λ x. (set y).1 (x.0, subst (λ (xs : List ℕ). Contains xs x.0) (sym same) ((are x.0).1 x.1), x.2),
  ));
  once = once;
}
  where
    are : (x : ℕ) → Contains members x ↔ IsMember nodes m x
    are x = subst (λ s. Contains members x ↔ IsSelfOrMember nodes m s x) is (among x)
