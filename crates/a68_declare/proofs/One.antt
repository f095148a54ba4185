-- The declarers of a tree break one rule first, at one place.
use Rattle.std.proofs.Common.{◌≡◌, ◌<◌, ◌≤◌, ◌⊎◌, ◌+◌, ◌-◌, inl, inr, ⊎_elim, ℕ, zero, suc, Bool, true, false, List, [], ◌∷◌, length, refl, sym, ap, ◌∙◌, arith, subst, Some, None, Option, get_or, slice_get}
use Rattle.std.specs.Prelude.{map, if◌then◌else◌, nat_lt, ◌&&◌}
use Rattle.std.specs.Option.{option_map_or}
use Rattle.std.proofs.lemmas.Bool.{cases_lt}
use Rattle.std.proofs.lemmas.Bool.Decides.{nat_tests}
use Rattle.std.proofs.lemmas.List.{ext_get_or}
use Rattle.a68_base.specs.declared.refusal.Refusal.{Refusal}
use Rattle.a68_declare.proofs.Standing.{standard_at, fifteen}
use Rattle.a68_declare.specs.Broken.{root_of, IsIllFormed, IsWrongUnion, HasRelated, HasNoTwo}
use Rattle.a68_declare.specs.Outcome.{AreRaw, AreModesOf, ByNode, IsFirstBroken, undefined, too_many, ill_formed, wrong_union, wrong_bounds}
use Rattle.a68_declarers.specs.Bounds.{bracket_at, bracket_of, next_start, HasWrongBounds}
use Rattle.a68_declarers.specs.Declarers.{form_at, is_declarer, is_field}
use Rattle.a68_declarers.specs.Numbers.{one_if}
use Rattle.a68_declarers.specs.Shapes.{dims_of, last_mode, front, fields, defined_mode, IsShapeOf}
use Rattle.a68_declarers.specs.Words.{declarers_before, IsTooMany}
use Rattle.a68_declarers.specs.declared.form.DeclarerForm.{DeclarerForm}
use Rattle.a68_declarers.specs.declared.form.DeclarerForm.TheVariants as forms
use Rattle.a68_equiv.specs.Unfolding.{flex_left}
use Rattle.a68_equiv.specs.Ways.{IsWellFormed}
use Rattle.a68_modes.specs.Nodes.{shape_at}
use Rattle.a68_modes.specs.declared.shape.Shape.{Shape}
use Rattle.a68_modes.specs.declared.shape.Shape.TheVariants.{Ref, Rows, Struct, Union, Proc, Same, Blank}
use Rattle.a68_ranges.proofs.Single.{definition_one}
use Rattle.a68_ranges.specs.Indexed.{IsLeast}
use Rattle.a68_ranges.specs.Nodes.{kind_at, name_at, parts_at, place_at}
use Rattle.a68_ranges.specs.Standard.{IsModeWordOf}
use Rattle.a68_ranges.specs.Twice.{IsTwice, single_mode_word}
use Rattle.a68_ranges.specs.declared.sort.IndicatorKind.TheVariants as sorts
use Rattle.a68_tree.specs.Trees.{Built}
use Rattle.a68_tree.specs.declared.node.Node.{Node}

if_same : {A : Type 0} (b : Bool) {x y s t : A} → x ≡ s → y ≡ t → (if b then x else y) ≡ (if b then s else t)
if_same true p q = p
if_same false p q = q

-- ---- the same numbers give the same shapes

module _ (tree : Built) (f g : ℕ → ℕ) (same : (e : ℕ) → f e ≡ g e) where
  found_same : (o : Option ℕ) → option_map_or f o 0 ≡ option_map_or g o 0
  found_same None = refl
  found_same (Some e) = same e

  pub last_same : (parts : List ℕ) → last_mode f parts ≡ last_mode g parts
  last_same parts = found_same (slice_get parts (length parts - 1))

  each_same : (parts : List ℕ) → map f parts ≡ map g parts
  each_same [] = refl
  each_same (p ∷ ps) = ap (λ x. x ∷ map f ps) (same p) ∙ ap (λ xs. g p ∷ xs) (each_same ps)

  fields_same : (before : ℕ) (parts : List ℕ) → fields tree f before parts ≡ fields tree g before parts
  fields_same before [] = refl
  fields_same before (p ∷ ps) =
      if_same (is_field (kind_at tree p)) (ap (λ xs. (name_at tree p, before) ∷ xs) (fields_same before ps)) (fields_same (f p) ps ∙ ap (λ m. fields tree g m ps) (same p))

  defined_same : (definition : Option ℕ) → defined_mode tree f definition ≡ defined_mode tree g definition
  defined_same None = refl
  defined_same (Some d) = last_same (parts_at tree d)

module _ (tree : Built) (once : (id : ℕ) → IsTwice tree id → ⊥) where
  pub word_one : (at name : ℕ) (one other : Option ℕ) → IsModeWordOf tree at name one → IsModeWordOf tree at name other → one ≡ other
  word_one at name None None p q = refl
  word_one at name None (Some b) p q = absurd (p b q)
  word_one at name (Some a) None p q = absurd (q a p)
  word_one at name (Some a) (Some b) p q = ap Some (definition_one tree sorts.ModeWord name single_mode_word once at a b p q)

  module _ (number others : ℕ → Bool → ℕ) (same : (d : ℕ) (fixed : Bool) → number d fixed ≡ others d fixed) where
    -- a declarer has one shape
    shape_one : (d : ℕ) (fixed : Bool) (form : DeclarerForm) (s t : Shape) → IsShapeOf tree number d fixed form s → IsShapeOf tree others d fixed form t → s ≡ t
    shape_one d fixed (forms.Standard m n) s t p q = p ∙ sym q
    shape_one d fixed forms.Name s t p q = p ∙ ap Ref (last_same tree (λ e. number e false) (λ e. others e false) (λ e. same e false) (parts_at tree d)) ∙ sym q
    shape_one d fixed (forms.Row flex) s t p q = p ∙ ap (λ m. Rows (dims_of (parts_at tree d)) (flex_left fixed flex) m) (last_same tree (λ e. number e fixed) (λ e. others e fixed) (λ e. same e fixed) (parts_at tree d)) ∙ sym q
    shape_one d fixed forms.Structure s t p q = p ∙ ap Struct (fields_same tree (λ e. number e fixed) (λ e. others e fixed) (λ e. same e fixed) 0 (parts_at tree d)) ∙ sym q
    shape_one d fixed forms.Union s t p q = p ∙ ap Union (each_same tree (λ e. number e true) (λ e. others e true) (λ e. same e true) (parts_at tree d)) ∙ sym q
    shape_one d fixed forms.Procedure s t p q =
        let params = each_same tree (λ e. number e true) (λ e. others e true) (λ e. same e true) (front (parts_at tree d)) in
        let yield = last_same tree (λ e. number e true) (λ e. others e true) (λ e. same e true) (parts_at tree d) in
        p ∙ ap (λ ps. Proc ps (last_mode (λ e. number e true) (parts_at tree d))) params ∙ ap (λ m. Proc (map (λ e. others e true) (front (parts_at tree d))) m) yield ∙ sym q
    shape_one d fixed forms.Word s t p q =
        let words = word_one d (name_at tree d) p.0 q.0 p.1 q.1 in
        p.2 ∙ ap Same (defined_same tree (λ e. number e fixed) (λ e. others e fixed) (λ e. same e fixed) p.0) ∙ ap (λ o. Same (defined_mode tree (λ e. others e fixed) o)) words ∙ sym q.2

  -- ---- the raw list is one

  module _ (raw another : List Shape) (number others : ℕ → Bool → ℕ) (a : AreRaw tree raw number) (b : AreRaw tree another others) where
    pub same_number : (d : ℕ) (fixed : Bool) → number d fixed ≡ others d fixed
    same_number d fixed = a.numbered d fixed ∙ sym (b.numbered d fixed)

    low_same : (m : ℕ) → m < 15 → shape_at raw m ≡ shape_at another m
    low_same m h = standard_at raw a.holds m h ∙ sym (standard_at another b.holds m h)

    high_same : (m : ℕ) → 15 ≤ m → m < length raw → shape_at raw m ≡ shape_at another m
    high_same m h lt =
        let from = a.onto m h lt in
        let d = from.0 in
        let fixed = from.1 in
        let here : number d fixed ≡ m = from.3 in
        let there : others d fixed ≡ m = sym (same_number d fixed) ∙ here in
        shape_one number others same_number d fixed (form_at tree d) (shape_at raw m) (shape_at another m)
        (subst (λ k. IsShapeOf tree number d fixed (form_at tree d) (shape_at raw k)) here (a.declared.shapes d fixed from.2))
        (subst (λ k. IsShapeOf tree others d fixed (form_at tree d) (shape_at another k)) there (b.declared.shapes d fixed from.2))

    shapes_same : (m : ℕ) → m < length raw → get_or raw m Blank ≡ get_or another m Blank
    shapes_same m lt = ⊎_elim (λ h. low_same m h) (λ h. high_same m h lt) (cases_lt m 15)

  no_longer : (raw another : List Shape) (number others : ℕ → Bool → ℕ) → AreRaw tree raw number → AreRaw tree another others → length another ≤ length raw
  no_longer raw another number others a b =
      ⊎_elim
      (λ (more : length raw < length another).
      let from = b.onto (length raw) (fifteen raw a.holds) more in
      let there = a.declared.there from.0 from.1 in
      let same : number from.0 from.1 ≡ length raw = same_number raw another number others a b from.0 from.1 ∙ from.3 in
      absurd (omega arith))
      (λ h. h)
      (cases_lt (length raw) (length another))

  pub raw_one : (raw another : List Shape) (number others : ℕ → Bool → ℕ) → AreRaw tree raw number → AreRaw tree another others → raw ≡ another
  raw_one raw another number others a b =
      let p = no_longer raw another number others a b in
      let q = no_longer another raw others number b a in
      ext_get_or Blank raw another (omega arith) (shapes_same raw another number others a b)

  -- ---- what is broken

  module _ (raw another : List Shape) (number others : ℕ → Bool → ℕ) (a : AreRaw tree raw number) (b : AreRaw tree another others) where
    list : raw ≡ another
    list = raw_one raw another number others a b

    root_same : (definition : ℕ) (fixed : Bool) → root_of tree number definition fixed ≡ root_of tree others definition fixed
    root_same definition fixed = last_same tree (λ e. number e fixed) (λ e. others e fixed) (λ e. same_number raw another number others a b e fixed) (parts_at tree definition)

    formed_back : (definition : ℕ) (fixed : Bool) → IsWellFormed another (root_of tree others definition fixed) → IsWellFormed raw (root_of tree number definition fixed)
    formed_back definition fixed p = subst (λ m. IsWellFormed raw m) (sym (root_same definition fixed)) (subst (λ l. IsWellFormed l (root_of tree others definition fixed)) (sym list) p)

    pub ill_on : (definition : ℕ) → IsIllFormed tree raw number definition → IsIllFormed tree another others definition
    ill_on definition p = record {
      is_definition = p.is_definition;
      ill = ⊎_elim (λ not. inl (λ q. not (formed_back definition false q))) (λ not. inr (λ q. not (formed_back definition true q))) p.ill;
    }

    pub union_on : (d : ℕ) → IsWrongUnion tree raw number d → IsWrongUnion tree another others d
    union_on d p = record {
      declarer = p.declarer;
      union = p.union;
      wrong =
          subst (λ m. HasRelated another m ⊎ HasNoTwo another m) (same_number raw another number others a b d false)
          (subst (λ l. HasRelated l (number d false) ⊎ HasNoTwo l (number d false)) list p.wrong);
    }

  -- ---- the first declarer behind 4,096

  count_grows : (byte : ℕ) (d : Bool) (place : ℕ) (n m : ℕ) → n ≤ m → (next : ℕ) → byte ≤ next → n + one_if (d && nat_lt place byte) ≤ m + one_if (d && nat_lt place next)
  count_grows byte false place n m h next le = omega arith
  count_grows byte true place n m h next le = go (nat_lt place byte) (nat_lt place next) refl refl
    where
      go : (s t : Bool) → nat_lt place byte ≡ s → nat_lt place next ≡ t → n + one_if s ≤ m + one_if t
      go false false e f = omega arith
      go false true e f = omega arith
      go true true e f = omega arith
      go true false e f =
          let lt : place < byte = grind (arith, nat_tests, e) in
          let not : next ≤ place = grind (arith, nat_tests, f) in
          absurd (omega arith)

  before_grows : (byte next n : ℕ) → byte ≤ next → declarers_before tree byte n ≤ declarers_before tree next n
  before_grows byte next zero le = omega arith
  before_grows byte next (suc n) le = count_grows byte (is_declarer (kind_at tree n)) (place_at tree n) (declarers_before tree byte n) (declarers_before tree next n) (before_grows byte next n le) next le

  no_earlier : (byte other : ℕ) → IsTooMany tree byte → IsTooMany tree other → byte ≤ other
  no_earlier byte other p q =
      ⊎_elim
      (λ (lt : other < byte).
      let grows = before_grows (other + 1) byte (length tree.nodes) (omega arith) in
      let many = q.here in
      let few = p.before in
      absurd (omega arith))
      (λ h. h)
      (cases_lt other byte)

  -- ---- one refusal

  abbrev AreOne : Refusal → Refusal → Type 0
  AreOne r s = (r.rule ≡ s.rule) × (r.place ≡ s.place)

  one_least : (P Q : ℕ → Type 0) (d e : ℕ) → ((x : ℕ) → P x → Q x) → ((x : ℕ) → Q x → P x) → IsLeast tree P (Some d) → IsLeast tree Q (Some e) → place_at tree d ≡ place_at tree e
  one_least P Q d e f g p q = let a = p.1 e (g e q.0) in let b = q.1 d (f d p.0) in omega arith

  pub one_broken : (r s : Refusal) → IsFirstBroken tree r → IsFirstBroken tree s → AreOne r s
  one_broken _ _ (undefined d p) (undefined e q) = (refl, one_least _ _ d e (λ x i. i) (λ x i. i) p q)
  one_broken _ _ (undefined d p) (too_many byte none many is) = absurd (none d p.0)
  one_broken _ _ (undefined d p) (ill_formed raw number e a q) = absurd (a.defined d p.0)
  one_broken _ _ (undefined d p) (wrong_union raw number e a well q) = absurd (a.defined d p.0)
  one_broken _ _ (undefined d p) (wrong_bounds raw number e a well unions q first) = absurd (a.defined d p.0)
  one_broken _ _ (too_many byte none many is) (undefined d p) = absurd (none d p.0)
  one_broken _ _ (too_many byte none many is) (too_many other never more so) =
      (refl, (let a = no_earlier byte other is so in let b = no_earlier other byte so is in omega arith))
  one_broken _ _ (too_many byte none many is) (ill_formed raw number e a q) = let few = a.few in absurd (omega arith)
  one_broken _ _ (too_many byte none many is) (wrong_union raw number e a well q) = let few = a.few in absurd (omega arith)
  one_broken _ _ (too_many byte none many is) (wrong_bounds raw number e a well unions q first) = let few = a.few in absurd (omega arith)
  one_broken _ _ (ill_formed raw number d a p) (undefined e q) = absurd (a.defined e q.0)
  one_broken _ _ (ill_formed raw number d a p) (too_many byte none many is) = let few = a.few in absurd (omega arith)
  one_broken _ _ (ill_formed raw number d a p) (ill_formed another others e b q) =
      (refl, one_least _ _ d e (ill_on raw another number others a b) (ill_on another raw others number b a) p q)
  one_broken _ _ (ill_formed raw number d a p) (wrong_union another others e b well q) = absurd (well d (ill_on raw another number others a b d p.0))
  one_broken _ _ (ill_formed raw number d a p) (wrong_bounds another others e b well unions q first) = absurd (well d (ill_on raw another number others a b d p.0))
  one_broken _ _ (wrong_union raw number d a well p) (undefined e q) = absurd (a.defined e q.0)
  one_broken _ _ (wrong_union raw number d a well p) (too_many byte none many is) = let few = a.few in absurd (omega arith)
  one_broken _ _ (wrong_union raw number d a well p) (ill_formed another others e b q) = absurd (well e (ill_on another raw others number b a e q.0))
  one_broken _ _ (wrong_union raw number d a well p) (wrong_union another others e b so q) =
      (refl, one_least _ _ d e (union_on raw another number others a b) (union_on another raw others number b a) p q)
  one_broken _ _ (wrong_union raw number d a well p) (wrong_bounds another others e b so unions q first) = absurd (unions d (union_on raw another number others a b d p.0))
  one_broken _ _ (wrong_bounds raw number d a well unions p first) (undefined e q) = absurd (a.defined e q.0)
  one_broken _ _ (wrong_bounds raw number d a well unions p first) (too_many byte none many is) = let few = a.few in absurd (omega arith)
  one_broken _ _ (wrong_bounds raw number d a well unions p first) (ill_formed another others e b q) = absurd (well e (ill_on another raw others number b a e q.0))
  one_broken _ _ (wrong_bounds raw number d a well unions p first) (wrong_union another others e b so q) = absurd (unions e (union_on another raw others number b a e q.0))
  one_broken _ _ (wrong_bounds raw number d a well unions p first) (wrong_bounds another others e b so others_fine q also) =
      let place = one_least (HasWrongBounds tree) (HasWrongBounds tree) d e (λ x i. i) (λ x i. i) p q in
      let one = first e q.0 (sym place) in
      let other = also d p.0 place in
      let same : d ≡ e = omega arith in
      (refl, ap (bracket_at tree tree.starts) same)

  pub not_broken : (modes : List Shape) (of : ByNode) (r : Refusal) → AreModesOf tree modes of → IsFirstBroken tree r → ⊥
  not_broken modes of _ m (undefined d p) = m.raw_are.defined d p.0
  not_broken modes of _ m (too_many byte none many is) = let few = m.raw_are.few in absurd (omega arith)
  not_broken modes of _ m (ill_formed raw number d a p) = m.fine.formed_all d (ill_on raw m.raw number m.number a m.raw_are d p.0)
  not_broken modes of _ m (wrong_union raw number d a well p) = m.fine.unions d (union_on raw m.raw number m.number a m.raw_are d p.0)
  not_broken modes of _ m (wrong_bounds raw number d a well unions p first) = m.fine.bounds d p.0

-- ---- places

-- where a node begins by the end, and that is before a byte, it begins before the byte behind as well
tests_same : (place end byte : ℕ) → place ≤ end → end < byte → nat_lt place (byte + 1) ≡ nat_lt place byte
tests_same place end byte le lt = go (nat_lt place (byte + 1)) (nat_lt place byte) refl refl
  where
    go : (s t : Bool) → nat_lt place (byte + 1) ≡ s → nat_lt place byte ≡ t → s ≡ t
    go true true e f = refl
    go false false e f = refl
    go true false e f = let not : byte ≤ place = grind (arith, nat_tests, f) in absurd (omega (arith, not, le, lt))
    go false true e f = let not : byte + 1 ≤ place = grind (arith, nat_tests, e) in absurd (omega (arith, not, le, lt))

module _ (tree : Built) (end : ℕ) (nodes_by : (id : ℕ) (n : Node) → slice_get tree.nodes id ≡ Some n → n.span.from ≤ end) (starts_by : (i s : ℕ) → slice_get tree.starts i ≡ Some s → s ≤ end) where
  begins_by : (o : Option Node) → ((n : Node) → o ≡ Some n → n.span.from ≤ end) → option_map_or (λ (n : Node). n.span.from) o 0 ≤ end
  begins_by None h = omega arith
  begins_by (Some n) h = h n refl

  place_by : (d : ℕ) → place_at tree d ≤ end
  place_by d = begins_by (slice_get tree.nodes d) (nodes_by d)

  either_by : (t : Bool) (s next : ℕ) → s ≤ end → next ≤ end → (if t then s else next) ≤ end
  either_by true s next p q = p
  either_by false s next p q = q

  next_by : (starts : List ℕ) (byte : ℕ) → byte ≤ end → ((i s : ℕ) → slice_get starts i ≡ Some s → s ≤ end) → next_start starts byte ≤ end
  next_by [] byte h by = h
  next_by (s ∷ ss) byte h by = either_by (nat_lt byte s) s (next_start ss byte) (by 0 s refl) (next_by ss byte h (λ i x e. by (suc i) x e))

  bracket_by : (form : DeclarerForm) (byte : ℕ) → byte ≤ end → bracket_of form tree.starts byte ≤ end
  bracket_by (forms.Row true) byte h = next_by tree.starts byte h starts_by
  bracket_by form byte h = h

  all_before : (byte n : ℕ) → end < byte → declarers_before tree (byte + 1) n ≡ declarers_before tree byte n
  all_before byte zero lt = refl
  all_before byte (suc n) lt =
      ap (λ k. k + one_if (is_declarer (kind_at tree n) && nat_lt (place_at tree n) (byte + 1))) (all_before byte n lt)
      ∙ ap (λ t. declarers_before tree byte n + one_if (is_declarer (kind_at tree n) && t)) (tests_same (place_at tree n) end byte (place_by n) lt)

  pub broken_by : (r : Refusal) → IsFirstBroken tree r → r.place ≤ end
  broken_by _ (undefined d p) = place_by d
  broken_by _ (too_many byte none many is) =
      ⊎_elim
      (λ (lt : end < byte).
      let same = all_before byte (length tree.nodes) lt in
      let few = is.before in
      let more = is.here in
      absurd (omega arith))
      (λ h. h)
      (cases_lt end byte)
  broken_by _ (ill_formed raw number d a p) = place_by d
  broken_by _ (wrong_union raw number d a well p) = place_by d
  broken_by _ (wrong_bounds raw number d a well unions p first) = bracket_by (form_at tree d) (place_at tree d) (place_by d)
