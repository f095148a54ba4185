-- The shapes of declarers.
use Rattle.std.proofs.Common.{◌≡◌, ◌<◌, ◌≤◌, ◌+◌, ◌-◌, ℕ, zero, suc, List, [], ◌∷◌, ◌++◌, Bool, true, false, length, drop, refl, sym, ap, ◌∙◌, arith, add-one, Some, None, slice_get, Option, append_assoc}
use Rattle.std.specs.Prelude.{map, if◌then◌else◌, slice_index_or}
use Rattle.std.specs.List.{All, Contains}
use Rattle.std.specs.Option.{option_map_or, option_and_then}
use Rattle.std.specs.Str.{bytes_eq}
use Rattle.std.proofs.lemmas.List.Elements.{All-map, All-push, All-cons, All-nil}
use Rattle.std.proofs.lemmas.List.{get_or_default, get_or-take, length-take}
use Rattle.a68_base.specs.Tables.{find}
use Rattle.a68_declarers.specs.declared.form.DeclarerForm.{DeclarerForm}
use Rattle.a68_declarers.specs.declared.form.DeclarerForm.TheVariants as forms
use Rattle.a68_declarers.specs.Declarers.{known_forms, or_word, form_at, is_field}
use Rattle.a68_declarers.specs.Shapes.{last_mode, front, fields, defined_mode, IsShapeOf}
use Rattle.a68_modes.specs.declared.shape.Shape.{Shape}
use Rattle.a68_modes.specs.Nodes.{parts_of, ShapeIsWithin}
use Rattle.a68_ranges.specs.Nodes.{kind_at, name_at, parts_at, spelling_at}
use Rattle.a68_ranges.specs.Standard.{IsModeWordOf}
use Rattle.a68_declarers.proofs.There.{at_place}
use Rattle.a68_tree.specs.Trees.{Built}

-- what is left at a place, and behind it
pub left_at : {X : Type 0} (xs : List X) (i : ℕ) (x : X) → slice_get xs i ≡ Some x → drop i xs ≡ x ∷ drop (i + 1) xs
left_at [] i x e = absurd (cc)
left_at (y ∷ ys) zero x e = let s : y ≡ x = cc in ap (λ z. z ∷ ys) s
left_at (y ∷ ys) (suc i) x e = left_at ys i x e ∙ ap (λ k. x ∷ drop k (y ∷ ys)) (sym (add-one (i + 1)) ∙ ap (λ k. k + 1) (add-one i))

pub left_none : {X : Type 0} (xs : List X) (i : ℕ) → length xs ≤ i → drop i xs ≡ []
left_none [] zero h = refl
left_none [] (suc i) h = refl
left_none (x ∷ xs) zero h = absurd (omega arith)
left_none (x ∷ xs) (suc i) h = left_none xs i (omega arith)

module _ (tree : Built) (mode : ℕ → ℕ) where
  pub a_field : (parts : List ℕ) (found new : List (ℕ × ℕ)) (before i p : ℕ) (whole : List (ℕ × ℕ)) → slice_get parts i ≡ Some p → is_field (kind_at tree p) ≡ true
      → new ≡ found ++ (name_at tree p, before) ∷ [] → found ++ fields tree mode before (drop i parts) ≡ whole → new ++ fields tree mode before (drop (i + 1) parts) ≡ whole
  a_field parts found new before i p whole at is grown so =
      ap (λ (xs : List (ℕ × ℕ)). xs ++ fields tree mode before (drop (i + 1) parts)) grown
      ∙ append_assoc found ((name_at tree p, before) ∷ []) (fields tree mode before (drop (i + 1) parts))
      ∙ ap (λ (xs : List (ℕ × ℕ)). found ++ xs)
      (sym (ap (fields tree mode before) (left_at parts i p at)
      ∙ ap (λ b. if b then (name_at tree p, before) ∷ fields tree mode before (drop (i + 1) parts) else fields tree mode (mode p) (drop (i + 1) parts)) is))
      ∙ so

  pub no_field : (parts : List ℕ) (found : List (ℕ × ℕ)) (before now i p : ℕ) (whole : List (ℕ × ℕ)) → slice_get parts i ≡ Some p → is_field (kind_at tree p) ≡ false
      → now ≡ mode p → found ++ fields tree mode before (drop i parts) ≡ whole → found ++ fields tree mode now (drop (i + 1) parts) ≡ whole
  no_field parts found before now i p whole at is same so =
      ap (λ m. found ++ fields tree mode m (drop (i + 1) parts)) same
      ∙ ap (λ (xs : List (ℕ × ℕ)). found ++ xs)
      (sym (ap (fields tree mode before) (left_at parts i p at)
      ∙ ap (λ b. if b then (name_at tree p, before) ∷ fields tree mode before (drop (i + 1) parts) else fields tree mode (mode p) (drop (i + 1) parts)) is))
      ∙ so

append_none : (xs : List (ℕ × ℕ)) → xs ++ [] ≡ xs
append_none [] = refl
append_none (x ∷ xs) = ap (λ ys. x ∷ ys) (append_none xs)

pub fields_all : (tree : Built) (mode : ℕ → ℕ) (found : List (ℕ × ℕ)) (before i : ℕ) (parts : List ℕ) (whole : List (ℕ × ℕ)) → length parts ≤ i
    → found ++ fields tree mode before (drop i parts) ≡ whole → found ≡ whole
fields_all tree mode found before i parts whole h so = sym (append_none found) ∙ ap (λ ps. found ++ fields tree mode before ps) (sym (left_none parts i h)) ∙ so

-- ---- the modes within a shape

-- a standard mode that has no FLEX: each but STRING
abbrev pub IsFlexless : ℕ → Type 0
IsFlexless m = (m < 15) × (m ≡ 12 → ⊥)

-- the standard modes that a word gives are there, and that without FLEX is not STRING
abbrev pub IsLow : DeclarerForm → Type 0
IsLow (forms.Standard m n) = (m < 15) × IsFlexless n
IsLow _ = Unit {0}

-- what holds of all forms in a table and of mode words holds of the form that is found
abbrev pub AllForms : (DeclarerForm → Type 0) → List (List ℕ × DeclarerForm) → Type 0
AllForms Holds [] = Unit {0}
AllForms Holds (row ∷ rows) = Holds row.1 × AllForms Holds rows

pub found_form : (Holds : DeclarerForm → Type 0) (rows : List (List ℕ × DeclarerForm)) (spelling : Option (List ℕ)) → Holds forms.Word → AllForms Holds rows → Holds (or_word (option_and_then (find rows) spelling))
found_form Holds rows None word all = word
found_form Holds [] (Some s) word all = word
found_form Holds (row ∷ rows) (Some s) word all = go (bytes_eq s row.0) (found_form Holds rows (Some s) word all.1)
  where
    go : (b : Bool) → Holds (or_word (find rows s)) → Holds (or_word (if b then Some row.1 else find rows s))
    go true rest = all.0
    go false rest = rest

known_low : AllForms IsLow known_forms
unfolding known_forms
known_low = ((omega arith, (omega arith, λ e. omega arith)), ((omega arith, (omega arith, λ e. omega arith)), ((omega arith, (omega arith, λ e. omega arith)), ((omega arith, (omega arith, λ e. omega arith)), ((omega arith, (omega arith, λ e. omega arith)), ((omega arith, (omega arith, λ e. omega arith)), ((omega arith, (omega arith, λ e. omega arith)), (tt, (tt, (tt, (tt, (tt, (tt, tt)))))))))))))

pub form_low : (tree : Built) (d : ℕ) → IsLow (form_at tree d)
form_low tree d = found_form IsLow known_forms (spelling_at tree d) tt known_low

module _ (P : ℕ → Type 0) (void : P 0) where
  pub last_holds : (mode : ℕ → ℕ) (parts : List ℕ) → ((e : ℕ) → Contains parts e → P (mode e)) → P (last_mode mode parts)
  last_holds mode parts each = go (slice_get parts (length parts - 1)) refl
    where
      go : (o : Option ℕ) → slice_get parts (length parts - 1) ≡ o → P (option_map_or mode o 0)
      go None e = void
      go (Some p) e = each p (at_place parts (length parts - 1) p e)

  pub map_holds : (mode : ℕ → ℕ) (parts : List ℕ) → ((e : ℕ) → Contains parts e → P (mode e)) → All P (map mode parts)
  map_holds mode parts each = All-map P mode parts (λ k d h. each (slice_index_or parts k d) (k, h, get_or_default parts k (slice_index_or parts k d) d h))

  pub fields_hold : (tree : Built) (mode : ℕ → ℕ) (before : ℕ) (parts : List ℕ) → P before → ((e : ℕ) → Contains parts e → P (mode e))
      → All P (map (λ (field : ℕ × ℕ). field.1) (fields tree mode before parts))
  fields_hold tree mode before [] is each = λ k d h. absurd (omega arith)
  fields_hold tree mode before (p ∷ ps) is each =
      go (is_field (kind_at tree p))
      (λ m q. fields_hold tree mode m ps q (λ e c. each e (suc c.0, (let l = c.1 in omega arith), c.2)))
    where
      go : (b : Bool) → ((m : ℕ) → P m → All P (map (λ (field : ℕ × ℕ). field.1) (fields tree mode m ps)))
          → All P (map (λ (field : ℕ × ℕ). field.1) (if b then (name_at tree p, before) ∷ fields tree mode before ps else fields tree mode (mode p) ps))
      go true later = All-cons P before (map (λ (field : ℕ × ℕ). field.1) (fields tree mode before ps)) is (later before is)
      go false later = later (mode p) (each p (0, omega arith, refl))

in_front : (parts : List ℕ) (e : ℕ) → Contains (front parts) e → Contains parts e
in_front parts e (k, less, is) =
    let l = length-take (length parts - 1) parts in
    (k, omega (arith, l), sym (get_or-take (length parts - 1) parts k e (omega (arith, l))) ∙ is)

pub one_holds : (P : ℕ → Type 0) (m : ℕ) → P m → All P (m ∷ [])
one_holds P m p = All-cons P m [] p (All-nil P)

-- what holds of the standard modes, of the modes of declarers within and of the definition of a word, holds of each mode within
-- the shape of a declarer
pub shape_holds : (P : ℕ → Type 0) (tree : Built) (number : ℕ → Bool → ℕ) (d : ℕ) (fixed : Bool) (form : DeclarerForm) (shape : Shape) → IsLow form → ((m : ℕ) → m < 15 → P m)
    → ((e : ℕ) (f : Bool) → Contains (parts_at tree d) e → P (number e f))
    → ((definition : ℕ) → IsModeWordOf tree d (name_at tree d) (Some definition) → P (last_mode (λ e. number e fixed) (parts_at tree definition)))
    → IsShapeOf tree number d fixed form shape → All P (parts_of shape)
shape_holds P tree number d true (forms.Standard m n) shape low std each word is = rw is (one_holds P n (std n low.1.0))
shape_holds P tree number d false (forms.Standard m n) shape low std each word is = rw is (one_holds P m (std m low.0))
shape_holds P tree number d fixed forms.Name shape low std each word is =
    rw is (one_holds P _ (last_holds P (std 0 (omega arith)) (λ e. number e false) (parts_at tree d) (λ e c. each e false c)))
shape_holds P tree number d fixed (forms.Row flex) shape low std each word is =
    rw is (one_holds P _ (last_holds P (std 0 (omega arith)) (λ e. number e fixed) (parts_at tree d) (λ e c. each e fixed c)))
shape_holds P tree number d fixed forms.Structure shape low std each word is =
    rw is (fields_hold P (std 0 (omega arith)) tree (λ e. number e fixed) 0 (parts_at tree d) (std 0 (omega arith)) (λ e c. each e fixed c))
shape_holds P tree number d fixed forms.Union shape low std each word is =
    rw is (map_holds P (std 0 (omega arith)) (λ e. number e true) (parts_at tree d) (λ e c. each e true c))
shape_holds P tree number d fixed forms.Procedure shape low std each word is =
    rw is (All-push P (map (λ e. number e true) (front (parts_at tree d))) (last_mode (λ e. number e true) (parts_at tree d))
    (map_holds P (std 0 (omega arith)) (λ e. number e true) (front (parts_at tree d)) (λ e c. each e true (in_front (parts_at tree d) e c)))
    (last_holds P (std 0 (omega arith)) (λ e. number e true) (parts_at tree d) (λ e c. each e true c)))
shape_holds P tree number d fixed forms.Word shape low std each word (definition, of, is) = rw is (one_holds P _ (go definition of))
  where
    go : (o : Option ℕ) → IsModeWordOf tree d (name_at tree d) o → P (defined_mode tree (λ e. number e fixed) o)
    go None of = std 0 (omega arith)
    go (Some x) of = word x of

-- each mode within the shape of a declarer is there
pub shape_within : (tree : Built) (number : ℕ → Bool → ℕ) (count d : ℕ) (fixed : Bool) (form : DeclarerForm) (shape : Shape) → IsLow form → 15 ≤ count
    → ((e : ℕ) (fixed : Bool) → number e fixed < count) → IsShapeOf tree number d fixed form shape → ShapeIsWithin count shape
shape_within tree number count d fixed form shape low few each is =
    shape_holds (λ k. k < count) tree number d fixed form shape low (λ m h. omega arith) (λ e f c. each e f)
    (λ definition of. last_holds (λ k. k < count) (omega arith) (λ e. number e fixed) (parts_at tree definition) (λ e c. each e fixed)) is
