-- The standard modes.
use Rattle.std.proofs.Common.{◌≡◌, ◌<◌, ◌≤◌, ◌⊎◌, ℕ, zero, suc, List, Bool as Truth, true, false, length, refl, sym, ap, ◌∙◌, arith, subst, inl, inr}
use Rattle.std.proofs.lemmas.List.{get_or-take, length-take}
use Rattle.a68_equiv.proofs.Grasp.{stays}
use Rattle.a68_equiv.specs.Related.{as_it_stands}
use Rattle.a68_equiv.specs.Unfolding.{behind, unfolded, constructor, passes_on, IsInMode, Equivalent}
use Rattle.a68_modes.specs.declared.shape.Shape.{Shape}
use Rattle.a68_modes.specs.declared.shape.Shape.TheVariants.{Void, Int, Long, Bool, Char, Bits, Sema, Layout, Ref, Rows, Union, Proc, Same, Blank}
use Rattle.a68_modes.specs.Nodes.{shape_at, standard_shapes, HoldsNodes}

-- the modes that have the code of another one, a name or a row
data IsOther : (m code : ℕ) → Type 0 where
  of_text : IsOther 10 9
  of_bools : IsOther 11 7
  of_long : IsOther 14 9

module _ (nodes : List Shape) (holds : HoldsNodes nodes) where
  pub standard_at : (m : ℕ) → m < 15 → shape_at nodes m ≡ shape_at standard_shapes m
  standard_at m h = sym (get_or-take 15 nodes m Blank h) ∙ ap (λ xs. shape_at xs m) holds.standard

  pub fifteen : 15 ≤ length nodes
  fifteen = let l = length-take 15 nodes in let e = ap length holds.standard in omega (arith, l, e)

  no_word : (m : ℕ) → m < 15 → (t : ℕ) → shape_at standard_shapes m ≡ Same t → ⊥
  no_word zero h t e = cc
  no_word (suc zero) h t e = cc
  no_word (suc (suc zero)) h t e = cc
  no_word (suc (suc (suc zero))) h t e = cc
  no_word (suc (suc (suc (suc zero)))) h t e = cc
  no_word (suc (suc (suc (suc (suc zero))))) h t e = cc
  no_word (suc (suc (suc (suc (suc (suc zero)))))) h t e = cc
  no_word (suc (suc (suc (suc (suc (suc (suc zero))))))) h t e = cc
  no_word (suc (suc (suc (suc (suc (suc (suc (suc zero)))))))) h t e = cc
  no_word (suc (suc (suc (suc (suc (suc (suc (suc (suc zero))))))))) h t e = cc
  no_word (suc (suc (suc (suc (suc (suc (suc (suc (suc (suc zero)))))))))) h t e = cc
  no_word (suc (suc (suc (suc (suc (suc (suc (suc (suc (suc (suc zero))))))))))) h t e = cc
  no_word (suc (suc (suc (suc (suc (suc (suc (suc (suc (suc (suc (suc zero)))))))))))) h t e = cc
  no_word (suc (suc (suc (suc (suc (suc (suc (suc (suc (suc (suc (suc (suc zero))))))))))))) h t e = cc
  no_word (suc (suc (suc (suc (suc (suc (suc (suc (suc (suc (suc (suc (suc (suc zero)))))))))))))) h t e = cc
  no_word (suc (suc (suc (suc (suc (suc (suc (suc (suc (suc (suc (suc (suc (suc (suc m))))))))))))))) h t e = omega arith

  pub standard_unfolded : (m : ℕ) → m < 15 → unfolded nodes m ≡ shape_at standard_shapes m
  standard_unfolded m h =
      let e : behind nodes (length nodes) m ≡ m = stays nodes (length nodes) m (λ t f. no_word m h t (sym (standard_at m h) ∙ f)) in
      ap (shape_at nodes) e ∙ standard_at m h

  -- a number for each constructor of the standard modes
  abbrev code : Shape → ℕ
  code Void = 0
  code Int = 1
  code Bool = 2
  code Char = 3
  code Bits = 4
  code Long = 13
  code Sema = 5
  code Layout = 6
  code (Rows dims false m) = 7
  code (Union members) = 8
  code (Ref m) = 9
  code (Rows dims true m) = 12
  code _ = 15

  code_at : ℕ → ℕ
  code_at m = code (constructor false (shape_at standard_shapes m))

  one_code : (a b : ℕ) → a < 15 → b < 15 → constructor false (unfolded nodes a) ≡ constructor false (unfolded nodes b) → code_at a ≡ code_at b
  unfolding code_at
  one_code a b h g e = ap (λ s. code (constructor false s)) (sym (standard_unfolded a h)) ∙ ap code e ∙ ap (λ s. code (constructor false s)) (standard_unfolded b g)

  -- but for three modes the code tells which mode it is
  tells : (m : ℕ) → m < 15 → (code_at m ≡ m) ⊎ IsOther m (code_at m)
  unfolding code_at
  tells zero h = inl refl
  tells (suc zero) h = inl refl
  tells (suc (suc zero)) h = inl refl
  tells (suc (suc (suc zero))) h = inl refl
  tells (suc (suc (suc (suc zero)))) h = inl refl
  tells (suc (suc (suc (suc (suc zero))))) h = inl refl
  tells (suc (suc (suc (suc (suc (suc zero)))))) h = inl refl
  tells (suc (suc (suc (suc (suc (suc (suc zero))))))) h = inl refl
  tells (suc (suc (suc (suc (suc (suc (suc (suc zero)))))))) h = inl refl
  tells (suc (suc (suc (suc (suc (suc (suc (suc (suc zero))))))))) h = inl refl
  tells (suc (suc (suc (suc (suc (suc (suc (suc (suc (suc zero)))))))))) h = inr of_text
  tells (suc (suc (suc (suc (suc (suc (suc (suc (suc (suc (suc zero))))))))))) h = inr of_bools
  tells (suc (suc (suc (suc (suc (suc (suc (suc (suc (suc (suc (suc zero)))))))))))) h = inl refl
  tells (suc (suc (suc (suc (suc (suc (suc (suc (suc (suc (suc (suc (suc zero))))))))))))) h = inl refl
  tells (suc (suc (suc (suc (suc (suc (suc (suc (suc (suc (suc (suc (suc (suc zero)))))))))))))) h = inr of_long
  tells (suc (suc (suc (suc (suc (suc (suc (suc (suc (suc (suc (suc (suc (suc (suc m))))))))))))))) h = absurd (omega arith)

  -- two modes of one part each, whose parts have different codes
  by_part : (a b p q : ℕ) → a < 15 → b < 15 → p < 15 → q < 15 → IsInMode nodes a (unfolded nodes a) 0 p → ((x : ℕ) → IsInMode nodes b (unfolded nodes b) 0 x → x ≡ q)
      → Equivalent nodes (as_it_stands a) (as_it_stands b) → code_at p ≡ code_at q
  by_part a b p q ha hb hp hq at only eq =
      let found = (eq 2).1.0 0 (as_it_stands p) (record { at = at; flex = sym (passes false (unfolded nodes a)) }) in
      let same = only found.0.id found.1.at in
      one_code p q hp hq (found.2.0 ∙ ap (λ x. constructor x (unfolded nodes found.0.id)) (found.1.flex ∙ passes false (unfolded nodes b)) ∙ ap (λ x. constructor false (unfolded nodes x)) same)
    where
      passes : (f : Truth) (s : Shape) → passes_on false s ≡ false
      passes f (Ref m) = refl
      passes f (Proc ps m) = refl
      passes f _ = refl

  ref_at : (m p : ℕ) → m < 15 → shape_at standard_shapes m ≡ Ref p → IsInMode nodes m (unfolded nodes m) 0 p × ((x : ℕ) → IsInMode nodes m (unfolded nodes m) 0 x → x ≡ p)
  ref_at m p h e =
      let f : unfolded nodes m ≡ Ref p = standard_unfolded m h ∙ e in
      (rw f (omega arith, refl), λ x at. sym ((rw f at at).1))

  row_at : (m p : ℕ) (flex : Truth) → m < 15 → shape_at standard_shapes m ≡ Rows 1 flex p → IsInMode nodes m (unfolded nodes m) 0 p × ((x : ℕ) → IsInMode nodes m (unfolded nodes m) 0 x → x ≡ p)
  row_at m p flex h e =
      let f : unfolded nodes m ≡ Rows 1 flex p = standard_unfolded m h ∙ e in
      (rw f (omega arith, refl), λ x at. sym ((rw f at at).1))

  other_codes : (a b : ℕ) → a < 15 → b < 15 → Equivalent nodes (as_it_stands a) (as_it_stands b) → code_at a ≡ code_at b
  other_codes a b ha hb eq = one_code a b ha hb ((eq 1).0)

  names_apart : (a b p q : ℕ) → a < 15 → b < 15 → p < 15 → q < 15 → shape_at standard_shapes a ≡ Ref p → shape_at standard_shapes b ≡ Ref q
      → (code_at p ≡ code_at q → ⊥) → Equivalent nodes (as_it_stands a) (as_it_stands b) → ⊥
  names_apart a b p q ha hb hp hq e f other eq = other (by_part a b p q ha hb hp hq (ref_at a p ha e).0 (ref_at b q hb f).1 eq)

  rows_apart : (a b p q : ℕ) → a < 15 → b < 15 → p < 15 → q < 15 → shape_at standard_shapes a ≡ Rows 1 false p → shape_at standard_shapes b ≡ Rows 1 false q
      → (code_at p ≡ code_at q → ⊥) → Equivalent nodes (as_it_stands a) (as_it_stands b) → ⊥
  rows_apart a b p q ha hb hp hq e f other eq = other (by_part a b p q ha hb hp hq (row_at a p false ha e).0 (row_at b q false hb f).1 eq)

  int_string : code_at 1 ≡ code_at 12 → ⊥
  unfolding code_at
  int_string e = let f : 1 ≡ 12 = e in omega arith

  int_long : code_at 1 ≡ code_at 13 → ⊥
  unfolding code_at
  int_long e = let f : 1 ≡ 13 = e in omega arith

  string_long : code_at 12 ≡ code_at 13 → ⊥
  unfolding code_at
  string_long e = let f : 12 ≡ 13 = e in omega arith

  char_bool : code_at 3 ≡ code_at 2 → ⊥
  unfolding code_at
  char_bool e = let f : 3 ≡ 2 = e in omega arith

  nine_ten : Equivalent nodes (as_it_stands 9) (as_it_stands 10) → ⊥
  nine_ten = names_apart 9 10 1 12 (omega arith) (omega arith) (omega arith) (omega arith) refl refl int_string

  ten_nine : Equivalent nodes (as_it_stands 10) (as_it_stands 9) → ⊥
  ten_nine = names_apart 10 9 12 1 (omega arith) (omega arith) (omega arith) (omega arith) refl refl (λ e. int_string (sym e))

  nine_fourteen : Equivalent nodes (as_it_stands 9) (as_it_stands 14) → ⊥
  nine_fourteen = names_apart 9 14 1 13 (omega arith) (omega arith) (omega arith) (omega arith) refl refl int_long

  fourteen_nine : Equivalent nodes (as_it_stands 14) (as_it_stands 9) → ⊥
  fourteen_nine = names_apart 14 9 13 1 (omega arith) (omega arith) (omega arith) (omega arith) refl refl (λ e. int_long (sym e))

  ten_fourteen : Equivalent nodes (as_it_stands 10) (as_it_stands 14) → ⊥
  ten_fourteen = names_apart 10 14 12 13 (omega arith) (omega arith) (omega arith) (omega arith) refl refl string_long

  fourteen_ten : Equivalent nodes (as_it_stands 14) (as_it_stands 10) → ⊥
  fourteen_ten = names_apart 14 10 13 12 (omega arith) (omega arith) (omega arith) (omega arith) refl refl (λ e. string_long (sym e))

  seven_eleven : Equivalent nodes (as_it_stands 7) (as_it_stands 11) → ⊥
  seven_eleven = rows_apart 7 11 3 2 (omega arith) (omega arith) (omega arith) (omega arith) refl refl char_bool

  eleven_seven : Equivalent nodes (as_it_stands 11) (as_it_stands 7) → ⊥
  eleven_seven = rows_apart 11 7 2 3 (omega arith) (omega arith) (omega arith) (omega arith) refl refl (λ e. char_bool (sym e))

  plain_other : (a b : ℕ) → IsOther b a → Equivalent nodes (as_it_stands a) (as_it_stands b) → ⊥
  plain_other _ _ of_text eq = nine_ten eq
  plain_other _ _ of_bools eq = seven_eleven eq
  plain_other _ _ of_long eq = nine_fourteen eq

  other_plain : (a b : ℕ) → IsOther a b → Equivalent nodes (as_it_stands a) (as_it_stands b) → ⊥
  other_plain _ _ of_text eq = ten_nine eq
  other_plain _ _ of_bools eq = eleven_seven eq
  other_plain _ _ of_long eq = fourteen_nine eq

  both_other : (a b x y : ℕ) → IsOther a x → IsOther b y → x ≡ y → Equivalent nodes (as_it_stands a) (as_it_stands b) → a ≡ b
  both_other _ _ _ _ of_text of_text e eq = refl
  both_other _ _ _ _ of_text of_bools e eq = absurd (omega arith)
  both_other _ _ _ _ of_text of_long e eq = absurd (ten_fourteen eq)
  both_other _ _ _ _ of_bools of_text e eq = absurd (omega arith)
  both_other _ _ _ _ of_bools of_bools e eq = refl
  both_other _ _ _ _ of_bools of_long e eq = absurd (omega arith)
  both_other _ _ _ _ of_long of_text e eq = absurd (fourteen_ten eq)
  both_other _ _ _ _ of_long of_bools e eq = absurd (omega arith)
  both_other _ _ _ _ of_long of_long e eq = refl

  one_of : (a b x y : ℕ) → (x ≡ a) ⊎ IsOther a x → (y ≡ b) ⊎ IsOther b y → x ≡ y → Equivalent nodes (as_it_stands a) (as_it_stands b) → a ≡ b
  one_of a b x y (inl e) (inl f) g eq = sym e ∙ g ∙ f
  one_of a b x y (inl e) (inr o) g eq = absurd (plain_other a b (subst (IsOther b) (sym g ∙ e) o) eq)
  one_of a b x y (inr o) (inl f) g eq = absurd (other_plain a b (subst (IsOther a) (g ∙ f) o) eq)
  one_of a b x y (inr o) (inr p) g eq = both_other a b x y o p g eq

  -- no two of them are equivalent
  pub standard_apart : (a b : ℕ) → a < 15 → b < 15 → Equivalent nodes (as_it_stands a) (as_it_stands b) → a ≡ b
  standard_apart a b ha hb eq = one_of a b (code_at a) (code_at b) (tells a ha) (tells b hb) (other_codes a b ha hb eq) eq
