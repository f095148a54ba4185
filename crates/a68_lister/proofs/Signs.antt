-- No mark has layout in it.
use Rattle.std.proofs.Common.{◌≡◌, ℕ, zero, suc, ◌<◌, Bool, true, false, ◌&&◌, ◌||◌, List, [], ◌∷◌, length, slice_index, refl, sym, subst, ◌⊎◌, inl, inr, arith}
use Rattle.std.specs.Prelude.{nat_eq}
use Rattle.std.proofs.lemmas.Bool.Decides.{nat_tests}
use Rattle.a68_symbols.specs.Bytes.{is_layout}
use Rattle.a68_symbols.specs.Marks.{is_mark, is_nomad, begins_operator, ends_operator}

layout_cases : (b : ℕ) → is_layout b ≡ true → (b ≡ 32) ⊎ (b ≡ 9) ⊎ (b ≡ 10) ⊎ (b ≡ 13)
layout_cases b e = grind (arith, nat_tests)

-- what holds of each byte of layout
pub by_layout : (P : ℕ → Type 0) → P 32 → P 9 → P 10 → P 13 → (b : ℕ) → is_layout b ≡ true → P b
by_layout P blank tab feed back b e = elim (layout_cases b e) [
  | inl e ↦ subst P (sym e) blank
  | inr (inl e) ↦ subst P (sym e) tab
  | inr (inr (inl e)) ↦ subst P (sym e) feed
  | inr (inr (inr e)) ↦ subst P (sym e) back
]

two : (x y z : Bool) → ((x && false || y && false) || z && false) ≡ false
two true true true = refl
two true true false = refl
two true false true = refl
two true false false = refl
two false true true = refl
two false true false = refl
two false false true = refl
two false false false = refl

three_b : (x z w : Bool) → (x && false && z || w && false) ≡ false
three_b true z true = refl
three_b true z false = refl
three_b false z true = refl
three_b false z false = refl

three_c : (x y u v w : Bool) → (x && y && false || w && (u && false || v && false)) ≡ false
three_c true true true true true = refl
three_c true true true true false = refl
three_c true true true false true = refl
three_c true true true false false = refl
three_c true true false true true = refl
three_c true true false true false = refl
three_c true true false false true = refl
three_c true true false false false = refl
three_c true false true true true = refl
three_c true false true true false = refl
three_c true false true false true = refl
three_c true false true false false = refl
three_c true false false true true = refl
three_c true false false true false = refl
three_c true false false false true = refl
three_c true false false false false = refl
three_c false y true true true = refl
three_c false y true true false = refl
three_c false y true false true = refl
three_c false y true false false = refl
three_c false y false true true = refl
three_c false y false true false = refl
three_c false y false false true = refl
three_c false y false false false = refl

four_b : (x y z w q : Bool) → (x && false && y && z || w && false && q) ≡ false
four_b true y z true q = refl
four_b true y z false q = refl
four_b false y z true q = refl
four_b false y z false q = refl

four_c : (x y z w n : Bool) → (x && y && false && z || w && n && false) ≡ false
four_c true true z true true = refl
four_c true true z true false = refl
four_c true true z false true = refl
four_c true true z false false = refl
four_c true false z true true = refl
four_c true false z true false = refl
four_c true false z false true = refl
four_c true false z false false = refl
four_c false true z true true = refl
four_c false true z true false = refl
four_c false true z false true = refl
four_c false true z false false = refl
four_c false false z true true = refl
four_c false false z true false = refl
four_c false false z false true = refl
four_c false false z false false = refl

four_d : (x y u w n p q : Bool) → (x && y && u && false || w && n && (p && false || q && false)) ≡ false
four_d true true true true true true true = refl
four_d true true true true true true false = refl
four_d true true true true true false true = refl
four_d true true true true true false false = refl
four_d true true true true false true true = refl
four_d true true true true false true false = refl
four_d true true true true false false true = refl
four_d true true true true false false false = refl
four_d true true true false true true true = refl
four_d true true true false true true false = refl
four_d true true true false true false true = refl
four_d true true true false true false false = refl
four_d true true true false false true true = refl
four_d true true true false false true false = refl
four_d true true true false false false true = refl
four_d true true true false false false false = refl
four_d true true false true true true true = refl
four_d true true false true true true false = refl
four_d true true false true true false true = refl
four_d true true false true true false false = refl
four_d true true false true false true true = refl
four_d true true false true false true false = refl
four_d true true false true false false true = refl
four_d true true false true false false false = refl
four_d true true false false true true true = refl
four_d true true false false true true false = refl
four_d true true false false true false true = refl
four_d true true false false true false false = refl
four_d true true false false false true true = refl
four_d true true false false false true false = refl
four_d true true false false false false true = refl
four_d true true false false false false false = refl
four_d true false true true true true true = refl
four_d true false true true true true false = refl
four_d true false true true true false true = refl
four_d true false true true true false false = refl
four_d true false true true false true true = refl
four_d true false true true false true false = refl
four_d true false true true false false true = refl
four_d true false true true false false false = refl
four_d true false true false true true true = refl
four_d true false true false true true false = refl
four_d true false true false true false true = refl
four_d true false true false true false false = refl
four_d true false true false false true true = refl
four_d true false true false false true false = refl
four_d true false true false false false true = refl
four_d true false true false false false false = refl
four_d true false false true true true true = refl
four_d true false false true true true false = refl
four_d true false false true true false true = refl
four_d true false false true true false false = refl
four_d true false false true false true true = refl
four_d true false false true false true false = refl
four_d true false false true false false true = refl
four_d true false false true false false false = refl
four_d true false false false true true true = refl
four_d true false false false true true false = refl
four_d true false false false true false true = refl
four_d true false false false true false false = refl
four_d true false false false false true true = refl
four_d true false false false false true false = refl
four_d true false false false false false true = refl
four_d true false false false false false false = refl
four_d false true true true true true true = refl
four_d false true true true true true false = refl
four_d false true true true true false true = refl
four_d false true true true true false false = refl
four_d false true true true false true true = refl
four_d false true true true false true false = refl
four_d false true true true false false true = refl
four_d false true true true false false false = refl
four_d false true true false true true true = refl
four_d false true true false true true false = refl
four_d false true true false true false true = refl
four_d false true true false true false false = refl
four_d false true true false false true true = refl
four_d false true true false false true false = refl
four_d false true true false false false true = refl
four_d false true true false false false false = refl
four_d false true false true true true true = refl
four_d false true false true true true false = refl
four_d false true false true true false true = refl
four_d false true false true true false false = refl
four_d false true false true false true true = refl
four_d false true false true false true false = refl
four_d false true false true false false true = refl
four_d false true false true false false false = refl
four_d false true false false true true true = refl
four_d false true false false true true false = refl
four_d false true false false true false true = refl
four_d false true false false true false false = refl
four_d false true false false false true true = refl
four_d false true false false false true false = refl
four_d false true false false false false true = refl
four_d false true false false false false false = refl
four_d false false true true true true true = refl
four_d false false true true true true false = refl
four_d false false true true true false true = refl
four_d false false true true true false false = refl
four_d false false true true false true true = refl
four_d false false true true false true false = refl
four_d false false true true false false true = refl
four_d false false true true false false false = refl
four_d false false true false true true true = refl
four_d false false true false true true false = refl
four_d false false true false true false true = refl
four_d false false true false true false false = refl
four_d false false true false false true true = refl
four_d false false true false false true false = refl
four_d false false true false false false true = refl
four_d false false true false false false false = refl
four_d false false false true true true true = refl
four_d false false false true true true false = refl
four_d false false false true true false true = refl
four_d false false false true true false false = refl
four_d false false false true false true true = refl
four_d false false false true false true false = refl
four_d false false false true false false true = refl
four_d false false false true false false false = refl
four_d false false false false true true true = refl
four_d false false false false true true false = refl
four_d false false false false true false true = refl
four_d false false false false true false false = refl
four_d false false false false false true true = refl
four_d false false false false false true false = refl
four_d false false false false false false true = refl
four_d false false false false false false false = refl

pub no_layout : (s : List ℕ) (k : ℕ) → k < length s → is_layout (slice_index s k) ≡ true → is_mark s ≡ false
no_layout [] k lt e = absurd (omega (arith, lt))
no_layout (a ∷ []) zero lt e = by_layout (λ x. is_mark (x ∷ []) ≡ false) refl refl refl refl a e
no_layout (a ∷ []) (suc k) lt e = absurd (omega (arith, lt))
no_layout (a ∷ b ∷ []) zero lt e = by_layout (λ x. is_mark (x ∷ b ∷ []) ≡ false) refl refl refl refl a e
no_layout (a ∷ b ∷ []) (suc zero) lt e =
    let f = two (nat_eq a 124) (nat_eq a 58) (begins_operator a) in by_layout (λ x. is_mark (a ∷ x ∷ []) ≡ false) f f f f b e
no_layout (a ∷ b ∷ []) (suc (suc k)) lt e = absurd (omega (arith, lt))
no_layout (a ∷ b ∷ c ∷ []) zero lt e = by_layout (λ x. is_mark (x ∷ b ∷ c ∷ []) ≡ false) refl refl refl refl a e
no_layout (a ∷ b ∷ c ∷ []) (suc zero) lt e =
    let f = three_b (nat_eq a 58) (nat_eq c 58) (begins_operator a) in by_layout (λ x. is_mark (a ∷ x ∷ c ∷ []) ≡ false) f f f f b e
no_layout (a ∷ b ∷ c ∷ []) (suc (suc zero)) lt e =
    let f = three_c (nat_eq a 58) (nat_eq b 61) (nat_eq b 58) (nat_eq b 61) (begins_operator a) in by_layout (λ x. is_mark (a ∷ b ∷ x ∷ []) ≡ false) f f f f c e
no_layout (a ∷ b ∷ c ∷ []) (suc (suc (suc k))) lt e = absurd (omega (arith, lt))
no_layout (a ∷ b ∷ c ∷ d ∷ []) zero lt e = by_layout (λ x. is_mark (x ∷ b ∷ c ∷ d ∷ []) ≡ false) refl refl refl refl a e
no_layout (a ∷ b ∷ c ∷ d ∷ []) (suc zero) lt e =
    let f = four_b (nat_eq a 58) (nat_eq c 61) (nat_eq d 58) (begins_operator a) (ends_operator c d) in by_layout (λ x. is_mark (a ∷ x ∷ c ∷ d ∷ []) ≡ false) f f f f b e
no_layout (a ∷ b ∷ c ∷ d ∷ []) (suc (suc zero)) lt e =
    let f = four_c (nat_eq a 58) (nat_eq b 47) (nat_eq d 58) (begins_operator a) (is_nomad b) in by_layout (λ x. is_mark (a ∷ b ∷ x ∷ d ∷ []) ≡ false) f f f f c e
no_layout (a ∷ b ∷ c ∷ d ∷ []) (suc (suc (suc zero))) lt e =
    let f = four_d (nat_eq a 58) (nat_eq b 47) (nat_eq c 61) (begins_operator a) (is_nomad b) (nat_eq c 58) (nat_eq c 61) in by_layout (λ x. is_mark (a ∷ b ∷ c ∷ x ∷ []) ≡ false) f f f f d e
no_layout (a ∷ b ∷ c ∷ d ∷ []) (suc (suc (suc (suc k)))) lt e = absurd (omega (arith, lt))
no_layout (a ∷ b ∷ c ∷ d ∷ x ∷ more) k lt e = refl
