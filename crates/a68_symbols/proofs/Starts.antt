-- What each form begins with: forms of different beginnings never stand at one byte.
use Rattle.std.proofs.Common.{◌≡◌, ℕ, zero, suc, ◌<◌, ◌≤◌, Bool, true, false, ◌||◌, List, [], ◌∷◌, length, slice_index, take, refl, ◌⊎◌, inl, inr, arith}
use Rattle.std.specs.Prelude.{nat_eq}
use Rattle.std.proofs.lemmas.Bool.{cases_lt}
use Rattle.std.proofs.lemmas.Bool.Decides.{nat_tests}
use Rattle.a68_symbols.specs.declared.form.StretchForm.{StretchForm}
use Rattle.a68_symbols.specs.declared.form.StretchForm.TheVariants.{Layout, SharpComment, WordComment, OpenComment, Word, Tag, Number, Quoted, OpenString, Mark}
use Rattle.a68_symbols.specs.Bytes.{is_layout, is_capital, is_small, is_digit}
use Rattle.a68_symbols.specs.Marks.{is_mark, is_lone, begins_operator}
use Rattle.a68_symbols.specs.Forms.{Is, Longest}

-- the kinds of first bytes
pub data Start : Type 0 where
  at_layout : Start
  at_sharp : Start
  at_capital : Start
  at_small : Start
  at_digit : Start
  at_quote : Start
  at_mark : Start

abbrev pub start_of : StretchForm → Start
start_of Layout = at_layout
start_of SharpComment = at_sharp
start_of OpenComment = at_sharp
start_of WordComment = at_capital
start_of Word = at_capital
start_of Tag = at_small
start_of Number = at_digit
start_of Quoted = at_quote
start_of OpenString = at_quote
start_of Mark = at_mark

-- the bytes of a kind
abbrev pub Begins : Start → ℕ → Type 0
Begins at_layout b = b ≤ 32
Begins at_sharp b = b ≡ 35
Begins at_capital b = (65 ≤ b) × (b ≤ 90)
Begins at_small b = (97 ≤ b) × (b ≤ 122)
Begins at_digit b = (48 ≤ b) × (b ≤ 57)
Begins at_quote b = b ≡ 34
Begins at_mark b = (b ≡ 33) ⊎ ((37 ≤ b) × (b ≤ 47)) ⊎ ((58 ≤ b) × (b ≤ 64)) ⊎ ((91 ≤ b) × (b ≤ 94)) ⊎ (b ≡ 124)

pub one_start : (s t : Start) (b : ℕ) → Begins s b → Begins t b → t ≡ s
one_start at_layout at_layout b p q = refl
one_start at_sharp at_sharp b p q = refl
one_start at_capital at_capital b p q = refl
one_start at_small at_small b p q = refl
one_start at_digit at_digit b p q = refl
one_start at_quote at_quote b p q = refl
one_start at_mark at_mark b p q = refl
one_start _ _ b p q = absurd (omega arith)

layout_range : (b : ℕ) → is_layout b ≡ true → b ≤ 32
layout_range b e = grind (arith, nat_tests)

capital_range : (b : ℕ) → is_capital b ≡ true → (65 ≤ b) × (b ≤ 90)
capital_range b e = (grind (arith, nat_tests), grind (arith, nat_tests))

small_range : (b : ℕ) → is_small b ≡ true → (97 ≤ b) × (b ≤ 122)
small_range b e = (grind (arith, nat_tests), grind (arith, nat_tests))

digit_range : (b : ℕ) → is_digit b ≡ true → (48 ≤ b) × (b ≤ 57)
digit_range b e = (grind (arith, nat_tests), grind (arith, nat_tests))

-- the first byte of a mark
abbrev begins_mark : ℕ → Bool
begins_mark b = is_lone b || begins_operator b

above : (low b : ℕ) {A : Type 0} → (b < low → A) → (low ≤ b → A) → A
above low b below up = elim (cases_lt b low) [ inl lt ↦ below lt | inr le ↦ up le ]

mark_bytes : (b : ℕ) → begins_mark b ≡ true → Begins at_mark b
mark_bytes b e =
    above 33 b (λ h. absurd (grind (arith, nat_tests))) (λ low33.
    above 34 b (λ h. inl (omega arith)) (λ low34.
    above 37 b (λ h. absurd (grind (arith, nat_tests))) (λ low37.
    above 48 b (λ h. inr (inl (omega arith, omega arith))) (λ low48.
    above 58 b (λ h. absurd (grind (arith, nat_tests))) (λ low58.
    above 65 b (λ h. inr (inr (inl (omega arith, omega arith)))) (λ low65.
    above 91 b (λ h. absurd (grind (arith, nat_tests))) (λ low91.
    above 95 b (λ h. inr (inr (inr (inl (omega arith, omega arith))))) (λ low95.
    above 124 b (λ h. absurd (grind (arith, nat_tests))) (λ low124.
    above 125 b (λ h. inr (inr (inr (inr (omega arith))))) (λ low125. absurd (grind (arith, nat_tests))))))))))))

true≢false : (b : Bool) → b ≡ true → b ≡ false → ⊥
true≢false b x y = cc

or_false : (x y : Bool) → (x || y) ≡ false → (x ≡ false) × (y ≡ false)
or_false true y e = cc
or_false false y e = (refl, e)

no_mark : (a : ℕ) (more : List ℕ) → nat_eq a 58 ≡ false → nat_eq a 124 ≡ false → begins_operator a ≡ false → is_lone a ≡ false → is_mark (a ∷ more) ≡ false
no_mark a [] colon bar sign lone = rw (lone, sign) refl
no_mark a (b ∷ []) colon bar sign lone = rw (colon, bar, sign) refl
no_mark a (b ∷ c ∷ []) colon bar sign lone = rw (colon, sign) refl
no_mark a (b ∷ c ∷ d ∷ []) colon bar sign lone = rw (colon, sign) refl
no_mark a (b ∷ c ∷ d ∷ e ∷ more) colon bar sign lone = refl

other : (a b : ℕ) → nat_eq a b ≡ false → nat_eq b a ≡ false
other a b e = grind (arith, nat_tests)

mark_begins : (a : ℕ) (more : List ℕ) → is_mark (a ∷ more) ≡ true → begins_mark a ≡ true
mark_begins a more e = by (begins_mark a) refl
  where
    by : (v : Bool) → begins_mark a ≡ v → begins_mark a ≡ true
    by true v = v
    by false v =
        let split = or_false (is_lone a) (begins_operator a) v in
        let colon = or_false (nat_eq 58 a) _ split.0 in
        let bar = or_false (nat_eq 124 a) _ colon.1 in
        let none = no_mark a more (other 58 a colon.0) (other 124 a bar.0) split.1 split.0 in
        absurd (true≢false (is_mark (a ∷ more)) e none)

mark_first : (text : List ℕ) (n : ℕ) → is_mark (take n text) ≡ true → begins_mark (slice_index text 0) ≡ true
mark_first text zero e = cc
mark_first [] (suc n) e = cc
mark_first (a ∷ text) (suc n) e = mark_begins a (take n text) e

quote_first : (text more : List ℕ) (n : ℕ) → take n text ≡ 34 ∷ more → slice_index text 0 ≡ 34
quote_first text more zero e = cc
quote_first [] more (suc n) e = cc
quote_first (a ∷ text) more (suc n) e = cc

pub begins : (f : StretchForm) (text : List ℕ) (n : ℕ) → Is f text n → Begins (start_of f) (slice_index text 0)
begins Layout text n i = layout_range _ i.1
begins SharpComment text n i = i.opens
begins OpenComment text n i = i.opens
begins WordComment text n i = capital_range _ i.opens.begins
begins Word text n i = capital_range _ i.begins
begins Tag text n i = small_range _ i.begins
begins Number text n i = digit_range _ i.begins
begins Quoted text n i = quote_first text _ n i.1.spelled
begins OpenString text n i = quote_first text _ n i.spelled
begins Mark text n i = mark_bytes _ (mark_first text n i)

-- longest among the forms of its beginning is longest
pub longest_of : (f : StretchForm) (text : List ℕ) (n : ℕ) → Is f text n → n ≤ length text
    → ((g : StretchForm) → start_of g ≡ start_of f → (m : ℕ) → m ≤ length text → Is g text m → m ≤ n) → Longest text f n
longest_of f text n is within own = record {
  is = is;
  within = within;
  longest = λ g m le i. own g (one_start (start_of f) (start_of g) (slice_index text 0) (begins f text n is) (begins g text m i)) m le i;
}

take_some : (text more : List ℕ) (b n : ℕ) → take n text ≡ b ∷ more → 0 < n
take_some text more b zero e = cc
take_some text more b (suc n) e = omega arith

pub is_some : (f : StretchForm) (text : List ℕ) (n : ℕ) → Is f text n → 0 < n
is_some Layout text n i = omega (arith, i.0)
is_some SharpComment text n i = omega (arith, i.two)
is_some OpenComment text n i = i.some
is_some WordComment text n i = omega (arith, i.whole, i.opens.some)
is_some Word text n i = i.some
is_some Tag text n i = i.some
is_some Number text n i = i.some
is_some Quoted text n i = take_some text _ 34 n i.1.spelled
is_some OpenString text n i = take_some text _ 34 n i.spelled
is_some Mark text zero i = cc
is_some Mark text (suc n) i = omega arith
