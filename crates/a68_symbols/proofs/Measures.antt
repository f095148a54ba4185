-- What the measures of the forms say.
use Rattle.std.proofs.Common.{◌≡◌, ◌≢◌, ℕ, zero, suc, ◌+◌, ◌-◌, ◌<◌, ◌≤◌, Bool, true, false, List, [], ◌∷◌, length, slice_index, take, refl, inl, inr, arith}
use Rattle.std.proofs.lemmas.Bool.{cases_lt}
use Rattle.std.proofs.lemmas.Bool.Decides.{nat_tests}
use Rattle.a68_symbols.specs.declared.form.StretchForm.{StretchForm}
use Rattle.a68_symbols.specs.declared.form.StretchForm.TheVariants.{Layout, SharpComment, WordComment, OpenComment, Word, Tag, Number, Quoted, OpenString, Mark}
use Rattle.a68_symbols.specs.Bytes.{is_layout, is_capital, is_small, is_digit, in_word, in_tag, ends_tag}
use Rattle.a68_symbols.specs.Words.{is_opener}
use Rattle.a68_symbols.specs.Forms.{Is, IsRun, IsSharpComment, IsWordComment, IsWholeWord, Longest, NoForm, Each}
use Rattle.a68_symbols.specs.Runs.{IsRunOfCapitals, IsLongestTag, IsNextSharp, IsFirstAgain, NeverAgain, IsLongestMark}
use Rattle.a68_symbols.proofs.Starts.{start_of, longest_of}
use Rattle.a68_symbols.proofs.Again.{true≢false, capital_in_word, one_end}

pub sharp_longest : (text : List ℕ) (n : ℕ) → slice_index text 0 ≡ 35 → IsNextSharp text n → Longest text SharpComment (n + 1)
sharp_longest text n b r = longest_of SharpComment text (n + 1) is (omega (arith, r.within)) own
  where
    last : slice_index text (n + 1 - 1) ≡ 35
    last = let e : n + 1 - 1 ≡ n = omega arith in rw e r.is

    is : IsSharpComment text (n + 1)
    is = record { two = omega (arith, r.low); opens = b; inside = λ k low high. r.inside k low (omega arith); closes = last }

    own : (g : StretchForm) → start_of g ≡ start_of SharpComment → (m : ℕ) → m ≤ length text → Is g text m → m ≤ n + 1
    own SharpComment e m le i = elim (cases_lt (n + 1) m) [ inl lt ↦ absurd (i.inside n r.low (omega arith) r.is) | inr ge ↦ ge ]
    own OpenComment e m le i = elim (cases_lt n m) [ inl lt ↦ absurd (i.inside n r.low lt r.is) | inr ge ↦ omega arith ]
    own _ e m le i = cc

-- ---- words, and comments between words

pub whole_word : (text : List ℕ) (n : ℕ) → 0 < length text → is_capital (slice_index text 0) ≡ true → IsRunOfCapitals text 0 n → IsWholeWord text 0 n
whole_word text n some b r = record {
  some = elim (cases_lt 0 n) [
    | inl lt ↦ lt
    | inr le ↦
        let e : n ≡ 0 = omega arith in
        elim r.ends [ inl all ↦ absurd (omega (arith, all)) | inr out ↦ absurd (true≢false _ (capital_in_word (slice_index text 0) b) (rw e at out)) ]
  ];
  within = r.within;
  begins = b;
  goes_on = r.goes_on;
  alone = inl refl;
  ends = r.ends;
}

run_from_0 : (text : List ℕ) (n : ℕ) → IsRun is_capital in_word in_word text n → Each in_word text 0 n
run_from_0 text n i k low high = elim (cases_lt 0 k) [
  | inl lt ↦ i.goes_on k (omega arith) high
  | inr le ↦ let e : k ≡ 0 = omega arith in rw e (capital_in_word (slice_index text 0) i.begins)
]

word_most : (text : List ℕ) (n m : ℕ) → IsWholeWord text 0 n → m ≤ length text → IsRun is_capital in_word in_word text m → m ≤ n
word_most text n m w le i = one_end text 0 n m w.some w.within w.goes_on w.ends le (run_from_0 text m i)

one_width : (text : List ℕ) (n m : ℕ) → IsWholeWord text 0 n → IsWholeWord text 0 m → m ≡ n
one_width text n m w v =
    let up = one_end text 0 n m w.some w.within w.goes_on w.ends v.within v.goes_on in
    let down = one_end text 0 m n v.some v.within v.goes_on v.ends w.within w.goes_on in
    omega (arith, up, down)

pub word_longest : (text : List ℕ) (n : ℕ) → IsWholeWord text 0 n → ((m : ℕ) → IsWordComment text m → ⊥) → Longest text Word n
word_longest text n w none = longest_of Word text n is w.within own
  where
    is : IsRun is_capital in_word in_word text n
    is = record {
      some = w.some;
      begins = w.begins;
      goes_on = λ k low high. w.goes_on k (omega arith) high;
      ends = w.goes_on (n - 1) (omega arith) (omega (arith, w.some));
    }

    own : (g : StretchForm) → start_of g ≡ start_of Word → (m : ℕ) → m ≤ length text → Is g text m → m ≤ n
    own Word e m le i = word_most text n m w le i
    own WordComment e m le i = absurd (none m i)
    own _ e m le i = cc

pub no_opener : (text : List ℕ) (n : ℕ) → IsWholeWord text 0 n → is_opener (take n text) ≡ false → (m : ℕ) → IsWordComment text m → ⊥
no_opener text n w not_opener m i = true≢false (is_opener (take n text)) (rw (one_width text n i.width w i.opens) at i.opener) not_opener

pub no_end : (text : List ℕ) (n : ℕ) → IsWholeWord text 0 n → NeverAgain text n → (m : ℕ) → IsWordComment text m → ⊥
no_end text n w never m i =
    let e = one_width text n i.width w i.opens in
    never i.at (rw e at i.behind) (rw e at i.closes)

pub comment_longest : (text : List ℕ) (n at : ℕ) → IsWholeWord text 0 n → is_opener (take n text) ≡ true → IsFirstAgain text n at → Longest text WordComment (at + n)
comment_longest text n at w opener r = longest_of WordComment text (at + n) is r.closes.whole.within own
  where
    is : IsWordComment text (at + n)
    is = record { width = n; opens = w; opener = opener; at = at; behind = r.behind; closes = r.closes; first = r.first; whole = refl }

    own : (g : StretchForm) → start_of g ≡ start_of WordComment → (m : ℕ) → m ≤ length text → Is g text m → m ≤ at + n
    own Word e m le i = let most = word_most text n m w le i in omega (arith, most)
    own WordComment e m le i =
        let e = one_width text n i.width w i.opens in
        elim (cases_lt at i.at) [
          | inl lt ↦ absurd (i.first at (omega (arith, e, r.behind)) lt (rw e r.closes))
          | inr le ↦ omega (arith, e, i.whole)
        ]
    own _ e m le i = cc

-- ---- tags and numbers

run_is : (first : ℕ → Bool) (text : List ℕ) (n : ℕ) → ((b : ℕ) → first b ≡ true → ends_tag b ≡ true) → first (slice_index text 0) ≡ true → IsLongestTag text n → IsRun first in_tag ends_tag text n
run_is first text n also b r = record {
  some = r.some;
  begins = b;
  goes_on = r.goes_on;
  ends = elim r.ends [ inl one ↦ rw one (also _ b) | inr e ↦ e ];
}

run_own : (first : ℕ → Bool) (text : List ℕ) (n : ℕ) → IsLongestTag text n → (m : ℕ) → m ≤ length text → IsRun first in_tag ends_tag text m → m ≤ n
run_own first text n r m le i = elim (cases_lt n m) [ inl lt ↦ absurd (r.longest m lt le i.goes_on i.ends) | inr ge ↦ ge ]

small_also : (b : ℕ) → is_small b ≡ true → ends_tag b ≡ true
small_also b e = grind (arith, nat_tests)

digit_also : (b : ℕ) → is_digit b ≡ true → ends_tag b ≡ true
digit_also b e = grind (arith, nat_tests)

pub tag_longest : (text : List ℕ) (n : ℕ) → is_small (slice_index text 0) ≡ true → IsLongestTag text n → Longest text Tag n
tag_longest text n b r = longest_of Tag text n (run_is is_small text n small_also b r) r.within own
  where
    own : (g : StretchForm) → start_of g ≡ start_of Tag → (m : ℕ) → m ≤ length text → Is g text m → m ≤ n
    own Tag e m le i = run_own is_small text n r m le i
    own _ e m le i = cc

pub number_longest : (text : List ℕ) (n : ℕ) → is_digit (slice_index text 0) ≡ true → IsLongestTag text n → Longest text Number n
number_longest text n b r = longest_of Number text n (run_is is_digit text n digit_also b r) r.within own
  where
    own : (g : StretchForm) → start_of g ≡ start_of Number → (m : ℕ) → m ≤ length text → Is g text m → m ≤ n
    own Number e m le i = run_own is_digit text n r m le i
    own _ e m le i = cc

-- ---- layout and marks

pub layout_longest : (text : List ℕ) → 0 < length text → is_layout (slice_index text 0) ≡ true → Longest text Layout 1
layout_longest text some b = longest_of Layout text 1 (refl, b) (omega arith) own
  where
    own : (g : StretchForm) → start_of g ≡ start_of Layout → (m : ℕ) → m ≤ length text → Is g text m → m ≤ 1
    own Layout e m le i = omega (arith, i.0)
    own _ e m le i = cc

pub mark_longest : (text : List ℕ) (n : ℕ) → 0 < n → IsLongestMark text n → Longest text Mark n
mark_longest text n some r = longest_of Mark text n (elim r.is [ inl e ↦ absurd (omega (arith, e)) | inr is ↦ is ]) r.within own
  where
    own : (g : StretchForm) → start_of g ≡ start_of Mark → (m : ℕ) → m ≤ length text → Is g text m → m ≤ n
    own Mark e m le i = elim (cases_lt n m) [ inl lt ↦ absurd (r.longest m lt le i) | inr ge ↦ ge ]
    own _ e m le i = cc

quote_first : (text more : List ℕ) (n : ℕ) → take n text ≡ 34 ∷ more → slice_index text 0 ≡ 34
quote_first text more zero e = cc
quote_first [] more (suc n) e = cc
quote_first (a ∷ text) more (suc n) e = cc

pub no_form : (text : List ℕ) → is_layout (slice_index text 0) ≡ false → slice_index text 0 ≢ 35 → is_capital (slice_index text 0) ≡ false
    → is_small (slice_index text 0) ≡ false → is_digit (slice_index text 0) ≡ false → slice_index text 0 ≢ 34 → IsLongestMark text 0 → NoForm text
no_form text l h c s d q k Layout m le i = true≢false _ i.1 l
no_form text l h c s d q k SharpComment m le i = h i.opens
no_form text l h c s d q k OpenComment m le i = h i.opens
no_form text l h c s d q k WordComment m le i = true≢false _ i.opens.begins c
no_form text l h c s d q k Word m le i = true≢false _ i.begins c
no_form text l h c s d q k Tag m le i = true≢false _ i.begins s
no_form text l h c s d q k Number m le i = true≢false _ i.begins d
no_form text l h c s d q k Quoted m le i = q (quote_first text _ m i.1.spelled)
no_form text l h c s d q k OpenString m le i = q (quote_first text _ m i.spelled)
no_form text l h c s d q k Mark zero le i = true≢false false i refl
no_form text l h c s d q k Mark (suc m) le i = k.longest (suc m) (omega arith) le i
