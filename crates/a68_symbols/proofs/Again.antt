-- Words that stand again.
use Rattle.std.proofs.Common.{◌≡◌, ℕ, ◌+◌, ◌-◌, ◌<◌, ◌≤◌, Bool, true, false, ◌||◌, List, length, slice_index, get_or, take, drop, refl, sym, ap, subst, ◌∙◌, ◌⊎◌, inl, inr, arith}
use Rattle.std.proofs.lemmas.Bool.{cases_lt}
use Rattle.std.proofs.lemmas.List.{get_or-take, get_or-drop, length-take, length-drop}
use Rattle.a68_symbols.specs.Bytes.{in_word, is_capital, is_digit}
use Rattle.a68_symbols.specs.Forms.{Each, IsWholeWord, StandsAgain}
use Rattle.a68_symbols.specs.Runs.{IsRunOfCapitals, IsFirstAgain}

pub true≢false : (b : Bool) → b ≡ true → b ≡ false → ⊥
true≢false b x y = cc

or_true : (x y : Bool) → x ≡ true → (x || y) ≡ true
or_true true y e = refl
or_true false y e = cc

pub capital_in_word : (b : ℕ) → is_capital b ≡ true → in_word b ≡ true
capital_in_word b e = or_true (is_capital b) (is_digit b) e

-- two whole runs from one place are one
pub one_end : (text : List ℕ) (a b c : ℕ) → a < b → b ≤ length text → Each in_word text a b → (b ≡ length text) ⊎ (in_word (slice_index text b) ≡ false)
    → c ≤ length text → Each in_word text a c → c ≤ b
one_end text a b c some within run ends fits other =
    elim (cases_lt b c) [
      | inl lt ↦ elim ends [ inl all ↦ absurd (omega (arith, all)) | inr out ↦ absurd (true≢false _ (other b (omega arith) lt) out) ]
      | inr le ↦ le
    ]

pub same_end : (text : List ℕ) (a b c : ℕ) → IsRunOfCapitals text a b → IsWholeWord text a c → c ≡ b
same_end text a b c r w =
    elim (cases_lt a b) [
      | inl lt ↦
          let up = one_end text a b c lt r.within r.goes_on r.ends w.within w.goes_on in
          let down = one_end text a c b w.some w.within w.goes_on w.ends r.within r.goes_on in
          omega (arith, up, down)
      | inr le ↦
          elim r.ends [
            | inl all ↦ absurd (omega (arith, all, w.some, w.within, r.low))
            | inr out ↦ let e : b ≡ a = omega (arith, r.low) in absurd (true≢false _ (w.goes_on a (omega arith) w.some) (rw e at out))
          ]
    ]

-- a border of words at a place
abbrev pub Border : List ℕ → ℕ → Type 0
Border text at = (at ≡ length text) ⊎ (in_word (slice_index text at) ≡ false) ⊎ (in_word (slice_index text (at - 1)) ≡ false)

first_same : (text : List ℕ) (width at : ℕ) → 0 < width → take width (drop at text) ≡ take width text → slice_index text at ≡ slice_index text 0
first_same text width at some same =
    let e : at + 0 ≡ at = omega arith in
    sym (ap (λ (k : ℕ). get_or text k 0) e) ∙ sym (get_or-take width (drop at text) 0 0 some ∙ get_or-drop at text 0 0)
    ∙ ap (λ (l : List ℕ). get_or l 0 0) same ∙ get_or-take width text 0 0 some

module _ (text : List ℕ) (width at end : ℕ) (w : IsWholeWord text 0 width) (behind : width ≤ at) (within : at < length text) (border : Border text at) (r : IsRunOfCapitals text at end) where
  -- the run at the place is the word
  pub found_again : ((a : ℕ) → width ≤ a → a < at → StandsAgain text width a → ⊥) → take (end - at) (drop at text) ≡ take width text → IsFirstAgain text width at
  found_again none same =
      let long : end - at ≡ width = omega (arith, ap length same, length-take (end - at) (drop at text), length-take width text, length-drop at text, r.low, r.within, w.within) in
      let whole : at + width ≡ end = omega (arith, long, w.some, r.low) in
      let again : take width (drop at text) ≡ take width text = rw long at same in
      let capital : is_capital (slice_index text at) ≡ true = rw (first_same text width at w.some again) w.begins in
      record {
        behind = behind;
        closes = record {
          whole = record {
            some = omega (arith, w.some);
            within = omega (arith, whole, r.within);
            begins = capital;
            goes_on = rw whole r.goes_on;
            alone = elim border [
              | inl all ↦ absurd (omega (arith, all, within))
              | inr (inl out) ↦ absurd (true≢false _ (capital_in_word (slice_index text at) capital) out)
              | inr (inr out) ↦ inr out
            ];
            ends = rw whole r.ends;
          };
          same = again;
        };
        first = none;
      }

  -- it is not, and the search goes on behind it
  pub not_yet : ((a : ℕ) → width ≤ a → a < at → StandsAgain text width a → ⊥) → (take (end - at) (drop at text) ≡ take width text → ⊥)
      → (next : ℕ) → (next ≡ end) ⊎ (next ≡ at + 1) → (a : ℕ) → width ≤ a → a < next → StandsAgain text width a → ⊥
  not_yet none other next is a low high again =
      elim (cases_lt a at) [
        | inl before ↦ none a low before again
        | inr from ↦ elim (cases_lt at a) [
          | inl past ↦
              let inside : a < end = elim is [ inl e ↦ omega (arith, e) | inr e ↦ absurd (omega (arith, e)) ] in
              elim again.whole.alone [
                | inl e ↦ absurd (omega (arith, e))
                | inr out ↦ true≢false _ (r.goes_on (a - 1) (omega arith) (omega (arith, inside))) out
              ]
          | inr to ↦
              let here : a ≡ at = omega (arith, from, to) in
              let stands : StandsAgain text width at = subst (λ (k : ℕ). StandsAgain text width k) here again in
              let end_is : at + width ≡ end = same_end text at end (at + width) r stands.whole in
              let long : end - at ≡ width = omega (arith, end_is) in
              other (rw long stands.same)
        ]
      ]

  pub border_behind : (next : ℕ) → end ≤ next → (next ≡ end) ⊎ (next ≡ at + 1) → Border text next
  border_behind next over is =
      elim (cases_lt at end) [
        | inl some ↦
            let e : next ≡ end = elim is [ inl e ↦ e | inr e ↦ omega (arith, e, over) ] in
            elim r.ends [ inl all ↦ inl (e ∙ all) | inr out ↦ inr (inl (rw e out)) ]
        | inr none ↦
            let here : end ≡ at = omega (arith, r.low) in
            elim r.ends [
              | inl all ↦ absurd (omega (arith, all, here, within))
              | inr out ↦ elim is [
                | inl e ↦ inr (inl (rw e out))
                | inr e ↦ let back : next - 1 ≡ end = omega (arith, e, here) in inr (inr (rw back out))
              ]
            ]
      ]
