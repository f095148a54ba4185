-- What the spelling of a symbol is.
use Rattle.std.proofs.Common.{◌≡◌, ℕ, zero, suc, ◌-◌, ◌<◌, ◌≤◌, Bool, true, false, not, List, [], ◌∷◌, length, slice_index, take, refl, sym, ap, subst, arith}
use Rattle.std.proofs.lemmas.Bool.Decides.{nat_tests}
use Rattle.std.proofs.lemmas.List.{get_or-take, length-take-le}
use Rattle.a68_symbols.specs.Bytes.{is_layout, is_capital, is_small, is_digit, in_word, in_tag, ends_tag, without_layout}
use Rattle.a68_symbols.specs.Forms.{IsRun}

-- each byte of a list passes
abbrev pub Passes : (ℕ → Bool) → List ℕ → Type 0
Passes p [] = Unit {0}
Passes p (b ∷ s) = (p b ≡ true) × Passes p s

pub passes_of : (p : ℕ → Bool) (s : List ℕ) → ((k : ℕ) → k < length s → p (slice_index s k) ≡ true) → Passes p s
passes_of p [] e = tt
passes_of p (b ∷ s) e = (e 0 (omega arith), passes_of p s (λ k lt. e (suc k) (omega (arith, lt))))

pub passes_at : (p : ℕ → Bool) (s : List ℕ) → Passes p s → (k : ℕ) → k < length s → p (slice_index s k) ≡ true
passes_at p [] all k lt = absurd (omega (arith, lt))
passes_at p (b ∷ s) all zero lt = all.0
passes_at p (b ∷ s) all (suc k) lt = passes_at p s all.1 k (omega (arith, lt))

-- where no byte is layout, nothing is left out
pub without_none : (s : List ℕ) → Passes (λ b. not (is_layout b)) s → without_layout s ≡ s
without_none [] all = refl
without_none (b ∷ s) all = rw all.0 (ap (λ (l : List ℕ). b ∷ l) (without_none s all.1))

imply : (p q : ℕ → Bool) → ((b : ℕ) → p b ≡ true → q b ≡ true) → (s : List ℕ) → Passes p s → Passes q s
imply p q f [] all = tt
imply p q f (b ∷ s) all = (f b all.0, imply p q f s all.1)

word_no_layout : (b : ℕ) → in_word b ≡ true → not (is_layout b) ≡ true
word_no_layout b e = grind (arith, nat_tests)

tag_no_layout : (b : ℕ) → ends_tag b ≡ true → not (is_layout b) ≡ true
tag_no_layout b e = grind (arith, nat_tests)

capital_word : (b : ℕ) → is_capital b ≡ true → in_word b ≡ true
capital_word b e = grind (arith, nat_tests)

ends_in : (b : ℕ) → ends_tag b ≡ true → in_tag b ≡ true
ends_in b e = grind (arith, nat_tests)

pub small_tag : (b : ℕ) → is_small b ≡ true → in_tag b ≡ true
small_tag b e = grind (arith, nat_tests)

pub digit_tag : (b : ℕ) → is_digit b ≡ true → in_tag b ≡ true
digit_tag b e = grind (arith, nat_tests)

-- the bytes of a run
run_passes : (first inner last : ℕ → Bool) → ((b : ℕ) → first b ≡ true → inner b ≡ true) → (text : List ℕ) (n : ℕ) → n ≤ length text → IsRun first inner last text n → Passes inner (take n text)
run_passes first inner last f text n le r = passes_of inner (take n text) at
  where
    at : (k : ℕ) → k < length (take n text) → inner (slice_index (take n text) k) ≡ true
    at zero lt = subst (λ (x : ℕ). inner x ≡ true) (sym (get_or-take n text 0 0 r.some)) (f (slice_index text 0) r.begins)
    at (suc k) lt =
        let high : suc k < n = omega (arith, lt, length-take-le n text le) in
        subst (λ (x : ℕ). inner x ≡ true) (sym (get_or-take n text (suc k) 0 high)) (r.goes_on (suc k) (omega arith) high)

-- what is left of the bytes of a tag or a number
keeps_tag : (b : ℕ) → in_tag b ≡ true → is_layout b ≡ false → ends_tag b ≡ true
keeps_tag b e out = grind (arith, nat_tests)

tag_kept : (w : List ℕ) → Passes in_tag w → Passes ends_tag (without_layout w)
tag_kept [] all = tt
tag_kept (b ∷ w) all = by (is_layout b) refl (tag_kept w all.1)
  where
    by : (v : Bool) → is_layout b ≡ v → Passes ends_tag (without_layout w) → Passes ends_tag (without_layout (b ∷ w))
    by true v later = rw v later
    by false v later = rw v (keeps_tag b all.0 v, later)

-- the first byte is no layout, and is kept
first_kept : (first : ℕ → Bool) (f : (b : ℕ) → first b ≡ true → is_layout b ≡ false) (w : List ℕ) → 0 < length w → first (slice_index w 0) ≡ true
    → (0 < length (without_layout w)) × (first (slice_index (without_layout w) 0) ≡ true)
first_kept first f [] some e = absurd (omega (arith, some))
first_kept first f (b ∷ w) some e = rw (f b e) (omega arith, e)

-- a tag or a number as it is spelled
pub spelled_run : (first : ℕ → Bool) → ((b : ℕ) → first b ≡ true → in_tag b ≡ true) → ((b : ℕ) → first b ≡ true → is_layout b ≡ false)
    → (text : List ℕ) (n : ℕ) → n ≤ length text → IsRun first in_tag ends_tag text n
    → IsRun first in_tag ends_tag (without_layout (take n text)) (length (without_layout (take n text))) × (without_layout (without_layout (take n text)) ≡ without_layout (take n text))
spelled_run first f g text n le r =
    let s : List ℕ = without_layout (take n text) in
    let all : Passes ends_tag s = tag_kept (take n text) (run_passes first in_tag ends_tag f text n le r) in
    let long : 0 < length (take n text) = omega (arith, length-take-le n text le, r.some) in
    let head : first (slice_index (take n text) 0) ≡ true = subst (λ (x : ℕ). first x ≡ true) (sym (get_or-take n text 0 0 r.some)) r.begins in
    let kept = first_kept first g (take n text) long head in (
      record {
        some = kept.0;
        begins = kept.1;
        goes_on = λ k low lt. ends_in (slice_index s k) (passes_at ends_tag s all k lt);
        ends = passes_at ends_tag s all (length s - 1) (omega (arith, kept.0));
      },
      without_none s (imply ends_tag (λ b. not (is_layout b)) tag_no_layout s all),
    )

-- a word as it is spelled
pub spelled_word : (text : List ℕ) (n : ℕ) → n ≤ length text → IsRun is_capital in_word in_word text n
    → IsRun is_capital in_word in_word (take n text) (length (take n text)) × (without_layout (take n text) ≡ take n text)
spelled_word text n le r =
    let all : Passes in_word (take n text) = run_passes is_capital in_word in_word capital_word text n le r in
    let long : length (take n text) ≡ n = length-take-le n text le in (
      record {
        some = omega (arith, long, r.some);
        begins = subst (λ (x : ℕ). is_capital x ≡ true) (sym (get_or-take n text 0 0 r.some)) r.begins;
        goes_on = λ k low lt. passes_at in_word (take n text) all k lt;
        ends = passes_at in_word (take n text) all (length (take n text) - 1) (omega (arith, long, r.some));
      },
      without_none (take n text) (imply in_word (λ b. not (is_layout b)) word_no_layout (take n text) all),
    )

pub small_layout : (b : ℕ) → is_small b ≡ true → is_layout b ≡ false
small_layout b e = grind (arith, nat_tests)

pub digit_layout : (b : ℕ) → is_digit b ≡ true → is_layout b ≡ false
digit_layout b e = grind (arith, nat_tests)
