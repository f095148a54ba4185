-- Bits of words.
use Rattle.std.proofs.Common.{◌≡◌, ◌∙◌, ◌⊎◌, inl, inr, ℕ, zero, suc, ◌+◌, ◌-◌, ◌*◌, ◌/◌, ◌%◌, ◌^◌, ◌<◌, ◌≤◌, Bool, true, false, List, [], ◌∷◌, ◌++◌, length, refl, ap, sym, arith, get_or, nat_eq, true≢false, MatchBool}
use Rattle.std.proofs.lemmas.Bool.{cases_eq}
use Rattle.std.proofs.lemmas.List.{take_all}
use Rattle.std.specs.Prelude.{◌==◌, ◌||◌, bit_and, bit_or, slice_set, take, replicate, if◌then◌else◌}
use Rattle.std.proofs.lemmas.Bool.Decides.{nat_tests}
use Rattle.std.specs.Int.{bit_at, bit_not, w64, trailing_ones}
use Rattle.std.proofs.Math.Nat.{div-div-eq-div-mul}
use Rattle.std.proofs.Common.{get_or-set_same, get_or-set_other}
use Rattle.std.proofs.lemmas.Nat.{pow-add, shr_le}
use Rattle.std.proofs.lemmas.Nat.Bits.{bit_at-trailing_ones, bit_at_above, bit_at_ones, bit_at-zero, bit_at_set_same, bit_at_set_other, bit_at_clear_same, bit_at_clear_other}
use Rattle.a68_marks.specs.Marked.{AreFull, MarksAsWere, MarksLess, MarksToo, RunOfMarks, is_marked}

-- the bits of a word that is shifted
shifted : (w r i : ℕ) → bit_at (w / 2 ^ r) i ≡ bit_at w (r + i)
shifted w r i = ap (λ q. q % 2) (div-div-eq-div-mul w (2 ^ r) (2 ^ i)) ∙ ap (λ p. w / p % 2) (sym (pow-add 2 r i))

-- a number by its word and its place in it
placed : (words : List ℕ) (n k b : ℕ) → k / 64 ≡ n / 64 → bit_at (get_or words (n / 64) 0) (k % 64) ≡ b → is_marked words k ≡ nat_eq b 1
unfolding is_marked
placed words n k b same e = ap (λ j. bit_at (get_or words j 0) (k % 64) == 1) same ∙ ap (λ x. x == 1) e

-- a number without a word is not in the set
pub beyond : (words : List ℕ) (n : ℕ) → length words ≤ n / 64 → is_marked words n ≡ false
beyond words n h = placed words n n 0 refl (ap (λ w. bit_at w (n % 64)) (absent words (n / 64) h) ∙ bit_at-zero (n % 64))
  where
    absent : (ws : List ℕ) (j : ℕ) → length ws ≤ j → get_or ws j 0 ≡ 0
    absent [] j p = refl
    absent (w ∷ ws) zero p = absurd (omega (arith, p))
    absent (w ∷ ws) (suc j) p = absent ws j (omega (arith, p))

-- a word that is full
pub full : (words : List ℕ) (n : ℕ) → get_or words (n / 64) 0 ≡ 2 ^ 64 - 1 → RunOfMarks words n (64 - n % 64)
full words n e = record {
  none = λ z. absurd (omega (arith, z));
  marked = λ k low high.
      let same : k / 64 ≡ n / 64 = omega (arith, low, high) in
      placed words n k 1 same (ap (λ w. bit_at w (k % 64)) e ∙ bit_at_ones 64 (k % 64) (omega arith));
}

-- one that is not: its trailing ones from this number on
pub partly : (words : List ℕ) (n word : ℕ) → word ≡ get_or words (n / 64) 0 → word + 1 < 2 ^ 64 → RunOfMarks words n (trailing_ones w64 (word / 2 ^ (n % 64)))
partly words n word is room =
    let r = n % 64 in
    let v = word / 2 ^ r in
    let small : v + 1 < 2 ^ 64 = omega (arith, shr_le word r, room) in
    let ones = bit_at-trailing_ones w64 v small in
    let t = trailing_ones w64 v in
    let fits : r + t ≤ 64 = by (apart (64 - r) t) ones in
    record {
      none = λ z. placed words n n 0 refl (sym (ap (λ w. bit_at w r) is) ∙ ap (bit_at word) (sym (plus r t z)) ∙ sym (shifted word r t) ∙ ones.1);
      marked = λ k low high.
          let same : k / 64 ≡ n / 64 = omega (arith, low, high, fits) in
          let at : k % 64 ≡ r + (k - n) = omega (arith, low, high, fits) in
          placed words n k 1 same (sym (ap (λ w. bit_at w (k % 64)) is) ∙ ap (bit_at word) at ∙ sym (shifted word r (k - n)) ∙ ones.2 (k - n) (omega (arith, low, high)));
    }
  where
    plus : (r t : ℕ) → t ≡ 0 → r + t ≡ r
    plus r t z = omega (arith, z)

    apart : (a t : ℕ) → (t ≤ a) ⊎ (a < t)
    apart zero zero = inl (omega arith)
    apart zero (suc t) = inr (omega arith)
    apart (suc a) zero = inl (omega arith)
    apart (suc a) (suc t) = elim (apart a t) [ inl p ↦ inl (omega (arith, p)) | inr p ↦ inr (omega (arith, p)) ]

    by : ((trailing_ones w64 (word / 2 ^ (n % 64)) ≤ 64 - n % 64) ⊎ (64 - n % 64 < trailing_ones w64 (word / 2 ^ (n % 64))))
        → ((trailing_ones w64 (word / 2 ^ (n % 64)) < 64) × (bit_at (word / 2 ^ (n % 64)) (trailing_ones w64 (word / 2 ^ (n % 64))) ≡ 0) × ((i : ℕ) → i < trailing_ones w64 (word / 2 ^ (n % 64)) → bit_at (word / 2 ^ (n % 64)) i ≡ 1))
        → n % 64 + trailing_ones w64 (word / 2 ^ (n % 64)) ≤ 64
    by (inl p) ones = omega (arith, p)
    by (inr p) ones =
        let none : bit_at (word / 2 ^ (n % 64)) (64 - n % 64) ≡ 0 =
        shifted word (n % 64) (64 - n % 64) ∙ bit_at_above word 64 (n % 64 + (64 - n % 64)) (omega (arith, room)) (omega arith) in
        let one : bit_at (word / 2 ^ (n % 64)) (64 - n % 64) ≡ 1 = ones.2 (64 - n % 64) p in
        absurd (omega (arith, sym none ∙ one))

-- ---- one number more

same-test : (n k : ℕ) → k ≡ n → (k == n) ≡ true
same-test n k e = grind (arith, nat_tests, e)

other-test : (n k : ℕ) → (k ≡ n → ⊥) → (k == n) ≡ false
other-test n k ne = grind (arith, nat_tests, ne)

one-number : (n k : ℕ) → k / 64 ≡ n / 64 → k % 64 ≡ n % 64 → k ≡ n
one-number n k e f = omega (arith, e, f)

module _ (words : List ℕ) (n : ℕ) (room : n / 64 < length words) where
  abbrev more : ℕ
  more = bit_or (get_or words (n / 64) 0) (1 * 2 ^ (n % 64) % 2 ^ 64)

  abbrev words-too : List ℕ
  words-too = slice_set words (n / 64) more

  its-word : (k : ℕ) → k / 64 ≡ n / 64 → get_or words-too (k / 64) 0 ≡ more
  its-word k e = ap (λ j. get_or words-too j 0) e ∙ get_or-set_same words (n / 64) more 0 room

  other-word : (k : ℕ) → (k / 64 ≡ n / 64 → ⊥) → is_marked words-too k ≡ is_marked words k
  unfolding is_marked
  other-word k ne = ap (λ w. bit_at w (k % 64) == 1) (get_or-set_other words (n / 64) (k / 64) more 0 ne)

  other-place : (k : ℕ) → k / 64 ≡ n / 64 → (k % 64 ≡ n % 64 → ⊥) → is_marked words-too k ≡ is_marked words k
  unfolding is_marked
  other-place k e ne =
      ap (λ w. bit_at w (k % 64) == 1) (its-word k e) ∙ ap (λ b. b == 1) (bit_at_set_other w64 (get_or words (n / 64) 0) (n % 64) (omega arith) (k % 64) ne)
      ∙ ap (λ j. bit_at (get_or words j 0) (k % 64) == 1) (sym e)

  its-place : (k : ℕ) → k / 64 ≡ n / 64 → k % 64 ≡ n % 64 → is_marked words-too k ≡ true
  unfolding is_marked
  its-place k e f = ap (λ w. bit_at w (k % 64) == 1) (its-word k e) ∙ ap (λ j. bit_at more j == 1) f ∙ ap (λ b. b == 1) (bit_at_set_same w64 (get_or words (n / 64) 0) (n % 64) (omega arith))

  pub set_too : MarksToo words n words-too
  set_too k = elim (cases_eq (k / 64) (n / 64)) [
    | inr ne ↦ other-word k ne ∙ sym (ap (λ b. b || is_marked words k) (other-test n k (λ e. ne (ap (λ j. j / 64) e))))
    | inl e ↦ elim (cases_eq (k % 64) (n % 64)) [
      | inr ne ↦ other-place k e ne ∙ sym (ap (λ b. b || is_marked words k) (other-test n k (λ q. ne (ap (λ j. j % 64) q))))
      | inl f ↦ its-place k e f ∙ sym (ap (λ b. b || is_marked words k) (same-test n k (one-number n k e f)))
    ]
  ]

-- ---- one number less

module _ (words : List ℕ) (n : ℕ) (room : n / 64 < length words) where
  abbrev less : ℕ
  less = bit_and (get_or words (n / 64) 0) (bit_not w64 (1 * 2 ^ (n % 64) % 2 ^ 64))

  abbrev words-less : List ℕ
  words-less = slice_set words (n / 64) less

  less-word : (k : ℕ) → k / 64 ≡ n / 64 → get_or words-less (k / 64) 0 ≡ less
  less-word k e = ap (λ j. get_or words-less j 0) e ∙ get_or-set_same words (n / 64) less 0 room

  kept-word : (k : ℕ) → (k / 64 ≡ n / 64 → ⊥) → is_marked words-less k ≡ is_marked words k
  unfolding is_marked
  kept-word k ne = ap (λ w. bit_at w (k % 64) == 1) (get_or-set_other words (n / 64) (k / 64) less 0 ne)

  kept-place : (k : ℕ) → k / 64 ≡ n / 64 → (k % 64 ≡ n % 64 → ⊥) → is_marked words-less k ≡ is_marked words k
  unfolding is_marked
  kept-place k e ne =
      ap (λ w. bit_at w (k % 64) == 1) (less-word k e) ∙ ap (λ b. b == 1) (bit_at_clear_other w64 (get_or words (n / 64) 0) (n % 64) (omega arith) (k % 64) (omega arith) ne)
      ∙ ap (λ j. bit_at (get_or words j 0) (k % 64) == 1) (sym e)

  less-place : (k : ℕ) → k / 64 ≡ n / 64 → k % 64 ≡ n % 64 → is_marked words-less k ≡ false
  unfolding is_marked
  less-place k e f = ap (λ w. bit_at w (k % 64) == 1) (less-word k e) ∙ ap (λ j. bit_at less j == 1) f ∙ ap (λ b. b == 1) (bit_at_clear_same w64 (get_or words (n / 64) 0) (n % 64) (omega arith))

  pub set_less : MarksLess words n words-less
  set_less k = elim (cases_eq (k / 64) (n / 64)) [
    | inr ne ↦ kept-word k ne ∙ sym (ap (λ b. if b then false else is_marked words k) (other-test n k (λ e. ne (ap (λ j. j / 64) e))))
    | inl e ↦ elim (cases_eq (k % 64) (n % 64)) [
      | inr ne ↦ kept-place k e ne ∙ sym (ap (λ b. if b then false else is_marked words k) (other-test n k (λ q. ne (ap (λ j. j % 64) q))))
      | inl f ↦ less-place k e f ∙ sym (ap (λ b. if b then false else is_marked words k) (same-test n k (one-number n k e f)))
    ]
  ]

-- one that has no word is not in the set
pub none_less : (words : List ℕ) (n : ℕ) → length words ≤ n / 64 → MarksLess words n words
none_less words n h k = elim (cases_eq k n) [
  | inl e ↦ ap (is_marked words) e ∙ beyond words n h ∙ sym (ap (λ b. if b then false else is_marked words k) (same-test n k e))
  | inr ne ↦ sym (ap (λ b. if b then false else is_marked words k) (other-test n k ne))
]

-- the word that shows whether a number is in the set
pub shows : (words : List ℕ) (n word : ℕ) → word ≡ get_or words (n / 64) 0 → nat_eq (word / 2 ^ (n % 64) % 2) 1 ≡ is_marked words n
unfolding is_marked
shows words n word e = ap (λ w. nat_eq (w / 2 ^ (n % 64) % 2) 1) e

-- ---- words for more numbers

zeros : (m j : ℕ) → let none : ℕ = 0 in get_or (replicate m none) j 0 ≡ none
zeros zero j = refl
zeros (suc m) zero = refl
zeros (suc m) (suc j) = zeros m j

behind : (words : List ℕ) (m j : ℕ) → get_or (words ++ replicate m 0) j 0 ≡ get_or words j 0
behind [] m j = zeros m j
behind (w ∷ words) m zero = refl
behind (w ∷ words) m (suc j) = behind words m j

pub held_same : (old new : List ℕ) (count m : ℕ) (b : Bool) → new ≡ (if b then take count old ++ replicate m 0 else old) → length old ≤ count → (k : ℕ) → is_marked new k ≡ is_marked old k
unfolding is_marked
held_same old new count m true e few k =
    ap (λ l. bit_at (get_or l (k / 64) 0) (k % 64) == 1) (e ∙ ap (λ l. l ++ replicate m 0) (take_all count old few)) ∙ ap (λ w. bit_at w (k % 64) == 1) (behind old m (k / 64))
held_same old new count m false e few k = ap (λ l. bit_at (get_or l (k / 64) 0) (k % 64) == 1) e

-- there is no run where a number has no word
pub no_run : (words : List ℕ) (n : ℕ) → length words ≤ n / 64 → RunOfMarks words n 0
no_run words n h = record { none = λ z. beyond words n h; marked = λ k low high. absurd (omega (arith, low, high)) }

-- the word that is there
pub the_word : (words : List ℕ) (j d : ℕ) → j < length words → get_or words j d ≡ get_or words j 0
the_word [] j d h = absurd (omega (arith, h))
the_word (w ∷ words) zero d h = refl
the_word (w ∷ words) (suc j) d h = the_word words j d (omega (arith, h))

-- the bound of a run within a word
pub ones_few : (v : ℕ) → v + 1 < 2 ^ 64 → trailing_ones w64 v ≤ 64
ones_few v small = let ones = bit_at-trailing_ones w64 v small in omega (arith, ones.0)

-- ---- words that are full

-- a run of full words
pub full_words : (words full : List ℕ) (n count : ℕ) → AreFull words full → n % 64 ≡ 0 → (count ≡ 0 → ⊥) → RunOfMarks full (n / 64) count → RunOfMarks words n (64 * count)
full_words words full n count are whole some run = record {
  none = λ z. absurd (some (omega (arith, z)));
  marked = λ k low high.
      let word : is_marked full (k / 64) ≡ true = run.marked (k / 64) (omega (arith, low, whole)) (omega (arith, high, whole)) in
      let at : 64 * (k / 64) + k % 64 ≡ k = omega arith in
      ap (is_marked words) (sym at) ∙ are (k / 64) (k % 64) word (omega arith);
}

-- what was in the set stays
pub stays_marked : (old new : List ℕ) (n : ℕ) → MarksToo old n new → (k : ℕ) → is_marked old k ≡ true → is_marked new k ≡ true
stays_marked old new n too k e = too k ∙ ap (λ b. (k == n) || b) e ∙ or_true (k == n)
  where
    or_true : (b : Bool) → (b || true) ≡ true
    or_true true = refl
    or_true false = refl

pub full_too : (old new full : List ℕ) (n : ℕ) → MarksToo old n new → AreFull old full → AreFull new full
full_too old new full n too are j i m h = stays_marked old new n too (64 * j + i) (are j i m h)

pub full_same : (words old new : List ℕ) → MarksAsWere old new → AreFull words old → AreFull words new
full_same words old new same are j i m h = are j i (sym (same j) ∙ m) h

-- one word more is full
pub full_more : (words old new : List ℕ) (n : ℕ) → MarksToo old n new → get_or words n 0 ≡ 2 ^ 64 - 1 → AreFull words old → AreFull words new
full_more words old new n too is are j i m h = by (j == n) refl
  where
    by : (b : Bool) → (j == n) ≡ b → is_marked words (64 * j + i) ≡ true
    by false e = are j i (sym (ap (λ b. b || is_marked old j) e) ∙ sym (too j) ∙ m) h
    by true e =
        let same : j ≡ n = grind (arith, nat_tests, e) in
        let word : (64 * j) / 64 ≡ n = omega (arith, same) in
        let run = full words (64 * j) (ap (λ k. get_or words k 0) word ∙ is) in
        run.marked (64 * j + i) (omega arith) (omega (arith, h))

pub none_full : (words full : List ℕ) → ((n : ℕ) → is_marked full n ≡ false) → AreFull words full
none_full words full none j i m h = absurd (true≢false (sym m ∙ none j))

pub full_put : (words old new : List ℕ) (n : ℕ) (b : Bool) → MatchBool b (MarksToo old n new) (MarksAsWere old new) → get_or words n 0 ≡ 2 ^ 64 - 1 → AreFull words old → AreFull words new
full_put words old new n true m is are = full_more words old new n m is are
full_put words old new n false m is are = full_same words old new m are
