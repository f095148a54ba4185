-- A symbol cut from a text is cut again wherever its spelling stands before layout.
use Rattle.std.proofs.Common.{◌≡◌, ℕ, ◌+◌, ◌-◌, ◌<◌, ◌≤◌, Bool, true, false, List, [], ◌∷◌, ◌++◌, length, slice_index, take, drop, refl, sym, ap, subst, ◌∙◌, inl, inr, arith, append_assoc}
use Rattle.std.proofs.lemmas.Bool.{cases_lt}
use Rattle.std.proofs.lemmas.Bool.Decides.{nat_tests}
use Rattle.std.proofs.lemmas.List.{length-append, length-take-le, get_or-take, take-append-drop, get_or_append_left}
use Rattle.std.proofs.Math.Seq.{take-append_seam, get_or-append_seam}
use Rattle.a68_denote.specs.Strings.{IsQuoted}
use Rattle.a68_lister.proofs.Signs.{no_layout, by_layout}
use Rattle.a68_symbols.specs.declared.form.StretchForm.{StretchForm}
use Rattle.a68_symbols.specs.declared.form.StretchForm.TheVariants as forms
use Rattle.a68_symbols.specs.Bytes.{is_layout, is_capital, is_small, is_digit, in_word, in_tag, ends_tag}
use Rattle.a68_symbols.specs.Forms.{Each, Is, IsRun, IsWordComment, IsOpenString, Longest}
use Rattle.a68_symbols.specs.Words.{is_opener}
use Rattle.a68_symbols.proofs.Starts.{start_of, longest_of}
use Rattle.a68_symbols.specs.Marks.{is_mark}
use Rattle.a68_symbols.specs.Runs.{item_width}
use Rattle.a68_symbols.proofs.Again.{true≢false}
use Rattle.a68_symbols.proofs.Items.{furthest}

-- the text behind a spelling, and what its bytes are
seam : (s rest : List ℕ) (c : ℕ) → slice_index (s ++ c ∷ rest) (length s) ≡ c
seam s rest c = get_or-append_seam s c rest 0

left : (s rest : List ℕ) (k : ℕ) → k < length s → slice_index (s ++ rest) k ≡ slice_index s k
left s rest k lt = get_or_append_left s rest 0 k lt

-- a run of bytes, and a byte behind it that the run does not go on with
each_left : (p : ℕ → Bool) (s rest : List ℕ) (a b : ℕ) → b ≤ length s → Each p s a b → Each p (s ++ rest) a b
each_left p s rest a b le e k low lt = let high : k < length s = omega arith in subst (λ (x : ℕ). p x ≡ true) (sym (left s rest k high)) (e k low lt)

run_left : (first inner last : ℕ → Bool) (s rest : List ℕ) → IsRun first inner last s (length s) → IsRun first inner last (s ++ rest) (length s)
run_left first inner last s rest r =
    let high : length s - 1 < length s = omega (arith, r.some) in
    record {
      some = r.some;
      begins = subst (λ (x : ℕ). first x ≡ true) (sym (left s rest 0 r.some)) r.begins;
      goes_on = each_left inner s rest 1 (length s) (omega arith) r.goes_on;
      ends = subst (λ (x : ℕ). last x ≡ true) (sym (left s rest (length s - 1) high)) r.ends;
    }

-- layout is in no word
layout_no_word : (c : ℕ) → is_layout c ≡ true → in_word c ≡ false
layout_no_word c e = grind (arith, nat_tests)

module _ (s rest : List ℕ) (c : ℕ) (lay : is_layout c ≡ true) where
  text : List ℕ
  text = s ++ c ∷ rest

  behind : is_layout (slice_index (s ++ c ∷ rest) (length s)) ≡ true
  behind = subst (λ (x : ℕ). is_layout x ≡ true) (sym (seam s rest c)) lay

  within : length s ≤ length (s ++ c ∷ rest)
  within = omega (arith, length-append s (c ∷ rest))

  word_ends : in_word (slice_index (s ++ c ∷ rest) (length s)) ≡ false
  word_ends = layout_no_word (slice_index (s ++ c ∷ rest) (length s)) behind

  no_further : (m : ℕ) → 0 < length s → Each in_word (s ++ c ∷ rest) 1 m → m ≤ length s
  no_further m some e = elim (cases_lt (length s) m) [
    | inl lt ↦ absurd (true≢false (in_word (slice_index (s ++ c ∷ rest) (length s))) (e (length s) some lt) word_ends)
    | inr le ↦ le
  ]

  -- a word that is no opener opens no comment
  no_comment : (m : ℕ) → Each in_word s 1 (length s) → 0 < length s → is_opener s ≡ false → IsWordComment (s ++ c ∷ rest) m → ⊥
  no_comment m each some closed w =
      let up : w.width ≤ length s = no_further w.width some (λ k low lt. w.opens.goes_on k (omega arith) lt) in
      let down : length s ≤ w.width = elim (cases_lt w.width (length s)) [
        | inl lt ↦ elim w.opens.ends [
          | inl all ↦ absurd (omega (arith, all, length-append s (c ∷ rest), lt))
          | inr out ↦ absurd (true≢false (in_word (slice_index (s ++ c ∷ rest) w.width))
              (each_left in_word s (c ∷ rest) 1 (length s) (omega arith) each w.width (omega (arith, w.opens.some)) lt) out)
        ]
        | inr le ↦ le
      ] in
      let same : w.width ≡ length s = omega arith in
      let opener : is_opener (take (length s) (s ++ c ∷ rest)) ≡ true = subst (λ (k : ℕ). is_opener (take k (s ++ c ∷ rest)) ≡ true) same w.opener in
      true≢false (is_opener s) (subst (λ (x : List ℕ). is_opener x ≡ true) (take-append_seam s (c ∷ rest)) opener) closed

  pub word_longest : IsRun is_capital in_word in_word s (length s) → is_opener s ≡ false → Longest (s ++ c ∷ rest) forms.Word (length s)
  word_longest r closed = longest_of forms.Word (s ++ c ∷ rest) (length s) (run_left is_capital in_word in_word s (c ∷ rest) r) within own
    where
      own : (g : StretchForm) → start_of g ≡ start_of forms.Word → (m : ℕ) → m ≤ length (s ++ c ∷ rest) → Is g (s ++ c ∷ rest) m → m ≤ length s
      own forms.Word e m le i = no_further m r.some i.goes_on
      own forms.WordComment e m le i = absurd (no_comment m r.goes_on r.some closed i)
      own _ e m le i = cc

  -- a tag or a number goes on over layout, and so the first byte behind that counts
  abbrev pub Stops : Type 0
  Stops = (k : ℕ) → length s ≤ k → ends_tag (slice_index (s ++ c ∷ rest) k) ≡ true → (j : ℕ) × (length s ≤ j) × (j < k) × (in_tag (slice_index (s ++ c ∷ rest) j) ≡ false)

  tag_further : (m : ℕ) → 0 < length s → Stops → Each in_tag (s ++ c ∷ rest) 1 m → ends_tag (slice_index (s ++ c ∷ rest) (m - 1)) ≡ true → m ≤ length s
  tag_further m some stops e last = elim (cases_lt (length s) m) [
    | inl lt ↦ let high : length s ≤ m - 1 = omega arith in
        let found = stops (m - 1) high last in
        absurd (true≢false (in_tag (slice_index (s ++ c ∷ rest) found.0)) (e found.0 (omega (arith, found.1)) (omega (arith, found.2))) found.3)
    | inr le ↦ le
  ]

  pub tag_longest : IsRun is_small in_tag ends_tag s (length s) → Stops → Longest (s ++ c ∷ rest) forms.Tag (length s)
  tag_longest r stops = longest_of forms.Tag (s ++ c ∷ rest) (length s) (run_left is_small in_tag ends_tag s (c ∷ rest) r) within own
    where
      own : (g : StretchForm) → start_of g ≡ start_of forms.Tag → (m : ℕ) → m ≤ length (s ++ c ∷ rest) → Is g (s ++ c ∷ rest) m → m ≤ length s
      own forms.Tag e m le i = tag_further m r.some stops i.goes_on i.ends
      own _ e m le i = cc

  pub number_longest : IsRun is_digit in_tag ends_tag s (length s) → Stops → Longest (s ++ c ∷ rest) forms.Number (length s)
  number_longest r stops = longest_of forms.Number (s ++ c ∷ rest) (length s) (run_left is_digit in_tag ends_tag s (c ∷ rest) r) within own
    where
      own : (g : StretchForm) → start_of g ≡ start_of forms.Number → (m : ℕ) → m ≤ length (s ++ c ∷ rest) → Is g (s ++ c ∷ rest) m → m ≤ length s
      own forms.Number e m le i = tag_further m r.some stops i.goes_on i.ends
      own _ e m le i = cc

  -- a mark has no layout in it
  mark_further : (m : ℕ) → m ≤ length (s ++ c ∷ rest) → is_mark (take m (s ++ c ∷ rest)) ≡ true → m ≤ length s
  mark_further m le i = elim (cases_lt (length s) m) [
    | inl lt ↦
        let long : length (take m (s ++ c ∷ rest)) ≡ m = length-take-le m (s ++ c ∷ rest) le in
        let high : length s < length (take m (s ++ c ∷ rest)) = omega (arith, long) in
        let there : is_layout (slice_index (take m (s ++ c ∷ rest)) (length s)) ≡ true =
        subst (λ (x : ℕ). is_layout x ≡ true) (sym (get_or-take m (s ++ c ∷ rest) (length s) 0 lt)) behind in
        absurd (true≢false (is_mark (take m (s ++ c ∷ rest))) i (no_layout (take m (s ++ c ∷ rest)) (length s) high there))
    | inr le ↦ le
  ]

  pub mark_longest : is_mark s ≡ true → Longest (s ++ c ∷ rest) forms.Mark (length s)
  mark_longest r = longest_of forms.Mark (s ++ c ∷ rest) (length s) (subst (λ (x : List ℕ). is_mark x ≡ true) (sym (take-append_seam s (c ∷ rest))) r) within own
    where
      own : (g : StretchForm) → start_of g ≡ start_of forms.Mark → (m : ℕ) → m ≤ length (s ++ c ∷ rest) → Is g (s ++ c ∷ rest) m → m ≤ length s
      own forms.Mark e m le i = mark_further m le i
      own _ e m le i = cc

  -- a string ends at the first quote that is no item
  no_item : item_width (34 ∷ c ∷ rest) ≡ 0
  no_item = by_layout (λ (x : ℕ). item_width (34 ∷ x ∷ rest) ≡ 0) refl refl refl refl c lay

  front_of : (more : List ℕ) (m : ℕ) → take m (s ++ c ∷ rest) ≡ 34 ∷ more → drop 1 (s ++ c ∷ rest) ≡ more ++ drop m (s ++ c ∷ rest)
  front_of more m e = ap (λ (l : List ℕ). drop 1 l) (sym (take-append-drop m (s ++ c ∷ rest)) ∙ ap (λ (l : List ℕ). l ++ drop m (s ++ c ∷ rest)) e)

  module _ (q : IsQuoted s) where
    own_items : drop 1 (s ++ c ∷ rest) ≡ q.1.items ++ 34 ∷ c ∷ rest
    own_items = ap (λ (l : List ℕ). drop 1 (l ++ c ∷ rest)) q.1.spelled ∙ append_assoc q.1.items (34 ∷ []) (c ∷ rest)

    size : length s ≡ length q.1.items + 2
    size = omega (arith, ap length q.1.spelled, length-append q.1.items (34 ∷ []))

    quoted_further : (m : ℕ) → m ≤ length (s ++ c ∷ rest) → IsQuoted (take m (s ++ c ∷ rest)) → m ≤ length s
    quoted_further m le i =
        let width : m ≡ length i.1.items + 2 = omega (arith, ap length i.1.spelled, length-append i.1.items (34 ∷ []), length-take-le m (s ++ c ∷ rest) le) in
        let e = front_of (i.1.items ++ 34 ∷ []) m i.1.spelled ∙ append_assoc i.1.items (34 ∷ []) (drop m (s ++ c ∷ rest)) in
        elim (furthest q.1.stand_for i.1.stand_for (34 ∷ c ∷ rest) (34 ∷ drop m (s ++ c ∷ rest)) (sym own_items ∙ e) no_item) [
          | inl lt ↦ omega (arith, lt, width, size)
          | inr same ↦ omega (arith, ap length same.0, width, size)
        ]

    string_further : (m : ℕ) → m ≤ length (s ++ c ∷ rest) → IsOpenString (s ++ c ∷ rest) m → m ≤ length s
    string_further m le i =
        let width : m ≡ length i.items + 1 = omega (arith, ap length i.spelled, length-take-le m (s ++ c ∷ rest) le) in
        elim (furthest q.1.stand_for i.stand_for (34 ∷ c ∷ rest) (drop m (s ++ c ∷ rest)) (sym own_items ∙ front_of i.items m i.spelled) no_item) [
          | inl lt ↦ omega (arith, lt, width, size)
          | inr same ↦ omega (arith, ap length same.0, width, size)
        ]

    pub quoted_longest : Longest (s ++ c ∷ rest) forms.Quoted (length s)
    quoted_longest = longest_of forms.Quoted (s ++ c ∷ rest) (length s) (subst (λ (x : List ℕ). IsQuoted x) (sym (take-append_seam s (c ∷ rest))) q) within own
      where
        own : (g : StretchForm) → start_of g ≡ start_of forms.Quoted → (m : ℕ) → m ≤ length (s ++ c ∷ rest) → Is g (s ++ c ∷ rest) m → m ≤ length s
        own forms.Quoted e m le i = quoted_further m le i
        own forms.OpenString e m le i = string_further m le i
        own _ e m le i = cc
