-- What is cut from the front of a text is cut there too where more stands behind the text.
use Rattle.std.proofs.Common.{◌≡◌, ◌≢◌, ℕ, zero, suc, ◌+◌, ◌-◌, ◌<◌, ◌≤◌, Bool, true, false, ◌||◌, List, [], ◌∷◌, ◌++◌, length, slice_index, get_or, take, drop, refl, sym, ap, subst, ◌∙◌, inl, inr, arith, append_assoc}
use Rattle.std.proofs.lemmas.Bool.{cases_lt}
use Rattle.std.proofs.lemmas.List.{length-append, length-take-le, length-drop, get_or-take, get_or-drop, get_or_append_left, take-append-le, drop-append-le}
use Rattle.std.proofs.Math.Seq.{get_or-append_seam}
use Rattle.a68_base.specs.declared.refusal.Rule.TheVariants.{S1}
use Rattle.a68_denote.specs.Strings.{IsQuoted}
use Rattle.a68_input.proofs.Ahead.{SetApart, set_apart, Adjoins}
use Rattle.a68_input.proofs.Strings.{front_of, lone_quote, no_quote}
use Rattle.a68_lister.proofs.Signs.{no_layout}
use Rattle.a68_symbols.specs.declared.form.StretchForm.{StretchForm}
use Rattle.a68_symbols.specs.declared.form.StretchForm.TheVariants as forms
use Rattle.a68_symbols.specs.declared.form.Given.{Given}
use Rattle.a68_symbols.specs.declared.form.Given.TheVariants.{Nothing, Symbol, Broken}
use Rattle.a68_symbols.specs.Bytes.{is_layout, is_capital, is_small, is_digit, in_word, in_tag, ends_tag}
use Rattle.a68_symbols.specs.Forms.{Each, Is, IsRun, IsSharpComment, IsWholeWord, StandsAgain, IsWordComment, IsOpenString, Longest}
use Rattle.a68_symbols.specs.Gives.{gives, word_gives}
use Rattle.a68_symbols.specs.Marks.{is_mark}
use Rattle.a68_symbols.specs.Runs.{item_width}
use Rattle.a68_symbols.specs.Symbols.{Front, front_none, front_is}
use Rattle.a68_symbols.specs.Words.{is_opener}
use Rattle.a68_symbols.proofs.Again.{true≢false, capital_in_word, one_end}
use Rattle.a68_symbols.proofs.Items.{furthest}
use Rattle.a68_symbols.proofs.Starts.{start_of, longest_of, is_some}

-- no refusal
abbrev pub IsUnrefused : Given → Type 0
IsUnrefused Nothing = Unit {0}
IsUnrefused (Symbol kind) = Unit {0}
IsUnrefused (Broken rule) = ⊥

no_opener : (s : List ℕ) → IsUnrefused (word_gives s) → is_opener s ≡ false
no_opener s unrefused = by (is_opener s) refl
  where
    by : (a : Bool) → is_opener s ≡ a → is_opener s ≡ false
    by true p = absurd (let f : IsUnrefused (Broken S1) = rw p at unrefused in f)
    by false p = p

small_ends : (b : ℕ) → is_small b ≡ true → ends_tag b ≡ true
small_ends b e = rw e refl

digit_ends : (b : ℕ) → is_digit b ≡ true → ends_tag b ≡ true
digit_ends b e = by (is_small b)
  where
    by : (x : Bool) → (x || is_digit b) ≡ true
    by true = refl
    by false = e

-- the last byte of a string
last_quote : (text : List ℕ) (n : ℕ) → n ≤ length text → IsQuoted (take n text) → (2 ≤ n) × (slice_index text (n - 1) ≡ 34)
last_quote text n le q =
    let d = q.1 in
    let size : n ≡ length d.items + 2 = omega (arith, ap length d.spelled, length-append d.items (34 ∷ []), length-take-le n text le) in
    let at : n - 1 ≡ length (34 ∷ d.items) = omega (arith, size) in (
      omega (arith, size),
      sym (get_or-take n text (n - 1) 0 (omega (arith, size))) ∙ ap (λ (l : List ℕ). get_or l (n - 1) 0) d.spelled
          ∙ ap (λ (k : ℕ). get_or ((34 ∷ d.items) ++ 34 ∷ []) k 0) at ∙ get_or-append_seam (34 ∷ d.items) 34 [] 0,
    )

-- two whole words from the front of a text are one
one_width : (text : List ℕ) (a b : ℕ) → IsWholeWord text 0 a → IsWholeWord text 0 b → a ≡ b
one_width text a b x y =
    let down = one_end text 0 b a y.some y.within y.goes_on y.ends x.within x.goes_on in
    let up = one_end text 0 a b x.some x.within x.goes_on x.ends y.within y.goes_on in
    omega (arith, down, up)

module _ (t v : List ℕ) (some : 0 < length t) (a : SetApart t v) where
  longer : length t ≤ length (t ++ v)
  longer = omega (arith, length-append t v)

  -- tests of bytes of the text
  onto : (p : ℕ → Bool) (x : Bool) (k : ℕ) → k < length t → p (slice_index t k) ≡ x → p (slice_index (t ++ v) k) ≡ x
  onto p x k lt e = subst (λ (b : ℕ). p b ≡ x) (sym (get_or_append_left t v 0 k lt)) e

  back : (p : ℕ → Bool) (x : Bool) (k : ℕ) → k < length t → p (slice_index (t ++ v) k) ≡ x → p (slice_index t k) ≡ x
  back p x k lt e = subst (λ (b : ℕ). p b ≡ x) (get_or_append_left t v 0 k lt) e

  run_on : (first inner last : ℕ → Bool) (n : ℕ) → n ≤ length t → IsRun first inner last t n → IsRun first inner last (t ++ v) n
  run_on first inner last n le r = record {
    some = r.some;
    begins = onto first true 0 some r.begins;
    goes_on = λ k low lt. onto inner true k (omega (arith, lt, le)) (r.goes_on k low lt);
    ends = onto last true (n - 1) (omega (arith, le, r.some)) r.ends;
  }

  run_back : (first inner last : ℕ → Bool) (n : ℕ) → n ≤ length t → IsRun first inner last (t ++ v) n → IsRun first inner last t n
  run_back first inner last n le r = record {
    some = r.some;
    begins = back first true 0 some r.begins;
    goes_on = λ k low lt. back inner true k (omega (arith, lt, le)) (r.goes_on k low lt);
    ends = back last true (n - 1) (omega (arith, le, r.some)) r.ends;
  }

  -- the blank is in no word
  at_blank : in_word (slice_index (t ++ v) a.blank) ≡ false
  at_blank = rw a.is refl

  word_ends : (b c : ℕ) → b < length t → Each in_word (t ++ v) b c → c ≤ length t
  word_ends b c low each = elim (cases_lt a.blank c) [
    | inl lt ↦ absurd (true≢false (in_word (slice_index (t ++ v) a.blank)) (each a.blank (omega (arith, a.low, low)) lt) at_blank)
    | inr le ↦ omega (arith, le, a.high)
  ]

  whole_on : (b c : ℕ) → IsWholeWord t b c → IsWholeWord (t ++ v) b c
  whole_on b c w = record {
    some = w.some;
    within = omega (arith, w.within, longer);
    begins = onto is_capital true b (omega (arith, w.some, w.within)) w.begins;
    goes_on = λ k low lt. onto in_word true k (omega (arith, lt, w.within)) (w.goes_on k low lt);
    alone = elim w.alone [ inl e ↦ inl e | inr out ↦ inr (onto in_word false (b - 1) (omega (arith, w.some, w.within)) out) ];
    ends = elim (cases_lt c (length t)) [
      | inl lt ↦ elim w.ends [ inl all ↦ absurd (omega (arith, all, lt)) | inr out ↦ inr (onto in_word false c lt out) ]
      | inr le ↦ elim (cases_lt a.blank (length t)) [
        | inl lt ↦ absurd (true≢false (in_word (slice_index (t ++ v) a.blank))
            (onto in_word true a.blank lt (w.goes_on a.blank (omega (arith, a.low, w.some, w.within)) (omega (arith, lt, le)))) at_blank)
        | inr high ↦ let here : a.blank ≡ c = omega (arith, high, a.high, le, w.within) in inr (subst (λ (k : ℕ). in_word (slice_index (t ++ v) k) ≡ false) here at_blank)
      ]
    ];
  }

  whole_back : (b c : ℕ) → c ≤ length t → IsWholeWord (t ++ v) b c → IsWholeWord t b c
  whole_back b c le w = record {
    some = w.some;
    within = le;
    begins = back is_capital true b (omega (arith, w.some, le)) w.begins;
    goes_on = λ k low lt. back in_word true k (omega (arith, lt, le)) (w.goes_on k low lt);
    alone = elim w.alone [ inl e ↦ inl e | inr out ↦ inr (back in_word false (b - 1) (omega (arith, w.some, le)) out) ];
    ends = elim (cases_lt c (length t)) [
      | inl lt ↦ elim w.ends [ inl all ↦ absurd (omega (arith, all, lt, longer)) | inr out ↦ inr (back in_word false c lt out) ]
      | inr high ↦ inl (omega (arith, high, le))
    ];
  }

  -- stretches of the text
  stretch : (at width : ℕ) → at + width ≤ length t → take width (drop at (t ++ v)) ≡ take width (drop at t)
  stretch at width le =
      ap (λ (l : List ℕ). take width l) (drop-append-le at t v (omega (arith, le))) ∙ take-append-le width (drop at t) v (omega (arith, le, length-drop at t))

  again_on : (width at : ℕ) → at + width ≤ length t → StandsAgain t width at → StandsAgain (t ++ v) width at
  again_on width at le s = record { whole = whole_on at (at + width) s.whole; same = stretch at width le ∙ s.same ∙ sym (take-append-le width t v (omega (arith, le))) }

  again_back : (width at : ℕ) → at + width ≤ length t → StandsAgain (t ++ v) width at → StandsAgain t width at
  again_back width at le s = record { whole = whole_back at (at + width) le s.whole; same = sym (stretch at width le) ∙ s.same ∙ take-append-le width t v (omega (arith, le)) }

  -- ---- form by form

  layout_on : (n : ℕ) → Longest t forms.Layout n → Longest (t ++ v) forms.Layout n
  layout_on n l = longest_of forms.Layout (t ++ v) n (l.is.0, onto is_layout true 0 some l.is.1) (omega (arith, l.within, longer)) own
    where
      own : (g : StretchForm) → start_of g ≡ start_of forms.Layout → (m : ℕ) → m ≤ length (t ++ v) → Is g (t ++ v) m → m ≤ n
      own forms.Layout e m le i = omega (arith, i.0, l.is.0)
      own _ e m le i = cc

  sharp_is : (n : ℕ) → n ≤ length t → IsSharpComment t n → IsSharpComment (t ++ v) n
  sharp_is n le i = record {
    two = i.two;
    opens = get_or_append_left t v 0 0 some ∙ i.opens;
    inside = λ k low lt e. i.inside k low lt (sym (get_or_append_left t v 0 k (omega (arith, lt, le))) ∙ e);
    closes = get_or_append_left t v 0 (n - 1) (omega (arith, i.two, le)) ∙ i.closes;
  }

  sharp_on : (n : ℕ) → Longest t forms.SharpComment n → Longest (t ++ v) forms.SharpComment n
  sharp_on n l = longest_of forms.SharpComment (t ++ v) n i (omega (arith, l.within, longer)) own
    where
      i : IsSharpComment (t ++ v) n
      i = sharp_is n l.within l.is

      own : (g : StretchForm) → start_of g ≡ start_of forms.SharpComment → (m : ℕ) → m ≤ length (t ++ v) → Is g (t ++ v) m → m ≤ n
      own forms.SharpComment e m le j = elim (cases_lt n m) [
        | inl lt ↦ absurd (j.inside (n - 1) (omega (arith, i.two)) (omega (arith, i.two, lt)) i.closes)
        | inr le ↦ le
      ]
      own forms.OpenComment e m le j = elim (cases_lt n m) [
        | inl lt ↦ absurd (j.inside (n - 1) (omega (arith, i.two)) (omega (arith, i.two, lt)) i.closes)
        | inr le ↦ le
      ]
      own _ e m le j = cc

  run_within : (m : ℕ) → IsRun is_capital in_word in_word (t ++ v) m → m ≤ length t
  run_within m r = word_ends 0 m some each
    where
      each : Each in_word (t ++ v) 0 m
      each zero low lt = capital_in_word (slice_index (t ++ v) 0) r.begins
      each (suc k) low lt = r.goes_on (suc k) (omega arith) lt

  -- a word that is no opener opens no comment
  no_comment : (n m : ℕ) → Longest t forms.Word n → is_opener (take n t) ≡ false → IsWordComment (t ++ v) m → ⊥
  no_comment n m l closed j =
      let within : j.width ≤ length t = word_ends 0 j.width some j.opens.goes_on in
      let w = whole_back 0 j.width within j.opens in
      let word : IsRun is_capital in_word in_word t j.width = record {
        some = w.some;
        begins = w.begins;
        goes_on = λ k low lt. w.goes_on k (omega arith) lt;
        ends = w.goes_on (j.width - 1) (omega arith) (omega (arith, w.some));
      } in
      let up : j.width ≤ n = l.longest forms.Word j.width within word in
      let down : n ≤ j.width = elim (cases_lt j.width n) [
        | inl lt ↦ elim w.ends [
          | inl all ↦ absurd (omega (arith, all, lt, l.within))
          | inr out ↦ absurd (true≢false (in_word (slice_index t j.width)) (l.is.goes_on j.width (omega (arith, w.some)) lt) out)
        ]
        | inr le ↦ le
      ] in
      let same : j.width ≡ n = omega (arith, up, down) in
      let opener : is_opener (take n (t ++ v)) ≡ true = subst (λ (k : ℕ). is_opener (take k (t ++ v)) ≡ true) same j.opener in
      true≢false (is_opener (take n t)) (subst (λ (s : List ℕ). is_opener s ≡ true) (take-append-le n t v l.within) opener) closed

  word_on : (n : ℕ) → Longest t forms.Word n → is_opener (take n t) ≡ false → Longest (t ++ v) forms.Word n
  word_on n l closed = longest_of forms.Word (t ++ v) n (run_on is_capital in_word in_word n l.within l.is) (omega (arith, l.within, longer)) own
    where
      own : (g : StretchForm) → start_of g ≡ start_of forms.Word → (m : ℕ) → m ≤ length (t ++ v) → Is g (t ++ v) m → m ≤ n
      own forms.Word e m le j = let within = run_within m j in l.longest forms.Word m within (run_back is_capital in_word in_word m within j)
      own forms.WordComment e m le j = absurd (no_comment n m l closed j)
      own _ e m le j = cc

  comment_is : (n : ℕ) → n ≤ length t → IsWordComment t n → IsWordComment (t ++ v) n
  comment_is n le i = record {
    width = i.width;
    opens = whole_on 0 i.width i.opens;
    opener = subst (λ (s : List ℕ). is_opener s ≡ true) (sym (take-append-le i.width t v i.opens.within)) i.opener;
    at = i.at;
    behind = i.behind;
    closes = again_on i.width i.at (omega (arith, i.whole, le)) i.closes;
    first = λ b low lt s. i.first b low lt (again_back i.width b (omega (arith, i.whole, le, lt)) s);
    whole = i.whole;
  }

  comment_on : (n : ℕ) → Longest t forms.WordComment n → Longest (t ++ v) forms.WordComment n
  comment_on n l = longest_of forms.WordComment (t ++ v) n i (omega (arith, l.within, longer)) own
    where
      i : IsWordComment (t ++ v) n
      i = comment_is n l.within l.is

      own : (g : StretchForm) → start_of g ≡ start_of forms.WordComment → (m : ℕ) → m ≤ length (t ++ v) → Is g (t ++ v) m → m ≤ n
      own forms.Word e m le j = let within = run_within m j in l.longest forms.Word m within (run_back is_capital in_word in_word m within j)
      own forms.WordComment e m le j =
          let same : i.width ≡ j.width = one_width (t ++ v) i.width j.width i.opens j.opens in
          elim (cases_lt i.at j.at) [
            | inl lt ↦ absurd (j.first i.at (omega (arith, same, i.behind)) lt (subst (λ (k : ℕ). StandsAgain (t ++ v) k i.at) same i.closes))
            | inr low ↦ omega (arith, i.whole, j.whole, same, low)
          ]
      own _ e m le j = cc

  tag_on : (n : ℕ) → Longest t forms.Tag n → Longest (t ++ v) forms.Tag n
  tag_on n l = longest_of forms.Tag (t ++ v) n (run_on is_small in_tag ends_tag n l.within l.is) (omega (arith, l.within, longer)) own
    where
      own : (g : StretchForm) → start_of g ≡ start_of forms.Tag → (m : ℕ) → m ≤ length (t ++ v) → Is g (t ++ v) m → m ≤ n
      own forms.Tag e m le j =
          let within = a.tags m (small_ends (slice_index (t ++ v) 0) j.begins) j.goes_on j.ends in
          l.longest forms.Tag m within (run_back is_small in_tag ends_tag m within j)
      own _ e m le j = cc

  number_on : (n : ℕ) → Longest t forms.Number n → Longest (t ++ v) forms.Number n
  number_on n l = longest_of forms.Number (t ++ v) n (run_on is_digit in_tag ends_tag n l.within l.is) (omega (arith, l.within, longer)) own
    where
      own : (g : StretchForm) → start_of g ≡ start_of forms.Number → (m : ℕ) → m ≤ length (t ++ v) → Is g (t ++ v) m → m ≤ n
      own forms.Number e m le j =
          let within = a.tags m (digit_ends (slice_index (t ++ v) 0) j.begins) j.goes_on j.ends in
          l.longest forms.Number m within (run_back is_digit in_tag ends_tag m within j)
      own _ e m le j = cc

  -- a mark has no layout in it
  mark_within : (m : ℕ) → m ≤ length (t ++ v) → is_mark (take m (t ++ v)) ≡ true → m ≤ length t
  mark_within m le i = elim (cases_lt a.blank m) [
    | inl lt ↦
        let long : length (take m (t ++ v)) ≡ m = length-take-le m (t ++ v) le in
        let there : is_layout (slice_index (take m (t ++ v)) a.blank) ≡ true =
        subst (λ (x : ℕ). is_layout x ≡ true) (sym (get_or-take m (t ++ v) a.blank 0 lt ∙ a.is)) refl in
        absurd (true≢false (is_mark (take m (t ++ v))) i (no_layout (take m (t ++ v)) a.blank (omega (arith, long, lt)) there))
    | inr low ↦ omega (arith, low, a.high)
  ]

  mark_on : (n : ℕ) → Longest t forms.Mark n → Longest (t ++ v) forms.Mark n
  mark_on n l = longest_of forms.Mark (t ++ v) n (subst (λ (s : List ℕ). is_mark s ≡ true) (sym (take-append-le n t v l.within)) l.is) (omega (arith, l.within, longer)) own
    where
      own : (g : StretchForm) → start_of g ≡ start_of forms.Mark → (m : ℕ) → m ≤ length (t ++ v) → Is g (t ++ v) m → m ≤ n
      own forms.Mark e m le j =
          let within = mark_within m le j in l.longest forms.Mark m within (subst (λ (s : List ℕ). is_mark s ≡ true) (take-append-le m t v within) j)
      own _ e m le j = cc

  -- behind the closing quote no other stands
  module _ (n : ℕ) (l : Longest t forms.Quoted n) where
    quoted : IsQuoted (take n (t ++ v))
    quoted = subst (λ (s : List ℕ). IsQuoted s) (sym (take-append-le n t v l.within)) l.is

    not_behind : slice_index (t ++ v) n ≢ 34
    not_behind e = elim (cases_lt n (length t)) [
      | inl lt ↦ no_quote t n l lt (sym (get_or_append_left t v 0 n lt) ∙ e)
      | inr le ↦
          let q = last_quote t n l.within l.is in
          elim (cases_lt a.blank n) [
            | inl lt ↦
                let here : a.blank ≡ n - 1 = omega (arith, lt, le, a.low) in
                let blank : slice_index (t ++ v) (n - 1) ≡ 32 = ap (λ (k : ℕ). get_or (t ++ v) k 0) (sym here) ∙ a.is in
                let both : 34 ≡ 32 = sym (get_or_append_left t v 0 (n - 1) (omega (arith, q.0, l.within)) ∙ q.1) ∙ blank in
                omega (arith, both)
            | inr low ↦
                let here : a.blank ≡ n = omega (arith, low, le, a.high, l.within) in
                let both : 34 ≡ 32 = sym e ∙ ap (λ (k : ℕ). get_or (t ++ v) k 0) (sym here) ∙ a.is in
                omega (arith, both)
          ]
    ]

    no_item : item_width (34 ∷ drop n (t ++ v)) ≡ 0
    no_item =
        let at : n + 0 ≡ n = omega arith in
        lone_quote (drop n (t ++ v)) (λ more e. not_behind (sym (get_or-drop n (t ++ v) 0 0 ∙ ap (λ (k : ℕ). get_or (t ++ v) k 0) at) ∙ e))

    own_items : drop 1 (t ++ v) ≡ quoted.1.items ++ 34 ∷ drop n (t ++ v)
    own_items = front_of (t ++ v) (quoted.1.items ++ 34 ∷ []) 34 n quoted.1.spelled ∙ append_assoc quoted.1.items (34 ∷ []) (drop n (t ++ v))

    size : n ≡ length quoted.1.items + 2
    size = omega (arith, ap length quoted.1.spelled, length-append quoted.1.items (34 ∷ []), length-take-le n (t ++ v) (omega (arith, l.within, longer)))

    quoted_within : (m : ℕ) → m ≤ length (t ++ v) → IsQuoted (take m (t ++ v)) → m ≤ n
    quoted_within m le i =
        let width : m ≡ length i.1.items + 2 = omega (arith, ap length i.1.spelled, length-append i.1.items (34 ∷ []), length-take-le m (t ++ v) le) in
        let e = front_of (t ++ v) (i.1.items ++ 34 ∷ []) 34 m i.1.spelled ∙ append_assoc i.1.items (34 ∷ []) (drop m (t ++ v)) in
        elim (furthest quoted.1.stand_for i.1.stand_for (34 ∷ drop n (t ++ v)) (34 ∷ drop m (t ++ v)) (sym own_items ∙ e) no_item) [
          | inl lt ↦ omega (arith, lt, width, size)
          | inr same ↦ omega (arith, ap length same.0, width, size)
        ]

    string_within : (m : ℕ) → m ≤ length (t ++ v) → IsOpenString (t ++ v) m → m ≤ n
    string_within m le i =
        let width : m ≡ length i.items + 1 = omega (arith, ap length i.spelled, length-take-le m (t ++ v) le) in
        elim (furthest quoted.1.stand_for i.stand_for (34 ∷ drop n (t ++ v)) (drop m (t ++ v)) (sym own_items ∙ front_of (t ++ v) i.items 34 m i.spelled) no_item) [
          | inl lt ↦ omega (arith, lt, width, size)
          | inr same ↦ omega (arith, ap length same.0, width, size)
        ]

    quoted_on : Longest (t ++ v) forms.Quoted n
    quoted_on = longest_of forms.Quoted (t ++ v) n quoted (omega (arith, l.within, longer)) own
      where
        own : (g : StretchForm) → start_of g ≡ start_of forms.Quoted → (m : ℕ) → m ≤ length (t ++ v) → Is g (t ++ v) m → m ≤ n
        own forms.Quoted e m le i = quoted_within m le i
        own forms.OpenString e m le i = string_within m le i
        own _ e m le i = cc

  longest_on : (long : Bool) (f : StretchForm) (n : ℕ) → Longest t f n → IsUnrefused (gives long f (take n t)) → Longest (t ++ v) f n
  longest_on long forms.Layout n l unrefused = layout_on n l
  longest_on long forms.SharpComment n l unrefused = sharp_on n l
  longest_on long forms.WordComment n l unrefused = comment_on n l
  longest_on long forms.OpenComment n l unrefused = absurd unrefused
  longest_on long forms.Word n l unrefused = word_on n l (no_opener (take n t) unrefused)
  longest_on long forms.Tag n l unrefused = tag_on n l
  longest_on long forms.Number n l unrefused = number_on n l
  longest_on long forms.Quoted n l unrefused = quoted_on n l
  longest_on long forms.OpenString n l unrefused = absurd unrefused
  longest_on long forms.Mark n l unrefused = mark_on n l

-- what is cut from the front of a text is cut there too before what the text adjoins
pub front_on : {long : Bool} {t v : List ℕ} {g : Given} {n : ℕ} → Adjoins t v → IsUnrefused g → Front long t g n → Front long (t ++ v) g n
front_on adjoins unrefused (front_none some none) = absurd unrefused
front_on {long} {t} {v} adjoins unrefused (front_is {f = f} {n = n} l e) =
    let some : 0 < length t = omega (arith, l.within, is_some f t n l.is) in
    front_is (longest_on t v some (set_apart t v some adjoins) long f n l (subst IsUnrefused (sym e) unrefused)) (ap (gives long f) (take-append-le n t v l.within) ∙ e)

pub front_within : {long : Bool} {t : List ℕ} {g : Given} {n : ℕ} → IsUnrefused g → Front long t g n → n ≤ length t
front_within unrefused (front_none some none) = absurd unrefused
front_within unrefused (front_is l e) = l.within
