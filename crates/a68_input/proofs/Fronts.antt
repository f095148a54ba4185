-- Where a symbol is cut from the front of a text, by what stands behind it.
use Rattle.std.proofs.Common.{◌≡◌, ◌≢◌, ℕ, zero, suc, ◌+◌, ◌-◌, ◌<◌, ◌≤◌, Bool, true, false, not, ◌||◌, nat_eq, List, [], ◌∷◌, ◌++◌, length, slice_index, take, refl, sym, ap, subst, ◌∙◌, inl, inr, arith, append_assoc}
use Rattle.std.specs.List.{list_all}
use Rattle.std.proofs.lemmas.Bool.{and_parts, eqb-true}
use Rattle.std.proofs.lemmas.Bool.Decides.{nat_tests}
use Rattle.std.proofs.lemmas.List.{length-append, get_or_append_left, get_or-append-add, get_or-append_right}
use Rattle.std.proofs.Math.Seq.{take-append_seam, get_or-append_seam, drop-append_seam}
use Rattle.a68_denote.specs.Strings.{StandFor}
use Rattle.a68_input.proofs.Strings.{lone_quote}
use Rattle.a68_input.specs.Joining.{doubled, quoted}
use Rattle.a68_lister.proofs.Alone as alone
use Rattle.a68_lister.proofs.Recut.{StopsIn, stops_layout}
use Rattle.a68_lister.proofs.Spelling.{Passes, without_none}
use Rattle.a68_symbols.specs.declared.form.StretchForm.TheVariants as forms
use Rattle.a68_symbols.specs.declared.form.Given.TheVariants.{Nothing, Symbol}
use Rattle.a68_symbols.specs.declared.symbol.SymbolKind.TheVariants as kinds
use Rattle.a68_symbols.specs.Bytes.{is_layout, is_capital, is_small, is_digit, in_word, in_tag, ends_tag, without_layout}
use Rattle.a68_symbols.specs.Forms.{Each, IsWholeWord, Longest}
use Rattle.a68_symbols.specs.Gives.{gives, word_gives, number_gives}
use Rattle.a68_symbols.specs.Marks.{is_mark}
use Rattle.a68_symbols.specs.Runs.{item_width, AreItems, IsLongestTag}
use Rattle.a68_symbols.specs.Symbols.{Front, front_is}
use Rattle.a68_symbols.specs.Words.{is_opener}
use Rattle.a68_symbols.proofs.Again.{true≢false}
use Rattle.a68_symbols.proofs.Measures.{word_longest, no_opener, tag_longest, number_longest, layout_longest, mark_longest}
use Rattle.a68_symbols.proofs.Quotes.{quoted_longest}

pub front_blank : (t : List ℕ) → Front false (32 ∷ t) Nothing 1
front_blank t = front_is (layout_longest (32 ∷ t) (omega arith) refl) refl

-- ---- the bytes of a symbol

left : (s rest : List ℕ) (k : ℕ) → k < length s → slice_index (s ++ rest) k ≡ slice_index s k
left s rest k lt = get_or_append_left s rest 0 k lt

all_at : (p : ℕ → Bool) (s : List ℕ) → list_all p s ≡ true → (k : ℕ) → k < length s → p (slice_index s k) ≡ true
all_at p [] all k lt = absurd (omega (arith, lt))
all_at p (b ∷ s) all zero lt = (and_parts (p b) _ all).0
all_at p (b ∷ s) all (suc k) lt = all_at p s (and_parts (p b) _ all).1 k (omega (arith, lt))

each : (p q : ℕ → Bool) → ((b : ℕ) → p b ≡ true → q b ≡ true) → (s rest : List ℕ) → list_all p s ≡ true → (from : ℕ) → Each q (s ++ rest) from (length s)
each p q f s rest all from k low lt = subst (λ (b : ℕ). q b ≡ true) (sym (left s rest k lt)) (f (slice_index s k) (all_at p s all k lt))

same_byte : (b : ℕ) → in_word b ≡ true → in_word b ≡ true
same_byte b e = e

ends_in : (b : ℕ) → ends_tag b ≡ true → in_tag b ≡ true
ends_in b e = grind (arith, nat_tests)

ends_bare : (b : ℕ) → ends_tag b ≡ true → not (is_layout b) ≡ true
ends_bare b e = grind (arith, nat_tests)

within : (s rest : List ℕ) → length s ≤ length (s ++ rest)
within s rest = omega (arith, length-append s rest)

-- ---- words

pub word : (s : List ℕ) (c : ℕ) (rest : List ℕ) → 0 < length s → is_capital (slice_index s 0) ≡ true → list_all in_word s ≡ true → is_opener s ≡ false → word_gives s ≡ Symbol kinds.Word → in_word c ≡ false
    → Front false (s ++ c ∷ rest) (Symbol kinds.Word) (length s)
word s c rest some first all closed is out =
    let whole : IsWholeWord (s ++ c ∷ rest) 0 (length s) = record {
      some = some;
      within = within s (c ∷ rest);
      begins = subst (λ (b : ℕ). is_capital b ≡ true) (sym (left s (c ∷ rest) 0 some)) first;
      goes_on = each in_word in_word same_byte s (c ∷ rest) all 0;
      alone = inl refl;
      ends = inr (subst (λ (b : ℕ). in_word b ≡ false) (sym (get_or-append_seam s c rest 0)) out);
    } in
    let front : take (length s) (s ++ c ∷ rest) ≡ s = take-append_seam s (c ∷ rest) in
    let shut : is_opener (take (length s) (s ++ c ∷ rest)) ≡ false = subst (λ (l : List ℕ). is_opener l ≡ false) (sym front) closed in
    front_is (word_longest (s ++ c ∷ rest) (length s) whole (no_opener (s ++ c ∷ rest) (length s) whole shut)) (ap (gives false forms.Word) front ∙ is)

-- ---- tags and numbers

pub stops_here : (b : ℕ) (rest : List ℕ) → in_tag b ≡ false → StopsIn (b ∷ rest)
stops_here b rest out zero e = absurd (true≢false (in_tag b) (ends_in b e) out)
stops_here b rest out (suc k) e = (0, omega arith, out)

pub stops_next : (b : ℕ) (rest : List ℕ) → in_tag b ≡ false → StopsIn (32 ∷ b ∷ rest)
stops_next b rest out = stops_layout 32 (b ∷ rest) refl (stops_here b rest out)

longest_tag : (s rest : List ℕ) → 0 < length s → list_all ends_tag s ≡ true → StopsIn rest → IsLongestTag (s ++ rest) (length s)
longest_tag s rest some all stops = record {
  some = some;
  within = within s rest;
  goes_on = each ends_tag in_tag ends_in s rest all 1;
  ends = inr (subst (λ (b : ℕ). ends_tag b ≡ true) (sym (left s rest (length s - 1) (omega (arith, some)))) (all_at ends_tag s all (length s - 1) (omega (arith, some))));
  longest = λ m lt le on last.
      let low : length s ≤ m - 1 = omega (arith, lt) in
      let found = stops (m - 1 - length s) (subst (λ (b : ℕ). ends_tag b ≡ true) (get_or-append_right s rest (length s) (m - 1) 0 refl low) last) in
      let out : in_tag (slice_index (s ++ rest) (length s + found.0)) ≡ false = subst (λ (b : ℕ). in_tag b ≡ false) (sym (get_or-append-add s rest found.0 0)) found.2 in
      true≢false (in_tag (slice_index (s ++ rest) (length s + found.0))) (on (length s + found.0) (omega (arith, some)) (omega (arith, found.1, low))) out;
}

pub tag : (s rest : List ℕ) → 0 < length s → is_small (slice_index s 0) ≡ true → list_all ends_tag s ≡ true → StopsIn rest → Front false (s ++ rest) (Symbol kinds.Tag) (length s)
tag s rest some first all stops =
    front_is (tag_longest (s ++ rest) (length s) (subst (λ (b : ℕ). is_small b ≡ true) (sym (left s rest 0 some)) first) (longest_tag s rest some all stops)) refl

passes : (s : List ℕ) → list_all ends_tag s ≡ true → Passes (λ b. not (is_layout b)) s
passes [] all = tt
passes (b ∷ s) all = let parts = and_parts (ends_tag b) _ all in (ends_bare b parts.0, passes s parts.1)

pub number : (s rest : List ℕ) → 0 < length s → is_digit (slice_index s 0) ≡ true → list_all ends_tag s ≡ true → number_gives false s ≡ Symbol kinds.Number → StopsIn rest → Front false (s ++ rest) (Symbol kinds.Number) (length s)
number s rest some first all is stops =
    let bare : without_layout (take (length s) (s ++ rest)) ≡ s = ap without_layout (take-append_seam s rest) ∙ without_none s (passes s all) in
    front_is (number_longest (s ++ rest) (length s) (subst (λ (b : ℕ). is_digit b ≡ true) (sym (left s rest 0 some)) first) (longest_tag s rest some all stops)) (ap (number_gives false) bare ∙ is)

-- ---- marks

pub mark_blank : (s rest : List ℕ) → is_mark s ≡ true → Front false (s ++ 32 ∷ rest) (Symbol kinds.Mark) (length s)
mark_blank s rest is = front_is (alone.mark_longest s rest 32 refl is) refl

-- a byte that is a mark, and none with any bytes behind it
pub mark_alone : (a : ℕ) (rest : List ℕ) → is_mark (a ∷ []) ≡ true → ((more : List ℕ) → 0 < length more → is_mark (a ∷ more) ≡ false) → Front false (a ∷ rest) (Symbol kinds.Mark) 1
mark_alone a rest is none = front_is (mark_longest (a ∷ rest) 1 (omega arith) (record { within = omega arith; is = inr is; longest = λ m lt le e. longer m lt le e })) refl
  where
    longer : (m : ℕ) → 1 < m → m ≤ length (a ∷ rest) → is_mark (take m (a ∷ rest)) ≡ true → ⊥
    longer zero lt le e = omega (arith, lt)
    longer (suc zero) lt le e = omega (arith, lt)
    longer (suc (suc m)) lt le e = true≢false (is_mark (a ∷ take (suc m) rest)) e (none (take (suc m) rest) (some rest (omega (arith, le))))
      where
        some : (l : List ℕ) → suc m ≤ length l → 0 < length (take (suc m) l)
        some [] low = absurd (omega (arith, low))
        some (b ∷ l) low = omega arith

pub none_longer : (a : ℕ) → ((b : ℕ) → is_mark (a ∷ b ∷ []) ≡ false) → ((b c : ℕ) → is_mark (a ∷ b ∷ c ∷ []) ≡ false) → ((b c d : ℕ) → is_mark (a ∷ b ∷ c ∷ d ∷ []) ≡ false)
    → (more : List ℕ) → 0 < length more → is_mark (a ∷ more) ≡ false
none_longer a two three four [] some = absurd (omega (arith, some))
none_longer a two three four (b ∷ []) some = two b
none_longer a two three four (b ∷ c ∷ []) some = three b c
none_longer a two three four (b ∷ c ∷ d ∷ []) some = four b c d
none_longer a two three four (b ∷ c ∷ d ∷ e ∷ more) some = refl

-- a byte that is a mark, before a digit
pub mark_digit : (a b : ℕ) (rest : List ℕ) → is_mark (a ∷ []) ≡ true → is_mark (a ∷ b ∷ []) ≡ false → ((c : ℕ) → is_mark (a ∷ b ∷ c ∷ []) ≡ false) → ((c d : ℕ) → is_mark (a ∷ b ∷ c ∷ d ∷ []) ≡ false)
    → Front false (a ∷ b ∷ rest) (Symbol kinds.Mark) 1
mark_digit a b rest is two three four = front_is (mark_longest (a ∷ b ∷ rest) 1 (omega arith) (record { within = omega arith; is = inr is; longest = λ m lt le e. longer m lt e })) refl
  where
    none : (more : List ℕ) → is_mark (a ∷ b ∷ more) ≡ false
    none [] = two
    none (c ∷ []) = three c
    none (c ∷ d ∷ []) = four c d
    none (c ∷ d ∷ e ∷ more) = refl

    longer : (m : ℕ) → 1 < m → is_mark (take m (a ∷ b ∷ rest)) ≡ true → ⊥
    longer zero lt e = omega (arith, lt)
    longer (suc zero) lt e = omega (arith, lt)
    longer (suc (suc m)) lt e = true≢false (is_mark (a ∷ b ∷ take m rest)) e (none (take m rest))

-- ---- strings

pub string : (line : List ℕ) (c : ℕ) (rest : List ℕ) → StandFor (doubled line) line → c ≢ 34 → Front false (quoted line ++ c ∷ rest) (Symbol kinds.Quoted) (length (quoted line))
string line c rest stand other =
    let text : List ℕ = quoted line ++ c ∷ rest in
    let whole : quoted line ++ c ∷ rest ≡ 34 ∷ (doubled line ++ 34 ∷ c ∷ rest) = ap (λ (l : List ℕ). 34 ∷ l) (append_assoc (doubled line) (34 ∷ []) (c ∷ rest)) in
    let n : ℕ = suc (length (doubled line)) in
    let back : length (doubled line) ≡ suc (length (doubled line)) - 1 = omega arith in
    let here : AreItems (34 ∷ (doubled line ++ 34 ∷ c ∷ rest)) n = record {
      low = omega arith;
      within = omega (arith, length-append (doubled line) (34 ∷ c ∷ rest));
      bytes = line;
      stand_for = subst (λ (k : ℕ). StandFor (take k (doubled line ++ 34 ∷ c ∷ rest)) line) back (subst (λ (l : List ℕ). StandFor l line) (sym (take-append_seam (doubled line) (34 ∷ c ∷ rest))) stand);
      ends = subst (λ (l : List ℕ). item_width l ≡ 0) (sym (drop-append_seam (doubled line) (34 ∷ c ∷ rest))) (lone_quote (c ∷ rest) (λ some. other));
    } in
    let closes : slice_index (34 ∷ (doubled line ++ 34 ∷ c ∷ rest)) n ≡ 34 = get_or-append_seam (doubled line) 34 (c ∷ rest) 0 in
    let inside : n < length (34 ∷ (doubled line ++ 34 ∷ c ∷ rest)) = omega (arith, length-append (doubled line) (34 ∷ c ∷ rest)) in
    let longest = quoted_longest (34 ∷ (doubled line ++ 34 ∷ c ∷ rest)) n (omega arith) refl here inside closes in
    let size : n + 1 ≡ length (quoted line) = omega (arith, length-append (doubled line) (34 ∷ [])) in
    front_is (subst (λ (l : List ℕ). Longest l forms.Quoted (length (quoted line))) (sym whole) (subst (λ (k : ℕ). Longest (34 ∷ (doubled line ++ 34 ∷ c ∷ rest)) forms.Quoted k) size longest)) refl

-- ---- marks that stand by themselves

-- brackets and semicolons
abbrev pub is_alone : List ℕ → Bool
is_alone (a ∷ []) = nat_eq a 40 || (nat_eq a 41 || (nat_eq a 59 || (nat_eq a 91 || nat_eq a 93)))
is_alone _ = false

abbrev Marks : ℕ → Type 0
Marks a = (rest : List ℕ) → Front false (a ∷ rest) (Symbol kinds.Mark) 1

marks_if : (a b : ℕ) (others : Bool) → Marks b → (others ≡ true → Marks a) → nat_eq a b || others ≡ true → Marks a
marks_if a b others here there e = by (nat_eq a b) refl
  where
    by : (v : Bool) → nat_eq a b ≡ v → Marks a
    by true t = subst Marks (sym (eqb-true a b t)) here
    by false t = there (rw t at e)

marks_none : (a b : ℕ) → Marks b → nat_eq a b ≡ true → Marks a
marks_none a b here e = subst Marks (sym (eqb-true a b e)) here

pub alone_marks : (a : ℕ) → is_alone (a ∷ []) ≡ true → Marks a
alone_marks a e =
    marks_if a 40 _ (λ rest. mark_alone 40 rest refl (none_longer 40 (λ b. refl) (λ b c. refl) (λ b c d. refl)))
    (marks_if a 41 _ (λ rest. mark_alone 41 rest refl (none_longer 41 (λ b. refl) (λ b c. refl) (λ b c d. refl)))
    (marks_if a 59 _ (λ rest. mark_alone 59 rest refl (none_longer 59 (λ b. refl) (λ b c. refl) (λ b c d. refl)))
    (marks_if a 91 _ (λ rest. mark_alone 91 rest refl (none_longer 91 (λ b. refl) (λ b c. refl) (λ b c d. refl)))
    (marks_none a 93 (λ rest. mark_alone 93 rest refl (none_longer 93 (λ b. refl) (λ b c. refl) (λ b c d. refl))))))) e

-- marks with which a digit makes no longer one: a colon and the signs of numbers
abbrev pub is_before_digit : List ℕ → Bool
is_before_digit (a ∷ []) = nat_eq a 58 || (nat_eq a 43 || nat_eq a 45)
is_before_digit _ = false

colon_digit : (b : ℕ) (rest : List ℕ) → is_digit b ≡ true → Front false (58 ∷ b ∷ rest) (Symbol kinds.Mark) 1
colon_digit b rest e = mark_digit 58 b rest refl (grind (arith, nat_tests)) (λ c. grind (arith, nat_tests)) (λ c d. grind (arith, nat_tests))

plus_digit : (b : ℕ) (rest : List ℕ) → is_digit b ≡ true → Front false (43 ∷ b ∷ rest) (Symbol kinds.Mark) 1
plus_digit b rest e = mark_digit 43 b rest refl (grind (arith, nat_tests)) (λ c. grind (arith, nat_tests)) (λ c d. grind (arith, nat_tests))

minus_digit : (b : ℕ) (rest : List ℕ) → is_digit b ≡ true → Front false (45 ∷ b ∷ rest) (Symbol kinds.Mark) 1
minus_digit b rest e = mark_digit 45 b rest refl (grind (arith, nat_tests)) (λ c. grind (arith, nat_tests)) (λ c d. grind (arith, nat_tests))

pub marks_digit : (a : ℕ) → is_before_digit (a ∷ []) ≡ true → (b : ℕ) (rest : List ℕ) → is_digit b ≡ true → Front false (a ∷ b ∷ rest) (Symbol kinds.Mark) 1
marks_digit a e b rest digit = by (nat_eq a 58) (nat_eq a 43) refl refl
  where
    by : (v w : Bool) → nat_eq a 58 ≡ v → nat_eq a 43 ≡ w → Front false (a ∷ b ∷ rest) (Symbol kinds.Mark) 1
    by true w t u = subst (λ (x : ℕ). Front false (x ∷ b ∷ rest) (Symbol kinds.Mark) 1) (sym (eqb-true a 58 t)) (colon_digit b rest digit)
    by false true t u = subst (λ (x : ℕ). Front false (x ∷ b ∷ rest) (Symbol kinds.Mark) 1) (sym (eqb-true a 43 u)) (plus_digit b rest digit)
    by false false t u =
        let last : nat_eq a 45 ≡ true = rw (t, u) at e in
        subst (λ (x : ℕ). Front false (x ∷ b ∷ rest) (Symbol kinds.Mark) 1) (sym (eqb-true a 45 last)) (minus_digit b rest digit)
