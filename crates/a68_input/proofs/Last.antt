-- A text whose last bytes are a semicolon and a blank does not end with the word LONG.
use Rattle.std.proofs.Common.{◌≡◌, ℕ, ◌+◌, ◌-◌, ◌≤◌, Bool, true, false, nat_eq, List, [], length, slice_index, get_or, take, drop, codes, refl, sym, ap, ◌∙◌, inl, inr, arith}
use Rattle.std.specs.Option.{is_some}
use Rattle.std.proofs.lemmas.Bool.{cases_lt, false≢true}
use Rattle.std.proofs.lemmas.List.{length-drop, length-take-le, get_or-take}
use Rattle.std.proofs.lemmas.Slice.Eq.{bytes_eq-Decides}
use Rattle.a68_base.specs.declared.refusal.Rule.TheVariants.{S1, S3, S5}
use Rattle.a68_denote.specs.Numbers.{bits_in}
use Rattle.a68_input.proofs.Ahead.{EndsClause, Adjoins, closes, ends, adjoins_on, refuted}
use Rattle.a68_input.proofs.Onward.{front_within}
use Rattle.a68_symbols.specs.declared.form.StretchForm.{StretchForm}
use Rattle.a68_symbols.specs.declared.form.StretchForm.TheVariants as forms
use Rattle.a68_symbols.specs.declared.form.Given.TheVariants.{Nothing, Symbol, Broken}
use Rattle.a68_symbols.specs.declared.symbol.SymbolKind.{SymbolKind}
use Rattle.a68_symbols.specs.declared.symbol.SymbolKind.TheVariants.{Word, Tag, Number, BitsNumber, Quoted, Mark}
use Rattle.a68_symbols.specs.Bytes.{is_layout, in_word, without_layout}
use Rattle.a68_symbols.specs.Forms.{Is}
use Rattle.a68_symbols.specs.Gives.{gives, word_gives, is_number, number_gives}
use Rattle.a68_symbols.specs.Symbols.{Piece, Front, front_is, IsCut, cut_ended, cut_passed, cut_taken}
use Rattle.a68_symbols.specs.Words.{is_opener, is_left_out, is_long}

-- whether the last symbol is LONG
abbrev pub long_after : {long : Bool} {at before : ℕ} {text : List ℕ} {pieces : List Piece} → IsCut long at before text pieces → Bool
long_after {long} cut_ended = long
long_after (cut_passed f c) = long_after c
long_after (cut_taken f room c) = long_after c

-- a stretch whose last byte is neither a semicolon nor a blank ends in front of these two
not_last : (p : ℕ → Bool) (t : List ℕ) (n : ℕ) → p 59 ≡ false → p 32 ≡ false → EndsClause t → 2 ≤ length t → 1 ≤ n → n ≤ length t → p (slice_index t (n - 1)) ≡ true → n + 2 ≤ length t
not_last p t n semicolon blank e two one within last = elim (cases_lt (length t) (n + 2)) [
  | inl lt ↦ elim (cases_lt n (length t)) [
    | inl before ↦
        let at : n - 1 ≡ length t - 2 = omega (arith, lt, before) in
        absurd (refuted p (slice_index t (n - 1)) 59 last (ap (λ (k : ℕ). get_or t k 0) at ∙ e.1 two) semicolon)
    | inr behind ↦
        let at : n - 1 ≡ length t - 1 = omega (arith, behind, within) in
        absurd (refuted p (slice_index t (n - 1)) 32 last (ap (λ (k : ℕ). get_or t k 0) at ∙ e.0 (omega (arith, two))) blank)
  ]
  | inr le ↦ le
]

-- a word and a number give something
word_some : (s : List ℕ) → word_gives s ≡ Nothing → ⊥
word_some s e = by (is_opener s) (is_left_out s) refl refl
  where
    by : (a b : Bool) → is_opener s ≡ a → is_left_out s ≡ b → ⊥
    by true b p q = let f : Broken S1 ≡ Nothing = rw p at e in cc f
    by false true p q = let f : Broken S3 ≡ Nothing = rw (p, q) at e in cc f
    by false false p q = let f : Symbol Word ≡ Nothing = rw (p, q) at e in cc f

number_some : (long : Bool) (s : List ℕ) → number_gives long s ≡ Nothing → ⊥
number_some long s e = by (is_number long s) (is_some (bits_in s)) refl refl
  where
    by : (a b : Bool) → is_number long s ≡ a → is_some (bits_in s) ≡ b → ⊥
    by true b p q = let f : Symbol Number ≡ Nothing = rw p at e in cc f
    by false true p q = let f : Symbol BitsNumber ≡ Nothing = rw (p, q) at e in cc f
    by false false p q = let f : Broken S5 ≡ Nothing = rw (p, q) at e in cc f

-- so do layout before them, and comments
passed_by : (long : Bool) (f : StretchForm) (t : List ℕ) (n : ℕ) → n ≤ length t → Is f t n → gives long f (take n t) ≡ Nothing → EndsClause t → 2 ≤ length t → n + 2 ≤ length t
passed_by long forms.Layout t n le i g e two = elim (cases_lt (length t) (n + 2)) [
  | inl lt ↦
      let at : 0 ≡ length t - 2 = omega (arith, lt, i.0, two) in
      absurd (refuted is_layout (slice_index t 0) 59 i.1 (ap (λ (k : ℕ). get_or t k 0) at ∙ e.1 two) refl)
  | inr low ↦ low
]
passed_by long forms.SharpComment t n le i g e two = not_last (λ b. nat_eq b 35) t n refl refl e two (omega (arith, i.two)) le (rw i.closes refl)
passed_by long forms.WordComment t n le i g e two =
    let w = i.closes.whole in
    not_last in_word t n refl refl e two (omega (arith, i.whole, w.some)) le (w.goes_on (n - 1) (omega (arith, i.whole, w.some)) (omega (arith, i.whole, w.some)))
passed_by long forms.OpenComment t n le i g e two = cc
passed_by long forms.OpenString t n le i g e two = cc
passed_by long forms.Word t n le i g e two = absurd (word_some (take n t) g)
passed_by long forms.Tag t n le i g e two = cc
passed_by long forms.Number t n le i g e two = absurd (number_some long (without_layout (take n t)) g)
passed_by long forms.Quoted t n le i g e two = cc
passed_by long forms.Mark t n le i g e two = cc

passed_before : {long : Bool} {t : List ℕ} {n : ℕ} → Front long t Nothing n → EndsClause t → 2 ≤ length t → n + 2 ≤ length t
passed_before {long} {t} (front_is {f = f} {n = n} l given) e two = passed_by long f t n l.within l.is given e two

-- and LONG
long_before : (t : List ℕ) (n : ℕ) (kind : SymbolKind) → n ≤ length t → is_long kind (take n t) ≡ true → EndsClause t → n + 2 ≤ length t
long_before t n Word le is e =
    let word : take n t ≡ codes "LONG" = (bytes_eq-Decides (take n t) (codes "LONG")).0 is in
    let four : n ≡ 4 = omega (arith, ap length word, length-take-le n t le) in
    let last : slice_index t (n - 1) ≡ 71 = sym (get_or-take n t (n - 1) 0 (omega (arith, four))) ∙ ap (λ (l : List ℕ). get_or l (n - 1) 0) word ∙ ap (λ (k : ℕ). get_or (codes "LONG") (k - 1) 0) four in
    not_last in_word t n refl refl e (omega (arith, four, le)) (omega (arith, four)) le (rw last refl)
long_before t n Tag le is e = absurd (false≢true is)
long_before t n Number le is e = absurd (false≢true is)
long_before t n BitsNumber le is e = absurd (false≢true is)
long_before t n Quoted le is e = absurd (false≢true is)
long_before t n Mark le is e = absurd (false≢true is)

-- the text from a place on
ends_on : (t : List ℕ) (n : ℕ) → n ≤ length t → EndsClause t → EndsClause (drop n t)
ends_on t n le e = by (adjoins_on t [] n le (ends e))
  where
    by : Adjoins (drop n t) [] → EndsClause (drop n t)
    by (closes rest h) = cc
    by (ends h) = h

pub not_long : {long : Bool} {at before : ℕ} {t : List ℕ} {pieces : List Piece} → (c : IsCut long at before t pieces) → EndsClause t → (long ≡ true → 2 ≤ length t) → long_after c ≡ false
not_long {long = true} cut_ended e two = absurd (omega (arith, two refl))
not_long {long = false} cut_ended e two = refl
not_long {t = t} (cut_passed {n = n} f c) e two =
    let within : n ≤ length t = front_within tt f in
    not_long c (ends_on t n within e) (λ is. omega (arith, passed_before f e (two is), length-drop n t))
not_long {t = t} (cut_taken {n = n} {kind = kind} f room c) e two =
    let within : n ≤ length t = front_within tt f in
    not_long c (ends_on t n within e) (λ is. omega (arith, long_before t n kind within is e, length-drop n t))
