-- A symbol stands alone: it is cut from its spelling and layout behind it, as it was cut from its text.
use Rattle.std.proofs.Common.{◌≡◌, ℕ, ◌<◌, ◌≤◌, ◌⊎◌, Bool, true, false, not, slice_index, List, ◌∷◌, ◌++◌, length, take, refl, sym, ap, subst, ◌∙◌, inl, inr}
use Rattle.std.specs.Option.{is_some}
use Rattle.std.proofs.Math.Seq.{take-append_seam}
use Rattle.a68_base.specs.declared.refusal.Rule.TheVariants.{S1, S3, S5}
use Rattle.a68_denote.specs.Numbers.{bits_in}
use Rattle.a68_denote.specs.Strings.{IsQuoted}
use Rattle.a68_lister.proofs.Alone as alone
use Rattle.a68_lister.proofs.Signs.{no_layout}
use Rattle.a68_lister.specs.Parting.{goes_on}
use Rattle.a68_lister.proofs.Spelling.{passes_of, without_none, small_tag, digit_tag, small_layout, digit_layout, spelled_run, spelled_word}
use Rattle.a68_symbols.specs.declared.form.StretchForm.{StretchForm}
use Rattle.a68_symbols.specs.declared.form.StretchForm.TheVariants as forms
use Rattle.a68_symbols.specs.declared.form.Given.{Given}
use Rattle.a68_symbols.specs.declared.form.Given.TheVariants.{Symbol, Broken}
use Rattle.a68_symbols.specs.declared.symbol.SymbolKind.{SymbolKind}
use Rattle.a68_symbols.specs.declared.symbol.SymbolKind.TheVariants.{Word, Tag, Number, BitsNumber, Quoted, Mark}
use Rattle.a68_symbols.specs.Bytes.{is_layout, is_capital, is_small, is_digit, in_word, in_tag, ends_tag, without_layout}
use Rattle.a68_symbols.specs.Forms.{Is, IsRun}
use Rattle.a68_symbols.specs.Gives.{gives, word_gives, is_number, number_gives}
use Rattle.a68_symbols.specs.Marks.{is_mark}
use Rattle.a68_symbols.specs.Names.{spelling_of}
use Rattle.a68_symbols.specs.Symbols.{Front, front_is}
use Rattle.a68_symbols.specs.Words.{is_opener, is_left_out, is_long}
use Rattle.a68_symbols.proofs.Again.{true≢false}

-- the bytes spell a symbol of the kind, with no layout but within a string, behind LONG or not
pub data Spells : Bool → SymbolKind → List ℕ → Type 0 where
  spells_word : {long : Bool} {s : List ℕ} → IsRun is_capital in_word in_word s (length s) → without_layout s ≡ s → word_gives s ≡ Symbol Word → Spells long Word s
  spells_tag : {long : Bool} {s : List ℕ} → IsRun is_small in_tag ends_tag s (length s) → without_layout s ≡ s → Spells long Tag s
  spells_number : {long : Bool} {s : List ℕ} → IsRun is_digit in_tag ends_tag s (length s) → without_layout s ≡ s → number_gives long s ≡ Symbol Number → Spells long Number s
  spells_bits : {long : Bool} {s : List ℕ} → IsRun is_digit in_tag ends_tag s (length s) → without_layout s ≡ s → number_gives long s ≡ Symbol BitsNumber → Spells long BitsNumber s
  spells_quoted : {long : Bool} {s : List ℕ} → IsQuoted s → Spells long Quoted s
  spells_mark : {long : Bool} {s : List ℕ} → is_mark s ≡ true → without_layout s ≡ s → Spells long Mark s

abbrev kind_of : Given → SymbolKind
kind_of (Symbol kind) = kind
kind_of _ = Mark

is_symbol : Given → Bool
is_symbol (Symbol kind) = true
is_symbol _ = false

mark_alone : (s : List ℕ) → is_mark s ≡ true → without_layout s ≡ s
mark_alone s e = without_none s (passes_of (λ b. not (is_layout b)) s (λ k lt. by k lt (is_layout (slice_index s k)) refl))
  where
    by : (k : ℕ) → k < length s → (v : Bool) → is_layout (slice_index s k) ≡ v → not (is_layout (slice_index s k)) ≡ true
    by k lt true v = absurd (true≢false (is_mark s) e (no_layout s k lt v))
    by k lt false v = rw v refl

-- which words give a symbol
word_kind : (s : List ℕ) (kind : SymbolKind) → word_gives s ≡ Symbol kind → (kind ≡ Word) × (word_gives s ≡ Symbol Word)
word_kind s kind e = by (is_opener s) (is_left_out s) refl refl
  where
    by : (a b : Bool) → is_opener s ≡ a → is_left_out s ≡ b → (kind ≡ Word) × (word_gives s ≡ Symbol Word)
    by true b p q = absurd (let f : Broken S1 ≡ Symbol kind = rw p at e in cc f)
    by false true p q = absurd (let f : Broken S3 ≡ Symbol kind = rw (p, q) at e in cc f)
    by false false p q = let f : Symbol Word ≡ Symbol kind = rw (p, q) at e in (sym (ap kind_of f), rw (p, q) refl)

number_kind : (long : Bool) (s : List ℕ) (kind : SymbolKind) → number_gives long s ≡ Symbol kind → ((kind ≡ Number) × (number_gives long s ≡ Symbol Number)) ⊎ ((kind ≡ BitsNumber) × (number_gives long s ≡ Symbol BitsNumber))
number_kind long s kind e = by (is_number long s) (is_some (bits_in s)) refl refl
  where
    by : (a b : Bool) → is_number long s ≡ a → is_some (bits_in s) ≡ b → ((kind ≡ Number) × (number_gives long s ≡ Symbol Number)) ⊎ ((kind ≡ BitsNumber) × (number_gives long s ≡ Symbol BitsNumber))
    by true b p q = let f : Symbol Number ≡ Symbol kind = rw p at e in inl (sym (ap kind_of f), rw p refl)
    by false true p q = let f : Symbol BitsNumber ≡ Symbol kind = rw (p, q) at e in inr (sym (ap kind_of f), rw (p, q) refl)
    by false false p q = absurd (let f : Broken S5 ≡ Symbol kind = rw (p, q) at e in cc f)

no_opener : (s : List ℕ) → word_gives s ≡ Symbol Word → is_opener s ≡ false
no_opener s e = by (is_opener s) refl
  where
    by : (a : Bool) → is_opener s ≡ a → is_opener s ≡ false
    by true p = absurd (let f : Broken S1 ≡ Symbol Word = rw p at e in cc f)
    by false p = p

spells_by : (long : Bool) (f : StretchForm) (text : List ℕ) (n : ℕ) (kind : SymbolKind) → n ≤ length text → Is f text n → gives long f (take n text) ≡ Symbol kind → Spells long kind (spelling_of kind (take n text))
spells_by long forms.Layout text n kind le i e = cc
spells_by long forms.SharpComment text n kind le i e = cc
spells_by long forms.WordComment text n kind le i e = cc
spells_by long forms.OpenComment text n kind le i e = cc
spells_by long forms.OpenString text n kind le i e = cc
spells_by long forms.Word text n kind le i e =
    let k = word_kind (take n text) kind e in
    let w = spelled_word text n le i in
    let whole : Spells long Word (take n text) = spells_word w.0 w.1 k.1 in
    let there : Spells long Word (without_layout (take n text)) = subst (λ (s : List ℕ). Spells long Word s) (sym w.1) whole in
    subst (λ (x : SymbolKind). Spells long x (spelling_of x (take n text))) (sym k.0) there
spells_by long forms.Tag text n kind le i e =
    let k : Tag ≡ kind = ap kind_of e in
    let w = spelled_run is_small small_tag small_layout text n le i in
    subst (λ (x : SymbolKind). Spells long x (spelling_of x (take n text))) k (spells_tag w.0 w.1)
spells_by long forms.Number text n kind le i e =
    let w = spelled_run is_digit digit_tag digit_layout text n le i in
    elim (number_kind long (without_layout (take n text)) kind e) [
      | inl k ↦ subst (λ (x : SymbolKind). Spells long x (spelling_of x (take n text))) (sym k.0) (spells_number w.0 w.1 k.1)
      | inr k ↦ subst (λ (x : SymbolKind). Spells long x (spelling_of x (take n text))) (sym k.0) (spells_bits w.0 w.1 k.1)
    ]
spells_by long forms.Quoted text n kind le i e =
    let k : Quoted ≡ kind = ap kind_of e in subst (λ (x : SymbolKind). Spells long x (spelling_of x (take n text))) k (spells_quoted i)
spells_by long forms.Mark text n kind le i e =
    let k : Mark ≡ kind = ap kind_of e in
    let same = mark_alone (take n text) i in
    let there : Spells long Mark (without_layout (take n text)) = subst (λ (s : List ℕ). Spells long Mark s) (sym same) (spells_mark i same) in
    subst (λ (x : SymbolKind). Spells long x (spelling_of x (take n text))) k there

-- what is cut from a text spells a symbol
pub spells : {long : Bool} {text : List ℕ} {n : ℕ} {kind : SymbolKind} → Front long text (Symbol kind) n → Spells long kind (spelling_of kind (take n text))
spells {long} {text} {n} {kind} (front_is {f = f} l e) = spells_by long f text n kind l.within l.is e

-- it is LONG where its spelling is
word_bare : (long : Bool) (f : StretchForm) (text : List ℕ) (n : ℕ) → n ≤ length text → Is f text n → gives long f (take n text) ≡ Symbol Word → without_layout (take n text) ≡ take n text
word_bare long forms.Layout text n le i e = cc
word_bare long forms.SharpComment text n le i e = cc
word_bare long forms.WordComment text n le i e = cc
word_bare long forms.OpenComment text n le i e = cc
word_bare long forms.OpenString text n le i e = cc
word_bare long forms.Word text n le i e = (spelled_word text n le i).1
word_bare long forms.Tag text n le i e = cc
word_bare long forms.Number text n le i e = elim (number_kind long (without_layout (take n text)) Word e) [ inl k ↦ (let f = k.0 in cc) | inr k ↦ (let f = k.0 in cc) ]
word_bare long forms.Quoted text n le i e = cc
word_bare long forms.Mark text n le i e = cc

pub long_spelled : (long : Bool) (text : List ℕ) (n : ℕ) (kind : SymbolKind) → Front long text (Symbol kind) n → is_long kind (take n text) ≡ is_long kind (spelling_of kind (take n text))
long_spelled long text n Word (front_is {f = f} l e) = ap (λ (s : List ℕ). is_long Word s) (sym (word_bare long f text n l.within l.is e))
long_spelled long text n Tag front = refl
long_spelled long text n Number front = refl
long_spelled long text n BitsNumber front = refl
long_spelled long text n Quoted front = refl
long_spelled long text n Mark front = refl

-- what spells a symbol is cut as this symbol, where layout stands behind it
pub cut_alone : {long : Bool} {kind : SymbolKind} {s : List ℕ} → Spells long kind s → (c : ℕ) (rest : List ℕ) → (lay : is_layout c ≡ true) → (goes_on kind ≡ true → alone.Stops s rest c lay)
    → Front long (s ++ c ∷ rest) (Symbol kind) (length s)
cut_alone {long} {s = s} (spells_word r w e) c rest lay stops = front_is (alone.word_longest s rest c lay r (no_opener s e)) (ap (gives long forms.Word) (take-append_seam s (c ∷ rest)) ∙ e)
cut_alone {long} {s = s} (spells_tag r w) c rest lay stops = front_is (alone.tag_longest s rest c lay r (stops refl)) refl
cut_alone {long} {s = s} (spells_number r w e) c rest lay stops = front_is (alone.number_longest s rest c lay r (stops refl)) (ap (gives long forms.Number) (take-append_seam s (c ∷ rest)) ∙ ap (number_gives long) w ∙ e)
cut_alone {long} {s = s} (spells_bits r w e) c rest lay stops = front_is (alone.number_longest s rest c lay r (stops refl)) (ap (gives long forms.Number) (take-append_seam s (c ∷ rest)) ∙ ap (number_gives long) w ∙ e)
cut_alone {long} {s = s} (spells_quoted q) c rest lay stops = front_is (alone.quoted_longest s rest c lay q) refl
cut_alone {long} {s = s} (spells_mark e w) c rest lay stops = front_is (alone.mark_longest s rest c lay e) refl
