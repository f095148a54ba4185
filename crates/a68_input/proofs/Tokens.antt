-- A text that is put together from symbols and blanks is cut into them.
use Rattle.std.proofs.Common.{◌≡◌, ◌≢◌, ℕ, suc, ◌+◌, ◌<◌, ◌≤◌, Bool, true, false, not, ◌&&◌, ◌||◌, nat_eq, List, [], ◌∷◌, ◌++◌, length, slice_index, take, refl, sym, ap, subst, ◌∙◌, arith, append_assoc}
use Rattle.std.specs.List.{list_all}
use Rattle.std.proofs.lemmas.Bool.{and_parts}
use Rattle.std.proofs.Math.Seq.{drop-append_seam, take-append_seam}
use Rattle.a68_denote.specs.Strings.{StandFor}
use Rattle.a68_input.proofs.Fronts as fronts
use Rattle.a68_input.proofs.Fronts.{is_alone, is_before_digit}
use Rattle.a68_input.specs.Joining.{doubled, quoted}
use Rattle.a68_lister.proofs.Recut.{StopsIn}
use Rattle.a68_symbols.specs.declared.form.Given.TheVariants.{Symbol}
use Rattle.a68_symbols.specs.declared.symbol.SymbolKind.{SymbolKind}
use Rattle.a68_symbols.specs.declared.symbol.SymbolKind.TheVariants as kinds
use Rattle.a68_symbols.specs.Bytes.{is_capital, is_small, is_digit, in_word, in_tag, ends_tag}
use Rattle.a68_symbols.specs.Gives.{word_gives, number_gives}
use Rattle.a68_symbols.specs.Limits.{most_symbols}
use Rattle.a68_symbols.specs.Marks.{is_mark}
use Rattle.a68_symbols.specs.Symbols.{Piece, Front, IsCut, cut_ended, cut_passed, cut_taken}
use Rattle.a68_symbols.specs.Words.{is_opener, is_left_out, is_long}

-- digits that are an INT
pub record IsNumeral (digits : List ℕ) : Type 0 where
  pub some : 0 < length digits
  pub first : is_digit (slice_index digits 0) ≡ true
  pub all : list_all ends_tag digits ≡ true
  pub gives : number_gives false digits ≡ Symbol kinds.Number

-- a blank or a symbol
pub data Token : Type 0 where
  blank : Token
  word : List ℕ → Token
  tag : List ℕ → Token
  mark : List ℕ → Token
  numeral : {digits : List ℕ} → IsNumeral digits → Token
  string : {line : List ℕ} → StandFor (doubled line) line → Token

abbrev pub bytes_of : Token → List ℕ
bytes_of blank = 32 ∷ []
bytes_of (word s) = s
bytes_of (tag s) = s
bytes_of (mark s) = s
bytes_of (numeral {digits} is) = digits
bytes_of (string {line} is) = quoted line

abbrev pub text_of : List Token → List ℕ
text_of [] = []
text_of (t ∷ tokens) = bytes_of t ++ text_of tokens

-- ---- what stands behind a symbol, so that it ends there

abbrev is_out : (ℕ → Bool) → List ℕ → Bool
is_out p [] = false
is_out p (b ∷ s) = not (p b)

abbrev parts_word : List Token → Bool
parts_word (blank ∷ tokens) = true
parts_word (mark s ∷ tokens) = is_out in_word s
parts_word _ = false

abbrev parts_tag : List Token → Bool
parts_tag (mark s ∷ tokens) = is_out in_tag s
parts_tag (blank ∷ mark s ∷ tokens) = is_out in_tag s
parts_tag _ = false

abbrev parts_mark : List ℕ → List Token → Bool
parts_mark s (blank ∷ tokens) = is_mark s
parts_mark s (numeral is ∷ tokens) = is_alone s || is_before_digit s
parts_mark s _ = is_alone s

abbrev parts_string : List Token → Bool
parts_string (mark s ∷ tokens) = is_out (λ b. nat_eq b 34) s
parts_string _ = false

abbrev is_word : List ℕ → Bool
is_word s = is_capital (slice_index s 0) && (list_all in_word s && (not (is_opener s) && (not (is_left_out s) && not (is_long kinds.Word s))))

abbrev is_tag : List ℕ → Bool
is_tag s = is_small (slice_index s 0) && list_all ends_tag s

-- a symbol is one before these tokens
abbrev fits : Token → List Token → Bool
fits blank behind = true
fits (word s) behind = is_word s && parts_word behind
fits (tag s) behind = is_tag s && parts_tag behind
fits (mark s) behind = parts_mark s behind
fits (numeral is) behind = parts_tag behind
fits (string is) behind = parts_string behind

abbrev pub all_fit : List Token → List Token → Bool
all_fit [] behind = true
all_fit (t ∷ tokens) behind = fits t (tokens ++ behind) && all_fit tokens behind

-- ---- it is cut there

abbrev kind_of : Token → SymbolKind
kind_of (word s) = kinds.Word
kind_of (tag s) = kinds.Tag
kind_of (numeral is) = kinds.Number
kind_of (string is) = kinds.Quoted
kind_of _ = kinds.Mark

abbrev pub Stands : Token → List ℕ → Type 0
Stands blank behind = Unit {0}
Stands (word s) behind = (is_long kinds.Word s ≡ false) × Front false (s ++ behind) (Symbol kinds.Word) (length s)
Stands t behind = Front false (bytes_of t ++ behind) (Symbol (kind_of t)) (length (bytes_of t))

abbrev pub AllStand : List Token → Type 0
AllStand [] = Unit {0}
AllStand (t ∷ tokens) = Stands t (text_of tokens) × AllStand tokens

out_first : (p : ℕ → Bool) (s : List ℕ) → is_out p s ≡ true → (b : ℕ) × (rest : List ℕ) × (s ≡ b ∷ rest) × (p b ≡ false)
out_first p [] e = cc
out_first p (b ∷ rest) e = (b, rest, refl, by (p b) refl)
  where
    by : (v : Bool) → p b ≡ v → p b ≡ false
    by true t = absurd (let f : false ≡ true = rw t at e in cc f)
    by false t = t

shut : (v : Bool) → not v ≡ true → v ≡ false
shut true e = cc
shut false e = refl

word_is : (s : List ℕ) → is_word s ≡ true → (is_capital (slice_index s 0) ≡ true) × (list_all in_word s ≡ true) × (is_opener s ≡ false) × (is_left_out s ≡ false) × (is_long kinds.Word s ≡ false)
word_is s e =
    let a = and_parts (is_capital (slice_index s 0)) _ e in
    let b = and_parts (list_all in_word s) _ a.1 in
    let c = and_parts (not (is_opener s)) _ b.1 in
    let d = and_parts (not (is_left_out s)) _ c.1 in
    (a.0, b.0, shut (is_opener s) c.0, shut (is_left_out s) d.0, shut (is_long kinds.Word s) d.1)

some_of : (p : ℕ → Bool) (s : List ℕ) → p 0 ≡ false → p (slice_index s 0) ≡ true → 0 < length s
some_of p [] none e = absurd (let f : false ≡ true = sym none ∙ e in cc f)
some_of p (b ∷ s) none e = omega arith

word_before : (s behind : List ℕ) (c : ℕ) (rest : List ℕ) → is_word s ≡ true → behind ≡ c ∷ rest → in_word c ≡ false → Front false (s ++ behind) (Symbol kinds.Word) (length s)
word_before s behind c rest e is out =
    let w = word_is s e in
    let given : word_gives s ≡ Symbol kinds.Word = rw (w.2, w.3) refl in
    subst (λ (l : List ℕ). Front false (s ++ l) (Symbol kinds.Word) (length s)) (sym is) (fronts.word s c rest (some_of is_capital s refl w.0) w.0 w.1 w.2 given out)

word_stands : (s : List ℕ) (tokens : List Token) → is_word s ≡ true → parts_word tokens ≡ true → Front false (s ++ text_of tokens) (Symbol kinds.Word) (length s)
word_stands s (blank ∷ tokens) e p = word_before s (32 ∷ text_of tokens) 32 (text_of tokens) e refl refl
word_stands s (mark m ∷ tokens) e p =
    let f = out_first in_word m p in word_before s (m ++ text_of tokens) f.0 (f.1 ++ text_of tokens) e (ap (λ (l : List ℕ). l ++ text_of tokens) f.2) f.3
word_stands s [] e p = cc
word_stands s (word x ∷ tokens) e p = cc
word_stands s (tag x ∷ tokens) e p = cc
word_stands s (numeral x ∷ tokens) e p = cc
word_stands s (string x ∷ tokens) e p = cc

stops_mark : (s rest : List ℕ) → is_out in_tag s ≡ true → StopsIn (s ++ rest)
stops_mark s rest e = let f = out_first in_tag s e in subst (λ (l : List ℕ). StopsIn (l ++ rest)) (sym f.2) (fronts.stops_here f.0 (f.1 ++ rest) f.3)

stops_blank : (s rest : List ℕ) → is_out in_tag s ≡ true → StopsIn (32 ∷ s ++ rest)
stops_blank s rest e = let f = out_first in_tag s e in subst (λ (l : List ℕ). StopsIn (32 ∷ l ++ rest)) (sym f.2) (fronts.stops_next f.0 (f.1 ++ rest) f.3)

stops : (tokens : List Token) → parts_tag tokens ≡ true → StopsIn (text_of tokens)
stops (mark s ∷ tokens) p = stops_mark s (text_of tokens) p
stops (blank ∷ mark s ∷ tokens) p = stops_blank s (text_of tokens) p
stops [] p = cc
stops (word x ∷ tokens) p = cc
stops (tag x ∷ tokens) p = cc
stops (numeral x ∷ tokens) p = cc
stops (string x ∷ tokens) p = cc
stops (blank ∷ []) p = cc
stops (blank ∷ blank ∷ tokens) p = cc
stops (blank ∷ word x ∷ tokens) p = cc
stops (blank ∷ tag x ∷ tokens) p = cc
stops (blank ∷ numeral x ∷ tokens) p = cc
stops (blank ∷ string x ∷ tokens) p = cc

tag_stands : (s : List ℕ) (tokens : List Token) → is_tag s ≡ true → parts_tag tokens ≡ true → Front false (s ++ text_of tokens) (Symbol kinds.Tag) (length s)
tag_stands s tokens e p = let a = and_parts (is_small (slice_index s 0)) _ e in fronts.tag s (text_of tokens) (some_of is_small s refl a.0) a.0 a.1 (stops tokens p)

alone_stands : (s rest : List ℕ) → is_alone s ≡ true → Front false (s ++ rest) (Symbol kinds.Mark) (length s)
alone_stands [] rest e = cc
alone_stands (a ∷ []) rest e = fronts.alone_marks a e rest
alone_stands (a ∷ b ∷ s) rest e = cc

before_digit : (s digits rest : List ℕ) → IsNumeral digits → is_before_digit s ≡ true → Front false (s ++ (digits ++ rest)) (Symbol kinds.Mark) (length s)
before_digit [] digits rest is e = cc
before_digit (a ∷ []) [] rest is e = absurd (let f : is_digit 0 ≡ true = is.first in cc f)
before_digit (a ∷ []) (b ∷ digits) rest is e = fronts.marks_digit a e b (digits ++ rest) is.first
before_digit (a ∷ b ∷ s) digits rest is e = cc

mark_stands : (s : List ℕ) (tokens : List Token) → parts_mark s tokens ≡ true → Front false (s ++ text_of tokens) (Symbol kinds.Mark) (length s)
mark_stands s (blank ∷ tokens) p = fronts.mark_blank s (text_of tokens) p
mark_stands s (numeral {digits} is ∷ tokens) p = by (is_alone s) refl
  where
    by : (v : Bool) → is_alone s ≡ v → Front false (s ++ (digits ++ text_of tokens)) (Symbol kinds.Mark) (length s)
    by true e = alone_stands s (digits ++ text_of tokens) e
    by false e = before_digit s digits (text_of tokens) is (rw e at p)
mark_stands s [] p = alone_stands s [] p
mark_stands s (word x ∷ tokens) p = alone_stands s (x ++ text_of tokens) p
mark_stands s (tag x ∷ tokens) p = alone_stands s (x ++ text_of tokens) p
mark_stands s (mark x ∷ tokens) p = alone_stands s (x ++ text_of tokens) p
mark_stands s (string {line} x ∷ tokens) p = alone_stands s (quoted line ++ text_of tokens) p

no_quote : (b : ℕ) → nat_eq b 34 ≡ false → b ≢ 34
no_quote b e is = absurd (let f : nat_eq 34 34 ≡ false = subst (λ (x : ℕ). nat_eq x 34 ≡ false) is e in cc f)

string_stands : (line : List ℕ) (tokens : List Token) → StandFor (doubled line) line → parts_string tokens ≡ true → Front false (quoted line ++ text_of tokens) (Symbol kinds.Quoted) (length (quoted line))
string_stands line (mark s ∷ tokens) is p =
    let f = out_first (λ b. nat_eq b 34) s p in
    subst (λ (l : List ℕ). Front false (quoted line ++ (l ++ text_of tokens)) (Symbol kinds.Quoted) (length (quoted line))) (sym f.2)
    (fronts.string line f.0 (f.1 ++ text_of tokens) is (no_quote f.0 f.3))
string_stands line [] is p = cc
string_stands line (blank ∷ tokens) is p = cc
string_stands line (word x ∷ tokens) is p = cc
string_stands line (tag x ∷ tokens) is p = cc
string_stands line (numeral x ∷ tokens) is p = cc
string_stands line (string x ∷ tokens) is p = cc

stands : (t : Token) (tokens : List Token) → fits t tokens ≡ true → Stands t (text_of tokens)
stands blank tokens e = tt
stands (word s) tokens e = let a = and_parts (is_word s) _ e in ((word_is s a.0).4, word_stands s tokens a.0 a.1)
stands (tag s) tokens e = let a = and_parts (is_tag s) _ e in tag_stands s tokens a.0 a.1
stands (mark s) tokens e = mark_stands s tokens e
stands (numeral {digits} is) tokens e = fronts.number digits (text_of tokens) is.some is.first is.all is.gives (stops tokens e)
stands (string {line} is) tokens e = string_stands line tokens is e

-- tokens that fit are cut, before others that are
pub all_stand : (tokens behind : List Token) → all_fit tokens behind ≡ true → AllStand behind → AllStand (tokens ++ behind)
all_stand [] behind e rest = rest
all_stand (t ∷ tokens) behind e rest =
    let a = and_parts (fits t (tokens ++ behind)) _ e in
    (stands t (tokens ++ behind) a.0, all_stand tokens behind a.1 rest)

-- ---- the text

abbrev pub count_of : List Token → ℕ
count_of [] = 0
count_of (blank ∷ tokens) = count_of tokens
count_of (t ∷ tokens) = suc (count_of tokens)

-- the symbols of a text, so many
pub record Cut (at before : ℕ) (text : List ℕ) (count : ℕ) : Type 0 where
  pub pieces : List Piece
  pub is : IsCut false at before text pieces
  pub many : length pieces ≡ count

taken : (kind : SymbolKind) (s text : List ℕ) (at before count : ℕ) → is_long kind s ≡ false → Front false (s ++ text) (Symbol kind) (length s) → before < most_symbols → Cut (at + length s) (before + 1) text count → Cut at before (s ++ text) (suc count)
taken kind s text at before count short front room rest =
    record {
      pieces = record { kind = kind; span = record { from = at; to = at + length s } } ∷ rest.pieces;
      is = cut_taken front room (subst (λ (l : List ℕ). IsCut (is_long kind (take (length s) (s ++ text))) (at + length s) (before + 1) l rest.pieces) (sym (drop-append_seam s text))
          (subst (λ (b : Bool). IsCut b (at + length s) (before + 1) text rest.pieces) (sym (ap (λ (l : List ℕ). is_long kind l) (take-append_seam s text) ∙ short)) rest.is));
      many = ap suc rest.many;
    }

pub cut_tokens : (tokens : List Token) (at before : ℕ) → AllStand tokens → before + count_of tokens ≤ most_symbols → Cut at before (text_of tokens) (count_of tokens)
cut_tokens [] at before all room = record { pieces = []; is = cut_ended; many = refl }
cut_tokens (blank ∷ tokens) at before all room =
    let rest = cut_tokens tokens (at + 1) before all.1 room in
    record { pieces = rest.pieces; is = cut_passed (fronts.front_blank (text_of tokens)) rest.is; many = rest.many }
cut_tokens (word s ∷ tokens) at before all room =
    taken kinds.Word s (text_of tokens) at before (count_of tokens) all.0.0 all.0.1 (omega (arith, room)) (cut_tokens tokens (at + length s) (before + 1) all.1 (omega (arith, room)))
cut_tokens (tag s ∷ tokens) at before all room =
    taken kinds.Tag s (text_of tokens) at before (count_of tokens) refl all.0 (omega (arith, room)) (cut_tokens tokens (at + length s) (before + 1) all.1 (omega (arith, room)))
cut_tokens (mark s ∷ tokens) at before all room =
    taken kinds.Mark s (text_of tokens) at before (count_of tokens) refl all.0 (omega (arith, room)) (cut_tokens tokens (at + length s) (before + 1) all.1 (omega (arith, room)))
cut_tokens (numeral {digits} is ∷ tokens) at before all room =
    taken kinds.Number digits (text_of tokens) at before (count_of tokens) refl all.0 (omega (arith, room)) (cut_tokens tokens (at + length digits) (before + 1) all.1 (omega (arith, room)))
cut_tokens (string {line} is ∷ tokens) at before all room =
    taken kinds.Quoted (quoted line) (text_of tokens) at before (count_of tokens) refl all.0 (omega (arith, room)) (cut_tokens tokens (at + length (quoted line)) (before + 1) all.1 (omega (arith, room)))

-- ---- lists of tokens one behind the other

pub text-append : (a b : List Token) → text_of (a ++ b) ≡ text_of a ++ text_of b
text-append [] b = refl
text-append (t ∷ a) b = ap (λ (l : List ℕ). bytes_of t ++ l) (text-append a b) ∙ sym (append_assoc (bytes_of t) (text_of a) (text_of b))

pub count-append : (a b : List Token) → count_of (a ++ b) ≡ count_of a + count_of b
count-append [] b = omega arith
count-append (blank ∷ a) b = count-append a b
count-append (word s ∷ a) b = let more = count-append a b in omega (arith, more)
count-append (tag s ∷ a) b = let more = count-append a b in omega (arith, more)
count-append (mark s ∷ a) b = let more = count-append a b in omega (arith, more)
count-append (numeral is ∷ a) b = let more = count-append a b in omega (arith, more)
count-append (string is ∷ a) b = let more = count-append a b in omega (arith, more)
