-- What stands in front of a program has symbols, and is not long.
use Rattle.std.proofs.Common.{◌≡◌, ℕ, suc, rules, ◌+◌, ◌*◌, ◌<◌, ◌≤◌, ◌^◌, Bool, true, false, ◌&&◌, nat_eq, nat_lt, List, [], ◌∷◌, ◌++◌, length, slice_index, codes, if◌then◌else◌, refl, sym, ap, subst, ◌∙◌, arith, append_assoc}
use Rattle.std.specs.Fmt.{decimal}
use Rattle.std.specs.List.{list_all}
use Rattle.std.specs.Option.{is_some}
use Rattle.std.proofs.lemmas.Bool.{and_parts, eqb-true}
use Rattle.std.proofs.lemmas.Bool.Decides.{nat_tests}
use Rattle.std.proofs.lemmas.Fmt.{digits_decimal, digits_value-decimal, decimal_nonempty, length-decimal-le}
use Rattle.std.proofs.lemmas.List.{append-nil, length-append}
use Rattle.std.proofs.lemmas.Str.Parse.{IsNumeralModel, numerals_by_weight}
use Rattle.a68_denote.specs.Numbers.{int_in, digit_of, are_digits, value_of}
use Rattle.a68_denote.specs.Strings.{StandFor}
use Rattle.a68_input.proofs.Quoting.{stands_for}
use Rattle.a68_input.proofs.Tokens.{IsNumeral, Token, blank, word, tag, mark, numeral, string, text_of, count_of, all_fit, AllStand, all_stand, cut_tokens, text-append, count-append}
use Rattle.a68_input.specs.Joining.{doubled, quoted, is_number, number_piece, line_piece, line_pieces, head_piece, tail_piece, prelude}
use Rattle.a68_input.specs.Lines.{HasNoFeed, HaveNoFeed, KeepLimits, bytes_in}
use Rattle.a68_input.specs.Symbols.{PreludesHaveSymbols}
use Rattle.a68_symbols.specs.Bytes.{is_digit, ends_tag}
use Rattle.a68_symbols.specs.Symbols.{IsCut}

-- ---- numbers

digit_is : (b : ℕ) → nat_lt (digit_of b) 10 ≡ true → is_digit b ≡ true
digit_is b e = grind (arith, nat_tests)

digit_ends : (b : ℕ) → is_digit b ≡ true → ends_tag b ≡ true
digit_ends b e = grind (arith, nat_tests)

ends_all : (s : List ℕ) → are_digits 10 s ≡ true → list_all ends_tag s ≡ true
ends_all [] e = refl
ends_all (b ∷ s) e = let a = and_parts (nat_lt (digit_of b) 10) _ e in rw (digit_ends b (digit_is b a.0)) (ends_all s a.1)

first_digit : (s : List ℕ) → 0 < length s → are_digits 10 s ≡ true → is_digit (slice_index s 0) ≡ true
first_digit [] some e = absurd (omega (arith, some))
first_digit (b ∷ s) some e = let a = and_parts (nat_lt (digit_of b) 10) _ e in digit_is b a.0

some_less : (n : ℕ) → nat_lt 0 n ≡ true → 0 < n
some_less n e = grind (arith, nat_tests)

-- digits of an INT
numeral_of : (s : List ℕ) → is_some (int_in s) ≡ true → IsNumeral s
numeral_of s e = by ((nat_lt 0 (length s) && are_digits 10 s) && nat_lt (value_of 10 s) (2 ^ 63)) refl
  where
    by : (v : Bool) → nat_lt 0 (length s) && are_digits 10 s && nat_lt (value_of 10 s) (2 ^ 63) ≡ v → IsNumeral s
    by true t =
        let both = and_parts (nat_lt 0 (length s) && are_digits 10 s) _ t in
        let parts = and_parts (nat_lt 0 (length s)) _ both.0 in
        let some = some_less (length s) parts.0 in
        record { some = some; first = first_digit s some parts.1; all = ends_all s parts.1; gives = rw e refl }
    by false t = absurd (let f : false ≡ true = rw t at e in cc f)

own : IsNumeralModel (λ (s : List ℕ). are_digits 10 s ≡ true) (value_of 10)
own = numerals_by_weight _ (search rules) (value_of 10) (search rules)

less_test : (n m : ℕ) → n < m → nat_lt n m ≡ true
less_test n m lt = grind (arith, nat_tests)

pub count_numeral : (n : ℕ) → n < 2 ^ 63 → IsNumeral (decimal n)
count_numeral n low =
    let wide : n < 2 ^ 64 = omega (arith, low) in
    let some : nat_lt 0 (length (decimal n)) ≡ true = less_test 0 (length (decimal n)) (decimal_nonempty n wide) in
    let digits : are_digits 10 (decimal n) ≡ true = digits_decimal own n wide in
    let value : nat_lt (value_of 10 (decimal n)) (2 ^ 63) ≡ true = rw (digits_value-decimal own n wide) (less_test n (2 ^ 63) low) in
    numeral_of (decimal n) (rw (some, digits, value) refl)

one : IsNumeral (codes "1")
one = record { some = omega arith; first = refl; all = refl; gives = refl }

nought : IsNumeral (codes "0")
nought = record { some = omega arith; first = refl; all = refl; gives = refl }

-- ---- the tokens in front of the lines, of a line, and behind the lines

abbrev row : {digits : List ℕ} → IsNumeral digits → (mode name : List ℕ) → List Token → List Token
row count mode name more =
    mark (codes "[") ∷ numeral one ∷ mark (codes ":") ∷ numeral count ∷ mark (codes "]") ∷ blank ∷ word mode ∷ blank ∷ tag name ∷ mark (codes ";") ∷ blank ∷ more

abbrev head_tokens : {digits : List ℕ} → IsNumeral digits → List Token
head_tokens count =
    mark (codes "(") ∷ blank ∷ row count (codes "STRING") (codes "inlines") (row count (codes "INT") (codes "innumbers")
    (word (codes "INT") ∷ blank ∷ tag (codes "inpos") ∷ blank ∷ mark (codes ":=") ∷ blank ∷ numeral nought ∷ mark (codes ";") ∷ blank
    ∷ word (codes "SEMA") ∷ blank ∷ tag (codes "inone") ∷ blank ∷ mark (codes "=") ∷ blank ∷ word (codes "LEVEL") ∷ blank ∷ numeral one ∷ mark (codes ";") ∷ blank ∷ []))

abbrev procedure : (name mode row : List ℕ) → List Token → List Token
procedure name mode row more =
    word (codes "PROC") ∷ blank ∷ tag name ∷ blank ∷ mark (codes "=") ∷ blank ∷ word mode ∷ mark (codes ":") ∷ blank ∷ mark (codes "(")
    ∷ word (codes "DOWN") ∷ blank ∷ tag (codes "inone") ∷ mark (codes ";") ∷ blank
    ∷ tag (codes "inpos") ∷ blank ∷ mark (codes "+:=") ∷ blank ∷ numeral one ∷ mark (codes ";") ∷ blank
    ∷ word (codes "INT") ∷ blank ∷ tag (codes "p") ∷ blank ∷ mark (codes "=") ∷ blank ∷ tag (codes "inpos") ∷ mark (codes ";") ∷ blank
    ∷ word (codes "UP") ∷ blank ∷ tag (codes "inone") ∷ mark (codes ";") ∷ blank
    ∷ tag row ∷ mark (codes "[") ∷ tag (codes "p") ∷ mark (codes "]") ∷ mark (codes ")") ∷ mark (codes ";") ∷ blank ∷ more

abbrev tail_tokens : {digits : List ℕ} → IsNumeral digits → List Token
tail_tokens count =
    procedure (codes "readline") (codes "STRING") (codes "inlines") (procedure (codes "readint") (codes "INT") (codes "innumbers")
    (word (codes "PROC") ∷ blank ∷ tag (codes "inputleft") ∷ blank ∷ mark (codes "=") ∷ blank ∷ word (codes "INT") ∷ mark (codes ":") ∷ blank
    ∷ numeral count ∷ blank ∷ mark (codes "-") ∷ blank ∷ tag (codes "inpos") ∷ mark (codes ";") ∷ blank ∷ []))

abbrev place : {digits : List ℕ} → IsNumeral digits → (name : List ℕ) → List Token → List Token
place number name more = tag name ∷ mark (codes "[") ∷ numeral number ∷ mark (codes "]") ∷ blank ∷ mark (codes ":=") ∷ blank ∷ more

abbrev string_tokens : {digits line : List ℕ} → IsNumeral digits → StandFor (doubled line) line → List Token
string_tokens number is = place number (codes "inlines") (string is ∷ mark (codes ";") ∷ blank ∷ [])

abbrev number_tokens : {digits value : List ℕ} → IsNumeral digits → IsNumeral value → List Token
number_tokens number value = place number (codes "innumbers") (numeral value ∷ mark (codes ";") ∷ blank ∷ [])

abbrev signed_tokens : {digits value : List ℕ} → IsNumeral digits → (sign : List ℕ) → IsNumeral value → List Token
signed_tokens number sign value = place number (codes "innumbers") (mark sign ∷ numeral value ∷ mark (codes ";") ∷ blank ∷ [])

-- ---- tokens of a text, at most so many

record Read (text : List ℕ) (most : ℕ) : Type 0 where
  tokens : List Token
  stand : AllStand tokens
  text_is : text_of tokens ≡ text
  few : count_of tokens ≤ most

none_read : Read [] 0
none_read = record { tokens = []; stand = tt; text_is = refl; few = omega arith }

-- tokens that fit before any others
read_before : (front rest : List ℕ) (tokens : List Token) (most more : ℕ) → ((behind : List Token) → all_fit tokens behind ≡ true) → text_of tokens ≡ front → count_of tokens ≤ most → Read rest more → Read (front ++ rest) (most + more)
read_before front rest tokens most more fit is few r = record {
  tokens = tokens ++ r.tokens;
  stand = all_stand tokens r.tokens (fit r.tokens) r.stand;
  text_is = text-append tokens r.tokens ∙ ap (λ (l : List ℕ). l ++ text_of r.tokens) is ∙ ap (λ (l : List ℕ). front ++ l) r.text_is;
  few = omega (arith, count-append tokens r.tokens, few, r.few);
}

head_read : (count : ℕ) (rest : List ℕ) (more : ℕ) → IsNumeral (decimal count) → Read rest more → Read (head_piece count ++ rest) (28 + more)
head_read count rest more is r = read_before (head_piece count) rest (head_tokens is) 28 more (λ behind. refl) refl (omega arith) r

tail_read : (count : ℕ) → IsNumeral (decimal count) → Read (tail_piece count) 64
tail_read count is = record { tokens = tail_tokens is; stand = subst (λ (l : List Token). AllStand l) (append-nil (tail_tokens is)) (all_stand (tail_tokens is) [] refl tt); text_is = refl; few = omega arith }

more_room : (text : List ℕ) (most more : ℕ) → Read text most → Read text (more + most)
more_room text most more r = record { tokens = r.tokens; stand = r.stand; text_is = r.text_is; few = omega (arith, r.few) }

-- ---- a line

abbrev number_front : (n : ℕ) (value : List ℕ) → List ℕ
number_front n value = codes "innumbers[" ++ (decimal n ++ (codes "] := " ++ (value ++ codes "; ")))

plain_read : (n : ℕ) (value rest : List ℕ) (more : ℕ) → IsNumeral (decimal n) → IsNumeral value → Read rest more → Read (number_front n value ++ rest) (8 + more)
plain_read n value rest more is v r = read_before (number_front n value) rest (number_tokens is v) 8 more (λ behind. refl) refl (omega arith) r

plus_read : (n : ℕ) (value rest : List ℕ) (more : ℕ) → IsNumeral (decimal n) → IsNumeral value → Read rest more → Read (number_front n (43 ∷ value) ++ rest) (8 + more)
plus_read n value rest more is v r = read_before (number_front n (43 ∷ value)) rest (signed_tokens is (43 ∷ []) v) 8 more (λ behind. refl) refl (omega arith) r

minus_read : (n : ℕ) (value rest : List ℕ) (more : ℕ) → IsNumeral (decimal n) → IsNumeral value → Read rest more → Read (number_front n (45 ∷ value) ++ rest) (8 + more)
minus_read n value rest more is v r = read_before (number_front n (45 ∷ value)) rest (signed_tokens is (45 ∷ []) v) 8 more (λ behind. refl) refl (omega arith) r

value_read : (n : ℕ) (line rest : List ℕ) (more : ℕ) → IsNumeral (decimal n) → is_number line ≡ true → Read rest more → Read (number_front n line ++ rest) (8 + more)
value_read n [] rest more is e r = cc
value_read n (b ∷ bytes) rest more is e r = by (nat_eq b 43) (nat_eq b 45) refl refl
  where
    by : (v w : Bool) → nat_eq b 43 ≡ v → nat_eq b 45 ≡ w → Read (number_front n (b ∷ bytes) ++ rest) (8 + more)
    by true w t u =
        let value : IsNumeral bytes = numeral_of bytes (rw t at e) in
        subst (λ (x : ℕ). Read (number_front n (x ∷ bytes) ++ rest) (8 + more)) (sym (eqb-true b 43 t)) (plus_read n bytes rest more is value r)
    by false true t u =
        let value : IsNumeral bytes = numeral_of bytes (rw (t, u) at e) in
        subst (λ (x : ℕ). Read (number_front n (x ∷ bytes) ++ rest) (8 + more)) (sym (eqb-true b 45 u)) (minus_read n bytes rest more is value r)
    by false false t u = plain_read n (b ∷ bytes) rest more is (numeral_of (b ∷ bytes) (rw (t, u) at e)) r

number_read : (n : ℕ) (line rest : List ℕ) (more : ℕ) → IsNumeral (decimal n) → Read rest more → Read (number_piece n line ++ rest) (8 + more)
number_read n line rest more is r = by (is_number line) refl
  where
    by : (v : Bool) → is_number line ≡ v → Read (number_piece n line ++ rest) (8 + more)
    by true e = subst (λ (v : Bool). Read ((if v then number_front n line else []) ++ rest) (8 + more)) (sym e) (value_read n line rest more is e r)
    by false e = subst (λ (v : Bool). Read ((if v then number_front n line else []) ++ rest) (8 + more)) (sym e) (more_room rest more 8 r)

abbrev string_text : (n : ℕ) (line : List ℕ) → List ℕ
string_text n line = codes "inlines[" ++ (decimal n ++ (codes "] := " ++ (quoted line ++ codes "; ")))

split : (n : ℕ) (line rest : List ℕ) → string_text n line ++ (number_piece n line ++ rest) ≡ line_piece n line ++ rest
split n line rest =
    let number : List ℕ = number_piece n line in
    let whole : string_text n line ++ number ≡ line_piece n line =
    ap (λ (l : List ℕ). codes "inlines[" ++ l) (append_assoc (decimal n) (codes "] := " ++ (quoted line ++ codes "; ")) number
    ∙ ap (λ (l : List ℕ). decimal n ++ (codes "] := " ++ l)) (append_assoc (quoted line) (codes "; ") number)) in
    sym (append_assoc (string_text n line) number rest) ∙ ap (λ (l : List ℕ). l ++ rest) whole

line_read : (n : ℕ) (line rest : List ℕ) (more : ℕ) → IsNumeral (decimal n) → HasNoFeed line → Read rest more → Read (line_piece n line ++ rest) (15 + more)
line_read n line rest more is feed r =
    let number = number_read n line rest more is r in
    let all = read_before (string_text n line) (number_piece n line ++ rest) (string_tokens is (stands_for line feed)) 7 (8 + more) (λ behind. refl) refl (omega arith) number in
    let count : 7 + (8 + more) ≡ 15 + more = omega arith in
    subst (λ (k : ℕ). Read (line_piece n line ++ rest) k) count (subst (λ (l : List ℕ). Read l (7 + (8 + more))) (split n line rest) all)

lines_read : (from : ℕ) (lines : List (List ℕ)) (rest : List ℕ) (more : ℕ) → from + length lines < 2 ^ 63 → HaveNoFeed lines → Read rest more → Read (line_pieces from lines ++ rest) (15 * length lines + more)
lines_read from [] rest more low feeds r = let none : more ≡ 15 * 0 + more = omega arith in subst (λ (k : ℕ). Read rest k) none r
lines_read from (line ∷ lines) rest more low feeds r =
    let later = lines_read (suc from) lines rest more (omega (arith, low)) feeds.1 r in
    let here = line_read from line (line_pieces (suc from) lines ++ rest) (15 * length lines + more) (count_numeral from (omega (arith, low))) feeds.0 later in
    let number : 15 + (15 * length lines + more) ≡ 15 * suc (length lines) + more = omega arith in
    subst (λ (k : ℕ). Read (line_pieces from (line ∷ lines) ++ rest) k) number
    (subst (λ (l : List ℕ). Read l (15 + (15 * length lines + more))) (sym (append_assoc (line_piece from line) (line_pieces (suc from) lines) rest)) here)

prelude_read : (lines : List (List ℕ)) → length lines < 2 ^ 62 → HaveNoFeed lines → Read (prelude lines) (28 + (15 * length lines + 64))
prelude_read lines low feeds =
    let count = count_numeral (length lines) (omega (arith, low)) in
    head_read (length lines) (line_pieces 1 lines ++ tail_piece (length lines)) (15 * length lines + 64) count
    (lines_read 1 lines (tail_piece (length lines)) 64 (omega (arith, low)) feeds (tail_read (length lines) count))

-- ---- how long it is

doubled_long : (line : List ℕ) → length (doubled line) ≤ 2 * length line
doubled_long [] = omega arith
doubled_long (b ∷ line) = by (doubled_long line) (nat_eq b 34)
  where
    by : length (doubled line) ≤ 2 * length line → (v : Bool) → length (if v then 34 ∷ 34 ∷ doubled line else b ∷ doubled line) ≤ 2 * suc (length line)
    by more true = omega (arith, more)
    by more false = omega (arith, more)

number_long : (n : ℕ) (line : List ℕ) → length (decimal n) ≤ 4 → length (number_piece n line) ≤ 21 + length line
number_long n line four = by (is_number line) refl
  where
    by : (v : Bool) → is_number line ≡ v → length (number_piece n line) ≤ 21 + length line
    by true e = rw e (omega (arith, four, length-append (decimal n) (codes "] := " ++ (line ++ codes "; ")), length-append line (codes "; ")))
    by false e = rw e (omega arith)

line_long : (n : ℕ) (line : List ℕ) → length (decimal n) ≤ 4 → length (line_piece n line) ≤ 42 + 3 * length line
line_long n line four =
    omega (
      arith,
      four,
      number_long n line four,
      doubled_long line,
      length-append (decimal n) (codes "] := " ++ (quoted line ++ (codes "; " ++ number_piece n line))),
      length-append (quoted line) (codes "; " ++ number_piece n line),
      length-append (doubled line) (34 ∷ []),
    )

lines_long : (from : ℕ) (lines : List (List ℕ)) → from + length lines < 10 ^ 4 → length (line_pieces from lines) ≤ 42 * length lines + 3 * bytes_in lines
lines_long from [] low = omega arith
lines_long from (line ∷ lines) low =
    let four : length (decimal from) ≤ 4 = length-decimal-le 4 from (omega arith) (omega (arith, low)) (omega (arith, low)) in
    omega (arith, line_long from line four, lines_long (suc from) lines (omega (arith, low)), length-append (line_piece from line) (line_pieces (suc from) lines))

-- bounds on all that stands in front of a program
pub prelude_long : (lines : List (List ℕ)) → KeepLimits lines → length (prelude lines) ≤ 400000
prelude_long lines k =
    let n : ℕ = length lines in
    let most : length lines ≤ 4096 = k.few in
    let bytes : bytes_in lines ≤ 65536 = k.short in
    let four : length (decimal n) ≤ 4 = length-decimal-le 4 n (omega arith) (omega (arith, most)) (omega (arith, most)) in
    let first : length (codes "] INT innumbers; INT inpos := 0; SEMA inone = LEVEL 1; ") ≤ 60 = omega arith in
    let last : length (codes "PROC readline = STRING: (DOWN inone; inpos +:= 1; INT p = inpos; UP inone; inlines[p]); PROC readint = INT: (DOWN inone; inpos +:= 1; INT p = inpos; UP inone; innumbers[p]); PROC inputleft = INT: ") ≤ 250 = omega arith in
    omega (
      arith,
      most,
      bytes,
      four,
      first,
      last,
      lines_long 1 lines (omega (arith, most)),
      length-append (decimal n) (codes "] STRING inlines; [1:" ++ (decimal n ++ codes "] INT innumbers; INT inpos := 0; SEMA inone = LEVEL 1; ")),
      length-append (decimal n) (codes "] INT innumbers; INT inpos := 0; SEMA inone = LEVEL 1; "),
      length-append (head_piece n) (line_pieces 1 lines ++ tail_piece n),
      length-append (line_pieces 1 lines) (tail_piece n),
      length-append (codes "PROC readline = STRING: (DOWN inone; inpos +:= 1; INT p = inpos; UP inone; inlines[p]); PROC readint = INT: (DOWN inone; inpos +:= 1; INT p = inpos; UP inone; innumbers[p]); PROC inputleft = INT: ") (decimal n ++ codes " - inpos; "),
      length-append (decimal n) (codes " - inpos; "),
    )

fewer : (a b n : ℕ) → a ≡ b → b ≤ 28 + (15 * n + 64) → a ≤ 15 * n + 92
fewer a b n e low = omega (arith, e, low)

pub preludes_have_symbols : PreludesHaveSymbols
preludes_have_symbols lines k =
    let most : length lines ≤ 4096 = k.few in
    let r = prelude_read lines (omega (arith, most)) k.feeds in
    let cut = cut_tokens r.tokens 0 0 r.stand (omega (arith, r.few, most)) in
    record {
      front = cut.pieces;
      has = (omega (arith, prelude_long lines k), subst (λ (l : List ℕ). IsCut false 0 0 l cut.pieces) r.text_is cut.is);
      few = fewer (length cut.pieces) (count_of r.tokens) (length lines) cut.many r.few;
    }
