-- The table of operators and what they yield fit together.
use Rattle.std.proofs.Common.{◌≡◌, ℕ, zero, suc, ℤ, pos, negsuc, ◌+ℤ◌, ◌-ℤ◌, ◌*ℤ◌, ◌++◌, neg_ℤ, int_div, Bool, true, false, cond, nat_lt, List, [], ◌∷◌, None, Some, Ok, Err, Option, refl, sym, ◌∙◌, IsTrue, length}
use Rattle.std.proofs.lemmas.Bool.{false≢true}
use Rattle.a68_base.specs.Tables.{is_listed}
use Rattle.std.proofs.lemmas.List.Elements.{All-from_recursion}
use Rattle.std.specs.Int.{int_pow}
use Rattle.std.specs.List.{All, AllByRecursion as ByRecursion}
use Rattle.std.specs.Option.{option_map_or}
use Rattle.std.specs.Ordering.{int_eq}
use Rattle.a68_values.specs.Content.{Content, Contents, void, plain, row as row_value, no_parts, ◌and_part◌, contents_of}
use Rattle.a68_values.specs.declared.act.FaultKind.TheVariants as fault
use Rattle.a68_values.specs.declared.plain.Plain.TheVariants as value
use Rattle.a68_values.specs.declared.plain.Long.{Long}
use Rattle.a68_values.specs.Longs.{number_of, long_of}
use Rattle.a68_values.proofs.Longs.{number_of-long_of}
use Rattle.a68_ops.specs.Applied.{applied, as_int, plain_yield}
use Rattle.a68_ops.specs.Bits.{shifted, element}
use Rattle.a68_ops.specs.Fitting.{has_mode, is_silent, YieldIsOf, IsFitting}
use Rattle.a68_ops.specs.Integers.{abs_of, modulo, divided, raised, sign_of, char_of, bits_of}
use Rattle.a68_ops.specs.Operators.{dyadic_of}
use Rattle.a68_signs.specs.Signs.{op, SignGroup, candidates, entry_of, dyadic_entries, monadic_entries}
use Rattle.a68_ops.specs.Texts.{are_chars, codes_in, text_of, on_texts, text_times, repeated, times}
use Rattle.a68_ops.specs.Yields.{PlainYield, yield_of, is_unset, some_unset, is_int, is_long, int, long, text, text_row, char_values, most_parts}
use Rattle.a68_ops.specs.declared.operator.Dyadic.{Dyadic}
use Rattle.a68_ops.specs.declared.operator.Dyadic.TheVariants as dyadic

-- ---- a value by its mode

at_void : (P : Content → Type 0) → (P void) → (v : Content) → IsTrue (has_mode 0 v) → P v
at_void P f void h = f
at_void P f (row_value [] parts) h = absurd (false≢true h)
at_void P f (row_value (b ∷ []) parts) h = absurd (false≢true h)
at_void P f (row_value (b ∷ c ∷ more) parts) h = absurd (false≢true h)
at_void P f (plain (value.Int n)) h = absurd (false≢true h)
at_void P f (plain (value.Long l)) h = absurd (false≢true h)
at_void P f v h = absurd (false≢true h)

at_int : (P : Content → Type 0) → ((n : ℤ) → P (plain (value.Int n))) → (v : Content) → IsTrue (has_mode 1 v) → P v
at_int P f (plain (value.Int n)) h = f n
at_int P f (plain (value.Long l)) h = absurd (false≢true h)
at_int P f (row_value [] parts) h = absurd (false≢true h)
at_int P f (row_value (b ∷ []) parts) h = absurd (false≢true h)
at_int P f (row_value (b ∷ c ∷ more) parts) h = absurd (false≢true h)
at_int P f v h = absurd (false≢true h)

at_long : (P : Content → Type 0) → ((l : Long) → P (plain (value.Long l))) → (v : Content) → IsTrue (has_mode 13 v) → P v
at_long P f (plain (value.Long l)) h = f l
at_long P f (plain (value.Int n)) h = absurd (false≢true h)
at_long P f (row_value [] parts) h = absurd (false≢true h)
at_long P f (row_value (b ∷ []) parts) h = absurd (false≢true h)
at_long P f (row_value (b ∷ c ∷ more) parts) h = absurd (false≢true h)
at_long P f v h = absurd (false≢true h)

at_bool : (P : Content → Type 0) → ((b : Bool) → P (plain (value.Bool b))) → (v : Content) → IsTrue (has_mode 2 v) → P v
at_bool P f (plain (value.Bool b)) h = f b
at_bool P f (plain (value.Long l)) h = absurd (false≢true h)
at_bool P f (row_value [] parts) h = absurd (false≢true h)
at_bool P f (row_value (b ∷ []) parts) h = absurd (false≢true h)
at_bool P f (row_value (b ∷ c ∷ more) parts) h = absurd (false≢true h)
at_bool P f v h = absurd (false≢true h)

at_char : (P : Content → Type 0) → ((c : ℕ) → P (plain (value.Char c))) → (v : Content) → IsTrue (has_mode 3 v) → P v
at_char P f (plain (value.Char c)) h = f c
at_char P f (plain (value.Long l)) h = absurd (false≢true h)
at_char P f (row_value [] parts) h = absurd (false≢true h)
at_char P f (row_value (b ∷ []) parts) h = absurd (false≢true h)
at_char P f (row_value (b ∷ c ∷ more) parts) h = absurd (false≢true h)
at_char P f v h = absurd (false≢true h)

at_bits : (P : Content → Type 0) → ((b : ℕ) → P (plain (value.Bits b))) → (v : Content) → IsTrue (has_mode 4 v) → P v
at_bits P f (plain (value.Bits b)) h = f b
at_bits P f (plain (value.Long l)) h = absurd (false≢true h)
at_bits P f (row_value [] parts) h = absurd (false≢true h)
at_bits P f (row_value (b ∷ []) parts) h = absurd (false≢true h)
at_bits P f (row_value (b ∷ c ∷ more) parts) h = absurd (false≢true h)
at_bits P f v h = absurd (false≢true h)

set_chars : (parts : Contents) → are_chars parts ≡ true → some_unset parts ≡ false
set_chars no_parts h = refl
set_chars (plain (value.Char c) and_part parts) h = set_chars parts h
set_chars (part and_part parts) h = absurd (false≢true h)

-- a value that is a text
record IsText (v : Content) (items : List ℕ) : Type 0 where
  set : is_unset v ≡ false
  text : text_of v ≡ Some items
  number : as_int v ≡ None
  no_plain : (operator : Dyadic) (w : Content) → plain_yield operator v w ≡ None
  no_counted : (operator : Dyadic) (n : ℤ) → plain_yield operator (plain (value.Int n)) v ≡ None

no_pair : (c : ℕ) (operator : Dyadic) (w : Content) → plain_yield operator (plain (value.Char c)) w ≡ None
no_pair c operator (plain q) = refl
no_pair c operator w = refl

char_text : (c : ℕ) → IsText (plain (value.Char c)) (c ∷ [])
char_text c = record { set = refl; text = refl; number = refl; no_plain = no_pair c; no_counted = λ operator n. refl }

row_text : (b : ℤ × ℤ) (parts : Contents) → are_chars parts ≡ true → IsText (row_value (b ∷ []) parts) (codes_in parts)
row_text b parts h = record { set = set_chars parts h; text = rw h refl; number = refl; no_plain = λ operator w. refl; no_counted = λ operator n. refl }

of_char : (v : Content) → IsTrue (has_mode 3 v) → (items : List ℕ) × IsText v items
of_char v h = at_char (λ v. (items : List ℕ) × IsText v items) (λ c. (c ∷ [], char_text c)) v h

of_row : (v : Content) → IsTrue (has_mode 7 v) → (items : List ℕ) × IsText v items
of_row (row_value [] parts) h = absurd (false≢true h)
of_row (row_value (b ∷ []) parts) h = (codes_in parts, row_text b parts h)
of_row (row_value (b ∷ c ∷ more) parts) h = absurd (false≢true h)
of_row (plain (value.Int n)) h = absurd (false≢true h)
of_row (plain (value.Long l)) h = absurd (false≢true h)
of_row v h = absurd (false≢true h)

-- ---- what an operator with a text yields

between : (row : ℕ) (operator : Dyadic) → dyadic_of row ≡ Some operator → (v w : Content) (a b : List ℕ) → IsText v a → IsText w b
    → applied row v w ≡ on_texts operator a b
unfolding applied
between row operator e v w a b s t = rw (s.set, t.set, e, s.no_plain operator w, s.number, t.number, s.text, t.text) refl

text_first : (row : ℕ) (operator : Dyadic) → dyadic_of row ≡ Some operator → (v : Content) (a : List ℕ) (n : ℤ) → IsText v a
    → applied row v (plain (value.Int n)) ≡ text_times operator a n
unfolding applied
text_first row operator e v a n s = rw (s.set, e, s.no_plain operator (plain (value.Int n)), s.number, s.text) refl

int_first : (row : ℕ) (operator : Dyadic) → dyadic_of row ≡ Some operator → (w : Content) (b : List ℕ) (n : ℤ) → IsText w b
    → applied row (plain (value.Int n)) w ≡ text_times operator b n
unfolding applied
int_first row operator e w b n t = rw (t.set, e, t.no_counted operator n, t.text) refl

-- ---- yields and their modes

int_if : (z : ℤ) (fits : Bool) → is_int z ≡ fits → YieldIsOf 1 (yield_of (cond fits (Ok (value.Int z)) (Err fault.Overflow)))
int_if z true e = e
int_if z false e = tt

an_int : (z : ℤ) → YieldIsOf 1 (yield_of (int z))
an_int z = int_if z (is_int z) refl

long_if : (z : ℤ) (fits : Bool) → is_long z ≡ fits → YieldIsOf 13 (yield_of (cond fits (Ok (value.Long (long_of z))) (Err fault.Overflow)))
long_if z true e = rw (number_of-long_of z) e
long_if z false e = tt

a_long : (z : ℤ) → YieldIsOf 13 (yield_of (long z))
a_long z = long_if z (is_long z) refl

number_unless : (mode : ℕ) (yield : ℤ → PlainYield) → ((z : ℤ) → YieldIsOf mode (yield_of (yield z)))
    → (zero : Bool) (z : ℤ) → YieldIsOf mode (yield_of (cond zero (Err fault.Divisor) (yield z)))
number_unless mode yield each true z = tt
number_unless mode yield each false z = each z

a_quotient : (mode : ℕ) (yield : ℤ → PlainYield) → ((z : ℤ) → YieldIsOf mode (yield_of (yield z))) → (b z : ℤ) → YieldIsOf mode (yield_of (divided yield b z))
a_quotient mode yield each b z = number_unless mode yield each (int_eq b (pos 0)) z

a_power : (mode : ℕ) (yield : ℤ → PlainYield) → ((z : ℤ) → YieldIsOf mode (yield_of (yield z))) → (a b : ℤ) → YieldIsOf mode (yield_of (raised yield a b))
a_power mode yield each a (pos n) = each (int_pow a n)
a_power mode yield each a (negsuc n) = tt

moved_left : (b : ℕ) (n : ℤ) → YieldIsOf 4 (yield_of (shifted dyadic.ShiftLeft b n))
moved_left b (pos n) = refl
moved_left b (negsuc n) = refl

moved_right : (b : ℕ) (n : ℤ) → YieldIsOf 4 (yield_of (shifted dyadic.ShiftRight b n))
moved_right b (pos n) = refl
moved_right b (negsuc n) = refl

place_if : (within set : Bool) → YieldIsOf 2 (yield_of (cond within (Ok (value.Bool set)) (Err fault.Domain)))
place_if true set = refl
place_if false set = tt

a_place : (n : ℤ) (b : ℕ) → YieldIsOf 2 (yield_of (element n b))
a_place (pos zero) b = tt
a_place (pos (suc n)) b = place_if (nat_lt n 64) _
a_place (negsuc n) b = tt

char_if : (within : Bool) (n : ℕ) → YieldIsOf 3 (yield_of (cond within (Ok (value.Char n)) (Err fault.Domain)))
char_if true n = refl
char_if false n = tt

a_char : (n : ℤ) → YieldIsOf 3 (yield_of (char_of n))
a_char (pos n) = char_if (nat_lt n 256) n
a_char (negsuc n) = tt

some_bits : (n : ℤ) → YieldIsOf 4 (yield_of (bits_of n))
some_bits (pos n) = refl
some_bits (negsuc n) = tt

all_chars : (items : List ℕ) → are_chars (contents_of (char_values items)) ≡ true
all_chars [] = refl
all_chars (item ∷ items) = all_chars items

text_unless : (long : Bool) (items : List ℕ) → YieldIsOf 7 (cond long (Err fault.Cells) (Ok (text_row items)))
text_unless true items = tt
text_unless false items = all_chars items

a_text : (items : List ℕ) → YieldIsOf 7 (text items)
a_text items = text_unless (nat_lt most_parts (length items)) items

a_repeated : (items : List ℕ) (n : ℤ) → YieldIsOf 7 (repeated items n)
a_repeated items (pos n) = a_text (times n items)
a_repeated items (negsuc n) = a_text []

-- ---- operators by the modes that they take

two_ints : (row res : ℕ) → ((a : ℤ) (b : ℤ) → YieldIsOf res (applied row (plain (value.Int a)) (plain (value.Int b)))) → IsFitting (op row 1 1 res)
two_ints row res f s v w hv hw =
    at_int (λ v. YieldIsOf res (applied row v w)) (λ a. at_int (λ w. YieldIsOf res (applied row (plain (value.Int a)) w)) (f a) w hw) v hv

two_longs : (row res : ℕ) → ((a b : Long) → YieldIsOf res (applied row (plain (value.Long a)) (plain (value.Long b)))) → IsFitting (op row 13 13 res)
two_longs row res f s v w hv hw =
    at_long (λ v. YieldIsOf res (applied row v w)) (λ a. at_long (λ w. YieldIsOf res (applied row (plain (value.Long a)) w)) (f a) w hw) v hv

long_and_int : (row res : ℕ) → ((a : Long) (n : ℤ) → YieldIsOf res (applied row (plain (value.Long a)) (plain (value.Int n)))) → IsFitting (op row 13 1 res)
long_and_int row res f s v w hv hw =
    at_long (λ v. YieldIsOf res (applied row v w)) (λ a. at_int (λ w. YieldIsOf res (applied row (plain (value.Long a)) w)) (f a) w hw) v hv

an_operand_long : (row res : ℕ) → ((a : Long) → YieldIsOf res (applied row void (plain (value.Long a)))) → IsFitting (op row 0 13 res)
an_operand_long row res f s v w hv hw = at_void (λ v. YieldIsOf res (applied row v w)) (at_long (λ w. YieldIsOf res (applied row void w)) f w hw) v hv

two_truths : (row res : ℕ) → ((a : Bool) (b : Bool) → YieldIsOf res (applied row (plain (value.Bool a)) (plain (value.Bool b)))) → IsFitting (op row 2 2 res)
two_truths row res f s v w hv hw =
    at_bool (λ v. YieldIsOf res (applied row v w)) (λ a. at_bool (λ w. YieldIsOf res (applied row (plain (value.Bool a)) w)) (f a) w hw) v hv

two_bits : (row res : ℕ) → ((a : ℕ) (b : ℕ) → YieldIsOf res (applied row (plain (value.Bits a)) (plain (value.Bits b)))) → IsFitting (op row 4 4 res)
two_bits row res f s v w hv hw =
    at_bits (λ v. YieldIsOf res (applied row v w)) (λ a. at_bits (λ w. YieldIsOf res (applied row (plain (value.Bits a)) w)) (f a) w hw) v hv

bits_and_int : (row res : ℕ) → ((b : ℕ) (n : ℤ) → YieldIsOf res (applied row (plain (value.Bits b)) (plain (value.Int n)))) → IsFitting (op row 4 1 res)
bits_and_int row res f s v w hv hw =
    at_bits (λ v. YieldIsOf res (applied row v w)) (λ b. at_int (λ w. YieldIsOf res (applied row (plain (value.Bits b)) w)) (f b) w hw) v hv

int_and_bits : (row res : ℕ) → ((n : ℤ) (b : ℕ) → YieldIsOf res (applied row (plain (value.Int n)) (plain (value.Bits b)))) → IsFitting (op row 1 4 res)
int_and_bits row res f s v w hv hw =
    at_int (λ v. YieldIsOf res (applied row v w)) (λ n. at_bits (λ w. YieldIsOf res (applied row (plain (value.Int n)) w)) (f n) w hw) v hv

an_operand_int : (row res : ℕ) → ((a : ℤ) → YieldIsOf res (applied row void (plain (value.Int a)))) → IsFitting (op row 0 1 res)
an_operand_int row res f s v w hv hw = at_void (λ v. YieldIsOf res (applied row v w)) (at_int (λ w. YieldIsOf res (applied row void w)) f w hw) v hv

an_operand_truth : (row res : ℕ) → ((b : Bool) → YieldIsOf res (applied row void (plain (value.Bool b)))) → IsFitting (op row 0 2 res)
an_operand_truth row res f s v w hv hw = at_void (λ v. YieldIsOf res (applied row v w)) (at_bool (λ w. YieldIsOf res (applied row void w)) f w hw) v hv

an_operand_bits : (row res : ℕ) → ((b : ℕ) → YieldIsOf res (applied row void (plain (value.Bits b)))) → IsFitting (op row 0 4 res)
an_operand_bits row res f s v w hv hw = at_void (λ v. YieldIsOf res (applied row v w)) (at_bits (λ w. YieldIsOf res (applied row void w)) f w hw) v hv

an_operand_char : (row res : ℕ) → ((c : ℕ) → YieldIsOf res (applied row void (plain (value.Char c)))) → IsFitting (op row 0 3 res)
an_operand_char row res f s v w hv hw = at_void (λ v. YieldIsOf res (applied row v w)) (at_char (λ w. YieldIsOf res (applied row void w)) f w hw) v hv

two_texts : (row left right res : ℕ) (operator : Dyadic) → dyadic_of row ≡ Some operator
    → ((v : Content) → IsTrue (has_mode left v) → (items : List ℕ) × IsText v items)
    → ((w : Content) → IsTrue (has_mode right w) → (items : List ℕ) × IsText w items)
    → ((a b : List ℕ) → YieldIsOf res (on_texts operator a b)) → IsFitting (op row left right res)
two_texts row left right res operator e of_left of_right f s v w hv hw =
    let one = of_left v hv in
    let other = of_right w hw in
    rw (between row operator e v w one.0 other.0 one.1 other.1) (f one.0 other.0)

text_and_int : (row left res : ℕ) (operator : Dyadic) → dyadic_of row ≡ Some operator
    → ((v : Content) → IsTrue (has_mode left v) → (items : List ℕ) × IsText v items)
    → ((a : List ℕ) (n : ℤ) → YieldIsOf res (text_times operator a n)) → IsFitting (op row left 1 res)
text_and_int row left res operator e of_left f s v w hv hw =
    let one = of_left v hv in
    at_int (λ w. YieldIsOf res (applied row v w)) (λ n. rw (text_first row operator e v one.0 n one.1) (f one.0 n)) w hw

int_and_text : (row right res : ℕ) (operator : Dyadic) → dyadic_of row ≡ Some operator
    → ((w : Content) → IsTrue (has_mode right w) → (items : List ℕ) × IsText w items)
    → ((b : List ℕ) (n : ℤ) → YieldIsOf res (text_times operator b n)) → IsFitting (op row 1 right res)
int_and_text row right res operator e of_right f s v w hv hw =
    let other = of_right w hw in
    at_int (λ v. YieldIsOf res (applied row v w)) (λ n. rw (int_first row operator e w other.0 n other.1) (f other.0 n)) v hv

-- a row that does not yield at once
later : (row left right res : ℕ) → is_silent row ≡ false → IsFitting (op row left right res)
later row left right res e s v w hv hw = absurd (false≢true (sym e ∙ s))

-- ---- the table

-- the operators of each entry fit
abbrev EachFits : List SignGroup → Type 0
EachFits [] = Unit {0}
EachFits (entry ∷ more) = ByRecursion IsFitting entry.operators × EachFits more

fit_1 : ByRecursion IsFitting (op 1 9 1 9 ∷ op 1 10 7 10 ∷ op 1 10 3 10 ∷ op 1 14 13 14 ∷ [])
unfolding applied
fit_1 = (
  later 1 9 1 9 refl,
  (
    later 1 10 7 10 refl,
    (later 1 10 3 10 refl, (later 1 14 13 14 refl, tt)),
  ),
)

fit_2 : ByRecursion IsFitting (op 2 9 1 9 ∷ op 2 14 13 14 ∷ [])
unfolding applied
fit_2 =
    (later 2 9 1 9 refl, (later 2 14 13 14 refl, tt))

fit_3 : ByRecursion IsFitting (op 3 9 1 9 ∷ op 3 10 1 10 ∷ op 3 14 13 14 ∷ [])
unfolding applied
fit_3 = (
  later 3 9 1 9 refl,
  (later 3 10 1 10 refl, (later 3 14 13 14 refl, tt)),
)

fit_4 : ByRecursion IsFitting (op 4 9 1 9 ∷ op 4 14 13 14 ∷ [])
unfolding applied
fit_4 =
    (later 4 9 1 9 refl, (later 4 14 13 14 refl, tt))

fit_5 : ByRecursion IsFitting (op 5 9 1 9 ∷ op 5 14 13 14 ∷ [])
unfolding applied
fit_5 =
    (later 5 9 1 9 refl, (later 5 14 13 14 refl, tt))

fit_6 : ByRecursion IsFitting (op 6 7 10 10 ∷ op 6 3 10 10 ∷ [])
unfolding applied
fit_6 = (
  later 6 7 10 10 refl,
  (later 6 3 10 10 refl, tt),
)

fit_7 : ByRecursion IsFitting (op 7 2 2 2 ∷ op 7 4 4 4 ∷ [])
unfolding applied
fit_7 = (
  two_truths 7 2 (λ a b. refl),
  (two_bits 7 4 (λ a b. refl), tt),
)

fit_8 : ByRecursion IsFitting (op 8 2 2 2 ∷ op 8 4 4 4 ∷ [])
unfolding applied
fit_8 = (
  two_truths 8 2 (λ a b. refl),
  (two_bits 8 4 (λ a b. refl), tt),
)

fit_9 : ByRecursion IsFitting (op 9 1 1 2 ∷ op 9 2 2 2 ∷ op 9 3 3 2 ∷ op 9 4 4 2 ∷ op 9 7 7 2 ∷ op 9 7 3 2 ∷ op 9 3 7 2 ∷ op 9 13 13 2 ∷ [])
unfolding applied
fit_9 = (
  two_ints 9 2 (λ a b. refl),
  (
    two_truths 9 2 (λ a b. refl),
    (
      two_texts 9 3 3 2 dyadic.Equal refl of_char of_char (λ a b. refl),
      (
        two_bits 9 2 (λ a b. refl),
        (
          two_texts 9 7 7 2 dyadic.Equal refl of_row of_row (λ a b. refl),
          (
            two_texts 9 7 3 2 dyadic.Equal refl of_row of_char (λ a b. refl),
            (two_texts 9 3 7 2 dyadic.Equal refl of_char of_row (λ a b. refl), (two_longs 9 2 (λ a b. refl), tt)),
          ),
        ),
      ),
    ),
  ),
)

fit_10 : ByRecursion IsFitting (op 10 1 1 2 ∷ op 10 2 2 2 ∷ op 10 3 3 2 ∷ op 10 4 4 2 ∷ op 10 7 7 2 ∷ op 10 7 3 2 ∷ op 10 3 7 2 ∷ op 10 13 13 2 ∷ [])
unfolding applied
fit_10 = (
  two_ints 10 2 (λ a b. refl),
  (
    two_truths 10 2 (λ a b. refl),
    (
      two_texts 10 3 3 2 dyadic.NotEqual refl of_char of_char (λ a b. refl),
      (
        two_bits 10 2 (λ a b. refl),
        (
          two_texts 10 7 7 2 dyadic.NotEqual refl of_row of_row (λ a b. refl),
          (
            two_texts 10 7 3 2 dyadic.NotEqual refl of_row of_char (λ a b. refl),
            (two_texts 10 3 7 2 dyadic.NotEqual refl of_char of_row (λ a b. refl), (two_longs 10 2 (λ a b. refl), tt)),
          ),
        ),
      ),
    ),
  ),
)

fit_11 : ByRecursion IsFitting (op 11 1 1 2 ∷ op 11 7 7 2 ∷ op 11 7 3 2 ∷ op 11 3 7 2 ∷ op 11 3 3 2 ∷ op 11 13 13 2 ∷ [])
unfolding applied
fit_11 = (
  two_ints 11 2 (λ a b. refl),
  (
    two_texts 11 7 7 2 dyadic.Less refl of_row of_row (λ a b. refl),
    (
      two_texts 11 7 3 2 dyadic.Less refl of_row of_char (λ a b. refl),
      (
        two_texts 11 3 7 2 dyadic.Less refl of_char of_row (λ a b. refl),
        (two_texts 11 3 3 2 dyadic.Less refl of_char of_char (λ a b. refl), (two_longs 11 2 (λ a b. refl), tt)),
      ),
    ),
  ),
)

fit_12 : ByRecursion IsFitting (op 12 1 1 2 ∷ op 12 7 7 2 ∷ op 12 7 3 2 ∷ op 12 3 7 2 ∷ op 12 3 3 2 ∷ op 12 4 4 2 ∷ op 12 13 13 2 ∷ [])
unfolding applied
fit_12 = (
  two_ints 12 2 (λ a b. refl),
  (
    two_texts 12 7 7 2 dyadic.AtMost refl of_row of_row (λ a b. refl),
    (
      two_texts 12 7 3 2 dyadic.AtMost refl of_row of_char (λ a b. refl),
      (
        two_texts 12 3 7 2 dyadic.AtMost refl of_char of_row (λ a b. refl),
        (
          two_texts 12 3 3 2 dyadic.AtMost refl of_char of_char (λ a b. refl),
          (two_bits 12 2 (λ a b. refl), (two_longs 12 2 (λ a b. refl), tt)),
        ),
      ),
    ),
  ),
)

fit_13 : ByRecursion IsFitting (op 13 1 1 2 ∷ op 13 7 7 2 ∷ op 13 7 3 2 ∷ op 13 3 7 2 ∷ op 13 3 3 2 ∷ op 13 4 4 2 ∷ op 13 13 13 2 ∷ [])
unfolding applied
fit_13 = (
  two_ints 13 2 (λ a b. refl),
  (
    two_texts 13 7 7 2 dyadic.AtLeast refl of_row of_row (λ a b. refl),
    (
      two_texts 13 7 3 2 dyadic.AtLeast refl of_row of_char (λ a b. refl),
      (
        two_texts 13 3 7 2 dyadic.AtLeast refl of_char of_row (λ a b. refl),
        (
          two_texts 13 3 3 2 dyadic.AtLeast refl of_char of_char (λ a b. refl),
          (two_bits 13 2 (λ a b. refl), (two_longs 13 2 (λ a b. refl), tt)),
        ),
      ),
    ),
  ),
)

fit_14 : ByRecursion IsFitting (op 14 1 1 2 ∷ op 14 7 7 2 ∷ op 14 7 3 2 ∷ op 14 3 7 2 ∷ op 14 3 3 2 ∷ op 14 13 13 2 ∷ [])
unfolding applied
fit_14 = (
  two_ints 14 2 (λ a b. refl),
  (
    two_texts 14 7 7 2 dyadic.Greater refl of_row of_row (λ a b. refl),
    (
      two_texts 14 7 3 2 dyadic.Greater refl of_row of_char (λ a b. refl),
      (
        two_texts 14 3 7 2 dyadic.Greater refl of_char of_row (λ a b. refl),
        (two_texts 14 3 3 2 dyadic.Greater refl of_char of_char (λ a b. refl), (two_longs 14 2 (λ a b. refl), tt)),
      ),
    ),
  ),
)

fit_15 : ByRecursion IsFitting (op 15 1 1 1 ∷ op 15 7 7 7 ∷ op 15 7 3 7 ∷ op 15 3 7 7 ∷ op 15 3 3 7 ∷ op 15 13 13 13 ∷ [])
unfolding applied
fit_15 = (
  two_ints 15 1 (λ a b. an_int (a +ℤ b)),
  (
    two_texts 15 7 7 7 dyadic.Plus refl of_row of_row (λ a b. a_text (a ++ b)),
    (
      two_texts 15 7 3 7 dyadic.Plus refl of_row of_char (λ a b. a_text (a ++ b)),
      (
        two_texts 15 3 7 7 dyadic.Plus refl of_char of_row (λ a b. a_text (a ++ b)),
        (two_texts 15 3 3 7 dyadic.Plus refl of_char of_char (λ a b. a_text (a ++ b)), (two_longs 15 13 (λ a b. a_long (number_of a +ℤ number_of b)), tt)),
      ),
    ),
  ),
)

fit_16 : ByRecursion IsFitting (op 16 1 1 1 ∷ op 16 13 13 13 ∷ [])
unfolding applied
fit_16 =
    (two_ints 16 1 (λ a b. an_int (a -ℤ b)), (two_longs 16 13 (λ a b. a_long (number_of a -ℤ number_of b)), tt))

fit_17 : ByRecursion IsFitting (op 17 1 1 1 ∷ op 17 7 1 7 ∷ op 17 3 1 7 ∷ op 17 1 7 7 ∷ op 17 1 3 7 ∷ op 17 13 13 13 ∷ [])
unfolding applied
fit_17 = (
  two_ints 17 1 (λ a b. an_int (a *ℤ b)),
  (
    text_and_int 17 7 7 dyadic.Times refl of_row a_repeated,
    (
      text_and_int 17 3 7 dyadic.Times refl of_char a_repeated,
      (
        int_and_text 17 7 7 dyadic.Times refl of_row a_repeated,
        (int_and_text 17 3 7 dyadic.Times refl of_char a_repeated, (two_longs 17 13 (λ a b. a_long (number_of a *ℤ number_of b)), tt)),
      ),
    ),
  ),
)

fit_18 : ByRecursion IsFitting (op 18 1 1 1 ∷ op 18 13 13 13 ∷ [])
unfolding applied
fit_18 =
    (two_ints 18 1 (λ a b. a_quotient 1 int an_int b (int_div a b)), (two_longs 18 13 (λ a b. a_quotient 13 long a_long (number_of b) (int_div (number_of a) (number_of b))), tt))

fit_19 : ByRecursion IsFitting (op 19 1 1 1 ∷ op 19 13 13 13 ∷ [])
unfolding applied
fit_19 =
    (two_ints 19 1 (λ a b. a_quotient 1 int an_int b (modulo a b)), (two_longs 19 13 (λ a b. a_quotient 13 long a_long (number_of b) (modulo (number_of a) (number_of b))), tt))

fit_20 : ByRecursion IsFitting (op 20 1 4 2 ∷ [])
unfolding applied
fit_20 =
    (int_and_bits 20 2 a_place, tt)

fit_21 : ByRecursion IsFitting (op 21 1 1 1 ∷ op 21 13 1 13 ∷ [])
unfolding applied
fit_21 =
    (two_ints 21 1 (λ a b. a_power 1 int an_int a b), (long_and_int 21 13 (λ a n. a_power 13 long a_long (number_of a) n), tt))

fit_22 : ByRecursion IsFitting (op 22 4 1 4 ∷ [])
unfolding applied
fit_22 =
    (bits_and_int 22 4 moved_left, tt)

fit_23 : ByRecursion IsFitting (op 23 4 1 4 ∷ [])
unfolding applied
fit_23 =
    (bits_and_int 23 4 moved_right, tt)

fit_24 : ByRecursion IsFitting (op 24 1 0 1 ∷ [])
unfolding applied
fit_24 =
    (later 24 1 0 1 refl, tt)

fit_25 : ByRecursion IsFitting (op 25 1 0 1 ∷ [])
unfolding applied
fit_25 =
    (later 25 1 0 1 refl, tt)

fit_26 : ByRecursion IsFitting (op 26 0 1 1 ∷ op 26 0 13 13 ∷ [])
unfolding applied
fit_26 =
    (an_operand_int 26 1 (λ a. an_int a), (an_operand_long 26 13 (λ a. a_long (number_of a)), tt))

fit_27 : ByRecursion IsFitting (op 27 0 1 1 ∷ op 27 0 13 13 ∷ [])
unfolding applied
fit_27 =
    (an_operand_int 27 1 (λ a. an_int (neg_ℤ a)), (an_operand_long 27 13 (λ a. a_long (neg_ℤ (number_of a))), tt))

fit_28 : ByRecursion IsFitting (op 28 0 2 2 ∷ op 28 0 4 4 ∷ [])
unfolding applied
fit_28 = (
  an_operand_truth 28 2 (λ b. refl),
  (an_operand_bits 28 4 (λ b. refl), tt),
)

fit_29 : ByRecursion IsFitting (op 29 0 1 1 ∷ op 29 0 2 1 ∷ op 29 0 3 1 ∷ op 29 0 4 1 ∷ op 29 0 13 13 ∷ [])
unfolding applied
fit_29 = (
  an_operand_int 29 1 (λ a. an_int (abs_of a)),
  (
    an_operand_truth 29 1 (λ b. an_int (pos (cond b 1 0))),
    (
      an_operand_char 29 1 (λ c. an_int (pos c)),
      (an_operand_bits 29 1 (λ b. an_int (pos b)), (an_operand_long 29 13 (λ a. a_long (abs_of (number_of a))), tt)),
    ),
  ),
)

fit_30 : ByRecursion IsFitting (op 30 0 1 1 ∷ op 30 0 13 1 ∷ [])
unfolding applied
fit_30 =
    (an_operand_int 30 1 (λ a. an_int (sign_of a)), (an_operand_long 30 1 (λ a. an_int (sign_of (number_of a))), tt))

fit_31 : ByRecursion IsFitting (op 31 0 1 2 ∷ op 31 0 13 2 ∷ [])
unfolding applied
fit_31 =
    (an_operand_int 31 2 (λ a. refl), (an_operand_long 31 2 (λ a. refl), tt))

fit_32 : ByRecursion IsFitting (op 32 0 1 3 ∷ [])
unfolding applied
fit_32 =
    (an_operand_int 32 3 (λ a. a_char a), tt)

fit_33 : ByRecursion IsFitting (op 33 0 1 4 ∷ [])
unfolding applied
fit_33 =
    (an_operand_int 33 4 (λ a. some_bits a), tt)

fit_34 : ByRecursion IsFitting (op 34 0 1 5 ∷ op 34 0 5 1 ∷ [])
unfolding applied
fit_34 = (
  later 34 0 1 5 refl,
  (later 34 0 5 1 refl, tt),
)

fit_35 : ByRecursion IsFitting (op 35 0 5 0 ∷ [])
unfolding applied
fit_35 =
    (later 35 0 5 0 refl, tt)

fit_36 : ByRecursion IsFitting (op 36 0 5 0 ∷ [])
unfolding applied
fit_36 =
    (later 36 0 5 0 refl, tt)

fit_37 : ByRecursion IsFitting (op 37 0 0 1 ∷ [])
unfolding applied
fit_37 =
    (later 37 0 0 1 refl, tt)

fit_38 : ByRecursion IsFitting (op 38 0 0 1 ∷ [])
unfolding applied
fit_38 =
    (later 38 0 0 1 refl, tt)

fit_39 : ByRecursion IsFitting (op 39 0 1 13 ∷ [])
unfolding applied
fit_39 =
    (an_operand_int 39 13 (λ a. a_long a), tt)

fit_40 : ByRecursion IsFitting (op 40 0 13 1 ∷ [])
unfolding applied
fit_40 =
    (an_operand_long 40 1 (λ a. an_int (number_of a)), tt)

dyadic_fit : EachFits dyadic_entries
dyadic_fit = (fit_1, (fit_2, (fit_3, (fit_4, (fit_5, (fit_6, (fit_7, (fit_8, (fit_9, (fit_10, (fit_11, (fit_12, (fit_13, (fit_14, (fit_15, (fit_16, (fit_17, (fit_18, (fit_19, (fit_20, (fit_21, (fit_22, (fit_23, (fit_24, (fit_25, tt)))))))))))))))))))))))))

monadic_fit : EachFits monadic_entries
monadic_fit = (fit_26, (fit_27, (fit_28, (fit_29, (fit_30, (fit_31, (fit_32, (fit_33, (fit_34, (fit_35, (fit_36, (fit_37, (fit_38, (fit_39, (fit_40, tt)))))))))))))))

found_by : (here : Bool) (entry : SignGroup) (rest : Option SignGroup) → ByRecursion IsFitting entry.operators
    → All IsFitting (option_map_or (λ one. one.operators) rest []) → All IsFitting (option_map_or (λ one. one.operators) (cond here (Some entry) rest) [])
found_by true entry rest fit others = All-from_recursion IsFitting entry.operators fit
found_by false entry rest fit others = others

-- an entry that is found is one of them
found : (entries : List SignGroup) → EachFits entries → (sign : List ℕ) → All IsFitting (option_map_or (λ one. one.operators) (entry_of entries sign) [])
found [] fit sign = All-from_recursion IsFitting [] tt
found (entry ∷ more) fit sign = found_by (is_listed entry.signs sign) entry (entry_of more sign) fit.0 (found more fit.1 sign)

pub operators_fit : (sign : List ℕ) (operands : ℕ) → All IsFitting (candidates sign operands)
unfolding candidates
operators_fit sign (suc zero) = found monadic_entries monadic_fit sign
operators_fit sign (suc (suc zero)) = found dyadic_entries dyadic_fit sign
operators_fit sign zero = All-from_recursion IsFitting [] tt
operators_fit sign (suc (suc (suc n))) = All-from_recursion IsFitting [] tt
