-- Operators on texts, which are CHAR or rows of CHAR (Report, 10.2.3.6 and 10.2.3.10).
use Rattle.std.specs.Prelude.{ℕ, zero, suc, ℤ, pos, negsuc, ◌++◌, Bool, true, false, ◌&&◌, List, [], ◌∷◌, None, Some, Err, if◌then◌else◌}
use Rattle.std.specs.Ordering.{nat_cmp, ordering_then, is_lt, is_eq}
use Rattle.std.specs.declared.cmp.Ordering.{Ordering}
use Rattle.std.specs.declared.cmp.Ordering.TheVariants.{Less, Equal, Greater}
use Rattle.std.specs.declared.option.Option.{Option}
use Rattle.a68_values.specs.Content.{Content, Contents, plain, row, no_parts, ◌and_part◌}
use Rattle.a68_values.specs.declared.act.FaultKind.TheVariants as fault
use Rattle.a68_values.specs.declared.plain.Plain.TheVariants as value
use Rattle.a68_ops.specs.Operators.{compared}
use Rattle.a68_ops.specs.Yields.{Yield, yield_of, text}
use Rattle.a68_ops.specs.declared.operator.Dyadic.{Dyadic}
use Rattle.a68_ops.specs.declared.operator.Dyadic.TheVariants as dyadic

-- the code of a CHAR
abbrev pub code_of : Content → ℕ
code_of (plain (value.Char c)) = c
code_of _ = 0

abbrev pub is_char : Content → Bool
is_char (plain (value.Char c)) = true
is_char _ = false

-- all parts are CHAR
abbrev pub are_chars : Contents → Bool
are_chars no_parts = true
are_chars (part and_part parts) = is_char part && are_chars parts

abbrev pub codes_in : Contents → List ℕ
codes_in no_parts = []
codes_in (part and_part parts) = code_of part ∷ codes_in parts

-- the codes of the items of a CHAR, or of a row of CHAR of one dimension; None of another value
abbrev pub text_of : Content → Option (List ℕ)
text_of (plain (value.Char c)) = Some (c ∷ [])
text_of (row (b ∷ []) parts) = if are_chars parts then Some (codes_in parts) else None
text_of _ = None

-- Texts are ordered by the first item in which they differ, and items by their codes; a text that another one goes on from
-- is below it.
abbrev pub order_of : (a b : List ℕ) → Ordering
order_of [] [] = Equal
order_of [] (b ∷ others) = Less
order_of (a ∷ more) [] = Greater
order_of (a ∷ more) (b ∷ others) = ordering_then (nat_cmp a b) (order_of more others)

abbrev pub on_texts : Dyadic → (a b : List ℕ) → Yield
on_texts dyadic.Plus a b = text (a ++ b)
on_texts operator a b = yield_of (compared operator (is_lt (order_of a b)) (is_eq (order_of a b)))

-- a text so many times, one behind the other
abbrev pub times : ℕ → List ℕ → List ℕ
times zero items = []
times (suc n) items = items ++ times n items

-- a text an INT of times: none where that is below 1. A text that would be too long meets Cells.
abbrev pub repeated : List ℕ → ℤ → Yield
repeated items (negsuc n) = text []
repeated items (pos n) = text (times n items)

abbrev pub text_times : Dyadic → List ℕ → ℤ → Yield
text_times dyadic.Times items n = repeated items n
text_times _ items n = Err fault.Kind
