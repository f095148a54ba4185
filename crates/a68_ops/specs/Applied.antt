-- What the operators that yield at once yield, or the fault that they meet.
use Rattle.std.specs.Prelude.{ℕ, ℤ, pos, ◌+◌, nat_eq, nat_lt, not, ◌&&◌, ◌||◌, None, Some, Err, if◌then◌else◌}
use Rattle.std.specs.Option.{option_map_or}
use Rattle.std.specs.declared.option.Option.{Option}
use Rattle.a68_signs.specs.declared.operators.TheConstants as operators
use Rattle.a68_values.specs.Content.{Content, void, plain}
use Rattle.a68_values.specs.Longs.{number_of}
use Rattle.a68_values.specs.declared.act.FaultKind.TheVariants as fault
use Rattle.a68_values.specs.declared.plain.Plain.{Plain}
use Rattle.a68_values.specs.declared.plain.Plain.TheVariants as value
use Rattle.a68_ops.specs.Bits.{on_bits, shifted, on_place, complement}
use Rattle.a68_ops.specs.Booleans.{on_truths}
use Rattle.a68_ops.specs.Integers.{on_ints, on_int, on_long, on_numbers, to_power}
use Rattle.a68_ops.specs.Operators.{dyadic_of, monadic_of}
use Rattle.a68_ops.specs.Texts.{text_of, on_texts, text_times}
use Rattle.a68_ops.specs.Yields.{Yield, PlainYield, yield_of, is_unset, int, long, truth, bits}
use Rattle.a68_ops.specs.declared.operator.Dyadic.{Dyadic}
use Rattle.a68_ops.specs.declared.operator.Monadic.{Monadic}
use Rattle.a68_ops.specs.declared.operator.Monadic.TheVariants as monadic

-- an operator between two plain values, where it is none between texts
abbrev pub between_plain : Dyadic → (p q : Plain) → Option PlainYield
between_plain operator (value.Int a) (value.Int b) = Some (on_ints operator a b)
between_plain operator (value.Bool a) (value.Bool b) = Some (on_truths operator a b)
between_plain operator (value.Bits a) (value.Bits b) = Some (on_bits operator a b)
between_plain operator (value.Long a) (value.Long b) = Some (on_numbers long operator (number_of a) (number_of b))
between_plain operator (value.Long a) (value.Int n) = Some (to_power long operator (number_of a) n)
between_plain operator (value.Bits b) (value.Int n) = Some (shifted operator b n)
between_plain operator (value.Int n) (value.Bits b) = Some (on_place operator n b)
between_plain operator _ _ = None

-- an operator between a text and an INT
abbrev pub counted : Dyadic → (v : Content) (n : ℤ) → Yield
counted operator v n = option_map_or (λ items. text_times operator items n) (text_of v) (Err fault.Kind)

-- an operator between two texts
abbrev pub between_texts : Dyadic → (v w : Content) → Yield
between_texts operator v w =
    option_map_or (λ a. option_map_or (λ b. on_texts operator a b) (text_of w) (Err fault.Kind)) (text_of v) (Err fault.Kind)

abbrev pub as_int : Content → Option ℤ
as_int (plain (value.Int n)) = Some n
as_int _ = None

-- an operator of which an operand is a text; other operands meet Kind
abbrev pub with_texts : Dyadic → (v w : Content) → Yield
with_texts operator v w =
    option_map_or (λ n. counted operator w n) (as_int v) (option_map_or (λ n. counted operator v n) (as_int w) (between_texts operator v w))

abbrev pub plain_yield : Dyadic → (v w : Content) → Option PlainYield
plain_yield operator (plain p) (plain q) = between_plain operator p q
plain_yield operator _ _ = None

-- an operator between two values that are set
abbrev pub dyadic_by : Dyadic → (v w : Content) → Yield
dyadic_by operator v w = option_map_or yield_of (plain_yield operator v w) (with_texts operator v w)

-- an operator before a plain value that is set (Report, 10.2.1, 10.2.3.2, 10.2.3.3 and 10.2.3.8)
abbrev pub monadic_by : Monadic → Plain → PlainYield
monadic_by operator (value.Int a) = on_int operator a
monadic_by operator (value.Long a) = on_long operator (number_of a)
monadic_by monadic.Not (value.Bool a) = truth (not a)
monadic_by monadic.Abs (value.Bool a) = int (pos (if a then 1 else 0))
monadic_by monadic.Not (value.Bits b) = bits (complement b)
monadic_by monadic.Abs (value.Bits b) = int (pos b)
monadic_by monadic.Abs (value.Char c) = int (pos c)
monadic_by _ _ = Err fault.Kind

-- an operator before one operand, in whose place on the left nothing stands
abbrev pub monadic_on : Monadic → (left right : Content) → Yield
monadic_on operator void (plain p) = yield_of (monadic_by operator p)
monadic_on operator _ _ = Err fault.Kind

-- The yield of a row of the table of operators, or its fault. An operand of which a part is unset comes before every other
-- fault, and a row that does not yield at once, or other operands than it takes, before those of the row itself.
unfoldable pub applied : (row : ℕ) (left right : Content) → Yield
applied row left right =
    if is_unset left || is_unset right then Err fault.Unset
    else (option_map_or (λ operator. dyadic_by operator left right) (dyadic_of row)
    (option_map_or (λ operator. monadic_on operator left right) (monadic_of row) (Err fault.Kind)))

-- The same between two plain values, where no text comes of it; None where `applied` tells it by texts.
abbrev pub applied_plain : (row : ℕ) (left right : Plain) → Option PlainYield
applied_plain row left right =
    if is_unset (plain left) || is_unset (plain right) then Some (Err fault.Unset)
    else (option_map_or (λ operator. between_plain operator left right) (dyadic_of row) (Some (Err fault.Kind)))

-- The value that an operator combined with assignation gives to its name, of the old value and the other operand (Report,
-- 10.2.3.11): PLUSAB to MODAB apply `+`, `-`, `*`, OVER and MOD, and PLUSTO puts the operand in front.
unfoldable pub updated : (row : ℕ) (old operand : Content) → Yield
updated row old operand =
    if nat_eq row operators.PLUSTO then applied operators.PLUS operand old
    else (if nat_lt 0 row && nat_lt row operators.PLUSTO then applied (row + operators.PLUS_FROM_PLUSAB) old operand
    else (Err fault.Kind))
