-- Operators on integers (Report, 10.2.3.3).
use Rattle.std.specs.Prelude.{zero, suc, ℤ, pos, negsuc, ◌%◌, ◌+ℤ◌, ◌-ℤ◌, ◌*ℤ◌, neg_ℤ, int_div, unsigned_abs, int_lt, nat_lt, nat_eq, Ok, Err, if◌then◌else◌}
use Rattle.std.specs.Int.{int_pow}
use Rattle.std.specs.Ordering.{int_eq}
use Rattle.a68_values.specs.declared.act.FaultKind.TheVariants as fault
use Rattle.a68_values.specs.declared.plain.Plain.TheVariants as value
use Rattle.a68_ops.specs.Operators.{compared}
use Rattle.a68_ops.specs.Yields.{PlainYield, int, long, truth, bits}
use Rattle.a68_ops.specs.declared.operator.Dyadic.{Dyadic}
use Rattle.a68_ops.specs.declared.operator.Dyadic.TheVariants as dyadic
use Rattle.a68_ops.specs.declared.operator.Monadic.{Monadic}
use Rattle.a68_ops.specs.declared.operator.Monadic.TheVariants as monadic

abbrev pub abs_of : ℤ → ℤ
abs_of z = pos (unsigned_abs z)

-- what is left of a where as many b are taken from it as a OVER b says, and the size of b more where that is negative
abbrev pub lifted : (rest b : ℤ) → ℤ
lifted rest b = if int_lt rest (pos 0) then rest +ℤ abs_of b else rest

abbrev pub modulo : (a b : ℤ) → ℤ
modulo a b = lifted (a -ℤ (b *ℤ int_div a b)) b

-- an integer that stands for a quotient or a rest by b (own where b is 0), as a value of its mode
abbrev pub divided : (yield : ℤ → PlainYield) (b z : ℤ) → PlainYield
divided yield b z = if int_eq b (pos 0) then Err fault.Divisor else yield z

-- a power; the exponent may not be negative (own)
abbrev pub raised : (yield : ℤ → PlainYield) (a exponent : ℤ) → PlainYield
raised yield a (pos n) = yield (int_pow a n)
raised yield a (negsuc n) = Err fault.Domain

-- between two integers of one mode, whose values are told by how an integer becomes one; a quotient is cut towards 0
abbrev pub on_numbers : (yield : ℤ → PlainYield) → Dyadic → (a b : ℤ) → PlainYield
on_numbers yield dyadic.Plus a b = yield (a +ℤ b)
on_numbers yield dyadic.Minus a b = yield (a -ℤ b)
on_numbers yield dyadic.Times a b = yield (a *ℤ b)
on_numbers yield dyadic.Over a b = divided yield b (int_div a b)
on_numbers yield dyadic.Mod a b = divided yield b (modulo a b)
on_numbers yield operator a b = compared operator (int_lt a b) (int_eq a b)

-- a power of an integer by an INT
abbrev pub to_power : (yield : ℤ → PlainYield) → Dyadic → (a b : ℤ) → PlainYield
to_power yield dyadic.Power a b = raised yield a b
to_power yield operator a b = Err fault.Kind

-- between two INT
abbrev pub on_ints : Dyadic → (a b : ℤ) → PlainYield
on_ints dyadic.Power a b = raised int a b
on_ints operator a b = on_numbers int operator a b

-- -1, 0 or 1
abbrev pub sign_of : ℤ → ℤ
sign_of (pos zero) = pos 0
sign_of (pos (suc n)) = pos 1
sign_of (negsuc n) = negsuc 0

-- the character with a code (10.2.1)
abbrev pub char_of : ℤ → PlainYield
char_of (pos n) = if nat_lt n 256 then Ok (value.Char n) else Err fault.Domain
char_of (negsuc n) = Err fault.Domain

-- an integer that is not negative as bits (10.2.3.8)
abbrev pub bits_of : ℤ → PlainYield
bits_of (pos n) = bits n
bits_of (negsuc n) = Err fault.Domain

-- before an INT
abbrev pub on_int : Monadic → ℤ → PlainYield
on_int monadic.Plus a = int a
on_int monadic.Minus a = int (neg_ℤ a)
on_int monadic.Abs a = int (abs_of a)
on_int monadic.Sign a = int (sign_of a)
on_int monadic.Odd a = truth (nat_eq (unsigned_abs a % 2) 1)
on_int monadic.Repr a = char_of a
on_int monadic.Bin a = bits_of a
on_int monadic.Leng a = long a
on_int _ a = Err fault.Kind

-- before a LONG INT
abbrev pub on_long : Monadic → ℤ → PlainYield
on_long monadic.Plus a = long a
on_long monadic.Minus a = long (neg_ℤ a)
on_long monadic.Abs a = long (abs_of a)
on_long monadic.Sign a = int (sign_of a)
on_long monadic.Odd a = truth (nat_eq (unsigned_abs a % 2) 1)
on_long monadic.Shorten a = int a
on_long _ a = Err fault.Kind
