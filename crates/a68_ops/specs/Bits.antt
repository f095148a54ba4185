-- Operators on BITS (Report, 10.2.3.8): numbers of 64 binary places, of which the first is the highest.
use Rattle.std.specs.Prelude.{ℕ, suc, ℤ, pos, negsuc, ◌-◌, ◌*◌, ◌/◌, ◌%◌, ◌^◌, bit_and, bit_or, nat_eq, nat_lt, not, Err, if◌then◌else◌}
use Rattle.a68_values.specs.declared.act.FaultKind.TheVariants as fault
use Rattle.a68_ops.specs.Yields.{PlainYield, truth, bits}
use Rattle.a68_ops.specs.declared.operator.Dyadic.{Dyadic}
use Rattle.a68_ops.specs.declared.operator.Dyadic.TheVariants as dyadic

-- the left is at most the right where each place that is set in it is set in the right
abbrev pub on_bits : Dyadic → (a b : ℕ) → PlainYield
on_bits dyadic.Or a b = bits (bit_or a b)
on_bits dyadic.And a b = bits (bit_and a b)
on_bits dyadic.Equal a b = truth (nat_eq a b)
on_bits dyadic.NotEqual a b = truth (not (nat_eq a b))
on_bits dyadic.AtMost a b = truth (nat_eq (bit_or a b) b)
on_bits dyadic.AtLeast a b = truth (nat_eq (bit_or a b) a)
on_bits _ a b = Err fault.Kind

-- all places the other way round
abbrev pub complement : ℕ → ℕ
complement b = 2 ^ 64 - 1 - b

-- moved by so many places; zeros come in, and what leaves the 64 places is lost
abbrev pub moved_left : (b n : ℕ) → ℕ
moved_left b n = (b * 2 ^ n) % 2 ^ 64

abbrev pub moved_right : (b n : ℕ) → ℕ
moved_right b n = b / 2 ^ n

-- a negative number moves the other way
abbrev pub shifted : Dyadic → (b : ℕ) (n : ℤ) → PlainYield
shifted dyadic.ShiftLeft b (pos n) = bits (moved_left b n)
shifted dyadic.ShiftLeft b (negsuc n) = bits (moved_right b (suc n))
shifted dyadic.ShiftRight b (pos n) = bits (moved_right b n)
shifted dyadic.ShiftRight b (negsuc n) = bits (moved_left b (suc n))
shifted _ b n = Err fault.Kind

-- whether a place is set; places count from 1, from the left
abbrev pub element : (place : ℤ) (b : ℕ) → PlainYield
element (pos (suc n)) b = if nat_lt n 64 then truth (nat_eq ((b / 2 ^ (63 - n)) % 2) 1) else Err fault.Domain
element _ b = Err fault.Domain

abbrev pub on_place : Dyadic → (place : ℤ) (b : ℕ) → PlainYield
on_place dyadic.Elem place b = element place b
on_place _ place b = Err fault.Kind
