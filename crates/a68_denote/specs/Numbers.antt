-- What numbers and bits denotations stand for.
use Rattle.std.specs.Prelude.{ℕ, ℤ, pos, ◌+◌, ◌-◌, ◌*◌, ◌^◌, Bool, ◌&&◌, nat_eq, nat_lt, nat_le, List, [], ◌∷◌, length, None, Some, if◌then◌else◌}
use Rattle.std.specs.declared.option.Option.{Option}
use Rattle.std.specs.List.{list_all}
use Rattle.std.specs.Option.{option_map, option_and_then}

-- the digit that a byte is: 0 to 9, or a to f for 10 to 15; 16 where it is none
abbrev pub digit_of : ℕ → ℕ
digit_of b =
    if nat_le 48 b && nat_le b 57 then b - 48
    else (if nat_le 97 b && nat_le b 102 then b - 87 else 16)

-- each byte is a digit of the radix
abbrev pub are_digits : ℕ → List ℕ → Bool
are_digits radix bytes = list_all (λ b. nat_lt (digit_of b) radix) bytes

-- the value of digits: each counts the radix to the power of how many stand behind it
abbrev pub value_of : ℕ → List ℕ → ℕ
value_of radix [] = 0
value_of radix (b ∷ bs) = digit_of b * radix ^ length bs + value_of radix bs

-- the value of one digit or more of the radix, where it is below the bound
abbrev pub number_below : ℕ → ℕ → List ℕ → Option ℕ
number_below bound radix bytes =
    if nat_lt 0 (length bytes) && are_digits radix bytes && nat_lt (value_of radix bytes) bound then Some (value_of radix bytes) else None

-- the INT that a number stands for: digits alone, of a value below 2 to the power 63
abbrev pub int_in : List ℕ → Option ℤ
int_in bytes = option_map pos (number_below (2 ^ 63) 10 bytes)

-- the LONG INT that a number stands for behind LONG: digits alone, of a value below 2 to the power 127
abbrev pub long_in : List ℕ → Option ℤ
long_in bytes = option_map pos (number_below (2 ^ 127) 10 bytes)

-- the radix of a bits denotation, and what stands behind its r: 2r, 4r, 8r or 16r
abbrev pub radix_16_in : ℕ → ℕ → List ℕ → Option (ℕ × List ℕ)
radix_16_in a b [] = None
radix_16_in a b (c ∷ bytes) = if nat_eq a 49 && nat_eq b 54 && nat_eq c 114 then Some (16, bytes) else None

abbrev pub radix_in : List ℕ → Option (ℕ × List ℕ)
radix_in [] = None
radix_in (a ∷ []) = None
radix_in (a ∷ b ∷ bytes) =
    if nat_eq a 50 && nat_eq b 114 then Some (2, bytes)
    else (if nat_eq a 52 && nat_eq b 114 then Some (4, bytes)
    else (if nat_eq a 56 && nat_eq b 114 then Some (8, bytes)
    else radix_16_in a b bytes))

-- the BITS that a bits denotation stands for: a radix and a digit of it or more, of a value below 2 to the power 64
abbrev pub bits_in : List ℕ → Option ℕ
bits_in bytes = option_and_then (λ found. number_below (2 ^ 64) found.0 found.1) (radix_in bytes)
