-- How a constant is written in a listing (own).
use Rattle.std.specs.Prelude.{ℕ, List, [], ◌++◌, ◌+◌, codes, if◌then◌else◌}
use Rattle.std.specs.Fmt.{signed_decimal}
use Rattle.a68_report.specs.Put.{behind, number}
use Rattle.a68_values.specs.Content.{Content, Contents, plain, layout, row, no_parts, ◌and_part◌}
use Rattle.a68_values.specs.Longs.{number_of}
use Rattle.a68_values.specs.declared.plain.Layout.TheVariants.{Newline, Space}
use Rattle.a68_values.specs.declared.plain.Plain.{Plain}
use Rattle.a68_values.specs.declared.plain.Plain.TheVariants.{Int, Long, Bool, Char, Bits}

-- INT, LONG INT and BITS are written as their numbers, BOOL as T or F, and CHAR as the number of its byte. Other values are not
-- constants, and nothing is written of them.
abbrev pub plain_constant : Plain → List ℕ
plain_constant (Int i) = behind (signed_decimal i)
plain_constant (Long l) = behind (signed_decimal (number_of l))
plain_constant (Bool b) = behind (if b then codes "T" else codes "F")
plain_constant (Char c) = number c
plain_constant (Bits b) = number b
plain_constant _ = []

-- an item of a row
abbrev pub item : Content → List ℕ
item (plain p) = plain_constant p
item _ = []

abbrev pub items_in : Contents → List ℕ
items_in no_parts = []
items_in (part and_part parts) = item part ++ items_in parts

abbrev pub count_of : Contents → ℕ
count_of no_parts = 0
count_of (part and_part parts) = count_of parts + 1

-- a row is written as its length and its items, and the hidden mode of newline and space by their names
abbrev pub constant : Content → List ℕ
constant (row bounds parts) = number (count_of parts) ++ items_in parts
constant (layout Newline) = behind (codes "newline")
constant (layout Space) = behind (codes "space")
constant v = item v
