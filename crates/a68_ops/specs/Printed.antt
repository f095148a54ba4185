-- How values are written.
use Rattle.std.specs.Prelude.{ℕ, zero, suc, ℤ, pos, ◌-◌, ◌/◌, ◌%◌, ◌^◌, unsigned_abs, int_lt, nat_lt, nat_eq, List, [], ◌∷◌, ◌++◌, length, map, replicate, codes, decimal, Some, Ok, Err, if◌then◌else◌}
use Rattle.std.specs.List.{range_with_len}
use Rattle.std.specs.Option.{option_map_or}
use Rattle.std.specs.declared.option.Option.{Option}
use Rattle.std.specs.declared.result.Result.{Result}
use Rattle.a68_values.specs.Content.{Content, plain, layout, united}
use Rattle.a68_values.specs.Longs.{number_of}
use Rattle.a68_values.specs.declared.act.FaultKind.{FaultKind}
use Rattle.a68_values.specs.declared.act.FaultKind.TheVariants as fault
use Rattle.a68_values.specs.declared.plain.Layout.TheVariants.{Newline, Space}
use Rattle.a68_values.specs.declared.plain.Plain.TheVariants as value
use Rattle.a68_ops.specs.Texts.{text_of}
use Rattle.a68_ops.specs.Yields.{is_unset}

-- the sign before the digits: that of a number that is not negative only where the width is positive
abbrev pub sign_text : (v width : ℤ) → List ℕ
sign_text v width = if int_lt v (pos 0) then codes "-" else (if int_lt (pos 0) width then codes "+" else [])

-- a text at the right of so many places; asterisks in all of them where it does not fit; the text alone for 0 places
abbrev pub set_right : (places : ℕ) → List ℕ → List ℕ
set_right zero text = text
set_right (suc n) text = if nat_lt (suc n) (length text) then replicate (suc n) 42 else replicate (suc n - length text) 32 ++ text

-- `whole (v, width)` (Report, 10.3.2.1)
unfoldable pub whole_text : (v width : ℤ) → List ℕ
whole_text v width = set_right (unsigned_abs width) (sign_text v width ++ decimal (unsigned_abs v))

-- as many places as may be asked for (own)
abbrev pub most_places : ℕ
most_places = 65536

unfoldable pub whole : (v width : ℤ) → Result (List ℕ) FaultKind
whole v width = if nat_lt most_places (unsigned_abs width) then Err fault.Domain else Ok (whole_text v width)

-- a place of BITS, counted from 0 from the left: T where it is set, and F where it is not (Report, 10.2.1: flip and flop)
abbrev pub place_text : (b place : ℕ) → ℕ
place_text b place = if nat_eq ((b / 2 ^ (63 - place)) % 2) 1 then 84 else 70

-- the 64 places of BITS
unfoldable pub places : ℕ → List ℕ
places b = map (place_text b) (range_with_len 0 64)

-- the value of an item as it is printed; None where there is no way to print it (own)
abbrev pub printed : Content → Option (List ℕ)
printed (plain (value.Int i)) = Some (whole_text i (pos 20))
printed (plain (value.Long l)) = Some (whole_text (number_of l) (pos 40))
printed (plain (value.Bool b)) = Some (if b then codes "T" else codes "F")
printed (plain (value.Bits b)) = Some (places b)
printed (layout Newline) = Some (10 ∷ [])
printed (layout Space) = Some (32 ∷ [])
printed v = text_of v

abbrev pub written : Content → Result (List ℕ) FaultKind
written v = option_map_or (λ text. Ok text) (printed v) (Err fault.Kind)

-- the value that an item of the union of what can be printed has
abbrev pub member : Content → Content
member (united mode inner) = inner
member v = v

-- the bytes that an item is printed as, or the fault that it meets
unfoldable pub item_text : Content → Result (List ℕ) FaultKind
item_text v = if is_unset v then Err fault.Unset else written (member v)
