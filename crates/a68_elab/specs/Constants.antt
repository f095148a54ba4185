-- What denotations and the tags of the standard environ stand for.
use Rattle.std.specs.Prelude.{ℕ, pos, Bool, true, false, List, [], ◌∷◌, None, Some, codes, nat_eq, if◌then◌else◌}
use Rattle.std.specs.Option.{option_map, option_map_or}
use Rattle.std.specs.declared.option.Option.{Option}
use Rattle.a68_base.specs.Tables.{find}
use Rattle.a68_denote.specs.Numbers.{int_in, long_in, bits_in}
use Rattle.a68_ops.specs.Yields.{text_row}
use Rattle.a68_values.specs.Content.{Content, plain, layout}
use Rattle.a68_values.specs.Longs.{long_of}
use Rattle.a68_values.specs.declared.plain.Layout.{Layout}
use Rattle.a68_values.specs.declared.plain.Layout.TheVariants.{Newline, Space}
use Rattle.a68_values.specs.declared.plain.Plain.{Plain}
use Rattle.a68_values.specs.declared.plain.Plain.TheVariants.{Int, Long, Bool as Truth, Char, Bits}

-- TRUE and FALSE (Report, 8.1.3)
abbrev pub truths : List (List ℕ × Bool)
truths = (codes "TRUE", true) ∷ (codes "FALSE", false) ∷ []

-- The items behind the first quote of a string or character denotation: each byte for itself, two quotes for one, and
-- nothing for the last byte, which is the quote that ends it (Report, 8.1.4 and 8.3).
abbrev pub items_in : List ℕ → List ℕ
items_in [] = []
items_in (b ∷ []) = []
items_in (a ∷ (b ∷ bytes)) = a ∷ (if nat_eq a 34 then items_in bytes else items_in (b ∷ bytes))

-- one item is a CHAR; none, or more, a row of CHAR
abbrev pub quoted : List ℕ → Content
quoted (c ∷ []) = plain (Char c)
quoted items = text_row items

abbrev pub quoted_in : List ℕ → Option Content
quoted_in [] = None
quoted_in (b ∷ bytes) = if nat_eq b 34 then Some (quoted (items_in bytes)) else None

-- a plain value of a sort, where there is one, else another value
abbrev pub or_else : {A : Type 0} → (A → Plain) → Option A → Option Content → Option Content
or_else f found other = option_map_or (λ x. Some (plain (f x))) found other

-- the value of a denotation, by its spelling: a number, bits, a truth value, a character or a string (Report, 8.1 to 8.3)
abbrev pub value_in : List ℕ → Option Content
value_in spelling =
    or_else (λ i. Int i) (int_in spelling) (or_else (λ b. Bits b) (bits_in spelling) (or_else (λ t. Truth t) (find truths spelling) (quoted_in spelling)))

-- the value of a number behind LONG (Report, 8.1)
abbrev pub long_value_in : List ℕ → Option Content
long_value_in spelling = option_map (λ z. plain (Long (long_of z))) (long_in spelling)

-- the tags of the standard environ that stand for plain values (Report, 10.2.1; intwidth, bitswidth and longintwidth are own)
abbrev pub standard_plain : List (List ℕ × Plain)
standard_plain =
    (codes "maxint", Int (pos 9223372036854775807)) ∷ (codes "intwidth", Int (pos 19)) ∷ (codes "bitswidth", Int (pos 64)) ∷
    (codes "maxabschar", Int (pos 255)) ∷ (codes "longmaxint", Long (long_of (pos 170141183460469231731687303715884105727))) ∷
    (codes "longintwidth", Int (pos 39)) ∷ []

-- and those that stand for what print lays out (own)
abbrev pub standard_layouts : List (List ℕ × Layout)
standard_layouts = (codes "newline", Newline) ∷ (codes "space", Space) ∷ []

-- the value of a tag of the standard environ that stands for one
abbrev pub standard_in : List ℕ → Option Content
standard_in spelling = or_else (λ p. p) (find standard_plain spelling) (option_map layout (find standard_layouts spelling))
