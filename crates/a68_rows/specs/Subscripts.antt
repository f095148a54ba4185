-- Inner: the headline does not rest on this file.
-- Subscripts without trimmers (Report, 5.3.2).
use Rattle.std.specs.Prelude.{ℤ, pos, Bool, true, false}
use Rattle.a68_layout.specs.declared.types.Trim.{Trim}
use Rattle.a68_layout.specs.declared.types.Trim.TheVariants as trim

abbrev pub is_subscript : Trim → Bool
is_subscript (trim.At i) = true
is_subscript _ = false

-- the integer that a subscript is; 0 of a trimmer
abbrev pub subscript : Trim → ℤ
subscript (trim.At i) = i
subscript _ = pos 0
