-- The rows between a value and a row of several dimensions that it becomes, a dimension at a time (Report, 6.6).
use Rattle.std.specs.Prelude.{◌-◌, ◌+◌, ◌++◌, ◌&&◌, ℕ, zero, suc, nat_eq, Bool, false, List, [], ◌∷◌, Option, Some, None, if◌then◌else◌}
use Rattle.std.specs.List.{list_any}
use Rattle.std.specs.Option.{option_map_or}
use Rattle.a68_modes.specs.declared.shape.Shape.{Shape}
use Rattle.a68_modes.specs.declared.shape.Shape.TheVariants.{Rows}

-- the dimensions of a row without FLEX, and the mode of its elements
abbrev pub fixed_row : Shape → Option (ℕ × ℕ)
fixed_row (Rows n false of) = Some (n, of)
fixed_row _ = None

abbrev pub is_row : (dims of : ℕ) → Shape → Bool
is_row dims of shape = option_map_or (λ row. nat_eq row.0 dims && nat_eq row.1 of) (fixed_row shape) false

-- a row without FLEX stands behind the modes, where it is not among them
abbrev pub with_row : List Shape → (dims of : ℕ) → List Shape
with_row modes dims of = if list_any (is_row dims of) modes then modes else modes ++ Rows dims false of ∷ []

-- those of 1 up to so many dimensions
abbrev pub with_rows_to : List Shape → (most of : ℕ) → List Shape
with_rows_to modes zero of = modes
with_rows_to modes (suc n) of = with_row (with_rows_to modes n of) (n + 1) of

-- how many dimensions a row has but one, and the mode of its elements
abbrev pub fewer_of : Shape → Option (ℕ × ℕ)
fewer_of (Rows n flex of) = Some (n - 1, of)
fewer_of _ = None

-- those with fewer dimensions than a mode has, where it is a row
abbrev pub with_fewer : List Shape → Shape → List Shape
with_fewer modes shape = option_map_or (λ row. with_rows_to modes row.0 row.1) (fewer_of shape) modes

-- those with fewer dimensions than each of these has
abbrev pub with_fewer_each : List Shape → List Shape → List Shape
with_fewer_each modes [] = modes
with_fewer_each modes (shape ∷ shapes) = with_fewer_each (with_fewer modes shape) shapes

-- The modes, and behind them, of each row among them, those of the same elements with fewer dimensions, without FLEX, that are not
-- there: by way of these a value becomes a row of several dimensions.
unfoldable pub with_rows : List Shape → List Shape
with_rows modes = with_fewer_each modes modes
