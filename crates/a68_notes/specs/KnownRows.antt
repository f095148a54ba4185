-- Inner: the headline does not rest on this file.
-- The rows that are among the modes, as they are found (own).
use Rattle.std.specs.Prelude.{◌≡◌, ◌&&◌, ℕ, nat_eq, Bool, List}
use Rattle.std.specs.List.{list_any}
use Rattle.a68_modes.specs.declared.shape.Shape.{Shape}
use Rattle.a68_notes.specs.Rows.{is_row}

-- a row of so many dimensions is known
abbrev pub has_key : List (ℕ × ℕ) → (dims of : ℕ) → Bool
has_key keys dims of = list_any (λ row. nat_eq dims row.0 && nat_eq of row.1) keys

-- known are those without FLEX that are among the modes
abbrev pub AreRowsKnown : List Shape → List (ℕ × ℕ) → Type 0
AreRowsKnown modes keys = (dims of : ℕ) → has_key keys dims of ≡ list_any (is_row dims of) modes
