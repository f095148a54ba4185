-- Inner: the headline does not rest on this file.
-- What is known of how many bounds names have.
use Rattle.std.specs.Prelude.{◌≡◌, ℕ, ◌≤◌, min, List, None, IfSome, get_or}
use Rattle.std.specs.declared.option.Option.{Option}
use Rattle.a68_layout.specs.Rooms.{needs_within}
use Rattle.a68_layout.specs.declared.measured.Known.{Known}
use Rattle.a68_modes.specs.declared.shape.Shape.{Shape}

-- the most that a number of 64 bits tells
abbrev pub most_needs : ℕ
most_needs = 18446744073709551615

-- a name of the mode has so many bounds, however deep rows and structures are looked at from its depth on
abbrev pub IsKnown : List Shape → (mode : ℕ) → Known → Type 0
IsKnown modes m k = (n : ℕ) → k.depth ≤ n → k.needs ≡ min most_needs (needs_within n modes m)

-- what is known of modes, each under its number
abbrev pub AreKnown : List Shape → List (Option Known) → Type 0
AreKnown modes known = (m : ℕ) → IfSome (get_or known m None) (IsKnown modes m)
