-- Inner: the headline does not rest on this file.
-- Modes that are asked for are among those that are there.
use Rattle.std.specs.Prelude.{◌<◌, ℕ, List, Some}
use Rattle.a68_positions.specs.Given.{position_at}
use Rattle.a68_positions.specs.declared.aside.Aside.{Aside}
use Rattle.a68_positions.specs.declared.aside.Aside.TheVariants as aside
use Rattle.a68_positions.specs.declared.position.Position.{Position}
use Rattle.a68_positions.specs.declared.position.Position.TheVariants as position

-- the mode that is asked for is among the first n
abbrev pub IsPositionBelow : ℕ → Position → Type 0
IsPositionBelow n (position.Goal m setter) = m < n
IsPositionBelow n (position.Asks by_sort (Some m)) = m < n
IsPositionBelow n asked = Unit {0}

abbrev pub ArePositionsBelow : ℕ → List Position → Type 0
ArePositionsBelow n ps = (node : ℕ) → IsPositionBelow n (position_at ps node)

-- what is to be set aside is made of the first n modes
abbrev pub IsAsideBelow : ℕ → Aside → Type 0
IsAsideBelow n (aside.WithoutFlex of) = of < n
IsAsideBelow n (aside.Row dims flex of) = (0 < dims) × (of < n)
IsAsideBelow n a = Unit {0}
