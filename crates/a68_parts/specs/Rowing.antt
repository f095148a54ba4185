-- Inner: the headline does not rest on this file.
-- Steps back along a path of coercions.
use Rattle.std.specs.Prelude.{◌≡◌, ◌<◌, ◌≤◌, ◌-◌, ◌&&◌, ◌||◌, ℕ, Bool, true, not, List, None, Some, drop, length, nat_eq, nat_le, if◌then◌else◌}
use Rattle.std.specs.Option.{option_and_then, option_map_or}
use Rattle.std.specs.declared.option.Option.{Option}
use Rattle.a68_elab.specs.Made.{found_from, is_row_of, rowed_to, unrowed, unrowed_name}
use Rattle.a68_modes.specs.Nodes.{shape_at}
use Rattle.a68_modes.specs.declared.coercion.Coercion.{Coercion}
use Rattle.a68_modes.specs.declared.coercion.Coercion.TheVariants as coercion
use Rattle.a68_modes.specs.declared.shape.Shape.{Shape}
use Rattle.a68_modes.specs.declared.shape.Shape.TheVariants as shape
use Rattle.a68_parts.specs.declared.rowing.Rowings.{Rowings}

-- the mode before a rowing to a mode; none before another coercion
abbrev pub before : List Shape → (mode : Option ℕ) → Coercion → Option ℕ
before modes m coercion.RowUp = option_and_then (unrowed modes) m
before modes m coercion.RowUpName = option_and_then (unrowed_name modes) m
before modes m _ = None

-- a mode is a row of so many dimensions of another
abbrev pub IsRows : (dims of : ℕ) → Shape → Type 0
IsRows dims of (shape.Rows n flex m) = (n ≡ dims) × (m ≡ of)
IsRows dims of _ = ⊥

-- a row without FLEX of that element with fewer dimensions than so many stands as far in front of a mode as it has dimensions fewer
abbrev pub stands : (dims of fewer mode : ℕ) → Shape → Bool
stands dims of fewer mode (shape.Rows n flex m) = if flex || not (nat_eq m of) || nat_le dims n then true else nat_le mode fewer && nat_eq (fewer - mode) (dims - 1 - n)
stands dims of fewer mode _ = true

-- all such rows stand so
abbrev pub AreInOrder : List Shape → (dims of fewer : ℕ) → Type 0
AreInOrder modes dims of fewer = (mode : ℕ) → mode < length modes → stands dims of fewer mode (shape_at modes mode) ≡ true

-- the goal, or behind some rowings the row in its place where they stand in order, else the first row of so many dimensions without FLEX
abbrev pub row_behind : List Shape → (goal : ℕ) → Rowings → (count : ℕ) → Option ℕ
row_behind modes goal r count = if nat_eq count 0 then Some goal else option_map_or (λ m. Some (m - (count - 1))) r.fewer (found_from 0 (is_row_of (r.dims - count) r.of) modes)

-- behind a rowing stand these coercions: where they are among the last rowings that are known, these tell what it reaches
abbrev pub Tells : List Shape → (goal : ℕ) → List Coercion → Rowings → Type 0
Tells modes goal path r = length path ≤ r.count → rowed_to modes goal path ≡ row_behind modes goal r (length path)

-- so it is at each place of the path
abbrev pub AreRowings : List Shape → (goal : ℕ) → List Coercion → Rowings → Type 0
AreRowings modes goal path r = (at : ℕ) → Tells modes goal (drop at path) r
