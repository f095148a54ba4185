-- Modes of which no two are equivalent (own): then equal modes have equal numbers, and shapes can be read as they stand.
use Rattle.std.specs.Prelude.{◌≡◌, ◌<◌, ◌≤◌, ◌↔◌, ℕ, List, length, map, true, false, nat_eq, slice_index_or}
use Rattle.std.specs.List.{Contains, IsDistinct}
use Rattle.std.specs.List.Sorted.{IsStrictlyIncreasing}
use Rattle.a68_equiv.specs.declared.mode.Mode.{Mode}
use Rattle.a68_equiv.specs.Related.{as_it_stands, without_flex}
use Rattle.a68_equiv.specs.Unfolding.{unfolded, leads_within, is_union, Equivalent, IsMember}
use Rattle.a68_modes.specs.Nodes.{shape_at, HoldsNodes}
use Rattle.a68_modes.specs.declared.shape.Shape.{Shape}
use Rattle.a68_modes.specs.declared.shape.Shape.TheVariants.{Ref, Rows, Struct, Union, Proc, Same, Blank}
use Rattle.a68_modes.specs.declared.standard.TheConstants.{STANDARD}

-- a shape that is no mode word and not blank; the members of a union are neither unions nor mode words, and each stands once
abbrev pub IsBare : List Shape → Shape → Type 0
IsBare nodes (Union members) = IsDistinct nat_eq members × ((x : ℕ) → Contains members x → leads_within (shape_at nodes x) ≡ false)
IsBare nodes (Same m) = ⊥
IsBare nodes Blank = ⊥
IsBare nodes shape = Unit {0}

pub record AreClean (nodes : List Shape) : Type 0 where
  pub holds : HoldsNodes nodes
  pub bare : (m : ℕ) → m < length nodes → IsBare nodes (shape_at nodes m)
  pub apart : (a b : ℕ) → a < length nodes → b < length nodes → Equivalent nodes (as_it_stands a) (as_it_stands b) → a ≡ b

-- a shape with other numbers for the modes within it
abbrev pub renumbered : (ℕ → ℕ) → Shape → Shape
renumbered to (Ref m) = Ref (to m)
renumbered to (Rows dims flex m) = Rows dims flex (to m)
renumbered to (Struct fields) = Struct (map (λ field. (field.0, to field.1)) fields)
renumbered to (Union members) = Union (map to members)
renumbered to (Proc params m) = Proc (map to params) (to m)
renumbered to (Same m) = Same (to m)
renumbered to shape = shape

-- a union of what the members of a union have for numbers
abbrev pub IsUnionImage : List Shape → (ℕ → ℕ) → (m : ℕ) → Shape → Type 0
IsUnionImage nodes to m (Union images) = (y : ℕ) → Contains images y ↔ ((x : ℕ) × IsMember nodes m x × (to x ≡ y))
IsUnionImage nodes to m shape = ⊥

-- the image of a mode's shape: its parts go by the numbers; the members of a union are those that are spread out
abbrev pub IsImage : List Shape → (ℕ → ℕ) → (m : ℕ) → Shape → Shape → Type 0
IsImage nodes to m (Union members) image = IsUnionImage nodes to m image
IsImage nodes to m shape image = image ≡ renumbered to shape

-- the members of unions have no FLEX down to the next REF or PROC
abbrev pub UnionsHaveNoFlex : List Shape → Type 0
UnionsHaveNoFlex nodes = (m x : ℕ) → m < length nodes → is_union (unfolded nodes m) ≡ true → IsMember nodes m x → Equivalent nodes (without_flex x) (as_it_stands x)

-- the same of modes none of which is a mode word, so that only unions have members
abbrev pub CleanMembersHaveNoFlex : List Shape → Type 0
CleanMembersHaveNoFlex nodes = (m x : ℕ) → m < length nodes → IsMember nodes m x → Equivalent nodes (without_flex x) (as_it_stands x)

-- the members of a union stand in the order of their numbers
abbrev pub IsRising : Shape → Type 0
IsRising (Union members) = IsStrictlyIncreasing members
IsRising shape = Unit {0}

-- Clean modes that mean the same as others, by the number of each. They are one: the numbers go by the first old node of each, and
-- the members of unions by their numbers.
pub record CleansTo (old : List Shape) (to : ℕ → ℕ) (new : List Shape) : Type 0 where
  pub clean : AreClean new
  pub there : (m : ℕ) → m < length old → to m < length new
  pub onto : (j : ℕ) → j < length new → (m : ℕ) × (m < length old) × (to m ≡ j)
  pub same : (a b : ℕ) → a < length old → b < length old → (to a ≡ to b) ↔ Equivalent old (as_it_stands a) (as_it_stands b)
  pub images : (m : ℕ) → m < length old → IsImage old to m (unfolded old m) (shape_at new (to m))
  -- each number that is less than a node's is that of an earlier node
  pub in_order : (m j : ℕ) → m < length old → j < to m → (a : ℕ) × (a < m) × (to a ≡ j)
  -- the union among the standard modes has an order of its own
  pub rising : (j : ℕ) → STANDARD ≤ j → j < length new → IsRising (shape_at new j)

-- a node of a mode: the mode as it stands there is equivalent
pub record IsNode (nodes : List Shape) (mode : Mode) (id : ℕ) : Type 0 where
  pub there : id < length nodes
  pub equivalent : Equivalent nodes (as_it_stands id) mode

-- for each mode a node of it without its FLEX down to the next REF or PROC
pub record AreFixed (nodes : List Shape) (fixed : List ℕ) : Type 0 where
  pub long : length fixed ≡ length nodes
  pub each : (m : ℕ) → m < length nodes → IsNode nodes (without_flex m) (slice_index_or fixed m 0)
