-- Inner: the headline does not rest on this file.
-- The graph in which modes are compared: a number for each mode with and without its FLEX.
use Rattle.std.specs.Prelude.{◌≡◌, ◌<◌, ◌≤◌, ◌+◌, ◌*◌, ◌/◌, ◌%◌, nat_eq, ◌↔◌, ℕ, List, [], ◌∷◌, length, map, slice_index, Bool, true, false}
use Rattle.std.specs.List.{All, Contains}
use Rattle.a68_modes.specs.declared.shape.Shape.{Shape}
use Rattle.a68_modes.specs.declared.shape.Shape.TheVariants.{Void, Int, Long, Bool as bool_shape, Char, Bits, Sema, Layout, Ref, Rows, Struct, Union, Proc, Same, Blank}
use Rattle.a68_modes.specs.Nodes.{shape_at, parts_of}
use Rattle.a68_equiv.specs.declared.mode.Mode.{Mode}
use Rattle.a68_partition.specs.Rows.{row_at, Stands}
use Rattle.a68_equiv.specs.Spread.{IsSpread}
use Rattle.a68_equiv.specs.Unfolding.{behind, unfolded, leads_within, flex_left, passes_on, SameConstructor, is_union, IsInMode, IsModePart}

abbrev pub bit : Bool → ℕ
bit true = 1
bit false = 0

-- the number of a mode
abbrev pub number_of : Mode → ℕ
number_of m = 2 * m.id + bit m.fixed

abbrev pub mode_of : ℕ → Mode
mode_of i = record { id = i / 2; fixed = nat_eq (i % 2) 1 }

-- each node with the one behind its mode words
pub record AreBehind (nodes : List Shape) (heads : List ℕ) : Type 0 where
  pub long : length heads ≡ length nodes
  pub each : (m : ℕ) → m < length nodes → slice_index heads m ≡ behind nodes (length nodes) m
  pub there : (m : ℕ) → m < length nodes → slice_index heads m < length nodes

-- a constructor as a list of numbers
abbrev pub code_of : Bool → Shape → List ℕ
code_of fixed Void = 0 ∷ []
code_of fixed Int = 1 ∷ []
code_of fixed bool_shape = 2 ∷ []
code_of fixed Char = 3 ∷ []
code_of fixed Bits = 4 ∷ []
code_of fixed Long = 14 ∷ []
code_of fixed Sema = 5 ∷ []
code_of fixed Layout = 6 ∷ []
code_of fixed (Ref m) = 7 ∷ []
code_of fixed (Rows dims flex m) = 8 ∷ dims ∷ bit (flex_left fixed flex) ∷ []
code_of fixed (Struct fields) = 9 ∷ map (λ field. field.0) fields
code_of fixed (Union members) = 10 ∷ []
code_of fixed (Proc params m) = 11 ∷ map (λ p. 0) params
code_of fixed (Same m) = 12 ∷ []
code_of fixed Blank = 13 ∷ []

-- the code of the constructor of a mode
abbrev pub HasCode : List Shape → ℕ → List ℕ → Type 0
HasCode nodes i code = code ≡ code_of (mode_of i).fixed (unfolded nodes (mode_of i).id)

-- none of these modes is a mode word or a union
abbrev pub ArePlain : List Shape → List ℕ → Type 0
ArePlain nodes members = (k : ℕ) → k < length members → leads_within (shape_at nodes (slice_index members k)) ≡ false

-- these nodes stand in a node of this shape
abbrev pub AreAt : List Shape → ℕ → Shape → List ℕ → Type 0
AreAt nodes m shape items = (place x : ℕ) → Stands (is_union shape) items place x ↔ IsInMode nodes m shape place x

-- the row of a mode has the numbers of the modes that stand in it
pub record IsRowOf (nodes : List Shape) (a : Mode) (row : Bool × List ℕ) : Type 0 where
  pub all : (place : ℕ) (p : Mode) → IsModePart nodes a place p → Stands row.0 row.1 place (number_of p)
  pub only : (place w : ℕ) → Stands row.0 row.1 place w → (p : Mode) × (p.id < length nodes) × IsModePart nodes a place p × (w ≡ number_of p)

-- the rows of the first so many modes
pub record AreRows (nodes : List Shape) (n : ℕ) (rows : List (Bool × List ℕ)) : Type 0 where
  pub long : length rows ≡ n
  pub rows_are : (i : ℕ) → i < n → IsRowOf nodes (mode_of i) (row_at rows i)
  pub kinds : (i : ℕ) → i < n → (row_at rows i).0 ≡ is_union (unfolded nodes (mode_of i).id)

-- the constructors by number, and the rows, of all modes with and without their FLEX
pub record IsGraphOf (nodes : List Shape) (heads : List ℕ) (rows : List (Bool × List ℕ)) : Type 0 where
  pub heads_long : length heads ≡ 2 * length nodes
  pub rows_long : length rows ≡ 2 * length nodes
  pub low : (v : ℕ) → v < length heads → slice_index heads v ≤ v
  pub heads_tell : (a b : Mode) → a.id < length nodes → b.id < length nodes → (slice_index heads (number_of a) ≡ slice_index heads (number_of b)) ↔ SameConstructor nodes a b
  pub rows_are : (a : Mode) → a.id < length nodes → IsRowOf nodes a (row_at rows (number_of a))
  pub kinds : (a : Mode) → a.id < length nodes → (row_at rows (number_of a)).0 ≡ is_union (unfolded nodes a.id)
  pub unions : (a b : Mode) → a.id < length nodes → b.id < length nodes → SameConstructor nodes a b → (row_at rows (number_of a)).0 ≡ (row_at rows (number_of b)).0

-- these stand in a node of this shape, which is behind all mode words; start are the modes to which the node leads by
-- mode words and unions
abbrev pub ArePartsOf : List Shape → List ℕ → Shape → List ℕ → Type 0
ArePartsOf nodes start (Union members) items = (x : ℕ) → Contains items x ↔ IsSpread nodes start x
ArePartsOf nodes start shape items = items ≡ parts_of shape

-- the row of such a node
pub record IsShapeRow (nodes : List Shape) (start : List ℕ) (shape : Shape) (fixed : Bool) (row : Bool × List ℕ) : Type 0 where
  pub kind : row.0 ≡ is_union shape
  pub items : List ℕ
  pub parts : ArePartsOf nodes start shape items
  pub below : All (λ m. m < length nodes) items
  pub numbers : row.1 ≡ map (λ m. number_of (record { id = m; fixed = passes_on fixed shape })) items
