-- The frames that a routine text uses from outside (own; the scope of a routine, Report 7.2.2).
use Rattle.std.specs.Prelude.{◌≡◌, ◌≤◌, ◌+◌, ℕ, List, [], ◌∷◌, slice_get, Option, Some, None}
use Rattle.a68_frames.specs.Frames.{frames_of, slots_in}
use Rattle.a68_ranges.specs.Nodes.{kind_at, name_at}
use Rattle.a68_ranges.specs.Surroundings.{Lies}
use Rattle.a68_ranges.specs.Definitions.{IsWordDefinition}
use Rattle.a68_ranges.specs.declared.sort.IndicatorKind.TheVariants as sorts
use Rattle.a68_tree.specs.Trees.{Built}
use Rattle.a68_tree.specs.declared.kind.NodeKind.TheVariants as kind

-- so many frames lie inside the innermost of these ranges that has it
pub data Innermost (tree : Built) (Has : ℕ → Type 0) : List ℕ → (hops : ℕ) → Type 0 where
  here : {range : ℕ} {more : List ℕ} → Has range → Innermost tree Has (range ∷ more) 0
  further : {range hops : ℕ} {more : List ℕ} → (Has range → ⊥) → Innermost tree Has more hops → Innermost tree Has (range ∷ more) (hops + frames_of tree (range ∷ []))

-- One of these ranges uses it from outside: no range up to it has it, and the innermost one outside that has it stands
-- so many frames outwards.
pub data Uses (tree : Built) (Has : ℕ → Type 0) : List ℕ → (user hops : ℕ) → Type 0 where
  outside : {user hops : ℕ} {more : List ℕ} → (Has user → ⊥) → Innermost tree Has more hops → Uses tree Has (user ∷ more) user hops
  within : {range user hops : ℕ} {more : List ℕ} → (Has range → ⊥) → Uses tree Has more user hops → Uses tree Has (range ∷ more) user hops

-- the range has a slot for that definition
abbrev pub HasSlotFor : Built → (definition range : ℕ) → Type 0
HasSlotFor tree definition range = (slot : ℕ) × (slice_get (slots_in tree range) slot ≡ Some definition)

-- a routine text uses a definition from outside at a node, as an operator that is applied there: it is one of the ranges
-- about the node
pub record UsesSlotAt (tree : Built) (at definition text hops : ℕ) : Type 0 where
  pub ranges : List ℕ
  pub lies : Lies tree at ranges
  pub uses : Uses tree (HasSlotFor tree definition) ranges text hops

-- a routine text uses from outside the definition of the tag that is applied at a node; a label, which has no slot, is never
-- used so
pub record UsesTagAt (tree : Built) (at text hops : ℕ) : Type 0 where
  pub definition : ℕ
  pub tag : kind_at tree at ≡ kind.Tag
  pub applied : IsWordDefinition tree at sorts.Tag (name_at tree at) definition
  pub uses : UsesSlotAt tree at definition text hops

-- a routine text uses some tag from outside, also one in bounds that stand within it
abbrev pub UsesTag : Built → (text hops : ℕ) → Type 0
UsesTag tree text hops = (at : ℕ) × UsesTagAt tree at text hops

-- how many frames outwards the newest one stands that is used; none but the standard environ
abbrev pub IsNeed : (Used : ℕ → Type 0) → Option ℕ → Type 0
IsNeed Used (Some hops) = Used hops × ((other : ℕ) → Used other → hops ≤ other)
IsNeed Used None = (hops : ℕ) → Used hops → ⊥
