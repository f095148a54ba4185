-- Inner: the headline does not rest on this file.
-- What mode words and unions lead to.
use Rattle.std.specs.Prelude.{◌≡◌, ◌<◌, ◌≤◌, ◌⊎◌, ◌↔◌, ℕ, List, length, map, slice_index, false, nat_eq}
use Rattle.std.specs.List.{Contains, IsDistinct, list_any}
use Rattle.a68_modes.specs.declared.shape.Shape.{Shape}
use Rattle.a68_modes.specs.Nodes.{shape_at}
use Rattle.a68_equiv.specs.declared.steps.Inward.TheVariants.{WithinUnions}
use Rattle.a68_equiv.specs.Unfolding.{leads_within}
use Rattle.a68_equiv.specs.Ways.{steps_of, Way}

-- x is one of these modes, or one of them leads to it by mode words and unions
pub record IsLed (nodes : List Shape) (start : List ℕ) (x : ℕ) : Type 0 where
  pub from : ℕ
  pub begun : Contains start from
  pub way : (from ≡ x) ⊎ Way (map (steps_of WithinUnions) nodes) from x

-- and it is neither a mode word nor a union
pub record IsSpread (nodes : List Shape) (start : List ℕ) (x : ℕ) : Type 0 where
  pub led : IsLed nodes start x
  pub last : leads_within (shape_at nodes x) ≡ false

-- the items are those among these modes that are neither a mode word nor a union
abbrev pub AreLast : List Shape → List ℕ → List ℕ → Type 0
AreLast nodes found items = (x : ℕ) → Contains items x ↔ (Contains found x × (leads_within (shape_at nodes x) ≡ false))

-- a list that names each mode once, and a set of the same modes
pub record AreSameModes (list set : List ℕ) : Type 0 where
  pub distinct : IsDistinct nat_eq list
  pub same : (x : ℕ) → list_any (nat_eq x) set ≡ list_any (nat_eq x) list

-- behind the old modes stand those of these that were not among them
pub record NotesModes (modes old new : List ℕ) : Type 0 where
  pub longer : length old ≤ length new
  pub kept : (k : ℕ) → k < length old → slice_index new k ≡ slice_index old k
  pub all : (x : ℕ) → Contains modes x → Contains new x
  pub only : (x : ℕ) → Contains new x → Contains old x ⊎ Contains modes x
