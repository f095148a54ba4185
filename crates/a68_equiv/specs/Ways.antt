-- Well-formed modes (Report, 7.4).
use Rattle.std.specs.Prelude.{◌<◌, ℕ, List, [], ◌∷◌, length, map, slice_index_or, Option, Some, None}
use Rattle.std.specs.List.{All, Contains}
use Rattle.a68_modes.specs.declared.shape.Shape.{Shape}
use Rattle.a68_modes.specs.declared.shape.Shape.TheVariants.{Ref, Struct, Union, Proc, Same}
use Rattle.a68_modes.specs.Nodes.{parts_of}
use Rattle.a68_equiv.specs.declared.steps.Inward.{Inward}
use Rattle.a68_equiv.specs.declared.steps.Inward.TheVariants.{BesidesNames, BesidesStructures, WithinUnions}

-- the modes within a shape, where the steps to them are taken
abbrev pub steps_of : Inward → Shape → List ℕ
-- no step leads from a REF or a PROC
steps_of BesidesNames (Ref m) = []
steps_of BesidesNames (Proc params m) = []
steps_of BesidesNames shape = parts_of shape
-- no step leads from a STRUCT or from a PROC with parameters
steps_of BesidesStructures (Struct fields) = []
steps_of BesidesStructures (Proc (p ∷ ps) m) = []
steps_of BesidesStructures shape = parts_of shape
-- steps lead from mode words and from unions alone
steps_of WithinUnions (Same m) = m ∷ []
steps_of WithinUnions (Union members) = members
steps_of WithinUnions shape = []

-- the nodes to which a step leads in a graph
abbrev pub row : List (List ℕ) → ℕ → List ℕ
row graph a = slice_index_or graph a []

-- each step leads to a node of the graph
abbrev pub StepsStayInside : List (List ℕ) → Type 0
StepsStayInside graph = (a : ℕ) → a < length graph → All (λ b. b < length graph) (row graph a)

-- a way of one or more steps
pub data Way (graph : List (List ℕ)) : ℕ → ℕ → Type 0 where
  last_step : {a b : ℕ} → Contains (row graph a) b → Way graph a b
  more_steps : {a b c : ℕ} → Contains (row graph a) b → Way graph b c → Way graph a c

-- every way from the mode back to itself passes a REF or a PROC, and passes a STRUCT or a PROC with parameters
pub record IsWellFormed (nodes : List Shape) (m : ℕ) : Type 0 where
  pub names : Way (map (steps_of BesidesNames) nodes) m m → ⊥
  pub structures : Way (map (steps_of BesidesStructures) nodes) m m → ⊥

-- every mode is well formed
abbrev pub AreWellFormed : List Shape → Type 0
AreWellFormed nodes = (m : ℕ) → m < length nodes → IsWellFormed nodes m

-- the place of the first root that is not well formed, or none where all are
abbrev pub IsFirstIllFormed : List Shape → List ℕ → Option ℕ → Type 0
IsFirstIllFormed nodes roots (Some place) =
    (place < length roots) × (IsWellFormed nodes (slice_index_or roots place 0) → ⊥)
    × ((k : ℕ) → k < place → IsWellFormed nodes (slice_index_or roots k 0))
IsFirstIllFormed nodes roots None = (k : ℕ) → k < length roots → IsWellFormed nodes (slice_index_or roots k 0)
