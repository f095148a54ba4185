-- Inner: the headline does not rest on this file.
-- Classes of modes.
use Rattle.std.specs.Prelude.{◌≡◌, ◌<◌, ◌*◌, ◌↔◌, ◌++◌, ◌⊎◌, ℕ, List, [], ◌∷◌, Vec, length, slice_index}
use Rattle.std.specs.Global.{Global}
use Rattle.a68_modes.specs.declared.shape.Shape.{Shape}
use Rattle.a68_equiv.specs.declared.mode.Mode.{Mode}
use Rattle.a68_equiv.specs.Unfolding.{Alike, Equivalent}
use Rattle.a68_equiv.specs.Graph.{number_of}
use Rattle.a68_equiv.specs.ModeKeys.{IsModeKey, HasModeKey}
use Rattle.a68_equiv.specs.Related.{as_it_stands}
use Rattle.a68_partition.specs.Rounds.{at_key, SoFar}

-- the class of a mode
abbrev pub class_of : List ℕ → Mode → ℕ
class_of classes m = slice_index classes (number_of m)

-- two modes have one class exactly where they are equivalent
pub record AreExact (nodes : List Shape) (classes : List ℕ) : Type 0 where
  pub long : length classes ≡ 2 * length nodes
  pub exact : (a b : Mode) → a.id < length nodes → b.id < length nodes → (class_of classes a ≡ class_of classes b) ↔ Equivalent nodes a b
  -- the unfoldings to some depth tell all classes apart
  pub told_apart : (depth : ℕ) × ((a b : Mode) → a.id < length nodes → b.id < length nodes → Alike nodes depth a b → class_of classes a ≡ class_of classes b)

-- classes, and the tables in which classes and nodes are found by the keys of modes
pub record Classified : Type 0 where
  -- for each node two numbers: the class of the mode as it stands, and of the mode without its FLEX
  pub of : List ℕ
  pub by_key : List (Vec ℕ Global × ℕ)
  pub nodes_by_key : List (Vec ℕ Global × ℕ)

-- the classes are exact, and the tables have the key of each mode: a class is the number of its first mode, and a node
-- is found at the key of its mode as it stands unless an earlier node is equivalent
pub record AreKept (nodes : List Shape) (classes : Classified) : Type 0 where
  pub exact : AreExact nodes classes.of
  pub classes_found : SoFar (HasModeKey nodes classes.of) classes.by_key classes.of (2 * length nodes)
  pub firsts : List ℕ
  pub nodes_found : SoFar (λ m key. IsModeKey nodes classes.of (as_it_stands m) key) classes.nodes_by_key firsts (length nodes)

-- two tables in which the same is found at each key; in what order they hold their entries does not matter
abbrev pub FindsSame : List (Vec ℕ Global × ℕ) → List (Vec ℕ Global × ℕ) → Type 0
FindsSame one other = (key : Vec ℕ Global) → at_key one key.items ≡ at_key other key.items

-- the same classes, found at the same keys
pub record AreSame (one other : Classified) : Type 0 where
  pub of : one.of ≡ other.of
  pub by_key : FindsSame one.by_key other.by_key
  pub nodes_by_key : FindsSame one.nodes_by_key other.nodes_by_key

-- an old node is equivalent to a new one of this shape
abbrev pub IsAlready : List Shape → Shape → ℕ → Type 0
IsAlready nodes shape a = Equivalent (nodes ++ shape ∷ []) (as_it_stands a) (as_it_stands (length nodes))

-- the first old node that is equivalent
pub record IsOldNode (nodes after : List Shape) (shape : Shape) (id : ℕ) : Type 0 where
  pub there : id < length nodes
  pub unchanged : after ≡ nodes
  pub equivalent : IsAlready nodes shape id
  pub first : (a : ℕ) → a < id → IsAlready nodes shape a → ⊥

-- a new node behind the others, where no old one is equivalent
pub record IsNewNode (nodes after : List Shape) (shape : Shape) (id : ℕ) : Type 0 where
  pub last : id ≡ length nodes
  pub added : after ≡ nodes ++ shape ∷ []
  pub none : (a : ℕ) → a < length nodes → IsAlready nodes shape a → ⊥

-- the node of a shape over nodes that are there, which may have joined them
abbrev pub IsNodeOf : List Shape → List Shape → Shape → ℕ → Type 0
IsNodeOf nodes after shape id = IsOldNode nodes after shape id ⊎ IsNewNode nodes after shape id
