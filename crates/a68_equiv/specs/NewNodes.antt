-- Inner: the headline does not rest on this file.
-- What is found of a shape over nodes that are there, and what a new node adds to the classes.
use Rattle.std.specs.Prelude.{◌≡◌, ◌<◌, ◌+◌, ◌*◌, ◌++◌, ◌∷◌, [], ℕ, List, Vec, true, false, length}
use Rattle.std.specs.Global.{Global}
use Rattle.a68_modes.specs.declared.shape.Shape.{Shape}
use Rattle.a68_equiv.specs.declared.interning.NewKeys.{NewKeys}
use Rattle.a68_equiv.specs.declared.interning.Found.{Found}
use Rattle.a68_equiv.specs.declared.interning.Found.TheVariants.{Old, New}
use Rattle.a68_equiv.specs.Classes.{IsAlready, IsOldNode}
use Rattle.a68_equiv.specs.ModeKeys.{IsNewKey}
use Rattle.a68_partition.specs.Rounds.{IsNumbered}

-- the keys of a new node of this shape, where no old one is equivalent
pub record AreNewKeys (nodes : List Shape) (classes : List ℕ) (shape : Shape) (keys : NewKeys) : Type 0 where
  -- the key of the mode as it stands, and the same once more
  pub key : IsNewKey nodes classes shape false keys.key.items
  pub again : keys.again.items ≡ keys.key.items
  -- the key of the mode without its FLEX
  pub fixed : IsNewKey nodes classes shape true keys.fixed.items
  pub none : (a : ℕ) → a < length nodes → IsAlready nodes shape a → ⊥

-- the first old node that is equivalent, or the keys of a new one where none is
abbrev pub IsNodeFound : List Shape → List ℕ → Shape → Found → Type 0
IsNodeFound nodes classes shape (Old id) = IsOldNode nodes nodes shape id
IsNodeFound nodes classes shape (New keys) = AreNewKeys nodes classes shape keys

-- a node of these keys joins the classes, by two numbers, the table of classes, by two keys, and the table of nodes
pub record IsJoined (keys : NewKeys) (id : ℕ) (classes after : List ℕ) (by_key now_by_key nodes now_nodes : List (Vec ℕ Global × ℕ)) : Type 0 where
  -- the class of the mode as it stands, and of the mode without its FLEX
  pub class : ℕ
  pub without_flex : ℕ
  -- the node that is found by the key
  pub node : ℕ
  -- the table of classes once it has the first key
  pub between : List (Vec ℕ Global × ℕ)
  pub one : IsNumbered by_key between keys.key.items (2 * id) class
  pub other : IsNumbered between now_by_key keys.fixed.items (2 * id + 1) without_flex
  pub found : IsNumbered nodes now_nodes keys.again.items id node
  pub added : after ≡ (classes ++ class ∷ []) ++ without_flex ∷ []
