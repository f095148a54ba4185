-- A tree whose formulas are shaped by the priorities of their signs (Report, 5.4.2).
use Rattle.std.specs.Prelude.{◌≡◌, ◌<◌, ◌≤◌, ◌+◌, ◌⊎◌, ℕ, true, false, List, length, Some, slice_get}
use Rattle.a68_op_ident.specs.Formulas.{EachOf, is_formula, signs, ReadsParts, HasItsPriority, IsRanked, Placed}
use Rattle.a68_op_ident.specs.declared.formula.Operand.{Operand}
use Rattle.a68_op_ident.specs.declared.formula.FormulaPart.{FormulaPart}
use Rattle.a68_tree.specs.Trees.{Built, IsSound}
use Rattle.a68_tree.specs.declared.node.Node.{Node}

-- The nodes of a formula's signs stand from its own number on: each sign one number before its own, so that the number
-- of the last sign stays as it was. Every dyadic sign has a priority.
pub record IsShaped (flat : Built) (shaped : List Node) (bound formula : ℕ) (parts : List ℕ) : Type 0 where
  pub tokens : List FormulaPart
  pub reads : ReadsParts flat.nodes (formula + 1) false parts tokens
  pub priorities : EachOf (HasItsPriority flat) tokens
  pub ranked : EachOf IsRanked tokens
  pub within : formula + signs tokens < bound
  pub top : Operand
  pub placed : Placed shaped tokens formula (formula + signs tokens) top

-- the parts of the node are no operands and signs of a formula
abbrev pub IsUnread : List Node → (formula : ℕ) → Type 0
IsUnread nodes formula = (n : Node) (tokens : List FormulaPart) → slice_get nodes formula ≡ Some n → ReadsParts nodes (formula + 1) false n.parts tokens → ⊥

-- a formula that stays as it was, since its parts do not read so
pub record IsLeft (flat : Built) (shaped : List Node) (formula : ℕ) (node : Node) : Type 0 where
  pub unread : IsUnread flat.nodes formula
  pub same : slice_get shaped formula ≡ Some node

-- One of the places where the nodes of a formula's signs stand: of a formula that can be read, as many places as it has
-- signs, from its own on.
pub record IsOperatorNode (flat : Built) (id : ℕ) : Type 0 where
  pub formula : ℕ
  pub node : Node
  pub there : slice_get flat.nodes formula ≡ Some node
  pub formed : is_formula node.kind ≡ true
  pub tokens : List FormulaPart
  pub reads : ReadsParts flat.nodes (formula + 1) false node.parts tokens
  pub from : formula ≤ id
  pub below : id < formula + signs tokens

-- As the flat tree, but that the formulas among its first nodes are shaped where they can be read: each of these nodes
-- is one of such a formula, or it is as it was.
pub record ShapedTo (flat : Built) (shaped : List Node) (bound : ℕ) : Type 0 where
  pub long : length shaped ≡ length flat.nodes
  pub kept : (id : ℕ) (n : Node) → id < bound → slice_get flat.nodes id ≡ Some n → IsOperatorNode flat id ⊎ (slice_get shaped id ≡ Some n)
  pub formulas : (id : ℕ) (n : Node) → id < bound → slice_get flat.nodes id ≡ Some n → is_formula n.kind ≡ true → IsShaped flat shaped bound id n.parts ⊎ IsLeft flat shaped id n

-- As the flat tree, but that its formulas are shaped where they can be read.
pub record Shaped (flat shaped : Built) : Type 0 where
  pub nodes : ShapedTo flat shaped.nodes (length flat.nodes)
  pub spellings : shaped.spellings ≡ flat.spellings
  pub starts : shaped.starts ≡ flat.starts
  pub sound : IsSound shaped.nodes (length shaped.spellings)

-- a node of the list begins at this byte
pub record IsBegun (nodes : List Node) (place : ℕ) : Type 0 where
  pub id : ℕ
  pub node : Node
  pub there : slice_get nodes id ≡ Some node
  pub here : place ≡ node.span.from
