-- Inner: the headline does not rest on this file.
-- Formulas on the way to their shape (own).
use Rattle.std.specs.Prelude.{◌≡◌, ◌≤◌, ◌<◌, ◌^◌, ℕ, Bool, true, false, nat_le, List, [], ◌∷◌, length, None, Some, slice_get, if◌then◌else◌}
use Rattle.std.specs.Option.{option_and_then}
use Rattle.std.specs.declared.option.Option.{Option}
use Rattle.a68_op_ident.specs.Formulas.{priority_of}
use Rattle.a68_op_ident.specs.Lacking.{LacksPriority}
use Rattle.a68_op_ident.specs.Shapes.{ShapedTo}
use Rattle.a68_op_ident.specs.declared.formula.FormulaPart.{FormulaPart}
use Rattle.a68_op_ident.specs.declared.formula.FormulaPart.TheVariants as token
use Rattle.a68_ranges.specs.Nodes.{place_at}
use Rattle.a68_tree.specs.Trees.{Built, IsSound, AllBetween}
use Rattle.a68_tree.specs.declared.node.Node.{Node}

-- operands and signs in an order that a formula can have
abbrev pub Alternates : (after_operand : Bool) → List FormulaPart → Type 0
Alternates after [] = after ≡ true
Alternates false (token.Operand o ∷ ts) = Alternates true ts
Alternates false (token.Monad s ∷ ts) = Alternates false ts
Alternates true (token.Dyad s p ∷ ts) = Alternates false ts
Alternates _ _ = ⊥

-- an operand stands behind the last sign, within the list of nodes
abbrev pub StandsBetween : (last count : ℕ) → FormulaPart → Type 0
StandsBetween last count (token.Operand o) = (last < o.id) × (o.id < count)
StandsBetween last count _ = Unit {0}

-- whether a sign of that priority stands over one of that priority before it
abbrev pub stands_over : Option ℕ → Option ℕ → Bool
stands_over None earlier = false
stands_over (Some p) None = true
stands_over (Some p) (Some q) = nat_le p q

-- of the first tokens, the one that stands over all others: the last sign of the lowest priority; else the first token
pub record IsRoot (tokens : List FormulaPart) (count root : ℕ) : Type 0 where
  pub below : root < count
  pub left : (k : ℕ) (t r : FormulaPart) → k < root → slice_get tokens k ≡ Some t → slice_get tokens root ≡ Some r → stands_over (priority_of r) (priority_of t) ≡ true
  pub right : (k : ℕ) (t r : FormulaPart) → root < k → k < count → slice_get tokens k ≡ Some t → slice_get tokens root ≡ Some r → stands_over (priority_of t) (priority_of r) ≡ false

-- the nodes are the same but for those from one place up to another
pub record Same (old new : List Node) (from to : ℕ) : Type 0 where
  pub long : length new ≡ length old
  pub before : (k : ℕ) → k < from → slice_get new k ≡ slice_get old k
  pub behind : (k : ℕ) → to ≤ k → slice_get new k ≡ slice_get old k

-- no more nodes than have numbers, each before its parts
pub record IsOrdered (nodes : List Node) : Type 0 where
  pub few : length nodes < 2 ^ 32
  pub behind : (i : ℕ) (n : Node) → slice_get nodes i ≡ Some n → AllBetween i (length nodes) n.parts

-- the place of a dyadic sign without a priority
abbrev pub late_of : FormulaPart → Option ℕ
late_of (token.Dyad s None) = Some s.from
late_of _ = None

-- the lesser one of two
abbrev pub lesser : Option ℕ → Option ℕ → Option ℕ
lesser None other = other
lesser (Some a) None = Some a
lesser (Some a) (Some b) = if nat_le a b then Some a else Some b

-- the least number for which that holds, if any
abbrev pub IsLeastNumber : (ℕ → Type 0) → Option ℕ → Type 0
IsLeastNumber P None = (place : ℕ) → P place → ⊥
IsLeastNumber P (Some place) = P place × ((other : ℕ) → P other → place ≤ other)

-- one of the first tokens lacks a priority there
abbrev pub IsLateToken : List FormulaPart → (count place : ℕ) → Type 0
IsLateToken tokens count place = (k : ℕ) × (k < count) × (option_and_then late_of (slice_get tokens k) ≡ Some place)

-- a sign of a formula from one node up to another lacks a priority there
pub record IsLatePlace (flat : Built) (from to place : ℕ) : Type 0 where
  pub sign : ℕ
  pub lacks : LacksPriority flat sign
  pub begin : from ≤ lacks.formula
  pub end : lacks.formula < to
  pub here : place ≡ place_at flat sign

-- A tree whose first nodes are shaped, unless a sign has no priority; the others are as they were.
pub record Going (flat : Built) (nodes : List Node) (id : ℕ) : Type 0 where
  pub long : length nodes ≡ length flat.nodes
  pub shaped : ((sign : ℕ) → LacksPriority flat sign → ⊥) → ShapedTo flat nodes id
  pub rest : (k : ℕ) → id ≤ k → slice_get nodes k ≡ slice_get flat.nodes k
  pub sound : IsSound nodes (length flat.spellings)
