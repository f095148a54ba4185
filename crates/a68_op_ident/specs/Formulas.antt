-- A formula as it is read: its operands and signs in order of text; and how its signs stand over one another (Report, 5.4.2).
use Rattle.std.specs.Prelude.{◌≡◌, ◌≤◌, ◌<◌, ◌+◌, ℕ, Bool, true, false, nat_eq, List, [], ◌∷◌, ◌++◌, None, Some, slice_get, if◌then◌else◌}
use Rattle.std.specs.Option.{option_and_then}
use Rattle.std.specs.declared.option.Option.{Option}
use Rattle.a68_op_ident.specs.declared.formula.Operand.{Operand}
use Rattle.a68_op_ident.specs.declared.formula.Sign.{Sign}
use Rattle.a68_op_ident.specs.declared.formula.FormulaPart.{FormulaPart}
use Rattle.a68_op_ident.specs.declared.formula.FormulaPart.TheVariants as token
use Rattle.a68_ranges.specs.Standard.{IsPriorityOf}
use Rattle.a68_tree.specs.Trees.{Built}
use Rattle.a68_tree.specs.declared.kind.NodeKind.{NodeKind}
use Rattle.a68_tree.specs.declared.kind.NodeKind.TheVariants as kind
use Rattle.a68_tree.specs.declared.node.Node.{Node}

-- that holds of each of them
abbrev pub EachOf : {X : Type 0} → (X → Type 0) → List X → Type 0
EachOf P [] = Unit {0}
EachOf P (x ∷ xs) = P x × EachOf P xs

abbrev pub is_formula : NodeKind → Bool
is_formula kind.Formula = true
is_formula _ = false

abbrev pub is_sign : NodeKind → Bool
is_sign kind.Sign = true
is_sign _ = false

abbrev pub sign_of : (id : ℕ) → Node → Option Sign
sign_of id n = if is_sign n.kind then Some (record { id = id; name = n.name; from = n.span.from }) else None

-- the sign that stands at a node
abbrev pub sign_at : List Node → (id : ℕ) → Option Sign
sign_at nodes id = option_and_then (sign_of id) (slice_get nodes id)

abbrev pub operand_of : (id : ℕ) → Node → Option Operand
operand_of id n = if is_sign n.kind then None else Some (record { id = id; span = n.span })

-- the operand that stands at a node
abbrev pub operand_at : List Node → (id : ℕ) → Option Operand
operand_at nodes id = option_and_then (operand_of id) (slice_get nodes id)

-- the sign of a part, where that is the next one to come
abbrev pub next_sign : List Node → (from part : ℕ) → Option Sign
next_sign nodes from part = if nat_eq part from then sign_at nodes part else None

abbrev pub is_operand : FormulaPart → Bool
is_operand (token.Operand o) = true
is_operand _ = false

abbrev pub signs_of : FormulaPart → ℕ
signs_of (token.Operand o) = 0
signs_of _ = 1

-- how many signs there are
abbrev pub signs : List FormulaPart → ℕ
signs [] = 0
signs (t ∷ ts) = signs_of t + signs ts

-- What a part is: a sign behind an operand is dyadic, every other one monadic; two operands do not meet. The signs of a
-- formula stand one behind the other in the list of nodes, and `from` is the next one.
abbrev pub IsToken : List Node → (from : ℕ) → (after_operand : Bool) → (part : ℕ) → FormulaPart → Type 0
IsToken nodes from false part (token.Operand o) = operand_at nodes part ≡ Some o
IsToken nodes from false part (token.Monad s) = next_sign nodes from part ≡ Some s
IsToken nodes from true part (token.Dyad s priority) = next_sign nodes from part ≡ Some s
IsToken nodes from _ part _ = ⊥

-- the parts of a formula, one by one; the last one is an operand
abbrev pub ReadsParts : List Node → (from : ℕ) → (after_operand : Bool) → (parts : List ℕ) → List FormulaPart → Type 0
ReadsParts nodes from after [] [] = after ≡ true
ReadsParts nodes from after (p ∷ ps) (t ∷ ts) = IsToken nodes from after p t × ReadsParts nodes (from + signs_of t) (is_operand t) ps ts
ReadsParts nodes from after _ _ = ⊥

-- a dyadic sign has the priority that is declared for it about its node, or none where none is
abbrev pub HasItsPriority : Built → FormulaPart → Type 0
HasItsPriority tree (token.Dyad s priority) = IsPriorityOf tree s.id s.name priority
HasItsPriority tree _ = Unit {0}

-- a dyadic sign has a priority
abbrev pub IsRanked : FormulaPart → Type 0
IsRanked (token.Dyad s None) = ⊥
IsRanked _ = Unit {0}

abbrev pub priority_of : FormulaPart → Option ℕ
priority_of (token.Dyad s priority) = priority
priority_of _ = None

abbrev pub FromPriority : (lowest : ℕ) → Option ℕ → Type 0
FromPriority lowest None = Unit {0}
FromPriority lowest (Some p) = lowest ≤ p

-- no dyadic sign of a lower priority
abbrev pub BindsFrom : (lowest : ℕ) → FormulaPart → Type 0
BindsFrom lowest t = FromPriority lowest (priority_of t)

abbrev pub AbovePriority : (bound : ℕ) → Option ℕ → Type 0
AbovePriority bound None = Unit {0}
AbovePriority bound (Some p) = bound < p

-- a dyadic sign has a higher priority
abbrev pub BindsAbove : (bound : ℕ) → FormulaPart → Type 0
BindsAbove bound t = AbovePriority bound (priority_of t)

-- no dyadic sign with a priority
abbrev pub BindsClosest : FormulaPart → Type 0
BindsClosest t = priority_of t ≡ None

-- a sign over one operand: from its own first byte to behind its operand
abbrev pub monadic_node : Sign → (under : Operand) → Node
monadic_node s under = record { kind = kind.Monadic; span = record { from = s.from; to = under.span.to }; name = s.name; parts = under.id ∷ [] }

-- a sign over two operands: from the first byte of the left one to behind the right one
abbrev pub dyadic_node : Sign → (left right : Operand) → Node
dyadic_node s left right = record { kind = kind.Dyadic; span = record { from = left.span.from; to = right.span.to }; name = s.name; parts = left.id ∷ right.id ∷ [] }

-- a node as an operand
abbrev pub standing : (id : ℕ) → Node → Operand
standing id n = record { id = id; span = n.span }

-- These operands and signs stand in the list of nodes: the nodes of the signs from `id` up to `next`, each before those
-- below it, and `top` over all. A monadic sign stands over what is behind it up to the end of that operand, and binds
-- closer than any dyadic sign. A dyadic sign stands over no lower priority on its left, and over higher ones alone on its
-- right.
pub data Placed (nodes : List Node) : List FormulaPart → (id next : ℕ) → (top : Operand) → Type 0 where
  alone : {id : ℕ} (o : Operand) → Placed nodes (token.Operand o ∷ []) id id o
  under : {ts : List FormulaPart} {id next : ℕ} (s : Sign) (o : Operand) → EachOf BindsClosest ts → slice_get nodes id ≡ Some (monadic_node s o)
      → Placed nodes ts (id + 1) next o → Placed nodes (token.Monad s ∷ ts) id next (standing id (monadic_node s o))
  over : {ts : List FormulaPart} {id next : ℕ} (left right : List FormulaPart) (s : Sign) (priority middle : ℕ) (a b : Operand)
      → ts ≡ left ++ token.Dyad s (Some priority) ∷ right → EachOf (BindsFrom priority) left → EachOf (BindsAbove priority) right
      → slice_get nodes id ≡ Some (dyadic_node s a b)
      → Placed nodes left (id + 1) middle a → Placed nodes right middle next b → Placed nodes ts id next (standing id (dyadic_node s a b))
