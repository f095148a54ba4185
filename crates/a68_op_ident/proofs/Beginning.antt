-- The nodes of a shaped tree begin where nodes of the flat one do.
use Rattle.std.proofs.Common.{◌≡◌, ℕ, ◌+◌, ◌<◌, ◌≤◌, false, inl, inr, ◌⊎◌, List, [], length, sym, ◌∙◌, ap, subst, arith, Some, slice_get}
use Rattle.std.proofs.lemmas.Option.{slice_get_within, slice_get-get_or}
use Rattle.a68_op_ident.specs.Formulas.{EachOf, Placed, alone, under, over, monadic_node, dyadic_node}
use Rattle.a68_op_ident.specs.Shapes.{Shaped, ShapedTo, IsShaped, IsLeft, IsOperatorNode, IsBegun}
use Rattle.a68_op_ident.specs.declared.formula.Operand.{Operand}
use Rattle.a68_op_ident.specs.declared.formula.FormulaPart.{FormulaPart}
use Rattle.a68_op_ident.specs.declared.formula.FormulaPart.TheVariants as token
use Rattle.a68_op_ident.proofs.Lists.{some_same, eq_or_more}
use Rattle.a68_op_ident.proofs.Parts.{begin_of, all_begun, same_count}
use Rattle.a68_op_ident.proofs.Shaping.{split, here_at, left_of, right_of, lefts, rights}
use Rattle.a68_tree.specs.Trees.{Built}
use Rattle.a68_tree.specs.declared.kind.NodeKind.TheVariants as kind
use Rattle.a68_tree.specs.declared.node.Node.{Node}

moved : {nodes : List Node} {a b : ℕ} → a ≡ b → IsBegun nodes a → IsBegun nodes b
moved {nodes = nodes} e b = subst (IsBegun nodes) e b

-- what is placed begins where a token does
top_begun : {nodes : List Node} {ts : List FormulaPart} {id next : ℕ} {top : Operand} (old : List Node) → Placed nodes ts id next top → EachOf (λ t. IsBegun old (begin_of t)) ts → IsBegun old top.span.from
top_begun old (alone o) are = are.0
top_begun old (under s o c n a) are = are.0
top_begun old (over left right s p middle a b parts l r n x y) are = top_begun old x (lefts (λ t. IsBegun old (begin_of t)) left right (token.Dyad s (Some p)) parts are)

placed_begun : {nodes : List Node} {ts : List FormulaPart} {id next : ℕ} {top : Operand} (old : List Node) → Placed nodes ts id next top → EachOf (λ t. IsBegun old (begin_of t)) ts
    → (k : ℕ) (n : Node) → id ≤ k → k < next → slice_get nodes k ≡ Some n → IsBegun old n.span.from
placed_begun old (alone o) are k n from to at = absurd (omega arith)
placed_begun {nodes = nodes} {id = id} old (under s o c here a) are k n from to at =
    elim (eq_or_more id k from) [
      | inl e ↦ (let is : monadic_node s o ≡ n = some_same (sym here ∙ ap (slice_get nodes) e ∙ at) in moved (ap (λ (m : Node). m.span.from) is) are.0)
      | inr u ↦ placed_begun old a are.1 k n (omega arith) to at
    ]
placed_begun {nodes = nodes} {id = id} old (over left right s p middle a b parts l r here x y) are k n from to at =
    let on_left = lefts (λ t. IsBegun old (begin_of t)) left right (token.Dyad s (Some p)) parts are in
    let on_right = rights (λ t. IsBegun old (begin_of t)) left right (token.Dyad s (Some p)) parts are in
    elim (split k id middle from) [
      | here_at e ↦ (let is : dyadic_node s a b ≡ n = some_same (sym here ∙ ap (slice_get nodes) (sym e) ∙ at) in moved (ap (λ (m : Node). m.span.from) is) (top_begun old x on_left))
      | left_of u v ↦ placed_begun old x on_left k n u v at
      | right_of u ↦ placed_begun old y on_right.1 k n u to at
    ]

formula_begun : (flat : Built) (shaped : List Node) (bound id : ℕ) (n : Node) (o : IsOperatorNode flat id) → slice_get shaped id ≡ Some n
    → IsShaped flat shaped bound o.formula o.node.parts ⊎ IsLeft flat shaped o.formula o.node → IsBegun flat.nodes n.span.from
formula_begun flat shaped bound id n o at (inl is) =
    let count = same_count flat.nodes (o.formula + 1) false o.node.parts o.tokens is.tokens o.reads is.reads in
    let low = o.from in
    let high = o.below in
    placed_begun flat.nodes is.placed (all_begun flat.nodes (o.formula + 1) false o.node.parts is.tokens is.reads) id n low (omega arith) at
formula_begun flat shaped bound id n o at (inr is) = absurd (is.unread o.node o.tokens o.there o.reads)

node_begun : (flat : Built) (shaped : List Node) (id : ℕ) (m n : Node) → ShapedTo flat shaped (length flat.nodes) → slice_get flat.nodes id ≡ Some m → slice_get shaped id ≡ Some n
    → IsOperatorNode flat id ⊎ (slice_get shaped id ≡ Some m) → IsBegun flat.nodes n.span.from
node_begun flat shaped id m n to there at (inl is) =
    formula_begun flat shaped (length flat.nodes) id n is at (to.formulas is.formula is.node (slice_get_within flat.nodes is.formula is.node is.there) is.there is.formed)
node_begun flat shaped id m n to there at (inr same) = record { id = id; node = m; there = there; here = ap (λ (x : Node). x.span.from) (some_same (sym at ∙ same)) }

pub begun : (flat shaped : Built) → Shaped flat shaped → (id : ℕ) (n : Node) → slice_get shaped.nodes id ≡ Some n → IsBegun flat.nodes n.span.from
begun flat shaped s id n at =
    let inside = slice_get_within shaped.nodes id n at in
    let long = s.nodes.long in
    let within : id < length flat.nodes = omega arith in
    let there = slice_get-get_or flat.nodes id (record { kind = kind.Sign; span = record { from = 0; to = 0 }; name = 0; parts = [] }) within in
    node_begun flat shaped.nodes id _ n s.nodes there at (s.nodes.kept id _ within there)
