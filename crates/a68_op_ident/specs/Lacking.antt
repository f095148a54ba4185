-- Signs between two operands for which no priority is declared (Report, 4.3 and 5.4.2).
use Rattle.std.specs.Prelude.{◌≡◌, ◌+◌, ℕ, true, false, List, None, Some, slice_get}
use Rattle.a68_base.specs.declared.refusal.Refusal.{Refusal}
use Rattle.a68_base.specs.declared.refusal.Rule.TheVariants.{O3}
use Rattle.a68_op_ident.specs.Formulas.{EachOf, is_formula, ReadsParts, HasItsPriority}
use Rattle.a68_op_ident.specs.declared.formula.Sign.{Sign}
use Rattle.a68_op_ident.specs.declared.formula.FormulaPart.{FormulaPart}
use Rattle.a68_op_ident.specs.declared.formula.FormulaPart.TheVariants as token
use Rattle.a68_ranges.specs.Nodes.{place_at}
use Rattle.a68_ranges.specs.Twice.{IsFirstInText}
use Rattle.a68_tree.specs.Trees.{Built}
use Rattle.a68_tree.specs.declared.node.Node.{Node}

-- a sign between two operands of a formula, whose priority is neither declared in a range about it nor standard
pub record LacksPriority (tree : Built) (sign : ℕ) : Type 0 where
  pub formula : ℕ
  pub node : Node
  pub there : slice_get tree.nodes formula ≡ Some node
  pub formed : is_formula node.kind ≡ true
  pub tokens : List FormulaPart
  pub reads : ReadsParts tree.nodes (formula + 1) false node.parts tokens
  pub priorities : EachOf (HasItsPriority tree) tokens
  pub place : ℕ
  pub dyad : Sign
  pub lacks : slice_get tokens place ≡ Some (token.Dyad dyad None)
  pub is : dyad.id ≡ sign

-- the rule that a tree breaks which cannot be shaped, and where: at the first of these signs
pub record IsUnshaped (tree : Built) (refusal : Refusal) : Type 0 where
  pub id : ℕ
  pub rule_is : refusal.rule ≡ O3
  pub place_is : refusal.place ≡ place_at tree id
  pub first : IsFirstInText tree (LacksPriority tree) id
