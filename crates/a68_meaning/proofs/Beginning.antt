-- Where a tree is refused.
use Rattle.std.proofs.Common.{◌≡◌, ℕ, ◌≤◌, Option, Some, None, slice_get, refl, sym, subst, arith}
use Rattle.std.specs.Option.{option_map_or}
use Rattle.a68_base.specs.declared.refusal.Refusal.{Refusal}
use Rattle.a68_declare.specs.Outcome.{IsFirstBroken}
use Rattle.a68_meaning.specs.Meaning.{IsMisused, declarer, node, related}
use Rattle.a68_ranges.specs.Nodes.{place_at}
use Rattle.a68_refusals.specs.First.{Asked, IsFirstRefused}
use Rattle.a68_refusals.specs.declared.turn.Broken.{Broken}
use Rattle.a68_tree.specs.Trees.{Built}
use Rattle.a68_tree.specs.declared.node.Node.{Node}

-- all nodes of a tree begin by a byte, and all its symbols
abbrev pub NodesBeginBy : Built → (end : ℕ) → Type 0
NodesBeginBy tree end = (id : ℕ) (n : Node) → slice_get tree.nodes id ≡ Some n → n.span.from ≤ end

abbrev pub SymbolsBeginBy : Built → (end : ℕ) → Type 0
SymbolsBeginBy tree end = (i s : ℕ) → slice_get tree.starts i ≡ Some s → s ≤ end

begins_at : (end : ℕ) (o : Option Node) → ((n : Node) → o ≡ Some n → n.span.from ≤ end) → option_map_or (λ (n : Node). n.span.from) o 0 ≤ end
begins_at end None h = omega arith
begins_at end (Some n) h = h n refl

module _ (declared : (tree : Built) (end : ℕ) (r : Refusal) → NodesBeginBy tree end → SymbolsBeginBy tree end → IsFirstBroken tree r → r.place ≤ end)
    (first : (a : Asked) (end : ℕ) (b : Broken) → NodesBeginBy a.tree end → SymbolsBeginBy a.tree end → IsFirstRefused a (Some b) → b.place ≤ end) where
  pub misused_by : (tree : Built) (end : ℕ) (r : Refusal) → NodesBeginBy tree end → SymbolsBeginBy tree end → IsMisused tree r → r.place ≤ end
  misused_by tree end r by starts (declarer p) = declared tree end r by starts p
  misused_by tree end r by starts (related m f later are least rule place) =
      let w : place_at tree later ≤ end = begins_at end (slice_get tree.nodes later) (λ n at. by later n at) in omega arith
  misused_by tree end r by starts (node of a b e is least rule place) =
      let w = first a end b (subst (λ t. NodesBeginBy t end) (sym e) by) (subst (λ t. SymbolsBeginBy t end) (sym e) starts) least in omega arith
