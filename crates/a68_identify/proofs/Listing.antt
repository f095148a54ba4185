-- The modes of parameters, as they are listed.
use Rattle.std.proofs.Common.{◌≡◌, ◌∙◌, ℕ, List, [], length, sym, ap, arith, ⊎_elim, None, Option, slice_get}
use Rattle.std.specs.Option.{option_map_or}
use Rattle.std.specs.Prelude.{map, unwrap_or}
use Rattle.a68_identify.specs.Operators.{AreListed, Listed, declarers_at, mode_at, operand_modes}
use Rattle.a68_ranges.proofs.Taking.{below_or, past}
use Rattle.a68_tree.specs.Trees.{Built}
use Rattle.a68_tree.specs.declared.node.Node.{Node}

-- what is listed of each node is what its operator has
pub listed_is : (tree : Built) (modes : Listed) → AreListed tree modes → (definition : ℕ) → unwrap_or (slice_get modes.lists definition) [] ≡ operand_modes tree modes.of definition
listed_is tree modes are definition =
    ⊎_elim (λ h. ap (λ (o : Option (List ℕ)). unwrap_or o []) (are.each definition h))
    (λ h.
    let long = are.long in
    let none : slice_get modes.lists definition ≡ None = past modes.lists definition (omega (arith, h, long)) in
    ap (λ (o : Option (List ℕ)). unwrap_or o []) none
    ∙ sym (ap (λ (o : Option Node). map (mode_at modes.of) (declarers_at tree (slice_get (option_map_or (λ (n : Node). n.parts) o []) 0))) (past tree.nodes definition h)))
    (below_or definition (length tree.nodes))
