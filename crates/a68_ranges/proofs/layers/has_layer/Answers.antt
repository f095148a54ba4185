use Rattle.std.proofs.Common.{◌≡◌, ◌∙◌, true, false, List, ℕ, length, sym, ap}
use Rattle.std.specs.Prelude.{◌||◌, nat_lt}
use Rattle.a68_ranges.proofs.Layering.{declared_read}
use Rattle.a68_ranges.specs.Definitions.{declared_in}
use Rattle.a68_ranges.specs.Links.{has_layer, is_routine_text}
use Rattle.a68_ranges.specs.Nodes.{kind_at}
use Rattle.a68_tree.specs.declared.kind.NodeKind.{NodeKind}
use Rattle.a68_ranges.proofs.layers.has_layer.Goals as goal

pub returns-then-is_routine_text : goal.returns-then-is_routine_text
unfolding has_layer
returns-then-is_routine_text c =
    let tree = c.args.tree.now in
    let range = c.args.range in
    let is : true ≡ is_routine_text (kind_at tree range) = sym c.if-is_routine_text.true ∙ c.is_routine_text.ensures ∙ ap (λ (k : NodeKind). is_routine_text k) c.kind_of.ensures in
    c.if-is_routine_text.true ∙ ap (λ b. b || nat_lt 0 (length (declared_in tree range))) is

pub returns-else-is_routine_text : goal.returns-else-is_routine_text
unfolding has_layer
returns-else-is_routine_text c =
    let tree = c.args.tree.now in
    let range = c.args.range in
    let none : false ≡ is_routine_text (kind_at tree range) = sym c.if-is_routine_text.false ∙ c.is_routine_text.ensures ∙ ap (λ (k : NodeKind). is_routine_text k) c.kind_of.ensures in
    c.is_filled.ensures ∙ ap (λ (ds : List ℕ). nat_lt 0 (length ds)) (declared_read tree c.args.declared.now range c.requires) ∙ ap (λ b. b || nat_lt 0 (length (declared_in tree range))) none
