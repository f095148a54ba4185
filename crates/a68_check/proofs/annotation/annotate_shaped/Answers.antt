use Rattle.std.proofs.Common.{◌∙◌, ap, length}
use Rattle.a68_tree.specs.Trees.{Built}
use Rattle.a68_check.proofs.annotation.annotate_shaped.Goals as goal

pub invariant_of-result : goal.invariant_of-result
invariant_of-result c = record { noted = c.in-Ok.ensures.known.notes_are.long ∙ ap (λ (t : Built). length t.nodes) c.in-Ok.ensures.known.tree_is }
