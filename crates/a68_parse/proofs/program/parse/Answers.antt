use Rattle.std.proofs.Common.{◌∙◌, arith}
use Rattle.a68_parse.proofs.Sound.{draft_count}
use Rattle.a68_parse.proofs.Trees.{drafted, filled, few, derived, only}
use Rattle.a68_parse.proofs.program.parse.Goals as goal

pub tree-requires-clause-some : goal.tree-requires-clause-some
tree-requires-clause-some c = filled _ _ _ _ (c.deref.ensures.value ∙ c.in_ok-list.ensures) c.in-Ok.ensures

pub tree-requires-clause-few : goal.tree-requires-clause-few
tree-requires-clause-few c =
    let a = few _ _ _ _ (c.deref.ensures.value ∙ c.in_ok-list.ensures) c.in-Ok.ensures c.requires in
    let n = draft_count c.in-Ok.drafts.items in omega (arith, a, n)

pub returns-in-Ok-clause-parses : goal.returns-in-Ok-clause-parses
returns-in-Ok-clause-parses c =
    let e = c.deref.ensures.value ∙ c.in_ok-list.ensures in
    let l = c.in_ok-tree-in-Ok.ensures.listed (drafted _ _ _ _ e c.in-Ok.ensures) in
    (derived _ _ _ _ e c.in-Ok.ensures _ l, only _ _ _ _ e c.in-Ok.ensures _ l)
