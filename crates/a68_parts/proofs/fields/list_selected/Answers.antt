use Rattle.std.proofs.Common.{◌≡◌, ◌∙◌, [], ◌∷◌, ◌++◌, ap, sym, map, take, arith}
use Rattle.std.proofs.lemmas.List.{take_all}
use Rattle.a68_parts.specs.Selecting.{selected}
use Rattle.a68_parts.proofs.Selecting.{map_more}
use Rattle.a68_parts.proofs.fields.list_selected.Goals as goal

pub loop-id-preserved : goal.loop-id-preserved
loop-id-preserved c =
    let a = c.args.program.now in
    c.in_ok-push.ensures.items ∙ ap (λ xs. xs ++ c.selected.result ∷ []) c.loop-id.invariant
    ∙ ap (λ place. map (selected a) (take c.loop-id.id a.tree.nodes) ++ place ∷ []) c.selected.ensures
    ∙ sym (map_more (selected a) a.tree.nodes c.loop-id.id c.node.result.now c.node.ensures.is)

pub returns : goal.returns
returns c =
    let a = c.args.program.now in
    let all : take c.loop-id.id a.tree.nodes ≡ a.tree.nodes = take_all _ _ (omega arith) in
    c.loop-id.invariant ∙ ap (map (selected a)) all
