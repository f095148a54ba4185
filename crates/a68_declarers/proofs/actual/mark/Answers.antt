use Rattle.std.proofs.Common.{◌<◌, ◌∙◌, length, arith, sym, take}
use Rattle.std.proofs.lemmas.Bool.{false≢true}
use Rattle.a68_declarers.proofs.Marking.{marked_more, marked_other}
use Rattle.a68_ranges.proofs.Taking.{read, take_next}
use Rattle.a68_declarers.proofs.actual.mark.Goals as goal
use Rattle.a68_declarers.proofs.actual.mark.Goals.{then-is_declarer, else-is_declarer}

pub loop-node-preserved : goal.loop-node-preserved
loop-node-preserved c =
    let i = c.loop-node.node-index in
    let nodes = c.args.nodes.now in
    let lt : i < length nodes = omega arith in
    let at = read nodes i 0 lt in
    let inside = c.requires i 0 lt in
    let long = c.loop-node.invariant.long in
    let next = take_next nodes i _ at in
    elim c.if-is_declarer.branch [
      | then-is_declarer w ↦ rw (next, w.marks-is) (marked_more c.args.tree.now (take i nodes) _ c.args.marks.now.items c.loop-node.marks.items (sym c.is_declarer.ensures ∙ w.if-is_declarer.true) (omega arith) c.loop-node.invariant)
      | else-is_declarer w ↦ rw (next, w.marks-is) (marked_other c.args.tree.now (take i nodes) _ c.args.marks.now.items c.loop-node.marks.items (λ is. false≢true (sym w.if-is_declarer.false ∙ c.is_declarer.ensures ∙ is)) c.loop-node.invariant)
    ]
