use Rattle.std.proofs.Common.{◌≡◌, ◌∙◌, ◌∷◌, [], ap, arith, length-append}
use Rattle.a68_frames.proofs.Outlooking.{texts_more, texts_all}
use Rattle.a68_ranges.specs.Links.{is_routine_text}
use Rattle.a68_ranges.specs.Nodes.{kind_at}
use Rattle.a68_frames.proofs.outlook.texts_of.Goals as goal

pub loop-node-preserved : goal.loop-node-preserved
loop-node-preserved c =
    let tree = c.args.tree.now in
    let texts = c.loop-node.texts.items in
    let was = c.loop-node.invariant in
    let told : c.is_routine_text.result ≡ is_routine_text (kind_at tree c.loop-node.node) = c.is_routine_text.ensures ∙ ap is_routine_text c.kind_of.ensures in
    rw (c.in_ok-push.ensures.items, told) (record {
      long = omega (arith, was.long, length-append texts (is_routine_text (kind_at tree c.loop-node.node) ∷ []));
      are = texts_more tree c.loop-node.node texts was.long was.are;
    })

pub returns : goal.returns
returns c = texts_all c.args.tree.now c.loop-node.texts.items c.loop-node.node (omega (arith, c.len-node-end.ensures)) c.loop-node.invariant.long c.loop-node.invariant.are
