use Rattle.std.proofs.Common.{◌≡◌, length, subst, arith}
use Rattle.a68_frames.specs.Needs.{UsesTag}
use Rattle.a68_notes.proofs.Needing.{no_needs, need_more}
use Rattle.a68_notes.specs.Needs.{AreNeeds}
use Rattle.a68_notes.proofs.needs.add_needs.Goals as goal

pub loop-text-init : goal.loop-text-init
loop-text-init c = no_needs c.args.tree.now c.args.needs.now.items c.requires.none

pub loop-text-preserved : goal.loop-text-preserved
loop-text-preserved c =
    need_more c.args.tree.now c.loop-text.text c.loop-text.needs.items c.needs.result _ c.loop-text.invariant (c.needs.ensures c.args.tree.now c.requires.frames) c.in_ok-push.ensures.items

pub returns : goal.returns
returns c =
    let test = c.loop-text-test.false in
    let all : c.loop-text.text ≡ length c.args.tree.now.nodes = (let w = c.len-text-end.ensures in omega arith) in
    subst (λ n. AreNeeds c.args.tree.now (UsesTag c.args.tree.now) n c.loop-text.needs.items) all c.loop-text.invariant
