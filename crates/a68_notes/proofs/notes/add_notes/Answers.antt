use Rattle.std.proofs.Common.{◌≡◌, length, subst, arith}
use Rattle.a68_notes.proofs.Noting.{none_noted, note_more}
use Rattle.a68_notes.specs.Notes.{asked_of, AreNotesBefore}
use Rattle.a68_notes.proofs.notes.add_notes.Goals as goal

pub loop-node-init : goal.loop-node-init
loop-node-init c = none_noted c.args.meaning.now.of (asked_of c.args.tree.now c.args.meaning.now) c.args.items.now.items c.requires.none

pub loop-node-preserved : goal.loop-node-preserved
loop-node-preserved c =
    note_more c.args.meaning.now.of (asked_of c.args.tree.now c.args.meaning.now) c.loop-node.node c.loop-node.items.items c.in_ok-note.note _ c.loop-node.invariant c.in_ok-note.ensures
    c.in_ok-push.ensures.items

pub returns : goal.returns
returns c =
    let test = c.loop-node-test.false in
    let all : c.loop-node.node ≡ length c.args.tree.now.nodes = (let w = c.len-node-end.ensures in omega arith) in
    subst (λ n. AreNotesBefore c.args.meaning.now.of (asked_of c.args.tree.now c.args.meaning.now) n c.loop-node.items.items) all c.loop-node.invariant
