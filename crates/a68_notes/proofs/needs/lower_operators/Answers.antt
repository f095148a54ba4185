use Rattle.std.proofs.Common.{◌≡◌, length, refl, subst, arith}
use Rattle.a68_notes.proofs.Needing.{needs_all, needs_before, needs_on}
use Rattle.a68_notes.specs.Needs.{AreNeeds, TextUsesBefore}
use Rattle.a68_notes.specs.Notes.{asked_of}
use Rattle.a68_notes.proofs.needs.lower_operators.Goals as goal

pub loop-at-init : goal.loop-at-init
loop-at-init c = needs_before (asked_of c.args.tree.now c.args.meaning.now) c.args.needs.now c.requires.tags

pub loop-at-preserved : goal.loop-at-preserved
loop-at-preserved c =
    needs_on (asked_of c.args.tree.now c.args.meaning.now) c.loop-at.at c.applied_operator-definition.result c.loop-at.needs c.lower_by.new.needs
    (rw (c.applied_operator-definition.ensures, c.finding_of-found.ensures, c.kind_of.ensures, c.deref.ensures.value) refl)
    (c.lower_by.ensures c.args.tree.now c.requires.frames) c.loop-at.invariant

pub returns : goal.returns
returns c =
    let a = asked_of c.args.tree.now c.args.meaning.now in
    let test = c.loop-at-test.false in
    let all : c.loop-at.at ≡ length c.args.tree.now.nodes = (let w = c.len-at-end.ensures in omega arith) in
    needs_all a c.loop-at.needs (subst (λ n. AreNeeds c.args.tree.now (TextUsesBefore a n) (length c.args.tree.now.nodes) c.loop-at.needs) all c.loop-at.invariant)
