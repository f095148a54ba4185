use Rattle.std.proofs.Common.{◌≡◌, ◌∙◌, ◌++◌, [], List, ℕ, drop, sym, ap}
use Rattle.std.proofs.lemmas.List.{append-nil, drop_all}
use Rattle.a68_elab.specs.Made.{specs_of}
use Rattle.a68_elab.specs.Programs.{behind}
use Rattle.a68_emit.specs.Stretches.{wholes_of}
use Rattle.a68_emit.proofs.Taking.{wholes_more}
use Rattle.a68_emit.specs.Views.{tree_of}
use Rattle.a68_emit.proofs.specifications.wholes_for.Goals as goal

pub loop-member-preserved : goal.loop-member-preserved
loop-member-preserved c =
    let f = behind c.args.id (tree_of c.args.program.now) in
    wholes_more c.args.members.now (specs_of c.args.program.now.of.now f c.args.specs.now) c.loop-member.member-index c.loop-member.wholes.items c.push.new.self.items _ c.whole_for.result c.loop-member-test.true
    (c.whole_for.ensures f) c.in_ok-push.ensures.items c.loop-member.invariant

pub returns : goal.returns
returns c =
    let specs = specs_of c.args.program.now.of.now (behind c.args.id (tree_of c.args.program.now)) c.args.specs.now in
    let none : drop c.loop-member.member-index c.args.members.now ≡ [] = drop_all c.loop-member.member-index c.args.members.now c.loop-member-test.false in
    sym (append-nil c.loop-member.wholes.items) ∙ sym (ap (λ (l : List ℕ). c.loop-member.wholes.items ++ wholes_of l specs) none) ∙ c.loop-member.invariant
