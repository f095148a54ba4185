use Rattle.std.proofs.Common.{◌≡◌, ◌∙◌, ◌++◌, [], List, ℕ, drop, sym, ap}
use Rattle.std.proofs.lemmas.List.{drop_all}
use Rattle.a68_elab.specs.Made.{specs_of}
use Rattle.a68_elab.specs.Programs.{behind}
use Rattle.a68_emit.specs.Stretches.{member_places}
use Rattle.a68_emit.proofs.Taking.{places_more}
use Rattle.a68_emit.specs.Views.{tree_of}
use Rattle.a68_emit.proofs.specifications.places_for.Goals as goal

pub loop-member-preserved : goal.loop-member-preserved
loop-member-preserved c =
    let f = behind c.args.id (tree_of c.args.program.now) in
    places_more c.args.members.now (specs_of c.args.program.now.of.now f c.args.specs.now) c.args.starts.now c.args.none c.loop-member.member-index c.loop-member.places.items c.push.new.self.items _ c.place_for.result
    c.loop-member-test.true (c.place_for.ensures f) c.in_ok-push.ensures.items c.loop-member.invariant

pub returns : goal.returns
returns c =
    let specs = specs_of c.args.program.now.of.now (behind c.args.id (tree_of c.args.program.now)) c.args.specs.now in
    let none : drop c.loop-member.member-index c.args.members.now ≡ [] = drop_all c.loop-member.member-index c.args.members.now c.loop-member-test.false in
    c.in_ok-push-2.ensures.items ∙ sym (ap (λ (l : List ℕ). c.loop-member.places.items ++ member_places l specs c.args.starts.now c.args.none) none) ∙ c.loop-member.invariant
