use Rattle.std.proofs.Common.{◌≡◌, ◌<◌, length, refl, arith, sym, ◌∙◌}
use Rattle.std.proofs.lemmas.Bool.{false≢true}
use Rattle.std.proofs.lemmas.List.Elements.{Contains-get_or}
use Rattle.a68_identify.proofs.Firsts.{none_in, none_more}
use Rattle.a68_identify.specs.Operators.{IsRelatedTo}
use Rattle.a68_ranges.proofs.Taking.{read}
use Rattle.a68_identify.proofs.related.any_related_to.Goals as goal

pub returns-then-branch : goal.returns-then-branch
returns-then-branch c =
    let lt : c.loop-one.one-index < length c.args.before.now = omega arith in
    (λ t. (_, Contains-get_or c.args.before.now c.loop-one.one-index 0 lt, c.in_ok-is_related_to.ensures.0 c.if-branch.true), λ w. refl)

pub loop-one-preserved : goal.loop-one-preserved
loop-one-preserved c =
    let i = c.loop-one.one-index in
    let lt : i < length c.args.before.now = omega arith in
    none_more (IsRelatedTo c.args.tree.now c.args.modes.now c.args.of.now.of c.args.signature.now.sign c.args.signature.now.parameters.now) c.args.before.now i _ (read c.args.before.now i 0 lt)
    (λ f. false≢true (sym c.if-branch.false ∙ c.in_ok-is_related_to.ensures.1 f)) c.loop-one.invariant

pub returns : goal.returns
returns c =
    let all : c.loop-one.one-index ≡ length c.args.before.now = omega arith in (
      λ t. absurd (false≢true t),
      λ w. absurd (none_in (IsRelatedTo c.args.tree.now c.args.modes.now c.args.of.now.of c.args.signature.now.sign c.args.signature.now.parameters.now) c.args.before.now c.loop-one.one-index all c.loop-one.invariant w.0 w.1 w.2),
    )
