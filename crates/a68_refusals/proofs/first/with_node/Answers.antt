use Rattle.std.proofs.Common.{◌≡◌, ◌∙◌, ap, sym, subst}
use Rattle.a68_positions.specs.Given.{finding_at, position_at}
use Rattle.a68_ranges.specs.Nodes.{kind_at}
use Rattle.a68_refusals.proofs.Walking.{same_misfit, same_rule, walk_on}
use Rattle.a68_refusals.specs.First.{Asked, IsBrokenFrom, own_at, told_misfit, told_own}
use Rattle.a68_refusals.specs.Order.{IsFirstOf, earlier}
use Rattle.a68_yields.specs.Leaves.{yield_at}
use Rattle.a68_refusals.proofs.first.with_node.Goals as goal

pub returns : goal.returns
returns c =
    let tree = c.args.tree.now in
    let n = c.args.node in
    let a : Asked = record { tree = c.args.tree.now; tags = c.args.tags.now; defined = c.args.defined.now; nodes = c.args.modes.now; ys = c.args.yields.now; fs = c.args.findings.now; ps = c.args.positions.now } in
    let rule = same_rule tree a.tags a.defined a.ys n _ a.nodes c.modes.ensures.is _ (finding_at a.fs n) c.finding_of-found.ensures _ (position_at a.ps n) c.position_of-own.ensures _ (kind_at tree n) c.kind_of-kind.ensures in
    let unfit = same_misfit a.nodes n _ (kind_at tree n) c.kind_of-kind.ensures _ (yield_at a.ys n) c.yield_of.ensures _ (position_at a.ps n) c.position_of-own.ensures c.in_ok-unfit.unfit c.in_ok-unfit.ensures in
    let own : c.with_own-before.result ≡ earlier c.args.first (told_own tree n (own_at a n)) = c.with_own-before.ensures ∙ ap (λ x. earlier c.args.first (told_own tree n x)) (c.own_rule-rule.ensures ∙ rule) in
    let first : c.earlier.result ≡ earlier (earlier c.args.first (told_own tree n (own_at a n))) (told_misfit tree n c.in_ok-unfit.unfit) =
    c.earlier.ensures ∙ ap (λ x. earlier x c.told_misfit.result) own ∙ ap (earlier (earlier c.args.first (told_own tree n (own_at a n)))) c.told_misfit.ensures in
    subst (λ x. IsFirstOf (IsBrokenFrom a n) x) (sym first) (walk_on a n c.in_ok-unfit.unfit unfit c.requires.there c.args.first c.requires.behind)
