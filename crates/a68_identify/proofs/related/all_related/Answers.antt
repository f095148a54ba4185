use Rattle.std.proofs.Common.{◌<◌, length, arith, sym, ◌∙◌}
use Rattle.std.proofs.lemmas.Bool.{false≢true}
use Rattle.a68_equiv.specs.Related.{AreRelated}
use Rattle.a68_identify.proofs.Pairing.{no_pairs, no_pair, one_pair_more, all_pairs}
use Rattle.a68_ranges.proofs.Taking.{read}
use Rattle.a68_identify.proofs.related.all_related.Goals as goal

pub returns-then-ones-others : goal.returns-then-ones-others
returns-then-ones-others c = no_pairs (AreRelated c.args.modes.now) c.args.ones.now c.args.others.now c.if-ones-others.true

pub returns-then-not-branch : goal.returns-then-not-branch
returns-then-not-branch c =
    let i = c.loop-i.i in
    let one : i < length c.args.ones.now = omega arith in
    let other : i < length c.args.others.now = omega arith in
    no_pair (AreRelated c.args.modes.now) c.args.ones.now c.args.others.now i _ _ (read c.args.ones.now i 0 one) (read c.args.others.now i 0 other)
    (λ r. false≢true (sym c.if-not-branch.true ∙ c.in_ok-are_related.ensures.1 r))

pub loop-i-preserved : goal.loop-i-preserved
loop-i-preserved c =
    let i = c.loop-i.i in
    let one : i < length c.args.ones.now = omega arith in
    let other : i < length c.args.others.now = omega arith in
    one_pair_more (AreRelated c.args.modes.now) c.args.ones.now c.args.others.now i _ _ (read c.args.ones.now i 0 one) (read c.args.others.now i 0 other)
    (c.in_ok-are_related.ensures.0 c.if-not-branch.false) c.loop-i.invariant

pub returns : goal.returns
returns c = all_pairs (AreRelated c.args.modes.now) c.args.ones.now c.args.others.now c.loop-i.i c.if-ones-others.false c.loop-i-test.false c.loop-i.invariant
