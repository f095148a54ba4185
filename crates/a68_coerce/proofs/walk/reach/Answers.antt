use Rattle.std.proofs.Common.{◌∙◌, sym}
use Rattle.std.proofs.lemmas.Bool.{false≢true}
use Rattle.a68_coerce.specs.Paths.{Allows}
use Rattle.a68_coerce.specs.Routes.{IsWanted}
use Rattle.a68_coerce.proofs.Going.{sets_out, arrived, no_further, broken_off, goes_on, falls, by_deref}
use Rattle.a68_coerce.proofs.walk.reach.Goals as goal

pub onward-init : goal.onward-init
onward-init c = sets_out c.args.modes.now c.args.sort (IsWanted c.args.modes.now c.args.want) c.args.from c.requires.from

pub returns-then-ends_well-clause-first : goal.returns-then-ends_well-clause-first
returns-then-ends_well-clause-first c =
    let ends = c.ends_well.ensures.0 c.if-ends_well.true in
    arrived c.args.modes.now c.args.sort (IsWanted c.args.modes.now c.args.want) c.args.from c.onward.steps c.onward.dereferenced c.onward.at c.onward.invariant ends.0 ends.1

pub returns-in_default-clause-first : goal.returns-in_default-clause-first
returns-in_default-clause-first c = no_further c.args.modes.now c.args.sort (IsWanted c.args.modes.now c.args.want) c.args.from c.onward.steps c.onward.dereferenced c.onward.at c.onward.invariant
    (λ h. false≢true (sym c.if-ends_well.false ∙ c.ends_well.ensures.1 h)) c.in_default.ensures.step

pub returns-then-breaks_off-clause-first : goal.returns-then-breaks_off-clause-first
returns-then-breaks_off-clause-first c =
    let breaks = c.breaks_off.ensures.0 c.if-breaks_off.true in
    broken_off c.args.modes.now c.args.sort (IsWanted c.args.modes.now c.args.want) c.args.from c.onward.steps c.onward.dereferenced c.onward.at c.onward.invariant
    (λ h. false≢true (sym c.if-ends_well.false ∙ c.ends_well.ensures.1 h)) breaks.0 c.in-Some.step.to (by_deref c.in-Some.step.dereferences breaks.1 c.in-Some.ensures.step)

pub onward-smaller : goal.onward-smaller
onward-smaller c = falls c.args.modes.now (λ r k. Allows c.args.modes.now c.args.sort r k × IsWanted c.args.modes.now c.args.want k) c.args.from c.onward.steps c.onward.invariant.path c.onward.at c.in-Some.step.to _
    c.in-Some.ensures.nodes c.requires.formed c.onward.invariant.counted c.in-Some.ensures.step

pub onward-preserved : goal.onward-preserved
onward-preserved c = goes_on c.args.modes.now c.args.sort (IsWanted c.args.modes.now c.args.want) c.args.from c.onward.steps c.onward.dereferenced c.onward.at c.onward.invariant
    c.in-Some.step.dereferences c.in-Some.step.to c.in-Some.ensures.nodes c.requires.formed (λ h. false≢true (sym c.if-ends_well.false ∙ c.ends_well.ensures.1 h))
    (λ h. false≢true (sym c.if-breaks_off.false ∙ c.breaks_off.ensures.1 h)) c.in-Some.ensures.there c.in-Some.ensures.step
