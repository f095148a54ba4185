use Rattle.std.proofs.Common.{◌∙◌, sym}
use Rattle.std.proofs.lemmas.Bool.{false≢true}
use Rattle.a68_coerce.specs.Paths.{UnitesTo}
use Rattle.a68_coerce.proofs.Going.{falls}
use Rattle.a68_coerce.proofs.Uniting.{sets_out, found, no_node, none_unites, goes_on}
use Rattle.a68_coerce.proofs.unite.united_among.Goals as goal

pub uniting-init : goal.uniting-init
uniting-init c = sets_out c.args.modes.now c.args.from c.args.to c.requires.from

pub returns-in_default : goal.returns-in_default
returns-in_default c = no_node c.args.modes.now c.args.from c.args.to c.uniting.steps c.uniting.at c.uniting.invariant (c.in_ok-unites.ensures.0 c.if-branch.true) c.in_default.ensures

pub returns-then-branch : goal.returns-then-branch
returns-then-branch c = found c.args.modes.now c.args.from c.args.to c.uniting.steps c.uniting.at c.uniting.invariant c.in-Some.node (c.in_ok-unites.ensures.0 c.if-branch.true) c.in-Some.ensures

pub returns-in_default-next_step : goal.returns-in_default-next_step
returns-in_default-next_step c = none_unites c.args.modes.now c.args.from c.args.to c.uniting.steps c.uniting.at c.uniting.invariant
    (λ h. false≢true (sym c.if-branch.false ∙ c.in_ok-unites.ensures.1 h)) c.in_default-next_step.ensures.step

pub uniting-smaller : goal.uniting-smaller
uniting-smaller c = falls c.args.modes.now (λ r k. UnitesTo c.args.modes.now c.args.to k) c.args.from c.uniting.steps c.uniting.invariant.path c.uniting.at c.in-Some-next_step.step.to _
    c.in-Some-next_step.ensures.nodes c.requires.formed c.uniting.invariant.counted c.in-Some-next_step.ensures.step

pub uniting-preserved : goal.uniting-preserved
uniting-preserved c = goes_on c.args.modes.now c.args.from c.args.to c.uniting.steps c.uniting.at c.uniting.invariant c.in-Some-next_step.step.to _
    c.in-Some-next_step.ensures.nodes c.requires.formed (λ h. false≢true (sym c.if-branch.false ∙ c.in_ok-unites.ensures.1 h)) c.in-Some-next_step.ensures.there c.in-Some-next_step.ensures.step
