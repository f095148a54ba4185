use Rattle.std.proofs.Common.{◌≡◌, ◌∙◌, ◌-◌, ◌∷◌, true, List, ap, arith, subst, sym}
use Rattle.std.specs.Prelude.{OnOk}
use Rattle.a68_acts.specs.Fetching.{assign_plain}
use Rattle.a68_acts.specs.declared.step.Step.{Step}
use Rattle.a68_modes.specs.Nodes.{is_plain, shape_at}
use Rattle.a68_steps.proofs.Plainly.{plain-assigned, plain-width}
use Rattle.a68_steps.specs.Lasts.{last_of}
use Rattle.a68_steps.proofs.fetching.assign_element.Goals as goal

pub returns-then-plain-clause-steps : goal.returns-then-plain-clause-steps
returns-then-plain-clause-steps c =
    λ cell whole.
    let plain : is_plain (shape_at c.args.modes.now c.args.of) ≡ true = sym c.requires.plain ∙ c.if-plain.true in
    let at : c.args.end - 1 ≡ cell = omega (arith, plain-width c.args.modes.now c.args.of plain, whole) in
    let v = last_of c.args.values.now in
    subst (λ (l : List Step). OnOk c.take_plain.result (c.take_plain.new.steps ≡ l))
    (ap (λ k. assign_plain true k v ∷ c.args.steps.now) at ∙ plain-assigned c.args.modes.now c.args.of cell v c.args.steps.now plain) c.take_plain.ensures.steps
