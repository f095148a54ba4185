use Rattle.std.proofs.Common.{◌≡◌, ◌∙◌, ◌-◌, ◌∷◌, true, ap, arith, sym}
use Rattle.a68_acts.specs.declared.step.Step.TheVariants.{Fetch}
use Rattle.a68_modes.specs.Nodes.{is_plain, shape_at}
use Rattle.a68_steps.proofs.Plainly.{plain-fetched, plain-width}
use Rattle.a68_steps.proofs.fetching.fetch_element.Goals as goal

pub returns-then-plain : goal.returns-then-plain
returns-then-plain c =
    λ cell whole.
    let plain : is_plain (shape_at c.args.modes.now c.args.of) ≡ true = sym c.requires.plain ∙ c.if-plain.true in
    let at : c.args.end - 1 ≡ cell = omega (arith, plain-width c.args.modes.now c.args.of plain, whole) in
    c.in_ok-push.ensures.ok ∙ ap (λ k. Fetch k ∷ c.args.steps.now) at ∙ plain-fetched c.args.modes.now c.args.of cell c.args.steps.now plain
