use Rattle.std.proofs.Common.{◌∙◌, sym, ap}
use Rattle.a68_modes.specs.Nodes.{shape_at}
use Rattle.a68_coerce.proofs.Walking.{by_name, by_call}
use Rattle.a68_coerce.proofs.walk.next_step.Goals as goal

pub returns-in-Ref-clause-step : goal.returns-in-Ref-clause-step
returns-in-Ref-clause-step c =
    let is = sym (c.shape.ensures.shape ∙ ap (shape_at c.args.modes.now) c.behind.ensures.node) ∙ c.in-Ref.is in
    by_name c.args.modes.now c.args.mode c.in_ok-to.to c.in-Ref.field-0 is (sym c.meek.ensures.step ∙ c.in_ok-to.was)

pub returns-in_default : goal.returns-in_default
returns-in_default c =
    let is = c.shape.ensures.shape ∙ ap (shape_at c.args.modes.now) c.behind.ensures.node in
    record {
      step = by_call c.args.modes.now c.args.mode c.in_ok-to.to (λ a e. c.in_default.not-Ref a (is ∙ e)) (sym c.meek.ensures.step ∙ c.in_ok-to.was);
      there = c.in_ok-to.ensures.there;
      nodes = c.in_ok-to.ensures.nodes;
    }
