use Rattle.std.proofs.Common.{◌≡◌, ◌-◌, ◌+◌, sym, ap, ◌∙◌, suc, ℕ, length, arith}
use Rattle.a68_modes.specs.declared.shape.Shape.TheVariants.{Same}
use Rattle.a68_modes.specs.Nodes.{shape_at}
use Rattle.a68_equiv.specs.Unfolding.{behind}
use Rattle.a68_equiv.proofs.Grasp.{by_word, stays}
use Rattle.a68_equiv.proofs.graph.behind.Goals as goal

pub loop-preserved : goal.loop-preserved
loop-preserved c =
    let nodes = c.args.modes.now in
    let is : shape_at nodes c.loop.at ≡ Same c.in-Same.to = sym c.shape.ensures.shape ∙ c.in-Same.is in
    let fuel : length nodes - c.loop.counter ≡ suc (length nodes - (c.loop.counter + 1)) = omega arith in
    record {
      there = (rw is at (c.len-end.ensures.nodes.within c.loop.at c.loop.invariant.there)) 0 0 (omega arith);
      same = sym (by_word nodes (length nodes - (c.loop.counter + 1)) c.loop.at c.in-Same.to is) ∙ ap (λ (k : ℕ). behind nodes k c.loop.at) (sym fuel) ∙ c.loop.invariant.same;
    }

pub returns-in_default : goal.returns-in_default
returns-in_default c = record {
  node = sym (stays c.args.modes.now _ c.loop.at (λ t e. c.in_default.not-Same t (c.shape.ensures.shape ∙ e))) ∙ c.loop.invariant.same;
  there = c.loop.invariant.there;
}
