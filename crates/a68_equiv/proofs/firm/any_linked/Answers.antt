use Rattle.std.proofs.Common.{◌∙◌, sym, ℕ, arith, below_more}
use Rattle.std.specs.List.{Contains}
use Rattle.a68_equiv.specs.Related.{AreMeeklyRelated}
use Rattle.a68_equiv.proofs.Meekly.{none_in}
use Rattle.std.proofs.lemmas.Bool.{false≢true}
use Rattle.a68_equiv.proofs.firm.any_linked.Goals as goal

pub loop-one-preserved : goal.loop-one-preserved
loop-one-preserved c = below_more _ _ c.loop-one.invariant (λ w. false≢true (sym c.if-one_linked.false ∙ c.one_linked.ensures.1 w))

pub returns : goal.returns
returns c = (λ t. absurd (false≢true t), λ w. absurd (none_in (λ x. (y : ℕ) × Contains c.args.others.now y × AreMeeklyRelated c.args.modes.now x y) c.args.ones.now (λ k h. c.loop-one.invariant k (omega arith)) w.0 w.2 (w.1, w.3, w.4)))
