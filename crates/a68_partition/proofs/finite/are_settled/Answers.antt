use Rattle.std.proofs.Common.{◌∙◌, ℕ, arith, subst}
use Rattle.std.proofs.lemmas.List.{get_or_default}
use Rattle.a68_partition.specs.Finite.{IsSettled}
use Rattle.a68_partition.proofs.finite.are_settled.Goals as goal

pub returns-clause-all : goal.returns-clause-all
returns-clause-all c = λ t w i. let lt = i.1 in subst (λ (k : ℕ). IsSettled c.args.classes.now k) (get_or_default c.args.items.now i.0 0 w i.1 ∙ i.2) (c.loop-item.invariant i.0 (omega arith))
