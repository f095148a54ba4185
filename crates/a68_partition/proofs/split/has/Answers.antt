use Rattle.std.proofs.Common.{◌≡◌, ◌<◌, ◌∙◌, ℕ, length, get_or, refl, ap, arith, below_more}
use Rattle.std.proofs.lemmas.Bool.{false≢true}
use Rattle.std.proofs.lemmas.List.{get_or_default}
use Rattle.std.proofs.lemmas.List.Elements.{Contains-get_or}
use Rattle.a68_partition.proofs.split.has.Goals as goal

pub returns-then-classes-item : goal.returns-then-classes-item
returns-then-classes-item c =
    let lt : c.loop-item.item-index < length c.args.items.now = omega arith in
    (λ _. (_, Contains-get_or c.args.items.now c.loop-item.item-index 0 lt, c.if-classes-item.true), λ _. refl)

pub loop-item-preserved : goal.loop-item-preserved
loop-item-preserved c = below_more (λ k. get_or c.args.classes.now (get_or c.args.items.now k 0) 0 ≡ c.args.by → ⊥) c.loop-item.item-index c.loop-item.invariant c.if-classes-item.false

pub returns : goal.returns
returns c = (
  λ t. absurd (false≢true t),
  λ w.
      let lt = w.1.1 in
      absurd (c.loop-item.invariant w.1.0 (omega arith) (ap (λ (k : ℕ). get_or c.args.classes.now k 0) (get_or_default c.args.items.now w.1.0 0 w.0 w.1.1 ∙ w.1.2) ∙ w.2)),
)
