use Rattle.std.proofs.Common.{◌∙◌, sym}
use Rattle.std.proofs.lemmas.Bool.{false≢true}
use Rattle.a68_coerce.proofs.Leaves.{all_suit, not_sided}
use Rattle.a68_coerce.proofs.balancing.sides_at.Goals as goal

pub returns-in_default-clause-at : goal.returns-in_default-clause-at
returns-in_default-clause-at c = λ to at. (rw c.in_default.is at c.in_ok-mode.ensures.at) to at.0

pub returns-then-branch-clause-at : goal.returns-then-branch-clause-at
returns-then-branch-clause-at c = (rw c.in-Some.is at c.in_ok-mode.ensures.at, all_suit c.args.modes.now c.in-Some.mode c.args.strong.now (c.in_ok-others_suit.ensures.0 c.if-branch.true))

pub returns-else-branch-clause-at : goal.returns-else-branch-clause-at
returns-else-branch-clause-at c = not_sided c.args.modes.now c.args.soft.now c.args.strong.now c.args.at c.in-Some.mode (rw c.in-Some.is at c.in_ok-mode.ensures.at) (λ h. false≢true (sym c.if-branch.false ∙ c.in_ok-others_suit.ensures.1 h))
