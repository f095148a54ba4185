use Rattle.std.proofs.Common.{◌∙◌, sym}
use Rattle.std.proofs.lemmas.Bool.{false≢true}
use Rattle.a68_coerce.proofs.Leaves.{none_balances}
use Rattle.a68_coerce.proofs.balancing.balance.Goals as goal

pub returns-else-branch : goal.returns-else-branch
returns-else-branch c =
    rw (← c.as_it_stands-to.ensures) (none_balances c.args.modes.now c.args.sort c.as_it_stands-to.result c.args.leaves.now c.in-Some.first (λ h. false≢true (sym c.if-branch.false ∙ c.in_ok-others_suit.ensures.1 h)))
