use Rattle.std.proofs.Common.{◌∙◌, sym}
use Rattle.std.proofs.lemmas.Bool.{false≢true}
use Rattle.a68_coerce.specs.Paths.StrongTo.{firmly}
use Rattle.a68_coerce.proofs.Orders.{else_widened}
use Rattle.a68_coerce.proofs.strong.unrowed.Goals as goal

pub returns-in-Some : goal.returns-in-Some
returns-in-Some c = firmly (λ v. false≢true (sym c.if-is_void_goal.false ∙ c.is_void_goal.ensures.1 v)) (rw c.in-Some.is at c.in_ok-route.ensures)

pub returns : goal.returns
returns c = else_widened c.args.modes.now c.args.from c.args.goal c.widened.result (λ v. false≢true (sym c.if-is_void_goal.false ∙ c.is_void_goal.ensures.1 v)) (rw c.in_default.is at c.in_ok-route.ensures) c.widened.ensures
