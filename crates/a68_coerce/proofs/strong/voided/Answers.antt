use Rattle.std.proofs.Common.{◌∙◌, sym}
use Rattle.std.proofs.lemmas.Bool.{false≢true}
use Rattle.a68_coerce.specs.Paths.StrongTo.{nothing, dropping}
use Rattle.a68_coerce.proofs.strong.voided.Goals as goal

pub returns-then-is_void-clause-void : goal.returns-then-is_void-clause-void
returns-then-is_void-clause-void c = λ g v. nothing v (c.is_void.ensures.void.0 c.if-is_void.true)

pub returns-else-is_void-clause-void : goal.returns-else-is_void-clause-void
returns-else-is_void-clause-void c = λ g v. dropping v (λ w. false≢true (sym c.if-is_void.false ∙ c.is_void.ensures.void.1 w))
