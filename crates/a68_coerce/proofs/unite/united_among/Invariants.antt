use Rattle.std.proofs.Common.{length}
use Rattle.a68_coerce.proofs.Uniting.{Uniting}
use Rattle.a68_equiv.proofs.Chains.{steps}
use Rattle.a68_equiv.proofs.Meekly.{meek_next}
use Rattle.a68_coerce.proofs.unite.united_among.Given as goal

abbrev pub invariant-uniting : goal.invariant-uniting
invariant-uniting l = Uniting l.modes l.fn.from l.to l.steps l.at

abbrev pub decreases-uniting : goal.decreases-uniting
decreases-uniting l = steps (meek_next l.modes) (length l.modes) l.at.id
