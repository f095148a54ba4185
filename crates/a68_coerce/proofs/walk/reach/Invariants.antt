use Rattle.std.proofs.Common.{length}
use Rattle.a68_coerce.specs.Routes.{IsWanted}
use Rattle.a68_coerce.proofs.Going.{Going}
use Rattle.a68_equiv.proofs.Chains.{steps}
use Rattle.a68_equiv.proofs.Meekly.{meek_next}
use Rattle.a68_coerce.proofs.walk.reach.Given as goal

abbrev pub invariant-onward : goal.invariant-onward
invariant-onward l = Going l.modes l.sort (IsWanted l.modes l.want) l.fn.from l.steps l.dereferenced l.at

abbrev pub decreases-onward : goal.decreases-onward
decreases-onward l = steps (meek_next l.modes) (length l.modes) l.at.id
