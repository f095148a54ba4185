use Rattle.std.proofs.Common.{refl}
use Rattle.a68_world.proofs.Marking.{alone_by}
use Rattle.a68_world.proofs.passed.is_alone.Goals as goal

pub returns : goal.returns
returns c = alone_by c.args.passed.now c.args.count c.first_other.result _ refl c.if-count-eq0.false c.first_other.ensures
