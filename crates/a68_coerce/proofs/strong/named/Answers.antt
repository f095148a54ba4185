use Rattle.a68_coerce.proofs.Orders.{no_name}
use Rattle.a68_coerce.proofs.strong.named.Goals as goal

pub returns-in_default-meek : goal.returns-in_default-meek
returns-in_default-meek c = no_name c.args.modes.now c.args.from c.args.goal c.in-Some.inner c.in-Some.ensures.over c.in_default-meek.ensures
