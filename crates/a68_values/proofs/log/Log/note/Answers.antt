use Rattle.std.proofs.Common.{length, sym, subst, arith}
use Rattle.std.specs.List.{All}
use Rattle.a68_values.specs.Logs.{IsAmong}
use Rattle.a68_values.proofs.Logging.{all_among}
use Rattle.a68_values.proofs.log.Log.note.Goals as goal

pub invariant_of-self : goal.invariant_of-self
invariant_of-self c =
    let apart = length c.self.inside.apart.items in (
      subst (All (IsAmong apart)) (sym c.push_reserved.ensures.items) (all_among apart c.self.inside.briefs.items c.in-Some.brief c.self.invariant.0 (c.in-Some.ensures.among apart)),
      omega (arith, c.self.invariant.1, c.push_reserved.ensures.len),
      omega (arith, c.self.invariant.2, c.push_reserved.ensures.capacity),
      c.self.invariant.3,
    )
