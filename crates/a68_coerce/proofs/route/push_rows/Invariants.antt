use Rattle.std.proofs.Common.{◌≡◌}
use Rattle.a68_coerce.specs.Routes.{with_rows}
use Rattle.a68_coerce.proofs.route.push_rows.Given as goal

abbrev pub invariant-loop : goal.invariant-loop
invariant-loop l = l.items.items ≡ with_rows l.fn.items.items l.counter
