use Rattle.std.proofs.Common.{◌≡◌, ◌<◌, ◌-◌, ◌++◌, length}
use Rattle.a68_coerce.specs.Routes.{meek_way}
use Rattle.a68_coerce.proofs.route.push_meekly.Given as goal

abbrev pub invariant-loop : goal.invariant-loop
invariant-loop l = record {
  there : l.at.id < length l.modes;
  same : l.items.items ++ meek_way l.modes (l.count - l.counter) l.at ≡ l.fn.items.items ++ meek_way l.modes l.count l.fn.from;
}
