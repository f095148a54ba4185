use Rattle.std.proofs.Common.{◌≡◌}
use Rattle.a68_maps.specs.Found.{found, look}
use Rattle.a68_maps.proofs.maps.Maps.get.Given as goal

abbrev pub invariant-bits : goal.invariant-bits
invariant-bits l = look l.self l.bits l.at l.left ≡ found l.self l.fn.map l.fn.key

abbrev pub decreases-bits : goal.decreases-bits
decreases-bits l = l.bits
