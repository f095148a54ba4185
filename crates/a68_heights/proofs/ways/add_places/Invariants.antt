use Rattle.std.proofs.Common.{◌≡◌, ◌++◌, take}
use Rattle.a68_code.specs.Walk.{at_height}
use Rattle.a68_heights.proofs.ways.add_places.Given as goal

abbrev pub invariant-loop-to : goal.invariant-loop-to
invariant-loop-to l = l.found.items ≡ l.fn.found.items ++ at_height l.height (take l.to-index l.places)
