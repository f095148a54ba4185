use Rattle.std.proofs.Common.{◌≡◌, ◌++◌, take}
use Rattle.a68_code.specs.Walk.{to_members}
use Rattle.a68_heights.proofs.ways.add_members.Given as goal

abbrev pub invariant-loop-to : goal.invariant-loop-to
invariant-loop-to l = l.found.items ≡ l.fn.found.items ++ to_members l.last l.below (take l.to-index l.places)
