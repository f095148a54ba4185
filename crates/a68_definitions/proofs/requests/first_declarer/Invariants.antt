use Rattle.std.proofs.Common.{◌≡◌, drop}
use Rattle.a68_definitions.specs.Defined.{first_declarer}
use Rattle.a68_definitions.proofs.requests.first_declarer.Given as goal

abbrev pub invariant-loop-part : goal.invariant-loop-part
invariant-loop-part l = first_declarer l.tree (drop l.part-index l.parts) ≡ first_declarer l.tree l.parts
