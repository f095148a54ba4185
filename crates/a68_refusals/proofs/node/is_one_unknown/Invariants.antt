use Rattle.std.proofs.Common.{◌≡◌, drop}
use Rattle.a68_refusals.specs.Rules.{is_one_unknown}
use Rattle.a68_refusals.proofs.node.is_one_unknown.Given as goal

abbrev pub invariant-loop-part : goal.invariant-loop-part
invariant-loop-part l = is_one_unknown l.yields (drop l.part-index l.parts) ≡ is_one_unknown l.yields l.parts
