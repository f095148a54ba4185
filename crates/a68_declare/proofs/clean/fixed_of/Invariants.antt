use Rattle.std.proofs.Common.{take}
use Rattle.a68_declare.specs.Numbering.{AreTwins}
use Rattle.a68_declare.proofs.clean.fixed_of.Given as goal

abbrev pub invariant-loop-first : goal.invariant-loop-first
invariant-loop-first l = AreTwins l.numbering.to.items (take l.first-index l.numbering.firsts.items) l.fixed.items
