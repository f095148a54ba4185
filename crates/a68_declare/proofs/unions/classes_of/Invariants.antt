use Rattle.std.proofs.Common.{take}
use Rattle.a68_declare.specs.Unions.{HasClasses}
use Rattle.a68_declare.proofs.unions.classes_of.Given as goal

abbrev pub invariant-loop-member : goal.invariant-loop-member
invariant-loop-member l = HasClasses l.classes.of (take l.member-index l.members) l.known.keys
