use Rattle.a68_declare.specs.Broken.{IsIllFormed}
use Rattle.a68_declarers.proofs.Least.{Before}
use Rattle.a68_declarers.specs.Numbers.{number_at}
use Rattle.a68_ranges.specs.Indexed.{IsLeast}
use Rattle.a68_declare.proofs.formed.ill_definition.Given as goal

abbrev pub invariant-loop-id : goal.invariant-loop-id
invariant-loop-id l = IsLeast l.tree (Before (IsIllFormed l.tree l.modes (number_at l.numbers)) l.id) l.found
