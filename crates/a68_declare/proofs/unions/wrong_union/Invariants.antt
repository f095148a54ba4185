use Rattle.a68_declare.specs.Broken.{IsWrongUnion}
use Rattle.a68_declarers.proofs.Least.{Before}
use Rattle.a68_declarers.specs.Numbers.{number_at}
use Rattle.a68_ranges.specs.Indexed.{IsLeast}
use Rattle.a68_declare.proofs.unions.wrong_union.Given as goal

abbrev pub invariant-loop-id : goal.invariant-loop-id
invariant-loop-id l = IsLeast l.tree (Before (IsWrongUnion l.tree l.modes (number_at l.numbers)) l.id) l.found
