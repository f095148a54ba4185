use Rattle.a68_declarers.specs.Words.{IsUndefinedWord}
use Rattle.a68_declarers.proofs.Least.{Before}
use Rattle.a68_ranges.specs.Indexed.{IsLeast}
use Rattle.a68_declarers.proofs.words.undefined_word.Given as goal

abbrev pub invariant-loop-id : goal.invariant-loop-id
invariant-loop-id l = IsLeast l.tree (Before (IsUndefinedWord l.tree) l.id) l.found
