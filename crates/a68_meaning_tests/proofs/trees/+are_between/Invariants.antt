use Rattle.std.proofs.Common.{length}
use Rattle.a68_meaning_tests.proofs.trees.+are_between.Given as goal

abbrev pub decreases-are_between : goal.decreases-are_between
decreases-are_between l = length l.parts.now
