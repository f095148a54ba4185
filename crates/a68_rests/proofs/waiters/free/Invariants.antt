use Rattle.std.proofs.Common.{◌≡◌, ℕ, true}
use Rattle.std.specs.BTreeSet.{btree_set_len}
use Rattle.a68_marks.specs.Marked.{is_marked}
use Rattle.a68_rests.specs.Waiting.{has}
use Rattle.a68_rests.proofs.waiters.free.Given as goal

abbrev pub invariant-loop-number : goal.invariant-loop-number
invariant-loop-number l = record {
  freed : ((k : ℕ) → is_marked l.listed k ≡ true → is_marked l.fn.listed k ≡ true) × ((k c : ℕ) → is_marked l.listed k ≡ true → has l.fn.set c k ≡ true → has l.set c k ≡ true);
}

abbrev pub decreases-loop-number : goal.decreases-loop-number
decreases-loop-number l = btree_set_len l.set
