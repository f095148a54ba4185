use Rattle.std.proofs.Common.{◌≡◌, ◌<◌, length}
use Rattle.std.specs.List.{All}
use Rattle.a68_partition.specs.Rounds.{IsCoarse}
use Rattle.a68_partition.proofs.split.split_all.Given as goal

abbrev pub invariant-splits : goal.invariant-splits
invariant-splits l = record {
  long : length l.classes.items ≡ length l.rows;
  below : All (λ c. c < length l.rows) l.classes.items;
  coarse : IsCoarse l.heads l.rows l.classes.items;
}
