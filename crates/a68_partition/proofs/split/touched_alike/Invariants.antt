use Rattle.std.proofs.Common.{◌<◌, ℕ}
use Rattle.std.specs.Prelude.{◌↔◌}
use Rattle.a68_partition.specs.Rounds.{Touches}
use Rattle.a68_partition.proofs.split.touched_alike.Given as goal

abbrev pub invariant-loop-place : goal.invariant-loop-place
invariant-loop-place l = (p : ℕ) → p < l.place → Touches l.unions l.classes l.by l.one p ↔ Touches l.unions l.classes l.by l.other p
