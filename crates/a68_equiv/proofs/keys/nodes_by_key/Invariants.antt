use Rattle.std.proofs.Common.{ℕ, List}
use Rattle.a68_equiv.specs.ModeKeys.{IsModeKey}
use Rattle.a68_equiv.specs.Related.{as_it_stands}
use Rattle.a68_partition.specs.Rounds.{SoFar}
use Rattle.a68_equiv.proofs.keys.nodes_by_key.Given as goal

abbrev pub invariant-loop-id : goal.invariant-loop-id
invariant-loop-id l = (firsts : List ℕ) × SoFar (λ m key. IsModeKey l.modes l.classes (as_it_stands m) key) l.table.entries firsts l.id
