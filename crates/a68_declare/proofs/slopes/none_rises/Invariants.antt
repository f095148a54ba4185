use Rattle.std.proofs.Common.{◌≡◌, ◌<◌, ℕ, true}
use Rattle.std.specs.List.{list_all}
use Rattle.std.specs.Prelude.{nat_le}
use Rattle.a68_declare.specs.Slopes.{height}
use Rattle.a68_equiv.specs.Ways.{row}
use Rattle.a68_declare.proofs.slopes.none_rises.Given as goal

-- no step from the nodes before this one leads to a higher one
abbrev pub invariant-loop-node : goal.invariant-loop-node
invariant-loop-node l = (a : ℕ) → a < l.node → list_all (λ b. nat_le (height l.heights b) (height l.heights a)) (row l.rows a) ≡ true
