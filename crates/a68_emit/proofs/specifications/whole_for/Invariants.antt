use Rattle.std.proofs.Common.{◌≡◌, ◌≤◌, ◌-◌, ℕ, drop, length}
use Rattle.a68_elab.specs.Made.{specs_of}
use Rattle.a68_elab.specs.Trees.{Tree}
use Rattle.a68_emit.specs.Stretches.{whole_for}
use Rattle.a68_emit.proofs.specifications.whole_for.Given as goal

-- the specifications before this one do not take it
abbrev pub invariant-loop-at : goal.invariant-loop-at
invariant-loop-at l = (l.at ≤ length l.specs) × ((f : ℕ → Tree) → whole_for l.member (specs_of l.program.of.now f (drop l.at l.specs)) ≡ whole_for l.member (specs_of l.program.of.now f l.specs))

abbrev pub decreases-loop-at : goal.decreases-loop-at
decreases-loop-at l = length l.specs - l.at
