use Rattle.std.proofs.Common.{◌≡◌, ◌≤◌, drop, length}
use Rattle.a68_acts.specs.Fetching as fetching
use Rattle.a68_steps.proofs.fetching.fetch_elements.Given as goal

abbrev pub invariant-loop-left : goal.invariant-loop-left
invariant-loop-left l = record {
  fits : l.left ≤ length l.cells;
  made : l.steps ≡ fetching.fetch_elements l.modes l.of (drop l.left l.cells) l.fn.steps;
}

abbrev pub decreases-loop-left : goal.decreases-loop-left
decreases-loop-left l = l.left
