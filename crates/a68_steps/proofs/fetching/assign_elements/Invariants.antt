use Rattle.std.proofs.Common.{◌≡◌, ◌≤◌, drop, length, take}
use Rattle.a68_acts.specs.Fetching as fetching
use Rattle.a68_steps.proofs.fetching.assign_elements.Given as goal

abbrev pub invariant-loop-left : goal.invariant-loop-left
invariant-loop-left l = record {
  fits : l.left ≤ length l.cells;
  taken : l.values ≡ take l.left l.fn.parts;
  made : l.steps ≡ fetching.assign_elements l.modes l.of (drop l.left l.cells) (drop l.left l.fn.parts) l.fn.steps;
}

abbrev pub decreases-loop-left : goal.decreases-loop-left
decreases-loop-left l = l.left
