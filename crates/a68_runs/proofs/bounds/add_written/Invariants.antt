use Rattle.std.proofs.Common.{◌≡◌, ◌++◌, drop}
use Rattle.std.specs.Prelude.{map}
use Rattle.a68_elab.specs.Made as made
use Rattle.a68_runs.specs.Bounds.{seen_from}
use Rattle.a68_runs.proofs.bounds.add_written.Given as goal

-- with the rest of them, all are there
abbrev pub invariant-loop-part : goal.invariant-loop-part
invariant-loop-part l =
    l.bounds.items ++ map (seen_from l.frames) (made.all_written (drop l.part-index l.parts)) ≡ l.initial.bounds.items ++ map (seen_from l.frames) (made.all_written l.parts)
