-- What a run keeps, where it is a run of this code.
use Rattle.std.specs.Prelude.{◌≤◌, ℕ, length}
use Rattle.a68_acts.specs.Keeping.{IsKept}
use Rattle.a68_code.specs.declared.code.Code.{Code}
use Rattle.a68_strand.specs.Ends.{RunEndsWith}
use Rattle.a68_exec.specs.Runs.{World, Machine, opening}
use Rattle.a68_values.specs.declared.kept.Kept.{Kept}

-- The machine has this journal with this fuel, and what is kept is what it leaves.
pub record RunOf (code : Code) (fuel : ℕ) (kept : Kept) : Type 0 where
  pub world : World
  pub runs : Machine code (opening code) kept.journal.entries world
  pub keeps : IsKept world.store kept
  pub within : length kept.journal.entries ≤ fuel
  pub ends : RunEndsWith code fuel kept.journal.entries world kept.end
