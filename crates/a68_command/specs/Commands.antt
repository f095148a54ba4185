-- Inner: the headline does not rest on this file.
-- A command as a task.
use Rattle.std.specs.Prelude.{◌≤◌, ⊤}
use Rattle.a68_base.specs.declared.limits.TheConstants.{MOST_FUEL}
use Rattle.a68_maker.specs.declared.maker.TheConstants.{FEWEST_UNITS, MOST_UNITS}
use Rattle.a68_command.specs.declared.words.TheConstants.{MOST_TRACED_FUEL, MOST_WORKERS}
use Rattle.a68_command.specs.Words.{Task, run, run_on, check, show_code, make_units, trace, replay, show_races, lay_out}
use Rattle.a68_command.specs.declared.command.Command.{Command}
use Rattle.a68_command.specs.declared.command.Command.TheVariants.{Run, RunOn, Check, Code, Make, Trace, Replay, Races, LayOut}

abbrev pub task_of : Command → Task
task_of (Run file workers fuel names) = run file workers fuel names
task_of (RunOn file input workers fuel) = run_on file input workers fuel
task_of (Check file) = check file
task_of (Code file) = show_code file
task_of (Make units workers) = make_units units workers
task_of (Trace file workers fuel) = trace file workers fuel
task_of (Replay file schedule) = replay file schedule
task_of (Races file workers fuel) = show_races file workers fuel
task_of (LayOut file) = lay_out file

-- the workers and the fuel that a command names are such as a run may have, and its units as many as a made text may have
abbrev pub HasRange : Command → Type 0
HasRange (Run file workers fuel names) = ((1 ≤ workers) × (workers ≤ MOST_WORKERS)) × ((1 ≤ fuel) × (fuel ≤ MOST_FUEL))
HasRange (RunOn file input workers fuel) = ((1 ≤ workers) × (workers ≤ MOST_WORKERS)) × ((1 ≤ fuel) × (fuel ≤ MOST_FUEL))
HasRange (Check file) = ⊤
HasRange (Code file) = ⊤
HasRange (Make units workers) = ((1 ≤ workers) × (workers ≤ MOST_WORKERS)) × ((FEWEST_UNITS ≤ units) × (units ≤ MOST_UNITS))
HasRange (Trace file workers fuel) = ((1 ≤ workers) × (workers ≤ MOST_WORKERS)) × ((1 ≤ fuel) × (fuel ≤ MOST_TRACED_FUEL))
HasRange (Replay file schedule) = ⊤
HasRange (Races file workers fuel) = ((1 ≤ workers) × (workers ≤ MOST_WORKERS)) × ((1 ≤ fuel) × (fuel ≤ MOST_TRACED_FUEL))
HasRange (LayOut file) = ⊤
