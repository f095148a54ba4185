-- Inner: the headline does not rest on this file.
-- The task of the words as they are split.
use Rattle.std.specs.Prelude.{ℕ, List, [], ◌∷◌, None}
use Rattle.std.specs.Option.{option_and_then}
use Rattle.std.specs.declared.option.Option.{Option}
use Rattle.clap.specs.Faults.{fault_of}
use Rattle.clap.specs.Kinds.{Kinds}
use Rattle.clap.specs.Simple.{subcommand_of}
use Rattle.clap.specs.Walk.{Row, Text, first_of}
use Rattle.a68_command.specs.Splitting.{call_app}
use Rattle.a68_command.specs.Words.{Task, task_with}

-- the task of a verb and its matches
abbrev pub matched_task : Text × List Row → Option Task
matched_task p = task_with p.0 (λ name. first_of name p.1)

abbrev pub unless_fault : Kinds → Option Task → Option Task
unless_fault [] task = task
unless_fault (k ∷ ks) task = None

abbrev pub split_task : List (List ℕ) → Option Task
split_task words = unless_fault (fault_of call_app words) (option_and_then matched_task (subcommand_of call_app words))
