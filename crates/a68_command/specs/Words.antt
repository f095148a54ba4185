-- The words of a call, as a task.
use Rattle.std.specs.Prelude.{ℕ, ℤ, pos, negsuc, Bool, true, false, ◌&&◌, ◌||◌, nat_le, List, [], ◌∷◌, length, codes, None, Some, is_some, if◌then◌else◌, Contains}
use Rattle.std.specs.Option.{option_map, option_and_then}
use Rattle.std.specs.Str.{bytes_eq}
use Rattle.std.specs.declared.option.Option.{Option}
use Rattle.a68_base.specs.declared.limits.TheConstants.{MOST_FUEL, USUAL_FUEL}
use Rattle.a68_denote.specs.Numbers.{int_in}
use Rattle.a68_maker.specs.declared.maker.TheConstants.{FEWEST_UNITS, MOST_UNITS}
use Rattle.a68_command.specs.declared.words.Allowed.{Allowed}
use Rattle.a68_command.specs.declared.words.TheConstants.{MOST_TRACED_FUEL, MOST_WORKERS}
use Rattle.a68_command.specs.Options.{NextWord, Word, Value, Operand, WordsSoFar, start, steps, text_of}

-- what a command asks for: files by the bytes of their names, how many workers run a text, and whether a run tells the names, its
-- schedule or its races, reads the lines of an input, or follows a schedule; a text with so many units, which is made and run; or a
-- text laid out anew
pub data Task : Type 0 where
  run : (file : List ℕ) (workers fuel : ℕ) (names : Bool) → Task
  run_on : (file input : List ℕ) (workers fuel : ℕ) → Task
  check : (file : List ℕ) → Task
  show_code : (file : List ℕ) → Task
  make_units : (units workers : ℕ) → Task
  trace : (file : List ℕ) (workers fuel : ℕ) → Task
  replay : (file schedule : List ℕ) → Task
  show_races : (file : List ℕ) (workers fuel : ℕ) → Task
  lay_out : (file : List ℕ) → Task

-- the texts that the words give: the first operand, and what else there is
pub record Given : Type 0 where
  pub operand : List ℕ
  pub second : Option (List ℕ)
  pub workers : Option (List ℕ)
  pub fuel : Option (List ℕ)
  pub input : Option (List ℕ)
  pub names : Bool

-- what is given is allowed
abbrev pub is_right : (allowed given : Bool) → Bool
is_right allowed true = allowed
is_right allowed false = true

abbrev pub is_allowed : Allowed → Given → Bool
is_allowed a g =
    is_right a.second (is_some g.second) && (is_right a.workers (is_some g.workers) && (is_right a.fuel (is_some g.fuel) && (is_right a.input (is_some g.input) && is_right a.names g.names)))

-- the verbs
abbrev pub verbs : List (List ℕ)
verbs = codes "run" ∷ codes "check" ∷ codes "code" ∷ codes "make" ∷ codes "trace" ∷ codes "replay" ∷ codes "races" ∷ codes "list" ∷ []

abbrev pub nothing_more : Allowed
nothing_more = record { second = false; workers = false; fuel = false; input = false; names = false }

-- what a verb may have beside its first operand
abbrev pub allowed_to : (verb : List ℕ) → Allowed
allowed_to verb =
    if bytes_eq verb (codes "run") then record nothing_more { workers = true; fuel = true; input = true; names = true }
    else (if bytes_eq verb (codes "make") then record nothing_more { workers = true }
    else (if bytes_eq verb (codes "trace") || bytes_eq verb (codes "races") then record nothing_more { workers = true; fuel = true }
    else (if bytes_eq verb (codes "replay") then record nothing_more { second = true }
    else nothing_more)))

abbrev pub number_as : (most : ℕ) → ℤ → Option ℕ
number_as most (pos n) = if nat_le 1 n && nat_le n most then Some n else None
number_as most (negsuc n) = None

-- a number of an option: one to eight digits, from 1 to a limit
abbrev pub number_in : (most : ℕ) → List ℕ → Option ℕ
number_in most word = if nat_le (length word) 8 then option_and_then (number_as most) (int_in word) else None

-- the number of an option, or the usual one where the option is not given
abbrev pub number_or : (usual most : ℕ) → Option (List ℕ) → Option ℕ
number_or usual most None = Some usual
number_or usual most (Some text) = number_in most text

-- so many units as a made text may have
abbrev pub enough_units : ℕ → Option ℕ
enough_units n = if nat_le FEWEST_UNITS n then Some n else None

abbrev pub unit_count_in : List ℕ → Option ℕ
unit_count_in word = option_and_then enough_units (number_in MOST_UNITS word)

-- what `run` asks for with so many workers and so much fuel; a run that reads an input tells no names
abbrev pub run_of : Given → (workers fuel : ℕ) → Option (List ℕ) → Option Task
run_of g workers fuel None = Some (run g.operand workers fuel g.names)
run_of g workers fuel (Some input) = if g.names then None else Some (run_on g.operand input workers fuel)

abbrev pub run_with : Given → (workers fuel : ℕ) → Option Task
run_with g workers fuel = run_of g workers fuel g.input

-- what `run` asks for
abbrev pub run_by : Given → Option Task
run_by g = option_and_then (λ workers. option_and_then (run_with g workers) (number_or USUAL_FUEL MOST_FUEL g.fuel)) (number_or 1 MOST_WORKERS g.workers)

-- what `make` asks for
abbrev pub made_by : Given → Option Task
made_by g = option_and_then (λ workers. option_map (λ units. make_units units workers) (unit_count_in g.operand)) (number_or 1 MOST_WORKERS g.workers)

-- the workers and the fuel of a run whose entries are looked at one by one
abbrev pub traced_numbers : Given → Option (ℕ × ℕ)
traced_numbers g = option_and_then (λ workers. option_map (λ fuel. (workers, fuel)) (number_or MOST_TRACED_FUEL MOST_TRACED_FUEL g.fuel)) (number_or 1 MOST_WORKERS g.workers)

-- what `trace` asks for
abbrev pub trace_by : Given → Option Task
trace_by g = option_map (λ n. trace g.operand n.0 n.1) (traced_numbers g)

-- what `replay` asks for
abbrev pub replay_by : Given → Option Task
replay_by g = option_map (replay g.operand) g.second

-- what `races` asks for
abbrev pub races_by : Given → Option Task
races_by g = option_map (λ n. show_races g.operand n.0 n.1) (traced_numbers g)

-- what a verb asks for
abbrev pub asked_by : (verb : List ℕ) → Given → Option Task
asked_by verb g =
    if bytes_eq verb (codes "run") then run_by g
    else (if bytes_eq verb (codes "check") then Some (check g.operand)
    else (if bytes_eq verb (codes "code") then Some (show_code g.operand)
    else (if bytes_eq verb (codes "make") then made_by g
    else (if bytes_eq verb (codes "trace") then trace_by g
    else (if bytes_eq verb (codes "replay") then replay_by g
    else (if bytes_eq verb (codes "races") then races_by g
    else (if bytes_eq verb (codes "list") then Some (lay_out g.operand)
    else None)))))))

-- what a verb asks for, where no more is given than it may have
abbrev pub task_by : (verb : List ℕ) → Given → Option Task
task_by verb g = if is_allowed (allowed_to verb) g then asked_by verb g else None

abbrev pub is_true : Option (List ℕ) → Bool
is_true None = false
is_true (Some text) = bytes_eq text (codes "true")

-- what is given, by its names
abbrev pub given_by : (text : List ℕ → Option (List ℕ)) → (operand : List ℕ) → Given
given_by text operand = record {
  operand = operand;
  second = text (codes "second");
  workers = text (codes "workers");
  fuel = text (codes "fuel");
  input = text (codes "input");
  names = is_true (text (codes "names"));
}

-- what a verb asks for, by the texts that are given: there is an operand
abbrev pub task_with : (verb : List ℕ) → (text : List ℕ → Option (List ℕ)) → Option Task
task_with verb text = option_and_then (λ operand. task_by verb (given_by text operand)) (text (codes "operand"))

-- no option lacks its value
abbrev pub is_whole : NextWord → Bool
is_whole Word = true
is_whole (Value name) = false
is_whole Operand = true

abbrev pub task_of_found : (verb : List ℕ) → WordsSoFar → Option Task
task_of_found verb found = if is_whole found.due then task_with verb (text_of found.given) else None

-- the task of the words; None: the words are no command
abbrev pub task_in : List (List ℕ) → Option Task
task_in [] = None
task_in (verb ∷ words) = option_and_then (task_of_found verb) (steps start words)

-- the files that a task reads, in order
abbrev pub files_of_task : Task → List (List ℕ)
files_of_task (run file workers fuel names) = file ∷ []
files_of_task (run_on file input workers fuel) = file ∷ input ∷ []
files_of_task (check file) = file ∷ []
files_of_task (show_code file) = file ∷ []
files_of_task (make_units units workers) = []
files_of_task (trace file workers fuel) = file ∷ []
files_of_task (replay file schedule) = file ∷ schedule ∷ []
files_of_task (show_races file workers fuel) = file ∷ []
files_of_task (lay_out file) = file ∷ []

-- the files that are read for the words
abbrev pub files_of : Option Task → List (List ℕ)
files_of None = []
files_of (Some task) = files_of_task task

-- A shelf may be asked for each file that the task reads.
abbrev pub MayAskFor : (List ℕ → Type 0) → Option Task → Type 0
MayAskFor may_ask task = (file : List ℕ) → Contains (files_of task) file → may_ask file
