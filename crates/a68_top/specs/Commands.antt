-- Inner: the headline does not rest on this file.
-- What a command owes for the program of its text.
use Rattle.std.specs.Prelude.{◌≡◌, ⊤, ℕ, List, [], ◌∷◌, length, IfSome}
use Rattle.std.specs.declared.option.Option.{Option}
use Rattle.a68_base.specs.declared.limits.TheConstants.{MOST_FUEL, USUAL_FUEL}
use Rattle.a68_base.specs.declared.refusal.Rule.TheVariants.{Q1, Q2, Q3, Q4, Q5}
use Rattle.a68_base.specs.declared.refusal.Refusal.{Refusal}
use Rattle.a68_elab.specs.Permitted.{Permitted}
use Rattle.a68_elab.specs.Programs.{program_of}
use Rattle.a68_input.specs.Joining.{joined, prelude}
use Rattle.a68_input.specs.Lines.{AreLines, IsBeyond, FirstBeyond as FirstTooLong}
use Rattle.a68_command.specs.Words.{Task, run, run_on, check, show_code, make_units, trace, replay, show_races, lay_out, files_of_task}
use Rattle.a68_maker.specs.Making.{make_text}
use Rattle.a68_replay.specs.Replays.{IsShort, IsStuck}
use Rattle.a68_replay.specs.Schedules.{IsBad, IsSchedule}
use Rattle.a68_report.specs.Listing.{code_text}
use Rattle.a68_top.specs.Answer.{AreRaces, HasRun, IsListOf, IsMadeOf, IsMovedRefusal, IsPicked, IsPrinted, IsRacedOf, IsRefusal, IsRunOf, IsTraced, IsTurned, ProgramIsKept, RunsBeyond, nothing, read_of, telling_of}
use Rattle.a68_top.specs.Compiles.{Compiles, RefusedAs}
use Rattle.a68_top.specs.declared.finish.Finish.{Finish}
use Rattle.a68_top.specs.declared.finish.Made.{Made}
use Rattle.a68_top.specs.declared.finish.Telling.TheVariants.{EndAlone, MovedEnd, Units}
use Rattle.a68_top.specs.declared.finish.Writing.{Writing}
use Rattle.a68_top.specs.declared.finish.Writing.TheVariants.{Printed, Schedule}
use Rattle.a68_values.specs.declared.kept.Kept.{Kept}

-- what a run writes
abbrev pub IsWritten : Writing → Kept → List ℕ → Type 0
IsWritten Printed = IsPrinted
IsWritten Schedule = IsTraced

-- the races of a run are told, or it has too many strands
pub data HasRaced (made : Made) (workers fuel : ℕ) (finish : Finish) (out notes : List ℕ) : Type 0 where
  beyond : (place : ℕ) → RunsBeyond made workers fuel place → IsRefusal (record { rule = Q4; place = place }) finish out notes → HasRaced made workers fuel finish out notes
  told : HasRun made fuel (IsTurned workers) AreRaces EndAlone finish out notes → HasRaced made workers fuel finish out notes

-- the program has run by the picks, or one has no turn, or they end before the run does
pub data HasFollowed (made : Made) (picks : List ℕ) (finish : Finish) (out notes : List ℕ) : Type 0 where
  no_turn : (place : ℕ) → IsStuck made.code picks place → IsRefusal (record { rule = Q2; place = place }) finish out notes → HasFollowed made picks finish out notes
  no_end : IsShort made.code picks → IsRefusal (record { rule = Q3; place = length picks }) finish out notes → HasFollowed made picks finish out notes
  followed : HasRun made MOST_FUEL (IsPicked picks) IsPrinted EndAlone finish out notes → HasFollowed made picks finish out notes

-- so by the picks of a schedule, or the bytes are none
pub data HasReplayed (made : Made) (schedule : List ℕ) (finish : Finish) (out notes : List ℕ) : Type 0 where
  bad : (place : ℕ) → IsBad schedule place → IsRefusal (record { rule = Q1; place = place }) finish out notes → HasReplayed made schedule finish out notes
  picked : (picks : List ℕ) → IsSchedule schedule picks → HasFollowed made picks finish out notes → HasReplayed made schedule finish out notes

-- the text with these lines in front of its program is refused, or its program has run
pub data HasRunJoined (text : List ℕ) (lines : List (List ℕ)) (workers fuel : ℕ) (finish : Finish) (out notes : List ℕ) : Type 0 where
  joined_refused : (refusal : Refusal) → RefusedAs (joined text lines) refusal → IsMovedRefusal (length (prelude lines)) refusal finish out notes
      → HasRunJoined text lines workers fuel finish out notes
  joined_ran : (made : Made) → Compiles (joined text lines) made
      → (has : HasRun made fuel (IsTurned workers) IsPrinted (MovedEnd (length (prelude lines))) finish out notes)
      → Permitted (program_of made.program) fuel has.kept → HasRunJoined text lines workers fuel finish out notes

-- so with the lines of an input, or it is too long
pub data HasRunOn (text input : List ℕ) (workers fuel : ℕ) (finish : Finish) (out notes : List ℕ) : Type 0 where
  beyond_input : (place : ℕ) → FirstTooLong input place → IsRefusal (record { rule = Q5; place = place }) finish out notes → HasRunOn text input workers fuel finish out notes
  on_lines : (lines : List (List ℕ)) → AreLines input lines → ((k : ℕ) → IsBeyond input k → ⊥) → HasRunJoined text lines workers fuel finish out notes
      → HasRunOn text input workers fuel finish out notes

-- one text alone decides
abbrev pub HasOneText : Task → Type 0
HasOneText (run_on file input workers fuel) = ⊥
HasOneText (replay file schedule) = ⊥
HasOneText task = ⊤

-- the program of the one text is run for what it writes
abbrev pub IsRun : Task → Type 0
IsRun (run file workers fuel names) = ⊤
IsRun (make_units units workers) = ⊤
IsRun (trace file workers fuel) = ⊤
IsRun task = ⊥

-- the program of the one text is made
abbrev pub IsMade : Task → Type 0
IsMade (run_on file input workers fuel) = ⊥
IsMade (replay file schedule) = ⊥
IsMade (lay_out file) = ⊥
IsMade task = ⊤

abbrev pub AnswersMade : Task → Made → Finish → List ℕ → List ℕ → Type 0
AnswersMade (run file workers fuel names) made finish out notes = HasRun made fuel (IsTurned workers) IsPrinted (telling_of names) finish out notes
AnswersMade (run_on file input workers fuel) made finish out notes = ⊥
AnswersMade (check file) made finish out notes = ProgramIsKept made [] finish out notes
AnswersMade (show_code file) made finish out notes = ProgramIsKept made (code_text made.code) finish out notes
AnswersMade (make_units units workers) made finish out notes = HasRun made USUAL_FUEL (IsTurned workers) IsPrinted (Units units) finish out notes
AnswersMade (trace file workers fuel) made finish out notes = HasRun made fuel (IsTurned workers) IsTraced EndAlone finish out notes
AnswersMade (replay file schedule) made finish out notes = ⊥
AnswersMade (show_races file workers fuel) made finish out notes = HasRaced made workers fuel finish out notes
AnswersMade (lay_out file) made finish out notes = ⊥

-- what a task of one text owes for it
abbrev pub AnswersText : Task → List ℕ → Finish → List ℕ → List ℕ → Type 0
AnswersText (run file workers fuel names) text finish out notes = IsRunOf text workers fuel IsPrinted (telling_of names) finish out notes
AnswersText (run_on file input workers fuel) text finish out notes = ⊥
AnswersText (check file) text finish out notes = IsMadeOf text nothing finish out notes
AnswersText (show_code file) text finish out notes = IsMadeOf text code_text finish out notes
AnswersText (make_units units workers) text finish out notes = IsRunOf text workers USUAL_FUEL IsPrinted (Units units) finish out notes
AnswersText (trace file workers fuel) text finish out notes = IsRunOf text workers fuel IsTraced EndAlone finish out notes
AnswersText (replay file schedule) text finish out notes = ⊥
AnswersText (show_races file workers fuel) text finish out notes = IsRacedOf text workers fuel finish out notes
AnswersText (lay_out file) text finish out notes = IsListOf text finish out notes

-- This is the text of such a task: the one that is made, or what is read of its file, by the bytes that the shelf tells.
pub data IsTextFor (task : Task) (under : List ℕ → Option (List ℕ)) (text : List ℕ) : Type 0 where
  is_made : (units workers : ℕ) → task ≡ make_units units workers → text ≡ read_of (make_text units) → IsTextFor task under text
  is_read : (file whole : List ℕ) → files_of_task task ≡ file ∷ [] → IfSome (under file) (λ all. whole ≡ all) → text ≡ read_of whole → IsTextFor task under text
