-- What a call owes: the relation between the task, the texts of its files, the finish, and the bytes on out and notes.
use Rattle.std.specs.Prelude.{◌≡◌, ℕ, Bool, List, [], ◌∷◌, ◌++◌, length, take, None, Some, if◌then◌else◌}
use Rattle.std.specs.declared.option.Option.{Option}
use Rattle.a68_annot.specs.declared.annotated.Annotated.{Annotated}
use Rattle.a68_base.specs.declared.limits.TheConstants.{MOST_FUEL, MOST_READ, USUAL_FUEL}
use Rattle.a68_base.specs.declared.refusal.Refusal.{Refusal}
use Rattle.a68_base.specs.declared.refusal.Rule.TheVariants.{Q1, Q2, Q3, Q4, Q5}
use Rattle.a68_base.specs.declared.status.Status.{Status}
use Rattle.a68_base.specs.declared.status.Status.TheVariants.{Done, Refused, Usage, Fault, AllHalted, Spent}
use Rattle.a68_code.specs.declared.code.Code.{Code}
use Rattle.a68_elab.specs.Programs.{program_of}
use Rattle.a68_elab.specs.Permitted.{Permitted}
use Rattle.a68_input.specs.Joining.{joined, prelude}
use Rattle.a68_input.specs.Lines.{AreLines, IsBeyond, FirstBeyond as FirstTooLong}
use Rattle.a68_lister.specs.Layout.{listed, spellings_in}
use Rattle.a68_maker.specs.Making.{make_text}
use Rattle.a68_races.specs.Lines.{race_text}
use Rattle.a68_races.specs.Races.{FirstBeyond, NoneBeyond, RacesAre}
use Rattle.a68_races.specs.Shown.{Shown}
use Rattle.a68_replay.specs.Replays.{IsShort, IsStuck}
use Rattle.a68_replay.specs.Schedules.{IsBad, IsSchedule, picks_of, schedule_text}
use Rattle.a68_report.specs.Lines.{usage_line, refusal_line, moved_refusal_line, end_line, moved_end_line, units_line}
use Rattle.a68_report.specs.Listing.{code_text}
use Rattle.a68_report.specs.Variables.{names_text}
use Rattle.a68_strand.specs.Cyclic.{Cyclic}
use Rattle.a68_strand.specs.RunOf.{RunOf}
use Rattle.a68_top.specs.Compiles.{Compiles, IsTreeOf, RefusedAs, RefusedBefore}
use Rattle.a68_top.specs.declared.finish.Finish.{Finish}
use Rattle.a68_top.specs.declared.finish.Made.{Made}
use Rattle.a68_top.specs.declared.finish.Telling.{Telling}
use Rattle.a68_top.specs.declared.finish.Telling.TheVariants.{EndAlone, MovedEnd, Variables, Units}
use Rattle.a68_command.specs.Words.{Task, run, run_on, check, show_code, make_units, trace, replay, show_races, lay_out}
use Rattle.a68_tree.specs.Trees.{Built}
use Rattle.a68_values.specs.declared.kept.End.{End}
use Rattle.a68_values.specs.declared.kept.End.TheVariants as ends
use Rattle.a68_values.specs.declared.kept.Kept.{Kept}

-- a row of the table: this finish, these bytes on out and these on notes
pub record Says (finish : Finish) (out notes : List ℕ) (due : Finish) (due_out due_notes : List ℕ) : Type 0 where
  pub finish_is : finish ≡ due
  pub out_is : out ≡ due_out
  pub notes_are : notes ≡ due_notes

-- a finish that keeps nothing
abbrev pub bare : Status → Finish
bare status = record { status = status; refusal = None; made = None; ran = None }

-- the words are no command
abbrev pub IsUsage : Finish → List ℕ → List ℕ → Type 0
IsUsage finish out notes = Says finish out notes (bare Usage) [] usage_line

-- the text breaks this rule
abbrev pub IsRefusal : Refusal → Finish → List ℕ → List ℕ → Type 0
IsRefusal refusal finish out notes = Says finish out notes (record { status = Refused; refusal = Some refusal; made = None; ran = None }) [] (refusal_line refusal.rule refusal.place)

-- the text breaks this rule, with so many bytes in front of its program
abbrev pub IsMovedRefusal : (offset : ℕ) → Refusal → Finish → List ℕ → List ℕ → Type 0
IsMovedRefusal offset refusal finish out notes =
    Says finish out notes (record { status = Refused; refusal = Some refusal; made = None; ran = None }) [] (moved_refusal_line offset refusal.rule refusal.place)

-- the status of a run that ended so
abbrev pub status_of : End → Status
status_of ends.Done = Done
status_of (ends.Fault why place strand) = Fault
status_of ends.AllHalted = AllHalted
status_of ends.Spent = Spent

-- what a run tells where its variables are asked for, or are not
abbrev pub telling_of : (names : Bool) → Telling
telling_of names = if names then Variables else EndAlone

-- the units and the events of a run that is done
abbrev pub size_line : End → (units events : ℕ) → List ℕ
size_line ends.Done units events = units_line units events
size_line end units events = []

-- The lines of a run: how it ended, and behind that what its variables refer to, or how great it was, where this is asked for.
abbrev pub run_lines : Telling → Annotated → Kept → List ℕ
run_lines EndAlone program kept = end_line kept.end
run_lines (MovedEnd offset) program kept = moved_end_line offset kept.end
run_lines Variables program kept = end_line kept.end ++ names_text program kept
run_lines (Units units) program kept = end_line kept.end ++ size_line kept.end units (length kept.journal.entries)

-- the text that a run printed
abbrev pub IsPrinted : Kept → List ℕ → Type 0
IsPrinted kept out = out ≡ kept.journal.text

-- the schedule of a run
abbrev pub IsTraced : Kept → List ℕ → Type 0
IsTraced kept out = out ≡ schedule_text (picks_of kept)

-- the text of the races of a run, none of whose strands is numbered above those that are told apart
pub record AreRaces (kept : Kept) (out : List ℕ) : Type 0 where
  pub within : NoneBeyond kept.journal.entries
  pub shown : Shown
  pub races : RacesAre kept.journal.entries shown
  pub text : out ≡ race_text shown

-- one worker takes the strands in a circle
abbrev pub IsTurned : (workers : ℕ) → Code → Kept → Type 0
IsTurned workers code kept = workers ≡ 1 → Cyclic code kept

-- the strands are those of the picks
abbrev pub IsPicked : (picks : List ℕ) → Code → Kept → Type 0
IsPicked picks code kept = picks_of kept ≡ picks

-- The program has run so, its strands in this order; what is written of the run is on out, and its lines are on notes.
pub record HasRun (made : Made) (fuel : ℕ) (IsInOrder : Code → Kept → Type 0) (IsWritten : Kept → List ℕ → Type 0) (telling : Telling) (finish : Finish) (out notes : List ℕ) : Type 0 where
  pub kept : Kept
  pub machine : RunOf made.code fuel kept
  pub in_order : IsInOrder made.code kept
  pub finish_is : finish ≡ record { status = status_of kept.end; refusal = None; made = Some made; ran = Some kept }
  pub out_is : IsWritten kept out
  pub notes_are : notes ≡ run_lines telling made.program kept

-- A run of a text: the text is refused, or its program has run, as the rules of the language permit.
pub data IsRunOf (text : List ℕ) (workers fuel : ℕ) (IsWritten : Kept → List ℕ → Type 0) (telling : Telling) (finish : Finish) (out notes : List ℕ) : Type 0 where
  refused : (refusal : Refusal) → RefusedAs text refusal → IsRefusal refusal finish out notes → IsRunOf text workers fuel IsWritten telling finish out notes
  ran : (made : Made) → Compiles text made → (has : HasRun made fuel (IsTurned workers) IsWritten telling finish out notes) → Permitted (program_of made.program) fuel has.kept
      → IsRunOf text workers fuel IsWritten telling finish out notes

-- A run of a text that reads the lines of an input: the text is refused before it has a tree; or the input is too long; or the text
-- with the definitions in front of it by which it reads them is refused, or has run, as the rules of the language permit.
pub data IsRunOn (text input : List ℕ) (workers fuel : ℕ) (finish : Finish) (out notes : List ℕ) : Type 0 where
  refused_alone : (refusal : Refusal) → RefusedBefore text refusal → IsRefusal refusal finish out notes → IsRunOn text input workers fuel finish out notes
  too_long : (tree : Built) (place : ℕ) → IsTreeOf text tree → FirstTooLong input place → IsRefusal (record { rule = Q5; place = place }) finish out notes
      → IsRunOn text input workers fuel finish out notes
  refused_joined : (tree : Built) (lines : List (List ℕ)) (refusal : Refusal) → IsTreeOf text tree → AreLines input lines → ((k : ℕ) → IsBeyond input k → ⊥)
      → RefusedAs (joined text lines) refusal → IsMovedRefusal (length (prelude lines)) refusal finish out notes → IsRunOn text input workers fuel finish out notes
  ran_on : (tree : Built) (lines : List (List ℕ)) (made : Made) → IsTreeOf text tree → AreLines input lines → ((k : ℕ) → IsBeyond input k → ⊥)
      → Compiles (joined text lines) made → (has : HasRun made fuel (IsTurned workers) IsPrinted (MovedEnd (length (prelude lines))) finish out notes)
      → Permitted (program_of made.program) fuel has.kept → IsRunOn text input workers fuel finish out notes

-- A replay of a text: the text is refused; or the bytes are no schedule; or the strand of a pick has no turn; or the picks end before
-- the run does; or its program has run by the picks, as the rules of the language permit.
pub data IsReplayOf (text schedule : List ℕ) (finish : Finish) (out notes : List ℕ) : Type 0 where
  unplayed : (refusal : Refusal) → RefusedAs text refusal → IsRefusal refusal finish out notes → IsReplayOf text schedule finish out notes
  unread : (made : Made) (place : ℕ) → Compiles text made → IsBad schedule place → IsRefusal (record { rule = Q1; place = place }) finish out notes
      → IsReplayOf text schedule finish out notes
  stuck : (made : Made) (picks : List ℕ) (place : ℕ) → Compiles text made → IsSchedule schedule picks → IsStuck made.code picks place
      → IsRefusal (record { rule = Q2; place = place }) finish out notes → IsReplayOf text schedule finish out notes
  short : (made : Made) (picks : List ℕ) → Compiles text made → IsSchedule schedule picks → IsShort made.code picks
      → IsRefusal (record { rule = Q3; place = length picks }) finish out notes → IsReplayOf text schedule finish out notes
  replayed : (made : Made) (picks : List ℕ) → Compiles text made → IsSchedule schedule picks
      → (has : HasRun made MOST_FUEL (IsPicked picks) IsPrinted EndAlone finish out notes) → Permitted (program_of made.program) MOST_FUEL has.kept
      → IsReplayOf text schedule finish out notes

-- The program has run, one worker has taken its strands in a circle, and the entry at this place is the first that is of, or
-- numbers, a strand above those that are told apart.
pub record RunsBeyond (made : Made) (workers fuel place : ℕ) : Type 0 where
  pub kept : Kept
  pub machine : RunOf made.code fuel kept
  pub in_order : IsTurned workers made.code kept
  pub beyond : FirstBeyond kept.journal.entries place

-- The races of a text: the text is refused; or its program has run, as the rules of the language permit, and its run has too many
-- strands, or its races are told.
pub data IsRacedOf (text : List ℕ) (workers fuel : ℕ) (finish : Finish) (out notes : List ℕ) : Type 0 where
  unraced : (refusal : Refusal) → RefusedAs text refusal → IsRefusal refusal finish out notes → IsRacedOf text workers fuel finish out notes
  crowded : (made : Made) (place : ℕ) → Compiles text made → (run_is : RunsBeyond made workers fuel place) → Permitted (program_of made.program) fuel run_is.kept
      → IsRefusal (record { rule = Q4; place = place }) finish out notes → IsRacedOf text workers fuel finish out notes
  raced : (made : Made) → Compiles text made → (has : HasRun made fuel (IsTurned workers) AreRaces EndAlone finish out notes) → Permitted (program_of made.program) fuel has.kept
      → IsRacedOf text workers fuel finish out notes

-- The program is kept and not run, and this is on out.
abbrev pub ProgramIsKept : Made → List ℕ → Finish → List ℕ → List ℕ → Type 0
ProgramIsKept made shown finish out notes = Says finish out notes (record { status = Done; refusal = None; made = Some made; ran = None }) shown []

-- The text is refused, or it is compiled and not run; what is shown of its code is then on out.
pub data IsMadeOf (text : List ℕ) (shown : Code → List ℕ) (finish : Finish) (out notes : List ℕ) : Type 0 where
  unmade : (refusal : Refusal) → RefusedAs text refusal → IsRefusal refusal finish out notes → IsMadeOf text shown finish out notes
  compiled : (made : Made) → Compiles text made → ProgramIsKept made (shown made.code) finish out notes → IsMadeOf text shown finish out notes

-- nothing is shown of a code
abbrev pub nothing : Code → List ℕ
nothing code = []

-- these bytes are the symbols of the text, which has a tree, laid out anew
pub record IsListingOf (text out : List ℕ) : Type 0 where
  pub tree : Built
  pub is : IsTreeOf text tree
  pub laid_out : out ≡ listed (spellings_in is.found)

-- The text is refused before it has a tree, or it is laid out anew.
pub data IsListOf (text : List ℕ) (finish : Finish) (out notes : List ℕ) : Type 0 where
  unlisted : (refusal : Refusal) → RefusedBefore text refusal → IsRefusal refusal finish out notes → IsListOf text finish out notes
  anew : (shown : List ℕ) → IsListingOf text shown → Says finish out notes (bare Done) shown [] → IsListOf text finish out notes

-- as much of a program's text as is read: one byte above the limit
abbrev pub read_of : List ℕ → List ℕ
read_of text = take MOST_READ text

-- what a task owes for the texts of its files, in order, or for the one that is made
abbrev pub AnswersTexts : Task → List (List ℕ) → Finish → List ℕ → List ℕ → Type 0
AnswersTexts (run file workers fuel names) (text ∷ []) finish out notes = IsRunOf (read_of text) workers fuel IsPrinted (telling_of names) finish out notes
AnswersTexts (run_on file input workers fuel) (text ∷ lines ∷ []) finish out notes = IsRunOn (read_of text) lines workers fuel finish out notes
AnswersTexts (check file) (text ∷ []) finish out notes = IsMadeOf (read_of text) nothing finish out notes
AnswersTexts (show_code file) (text ∷ []) finish out notes = IsMadeOf (read_of text) code_text finish out notes
AnswersTexts (make_units units workers) [] finish out notes = IsRunOf (read_of (make_text units)) workers USUAL_FUEL IsPrinted (Units units) finish out notes
AnswersTexts (trace file workers fuel) (text ∷ []) finish out notes = IsRunOf (read_of text) workers fuel IsTraced EndAlone finish out notes
AnswersTexts (replay file schedule) (text ∷ picks ∷ []) finish out notes = IsReplayOf (read_of text) picks finish out notes
AnswersTexts (show_races file workers fuel) (text ∷ []) finish out notes = IsRacedOf (read_of text) workers fuel finish out notes
AnswersTexts (lay_out file) (text ∷ []) finish out notes = IsListOf (read_of text) finish out notes
AnswersTexts task texts finish out notes = ⊥

-- The answer, where every read and write succeeds and memory suffices. The texts are those of the files.
abbrev pub Answer : Option Task → List (List ℕ) → Finish → List ℕ → List ℕ → Type 0
Answer None texts finish out notes = IsUsage finish out notes
Answer (Some task) texts finish out notes = AnswersTexts task texts finish out notes
