-- What a task owes for a text, by what the text is made into.
use Rattle.std.specs.Prelude.{ℕ, List}
use Rattle.a68_base.specs.declared.limits.TheConstants.{USUAL_FUEL}
use Rattle.a68_base.specs.declared.refusal.Refusal.{Refusal}
use Rattle.a68_elab.specs.Programs.{program_of}
use Rattle.a68_elab.specs.Permitted.{Permitted}
use Rattle.a68_emit.specs.Stretches.{Translates}
use Rattle.a68_strand.specs.RunOf.{RunOf}
use Rattle.a68_top.specs.Answer.{IsRefusal, refused, ran, unmade, compiled, unraced, crowded, raced}
use Rattle.a68_top.specs.Commands.{AnswersMade, AnswersText, IsMade, beyond, told}
use Rattle.a68_top.specs.Compiles.{Compiles, RefusedAs}
use Rattle.a68_command.specs.Words.{Task, run, run_on, check, show_code, make_units, trace, replay, show_races, lay_out}
use Rattle.a68_top.specs.declared.finish.Finish.{Finish}
use Rattle.a68_top.specs.declared.finish.Made.{Made}
use Rattle.a68_values.specs.declared.kept.Kept.{Kept}

module _ (text : List ℕ) (finish : Finish) (out notes : List ℕ) where
  pub refuses : (task : Task) → IsMade task → (refusal : Refusal) → RefusedAs text refusal → IsRefusal refusal finish out notes → AnswersText task text finish out notes
  refuses (run file workers fuel names) is refusal why says = refused refusal why says
  refuses (run_on file input workers fuel) is refusal why says = absurd is
  refuses (check file) is refusal why says = unmade refusal why says
  refuses (show_code file) is refusal why says = unmade refusal why says
  refuses (make_units units workers) is refusal why says = refused refusal why says
  refuses (trace file workers fuel) is refusal why says = refused refusal why says
  refuses (replay file schedule) is refusal why says = absurd is
  refuses (show_races file workers fuel) is refusal why says = unraced refusal why says
  refuses (lay_out file) is refusal why says = absurd is

  pub answers : (task : Task) (made : Made) → Compiles text made
      → ((fuel : ℕ) (kept : Kept) → Translates (program_of made.program) made.code → RunOf made.code fuel kept → Permitted (program_of made.program) fuel kept)
      → AnswersMade task made finish out notes → AnswersText task text finish out notes
  answers (run file workers fuel names) made is law has = ran made is has (law fuel has.kept is.translated has.machine)
  answers (run_on file input workers fuel) made is law has = absurd has
  answers (check file) made is law has = compiled made is has
  answers (show_code file) made is law has = compiled made is has
  answers (make_units units workers) made is law has = ran made is has (law USUAL_FUEL has.kept is.translated has.machine)
  answers (trace file workers fuel) made is law has = ran made is has (law fuel has.kept is.translated has.machine)
  answers (replay file schedule) made is law has = absurd has
  answers (show_races file workers fuel) made is law (beyond place run_is says) = crowded made place is run_is (law fuel run_is.kept is.translated run_is.machine) says
  answers (show_races file workers fuel) made is law (told has) = raced made is has (law fuel has.kept is.translated has.machine)
  answers (lay_out file) made is law has = absurd has
