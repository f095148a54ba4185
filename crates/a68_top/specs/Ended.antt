-- Inner: the headline does not rest on this file.
-- What is owed of a run.
use Rattle.std.specs.Prelude.{◌≡◌, ℕ, List, None, Some, IfSome}
use Rattle.std.specs.declared.option.Option.{Option}
use Rattle.a68_base.specs.declared.refusal.Rule.TheVariants.{Q4}
use Rattle.a68_races.specs.Races.{FirstBeyond}
use Rattle.a68_top.specs.Answer.{AreRaces, IsRefusal, Says, run_lines, status_of}
use Rattle.a68_top.specs.Commands.{IsWritten}
use Rattle.a68_top.specs.declared.finish.Asked.{Asked}
use Rattle.a68_top.specs.declared.finish.Made.{Made}
use Rattle.a68_top.specs.declared.finish.Owed.{Owed}
use Rattle.a68_top.specs.declared.finish.Telling.{Telling}
use Rattle.a68_top.specs.declared.finish.Telling.TheVariants.{EndAlone}
use Rattle.a68_values.specs.declared.kept.Kept.{Kept}

-- the run is kept, this is on out, and its lines are on notes
abbrev pub Ends : Made → Kept → (out : List ℕ) → Telling → Owed → Type 0
Ends made kept out telling due =
    Says due.finish due.out due.notes (record { status = status_of kept.end; refusal = None; made = Some made; ran = Some kept }) out (run_lines telling made.program kept)

-- so with what is asked for on out
pub record Finishes (made : Made) (kept : Kept) (asked : Asked) (due : Owed) : Type 0 where
  pub out : List ℕ
  pub written : IsWritten asked.writing kept out
  pub ends : Ends made kept out asked.telling due

-- so with the races on out; or the run has too many strands
pub data TellsRaces (made : Made) (kept : Kept) (due : Owed) : Type 0 where
  tells : (out : List ℕ) → AreRaces kept out → Ends made kept out EndAlone due → TellsRaces made kept due
  crowds : (place : ℕ) → FirstBeyond kept.journal.entries place → IsRefusal (record { rule = Q4; place = place }) due.finish due.out due.notes → TellsRaces made kept due

-- so much holds of the bytes that a shelf tells, or of some bytes where it tells none
pub record HoldsOf (told : Option (List ℕ)) (P : List ℕ → Type 0) : Type 0 where
  pub bytes : List ℕ
  pub are : IfSome told (λ all. bytes ≡ all)
  pub holds : P bytes
