-- What is owed of a text with lines in front of its program.
use Rattle.std.proofs.Common.{ℕ, List, subst}
use Rattle.a68_base.specs.declared.refusal.Refusal.{Refusal}
use Rattle.a68_elab.specs.Permitted.{Permitted}
use Rattle.a68_elab.specs.Programs.{program_of}
use Rattle.a68_emit.specs.Stretches.{Translates}
use Rattle.a68_input.specs.Joining.{Joins}
use Rattle.a68_strand.specs.RunOf.{RunOf}
use Rattle.a68_top.specs.Answer.{HasRun, IsMovedRefusal, IsPrinted, IsTurned}
use Rattle.a68_top.specs.Commands.{HasRunJoined, joined_ran, joined_refused}
use Rattle.a68_top.specs.Compiles.{Compiles, RefusedAs}
use Rattle.a68_top.specs.declared.finish.Made.{Made}
use Rattle.a68_top.specs.declared.finish.Owed.{Owed}
use Rattle.a68_top.specs.declared.finish.Telling.TheVariants.{MovedEnd}
use Rattle.a68_values.specs.declared.kept.Kept.{Kept}

module _ (text : List ℕ) (lines : List (List ℕ)) (bytes : List ℕ) (offset : ℕ) (joins : Joins text lines bytes offset) (workers fuel : ℕ) (due : Owed) where
  pub joined_refusal : (refusal : Refusal) → RefusedAs bytes refusal → IsMovedRefusal offset refusal due.finish due.out due.notes
      → HasRunJoined text lines workers fuel due.finish due.out due.notes
  joined_refusal refusal why says =
      joined_refused refusal (subst (λ b. RefusedAs b refusal) joins.bytes_are why) (subst (λ n. IsMovedRefusal n refusal due.finish due.out due.notes) joins.offset_is says)

  pub joined_run : (made : Made) → Compiles bytes made
      → ((run_fuel : ℕ) (kept : Kept) → Translates (program_of made.program) made.code → RunOf made.code run_fuel kept → Permitted (program_of made.program) run_fuel kept)
      → HasRun made fuel (IsTurned workers) IsPrinted (MovedEnd offset) due.finish due.out due.notes → HasRunJoined text lines workers fuel due.finish due.out due.notes
  joined_run made c law has =
      let moved = subst (λ n. HasRun made fuel (IsTurned workers) IsPrinted (MovedEnd n) due.finish due.out due.notes) joins.offset_is has in
      joined_ran made (subst (λ b. Compiles b made) joins.bytes_are c) moved (law fuel moved.kept c.translated moved.machine)
