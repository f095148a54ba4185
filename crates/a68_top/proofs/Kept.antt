-- What a refusal keeps and writes.
use Rattle.std.proofs.Common.{◌≡◌, ◌∙◌, ℕ, List, [], ◌∷◌, None, Some, ap, sym, subst}
use Rattle.std.specs.Io.KnownBytes.{append_known}
use Rattle.std.specs.declared.option.Option.{Option}
use Rattle.a68_base.specs.declared.refusal.Refusal.{Refusal}
use Rattle.a68_base.specs.declared.status.Status.{Status}
use Rattle.a68_base.specs.declared.status.Status.TheVariants as status
use Rattle.a68_code.specs.declared.code.Code.{Code}
use Rattle.a68_command.specs.Words.{Task, run, run_on, check, show_code, make_units, trace, replay, show_races, lay_out}
use Rattle.a68_top.specs.Answer.{Answer, AnswersTexts, HasRun, IsListOf, IsMadeOf, IsMovedRefusal, IsRacedOf, IsRefusal, IsReplayOf, IsRunOf, IsRunOn, refused, ran, refused_alone, too_long, refused_joined, ran_on, unplayed, unread, stuck, short, replayed, unraced, crowded, raced, unmade, compiled, unlisted, anew, status_of}
use Rattle.a68_top.specs.Outcome.{Answered, FinishIs, IsRefused, Owes, Sunk}
use Rattle.a68_top.specs.declared.finish.Finish.{Finish}
use Rattle.a68_top.specs.declared.finish.Made.{Made}
use Rattle.a68_top.specs.declared.finish.Telling.{Telling}
use Rattle.a68_values.specs.declared.kept.End.{End}
use Rattle.a68_values.specs.declared.kept.End.TheVariants as ends
use Rattle.a68_values.specs.declared.kept.Kept.{Kept}

-- the refusal alone is kept, and nothing is written to out
record KeepsIt (finish : Finish) (out : List ℕ) : Type 0 where
  refusal : Refusal
  kept : finish.refusal ≡ Some refusal
  made : finish.made ≡ None
  ran : finish.ran ≡ None
  nothing : out ≡ []

plain : (r : Refusal) (finish : Finish) (out notes : List ℕ) → IsRefusal r finish out notes → KeepsIt finish out
plain r finish out notes says =
    let is = says.finish_is in
    record { refusal = r; kept = ap (λ (f : Finish). f.refusal) is; made = ap (λ (f : Finish). f.made) is; ran = ap (λ (f : Finish). f.ran) is; nothing = says.out_is }

moved : (offset : ℕ) (r : Refusal) (finish : Finish) (out notes : List ℕ) → IsMovedRefusal offset r finish out notes → KeepsIt finish out
moved offset r finish out notes says =
    let is = says.finish_is in
    record { refusal = r; kept = ap (λ (f : Finish). f.refusal) is; made = ap (λ (f : Finish). f.made) is; ran = ap (λ (f : Finish). f.ran) is; nothing = says.out_is }

-- no run ends in a refusal
no_end : (e : End) → status_of e ≡ status.Refused → ⊥
no_end ends.Done is = absurd (cc)
no_end (ends.Fault why place strand) is = absurd (cc)
no_end ends.AllHalted is = absurd (cc)
no_end ends.Spent is = absurd (cc)

no_run : {made : Made} {fuel : ℕ} {O : Code → Kept → Type 0} {W : Kept → List ℕ → Type 0} {telling : Telling} {finish : Finish} {out notes : List ℕ}
    → HasRun made fuel O W telling finish out notes → finish.status ≡ status.Refused → ⊥
no_run has is = no_end has.kept.end (sym (ap (λ (f : Finish). f.status) has.finish_is) ∙ is)

module _ (finish : Finish) (out notes : List ℕ) (is : finish.status ≡ status.Refused) where
  of_run : (text : List ℕ) (workers fuel : ℕ) (W : Kept → List ℕ → Type 0) (telling : Telling) → IsRunOf text workers fuel W telling finish out notes → KeepsIt finish out
  of_run text workers fuel W telling (refused r broken says) = plain r finish out notes says
  of_run text workers fuel W telling (ran made c has permitted) = absurd (no_run has is)

  of_run_on : (text input : List ℕ) (workers fuel : ℕ) → IsRunOn text input workers fuel finish out notes → KeepsIt finish out
  of_run_on text input workers fuel (refused_alone r broken says) = plain r finish out notes says
  of_run_on text input workers fuel (too_long tree place tree_is beyond says) = plain _ finish out notes says
  of_run_on text input workers fuel (refused_joined tree lines r tree_is are none broken says) = moved _ r finish out notes says
  of_run_on text input workers fuel (ran_on tree lines made tree_is are none c has permitted) = absurd (no_run has is)

  of_replay : (text schedule : List ℕ) → IsReplayOf text schedule finish out notes → KeepsIt finish out
  of_replay text schedule (unplayed r broken says) = plain r finish out notes says
  of_replay text schedule (unread made place c bad says) = plain _ finish out notes says
  of_replay text schedule (stuck made picks place c read none says) = plain _ finish out notes says
  of_replay text schedule (short made picks c read few says) = plain _ finish out notes says
  of_replay text schedule (replayed made picks c read has permitted) = absurd (no_run has is)

  of_races : (text : List ℕ) (workers fuel : ℕ) → IsRacedOf text workers fuel finish out notes → KeepsIt finish out
  of_races text workers fuel (unraced r broken says) = plain r finish out notes says
  of_races text workers fuel (crowded made place c beyond permitted says) = plain _ finish out notes says
  of_races text workers fuel (raced made c has permitted) = absurd (no_run has is)

  of_made : (text : List ℕ) (shown : Code → List ℕ) → IsMadeOf text shown finish out notes → KeepsIt finish out
  of_made text shown (unmade r broken says) = plain r finish out notes says
  of_made text shown (compiled made c says) = absurd (let e = sym (ap (λ (f : Finish). f.status) says.finish_is) ∙ is in cc)

  of_list : (text : List ℕ) → IsListOf text finish out notes → KeepsIt finish out
  of_list text (unlisted r broken says) = plain r finish out notes says
  of_list text (anew shown listing says) = absurd (let e = sym (ap (λ (f : Finish). f.status) says.finish_is) ∙ is in cc)

  of_task : (task : Task) (texts : List (List ℕ)) → AnswersTexts task texts finish out notes → KeepsIt finish out
  of_task (run file workers fuel names) (text ∷ []) a = of_run _ _ _ _ _ a
  of_task (run_on file input workers fuel) (text ∷ lines ∷ []) a = of_run_on _ _ _ _ a
  of_task (check file) (text ∷ []) a = of_made _ _ a
  of_task (show_code file) (text ∷ []) a = of_made _ _ a
  of_task (make_units units workers) [] a = of_run _ _ _ _ _ a
  of_task (trace file workers fuel) (text ∷ []) a = of_run _ _ _ _ _ a
  of_task (replay file schedule) (text ∷ picks ∷ []) a = of_replay _ _ a
  of_task (show_races file workers fuel) (text ∷ []) a = of_races _ _ _ a
  of_task (lay_out file) (text ∷ []) a = of_list _ a
  of_task (run file workers fuel names) [] a = absurd a
  of_task (run file workers fuel names) (text ∷ more ∷ texts) a = absurd a
  of_task (run_on file input workers fuel) [] a = absurd a
  of_task (run_on file input workers fuel) (text ∷ []) a = absurd a
  of_task (run_on file input workers fuel) (text ∷ lines ∷ more ∷ texts) a = absurd a
  of_task (check file) [] a = absurd a
  of_task (check file) (text ∷ more ∷ texts) a = absurd a
  of_task (show_code file) [] a = absurd a
  of_task (show_code file) (text ∷ more ∷ texts) a = absurd a
  of_task (make_units units workers) (text ∷ texts) a = absurd a
  of_task (trace file workers fuel) [] a = absurd a
  of_task (trace file workers fuel) (text ∷ more ∷ texts) a = absurd a
  of_task (replay file schedule) [] a = absurd a
  of_task (replay file schedule) (text ∷ []) a = absurd a
  of_task (replay file schedule) (text ∷ picks ∷ more ∷ texts) a = absurd a
  of_task (show_races file workers fuel) [] a = absurd a
  of_task (show_races file workers fuel) (text ∷ more ∷ texts) a = absurd a
  of_task (lay_out file) [] a = absurd a
  of_task (lay_out file) (text ∷ more ∷ texts) a = absurd a

  of_answer : (task : Option Task) (texts : List (List ℕ)) → Answer task texts finish out notes → KeepsIt finish out
  of_answer None texts a = absurd (let e = sym (ap (λ (f : Finish). f.status) a.finish_is) ∙ is in cc)
  of_answer (Some task) texts a = of_task task texts a

-- a call that is answered with a refusal has run and printed nothing
pub keeps_refusal : (s : Status) (task : Option Task) (under : List ℕ → Option (List ℕ)) (old new : ℕ) (out notes : Sunk) (finish : Finish) → finish.status ≡ s → FinishIs s task under old new out notes finish
    → s ≡ status.Refused → IsRefused out finish
keeps_refusal s task under old new out notes finish is outcome refused_is =
    let a : Answered task under out notes finish = subst (λ (x : Status). FinishIs x task under old new out notes finish) refused_is outcome in
    let k = of_answer finish a.on_out a.on_notes (is ∙ refused_is) task a.owed.texts a.owed.answer in
    record { refusal = k.refusal; kept = k.kept; made = k.made; ran = k.ran; out_nothing = a.out_whole ∙ ap (append_known out.old) k.nothing }
