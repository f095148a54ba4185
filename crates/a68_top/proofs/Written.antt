-- What a whole text or a front of it leaves on a sink.
use Rattle.std.proofs.Common.{◌≡◌, ◌≢◌, ◌<◌, ◌⊎◌, ℕ, List, length, ap, sym, subst, refl, ◌∙◌, inl, inr, arith, OnOk, OnErr, Ok, Err}
use Rattle.std.specs.declared.option.Option.{Option}
use Rattle.std.specs.declared.result.Result.{Result}
use Rattle.std.proofs.Math.Seq.{take-length}
use Rattle.std.specs.Io.KnownBytes.{append_known}
use Rattle.a68_base.specs.declared.status.Status.{Status}
use Rattle.a68_base.specs.declared.status.Status.TheVariants.{Done, Refused, Usage, Fault, AllHalted, Spent, ReadFault, WriteFault, NoMemory}
use Rattle.a68_top.specs.declared.finish.Finish.{Finish}
use Rattle.a68_command.specs.Words.{Task}
use Rattle.a68_top.specs.Outcome.{IsAnswer, Answered, Broke, FinishIs, Owes, Sunk, Whole}
use Rattle.a68_outside.specs.Cause.{Rose, HasCause}
use Rattle.a68_outside.specs.Known.{ReceivesFront}

pub whole_is_front : (old new : Option (List ℕ)) (text : List ℕ) → new ≡ append_known old text → ReceivesFront old new text
whole_is_front old new text e = (length text, omega arith, e ∙ ap (λ l. append_known old l) (sym (take-length text)))

pub front_written : {T E : Type 0} (r : Result T E) (old new : Option (List ℕ)) (text : List ℕ) (before now : ℕ)
    → OnOk r (new ≡ append_known old text) → OnErr r (ReceivesFront old new text) → HasCause before now r
    → ReceivesFront old new text × ((new ≡ append_known old text) ⊎ Rose before now)
front_written (Ok x) old new text before now all front cause = (whole_is_front old new text all, inl all)
front_written (Err e) old new text before now all front cause = (front, inr cause.failed)

-- where the status is one of an answer, the answer is the outcome
pub outcome_of : (status : Status) (old new : ℕ) {task : Option Task} {under : List ℕ → Option (List ℕ)} {out notes : Sunk} {finish : Finish}
    → IsAnswer status → Answered task under out notes finish → FinishIs status task under old new out notes finish
outcome_of Done old new is answered = answered
outcome_of Refused old new is answered = answered
outcome_of Usage old new is answered = answered
outcome_of Fault old new is answered = answered
outcome_of AllHalted old new is answered = answered
outcome_of Spent old new is answered = answered
outcome_of ReadFault old new is answered = absurd is
outcome_of WriteFault old new is answered = absurd is
outcome_of NoMemory old new is answered = absurd is

calm_no : (old new : ℕ) → new ≡ old → old < new → ⊥
calm_no old new e more = omega arith

-- the same of what is owed once it was delivered, or a write has failed
pub outcome_after : {T E : Type 0} (done : Result T E) (due finish : Finish) (old new : ℕ) {task : Option Task} {under : List ℕ → Option (List ℕ)} (out notes : Sunk) (on_out on_notes : List ℕ)
    → OnOk done (finish ≡ due) → OnErr done (finish ≡ record due { status = WriteFault }) → IsAnswer due.status → Owes task under due on_out on_notes
    → OnOk done (Whole out on_out) → OnOk done (Whole notes on_notes) → OnErr done (Broke out notes on_out on_notes)
    → FinishIs finish.status task under old new out notes finish
outcome_after (Ok x) due finish old new {task} {under} out notes on_out on_notes ok err is owed out_whole notes_whole broke =
    subst (λ (f : Finish). FinishIs f.status task under old new out notes f) (sym ok) (outcome_of due.status old new is (record { on_out = on_out; on_notes = on_notes; owed = owed; out_whole = out_whole; notes_whole = notes_whole }))
outcome_after (Err e) due finish old new {task} {under} out notes on_out on_notes ok err is owed out_whole notes_whole broke =
    subst (λ (f : Finish). FinishIs f.status task under old new out notes f) (sym err) (record { due = due; on_out = on_out; on_notes = on_notes; owed = owed; finish_is = refl; broke = broke })

-- where the faults of a sink have become more, a write has failed
pub fault_told : {T E : Type 0} (done : Result T E) (due finish : Finish) (old new : ℕ) → OnOk done (new ≡ old) → OnErr done (finish ≡ record due { status = WriteFault }) → old < new → finish.status ≡ WriteFault
fault_told (Ok x) due finish old new calm err more = absurd (calm_no old new calm more)
fault_told (Err e) due finish old new calm err more = ap (λ (f : Finish). f.status) err

-- what was delivered is no fault of the shelf
pub no_read_fault : {T E : Type 0} (done : Result T E) (due finish : Finish) → OnOk done (finish ≡ due) → OnErr done (finish ≡ record due { status = WriteFault }) → IsAnswer due.status → finish.status ≢ ReadFault
no_read_fault (Ok x) due finish ok err is = λ e. subst (λ (s : Status). IsAnswer s) (sym (ap (λ (f : Finish). f.status) ok) ∙ e) is
no_read_fault (Err e) due finish ok err is = λ f. absurd (cc)
