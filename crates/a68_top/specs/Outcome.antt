-- What a call did, by its status, whatever the shelf and the sinks did.
use Rattle.std.specs.Prelude.{◌≡◌, ◌⊎◌, ℕ, List, [], ◌∷◌, None, Some, IfSome, ⊤}
use Rattle.std.specs.declared.option.Option.{Option}
use Rattle.std.specs.Io.KnownBytes.{append_known}
use Rattle.a68_base.specs.declared.refusal.Refusal.{Refusal}
use Rattle.a68_base.specs.declared.status.Status.{Status}
use Rattle.a68_base.specs.declared.status.Status.TheVariants.{ReadFault, WriteFault, NoMemory}
use Rattle.a68_outside.specs.Cause.{Rose}
use Rattle.a68_outside.specs.Known.{ReceivesFront}
use Rattle.a68_top.specs.declared.finish.Finish.{Finish}
use Rattle.a68_command.specs.Words.{Task, files_of}
use Rattle.a68_top.specs.Answer.{Answer, bare}
use Rattle.a68_report.specs.Lines.{read_fault_line}

-- before and after a call: the faults of an object, and the bytes that a sink received, where it tells them
pub record Sunk : Type 0 where
  pub faults_old : ℕ
  pub faults_new : ℕ
  pub old : Option (List ℕ)
  pub new : Option (List ℕ)

-- a sink before and after a call
abbrev pub sunk : {K : Type 0} → (K → ℕ) → (K → Option (List ℕ)) → K → K → Sunk
sunk faults received old new = record { faults_old = faults old; faults_new = faults new; old = received old; new = received new }

abbrev pub Whole : Sunk → List ℕ → Type 0
Whole sink text = sink.new ≡ append_known sink.old text

abbrev pub SinkGotFront : Sunk → List ℕ → Type 0
SinkGotFront sink text = ReceivesFront sink.old sink.new text

abbrev pub Untouched : Sunk → Type 0
Untouched sink = (sink.new ≡ sink.old) × (sink.faults_new ≡ sink.faults_old)

abbrev pub HasFailed : Sunk → Type 0
HasFailed sink = Rose sink.faults_old sink.faults_new

-- These are the texts of the files, in order: what the shelf tells of them, and any text where it tells nothing.
abbrev pub AreTexts : (List ℕ → Option (List ℕ)) → List (List ℕ) → List (List ℕ) → Type 0
AreTexts under [] [] = ⊤
AreTexts under (file ∷ files) (text ∷ texts) = IfSome (under file) (λ all. text ≡ all) × AreTexts under files texts
AreTexts _ _ _ = ⊥

-- This finish and these bytes are the answer for the texts of the files that the task reads.
pub record Owes (task : Option Task) (under : List ℕ → Option (List ℕ)) (finish : Finish) (on_out on_notes : List ℕ) : Type 0 where
  pub texts : List (List ℕ)
  pub texts_are : AreTexts under (files_of task) texts
  pub answer : Answer task texts finish on_out on_notes

-- Status 0 to 5: the answer, all of it on both sinks.
pub record Answered (task : Option Task) (under : List ℕ → Option (List ℕ)) (out notes : Sunk) (finish : Finish) : Type 0 where
  pub on_out : List ℕ
  pub on_notes : List ℕ
  pub owed : Owes task under finish on_out on_notes
  pub out_whole : Whole out on_out
  pub notes_whole : Whole notes on_notes

-- The first write that failed ended the call: out has a front and notes nothing, or out has all and notes a front.
pub data Broke (out notes : Sunk) (on_out on_notes : List ℕ) : Type 0 where
  at_out : SinkGotFront out on_out → HasFailed out → Untouched notes → Broke out notes on_out on_notes
  at_notes : Whole out on_out → SinkGotFront notes on_notes → HasFailed notes → Broke out notes on_out on_notes

-- Status 7: all but the status is as in the answer, and a write failed.
pub record BrokenOff (task : Option Task) (under : List ℕ → Option (List ℕ)) (out notes : Sunk) (finish : Finish) : Type 0 where
  pub due : Finish
  pub on_out : List ℕ
  pub on_notes : List ℕ
  pub owed : Owes task under due on_out on_notes
  pub finish_is : finish ≡ record due { status = WriteFault }
  pub broke : Broke out notes on_out on_notes

-- Status 6: nothing is kept, a read failed, and the line is on notes, whole unless a write failed.
pub record Unread (shelf_old shelf_new : ℕ) (out notes : Sunk) (finish : Finish) : Type 0 where
  pub finish_is : finish ≡ bare ReadFault
  pub shelf : Rose shelf_old shelf_new
  pub out_same : Untouched out
  pub notes_front : SinkGotFront notes read_fault_line
  pub notes_whole : Whole notes read_fault_line ⊎ HasFailed notes

-- Status 8: nothing is kept and nothing is written.
pub record Empty (out notes : Sunk) (finish : Finish) : Type 0 where
  pub finish_is : finish ≡ bare NoMemory
  pub out_same : Untouched out
  pub notes_same : Untouched notes

-- Status 1: the refusal alone is kept, and out has received nothing.
pub record IsRefused (out : Sunk) (finish : Finish) : Type 0 where
  pub refusal : Refusal
  pub kept : finish.refusal ≡ Some refusal
  pub made : finish.made ≡ None
  pub ran : finish.ran ≡ None
  pub out_nothing : Whole out []

-- the statuses of an answer: no fault of the outside, and no want of memory
abbrev pub IsAnswer : Status → Type 0
IsAnswer ReadFault = ⊥
IsAnswer WriteFault = ⊥
IsAnswer NoMemory = ⊥
IsAnswer _ = ⊤

abbrev pub FinishIs : Status → Option Task → (List ℕ → Option (List ℕ)) → ℕ → ℕ → Sunk → Sunk → Finish → Type 0
FinishIs ReadFault task under old new out notes finish = Unread old new out notes finish
FinishIs WriteFault task under old new out notes finish = BrokenOff task under out notes finish
FinishIs NoMemory task under old new out notes finish = Empty out notes finish
FinishIs _ task under old new out notes finish = Answered task under out notes finish
