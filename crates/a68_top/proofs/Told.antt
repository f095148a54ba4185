-- The text of a file that was read.
use Rattle.std.proofs.Common.{◌≡◌, ◌≤◌, ℕ, List, [], ◌∷◌, length, take, length-take, sym, subst, refl, arith, IfSome}
use Rattle.std.specs.Prelude.{None, Some, Ok, Err, IfOk, unwrap_or}
use Rattle.std.specs.declared.option.Option.{Option}
use Rattle.std.specs.declared.result.Result.{Result}
use Rattle.a68_base.proofs.Slices.{take_past}
use Rattle.a68_maker.specs.Making.{make_text}
use Rattle.a68_top.specs.Answer.{AnswersTexts, read_of}
use Rattle.a68_top.specs.Commands.{AnswersText, IsTextFor, is_made, is_read}
use Rattle.a68_top.specs.Outcome.{AreTexts, Owes}
use Rattle.a68_top.specs.declared.finish.Finish.{Finish}
use Rattle.a68_command.specs.Words.{Task, run, run_on, check, show_code, make_units, trace, replay, show_races, lay_out, files_of_task}

-- what the shelf tells, and what was read where it tells nothing
abbrev pub whole : Option (List ℕ) → List ℕ → List ℕ
whole told text = unwrap_or told text

pub whole_is : (told : Option (List ℕ)) (text : List ℕ) → IfSome told (λ all. whole told text ≡ all)
whole_is None text = tt
whole_is (Some all) text = refl

pub read_is : (told : Option (List ℕ)) (text : List ℕ) → IfSome told (λ all. text ≡ read_of all) → length text ≤ 1048577 → text ≡ read_of (whole told text)
read_is None text e fits = sym (take_past 1048577 text fits)
read_is (Some all) text e fits = e

-- What was read of a task's one file is its text.
pub fetched : {E : Type 0} (task : Task) (under : List ℕ → Option (List ℕ)) (file : List ℕ) (found : Result (List ℕ) E) → files_of_task task ≡ file ∷ []
    → IfOk found (λ text. IfSome (under file) (λ all. text ≡ read_of all)) → IfOk found (λ text. length text ≤ 1048577) → IfOk found (IsTextFor task under)
fetched task under file (Ok text) e read fits = is_read file (whole (under file) text) e (whole_is (under file) text) (read_is (under file) text read fits)
fetched task under file (Err error) e read fits = tt

-- What is read of a text that was made is the text of its task.
pub made : {E : Type 0} (under : List ℕ → Option (List ℕ)) (units workers : ℕ) (found : Result (List ℕ) E) → IfOk found (λ text. text ≡ read_of (make_text units)) → IfOk found (IsTextFor (make_units units workers) under)
made under units workers (Ok text) e = is_made units workers refl e
made under units workers (Err error) e = tt

pub fits : (n : ℕ) (xs : List ℕ) → length (take n xs) ≤ n
fits n xs = rw length-take (omega arith)

-- a task of one file owes what it owes for its text
of_one : (task : Task) (file text : List ℕ) (finish : Finish) (out notes : List ℕ) → files_of_task task ≡ file ∷ [] → AnswersText task (read_of text) finish out notes → AnswersTexts task (text ∷ []) finish out notes
of_one (run f workers fuel names) file text finish out notes e a = a
of_one (run_on f input workers fuel) file text finish out notes e a = absurd a
of_one (check f) file text finish out notes e a = a
of_one (show_code f) file text finish out notes e a = a
of_one (make_units units workers) file text finish out notes e a = absurd (cc)
of_one (trace f workers fuel) file text finish out notes e a = a
of_one (replay f schedule) file text finish out notes e a = absurd a
of_one (show_races f workers fuel) file text finish out notes e a = a
of_one (lay_out f) file text finish out notes e a = a

-- What is owed for the text of a task is owed for the texts of its files.
pub owes_text : (task : Task) (under : List ℕ → Option (List ℕ)) (text : List ℕ) (finish : Finish) (out notes : List ℕ) → IsTextFor task under text → AnswersText task text finish out notes
    → Owes (Some task) under finish out notes
owes_text task under text finish out notes (is_made units workers e same) a =
    let of_made : AnswersText (make_units units workers) text finish out notes = subst (λ t. AnswersText t text finish out notes) e a in
    subst (λ t. Owes (Some t) under finish out notes) (sym e)
    (record { texts = []; texts_are = tt; answer = subst (λ x. AnswersText (make_units units workers) x finish out notes) same of_made })
owes_text task under text finish out notes (is_read file all e told same) a =
    record {
      texts = all ∷ [];
      texts_are = subst (λ fs. AreTexts under fs (all ∷ [])) (sym e) (told, tt);
      answer = of_one task file all finish out notes e (subst (λ x. AnswersText task x finish out notes) same a);
    }
