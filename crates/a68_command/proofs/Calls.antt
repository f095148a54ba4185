-- What is proved of the split of a call.
use Rattle.std.proofs.Common.{◌≡◌, ◌∙◌, ◌<◌, ◌+◌, get_or, length, drop, ℕ, zero, suc, Bool, ap, sym, refl, true, List, [], ◌∷◌, inl, inr, codes, map, arith}
use Rattle.std.specs.Prelude.{None, Some}
use Rattle.std.specs.List.{All, fold}
use Rattle.std.specs.Str.{IsUtf8}
use Rattle.std.specs.Option.{option_and_then}
use Rattle.std.specs.declared.option.Option.{Option}
use Rattle.clap.specs.Words.{Kinds, HasKind, Row, Text, first_of, is_simple, is_simple_and_free, kind_of}
use Rattle.clap.specs.declared.error.Error.{Error}
use Rattle.clap.specs.declared.error.kind.ErrorKind.TheVariants.{OutOfMemory}
use Rattle.a68_command.specs.Matching.{matched_task, unless_fault}
use Rattle.a68_command.specs.Splitting.{call_app}
use Rattle.a68_command.specs.Words.{Task, Given, given_by, is_true, task_by}

pub call_simple : is_simple call_app ≡ true
call_simple = refl

pub call_free : is_simple_and_free call_app ≡ true
call_free = refl

-- an error that is no want of memory is a fault of the words
pub faulty : (kinds : Kinds) (e : Error) (task : Option Task) → HasKind kinds e → (kind_of e ≡ OutOfMemory → ⊥) → None ≡ unless_fault kinds task
faulty [] e task (inl m) other_kind = absurd (other_kind m)
faulty [] e task (inr nothing) other_kind = absurd nothing
faulty (k ∷ ks) e task h other_kind = refl

-- words without a fault are the task that they are split into
pub faultless : (kinds : Kinds) (task : Option Task) → kinds ≡ [] → task ≡ unless_fault kinds task
faultless kinds task none = ap (λ ks. unless_fault ks task) (sym none)

-- the texts of a verb are those of its matches
pub matched_is : (verb : Text) (rows : List Row) (operand : Text) (second workers fuel input names : Option Text) (named : Bool)
    → Some operand ≡ first_of (codes "operand") rows → second ≡ first_of (codes "second") rows → workers ≡ first_of (codes "workers") rows
    → fuel ≡ first_of (codes "fuel") rows → input ≡ first_of (codes "input") rows → names ≡ first_of (codes "names") rows → named ≡ is_true names
    → task_by verb (record { operand = operand; second = second; workers = workers; fuel = fuel; input = input; names = named }) ≡ matched_task (verb, rows)
matched_is verb rows operand second workers fuel input names named o s w f i n d =
    let named_is : named ≡ is_true (first_of (codes "names") rows) = d ∙ ap is_true n in
    let texts : ◌≡◌ {A = Given} (record { operand = operand; second = second; workers = workers; fuel = fuel; input = input; names = named }) (given_by (λ name. first_of name rows) operand) =
    λ k. record { operand = operand; second = s k; workers = w k; fuel = f k; input = i k; names = named_is k } in
    ap (task_by verb) texts ∙ ap (option_and_then (λ text. task_by verb (given_by (λ name. first_of name rows) text))) o

-- what is a text of each element is one of all
pub are_texts : {X : Type 0} (f : X → List ℕ) → ((x : X) → IsUtf8 (f x)) → (xs : List X) → All {X = List ℕ} IsUtf8 (map f xs)
are_texts f is [] k d lt = absurd (omega arith)
are_texts f is (x ∷ xs) zero d lt = is x
are_texts f is (x ∷ xs) (suc k) d lt = are_texts f is xs k d (omega arith)

-- one element more of a list that is gone through from the front
behind : {X Y B : Type 0} (f : B → X → B) (g : Y → X) (xs : List Y) (i : ℕ) (b : B) (d : Y) → i < length xs
    → fold f (f b (g (get_or xs i d))) (map g (drop (suc i) xs)) ≡ fold f b (map g (drop i xs))
behind f g [] i b d lt = absurd (omega arith)
behind f g (x ∷ xs) zero b d lt = refl
behind f g (x ∷ xs) (suc i) b d lt = behind f g xs i b d (omega arith)

pub one_more : {X Y B : Type 0} (f : B → X → B) (g : Y → X) (xs : List Y) (i : ℕ) (b : B) (d : Y) → i < length xs
    → fold f (f b (g (get_or xs i d))) (map g (drop (i + 1) xs)) ≡ fold f b (map g (drop i xs))
one_more f g xs i b d lt =
    let next : i + 1 ≡ suc i = omega arith in
    ap (λ k. fold f (f b (g (get_or xs i d))) (map g (drop k xs))) next ∙ behind f g xs i b d lt
