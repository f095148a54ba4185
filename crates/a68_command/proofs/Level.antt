-- The words behind a verb: what `clap` makes of them is what they give.
use Rattle.std.proofs.Common.{◌≡◌, ◌∙◌, ◌||◌, ◌&&◌, ◌==◌, ℕ, suc, Bool, cond, true, false, true≢false, ap, ap₂, sym, subst, refl, arith, List, [], ◌∷◌, ◌++◌, codes}
use Rattle.std.specs.Prelude.{None, Some, not, is_some, if◌then◌else◌, fold, find, slice_get}
use Rattle.std.specs.List.{All}
use Rattle.std.specs.Option.{option_map, option_map_or, option_and_then}
use Rattle.std.specs.Str.{IsUtf8, bytes_eq}
use Rattle.std.specs.declared.option.Option.{Option}
use Rattle.clap.specs.Kinds.{Kinds, or_else}
use Rattle.clap.specs.Facts.{explicit_source}
use Rattle.clap.specs.Faults.{bundle_fault, check_fault, default_fault, defaults_fault, given_default_fault, level_fault, long_fault, option_fault, positional_fault, react_fault, repeat_fault, settle_fault, turn_fault, use_fault, walk_fault}
use Rattle.clap.specs.Walk.{Held, Row, Rule, Text, Waiting, Walk, arg_by_index, arg_by_long, arg_by_short, default_rows, first_of, finished, has_row, idle, is_empty, is_pending, more_values, nothing_held, option, option_met, option_word, positional_held, pushed, reading_by, after_flag, flag_met, rows_after, settled, settled_rows, takes_several, takes_values, used, walk_from, walked, with_default, with_values, without}
use Rattle.clap.specs.declared.builder.value_parser.Reading.TheVariants as reading
use Rattle.clap.specs.declared.error.kind.ErrorKind.TheVariants as kind
use Rattle.clap.specs.declared.parser.matches.ValueSource.TheVariants.{CommandLine, DefaultValue}
use Rattle.a68_command.specs.Matching.{matched_task, unless_fault}
use Rattle.a68_command.specs.Options.{NextWord, Form, Dashes, Named, Plain, Unknown, WordsSoFar, Word, Value, Operand, any_word, form_of, is_given, is_among, alone, start, step, steps, text_of, value_word, with_operand, with_option, with_text}
use Rattle.a68_command.specs.Words.{Task, given_by, is_true, task_by, task_of_found, task_with}
use Rattle.a68_command.proofs.Lexed.{Lexes, dashes, named, plain_word, strange, lexes, refused_bundle}
use Rattle.a68_command.proofs.Rows.{as_row, as_rows, and_false, either, first_is_text, found_before, found_behind, found_row, fresh, given_more, has_given, no_text, or_false, some_text, used_new}
use Rattle.a68_command.proofs.Turning.{HasValue, Settles, Sort, Turn, clashes, fails, first_fails, flag, holding, lacks_value, level, long_turn, no_option, nothing_before, operand, operand_turn, option_rule, rules, second, settles_more, short_turn, sort_of, standing, stands_alone, turn_at, turn_behind, turn_met, turn_of_dashes, turn_of_named, turn_of_others, usable_operand, usable_second, with_value}

-- ---- what the words come to, word by word

abbrev end_fault : Text → Walk → Kinds
end_fault verb w = or_else (settle_fault rules false w.held) (or_else (defaults_fault (settled rules w.held).rows rules) (check_fault (level verb) (finished rules w.held) false))

abbrev end_task : Text → Walk → Option Task
end_task verb w = matched_task (verb, finished rules w.held)

abbrev after_turn : Turn → (Walk → Option Task) → Option Task
after_turn t go_on = unless_fault t.0 (go_on t.1)

-- the task of the words from here on
abbrev outcome : Text → List Text → Walk → Option Task
outcome verb [] w = unless_fault (end_fault verb w) (end_task verb w)
outcome verb (word ∷ words) w = after_turn (turn_at verb w word) (outcome verb words)

faulty_first : (a b : Kinds) (t : Option Task) → unless_fault (or_else a b) t ≡ unless_fault a (unless_fault b t)
faulty_first [] b t = refl
faulty_first (k ∷ ks) b t = refl

same_outcome : (verb : Text) (words : List Text) (w : Walk)
    → unless_fault (or_else (walk_fault (level verb) [] w words) (end_fault verb (fold (walked rules []) w words))) (end_task verb (fold (walked rules []) w words)) ≡ outcome verb words w
unfolding walk_fault
same_outcome verb [] w = refl
same_outcome verb (word ∷ words) w =
    let rest = or_else (walk_fault (level verb) [] (walked rules [] w word) words) (end_fault verb (fold (walked rules []) (walked rules [] w word) words)) in
    ap (λ ks. unless_fault ks (end_task verb (fold (walked rules []) (walked rules [] w word) words)))
    (regroup (turn_fault (level verb) [] w word) (walk_fault (level verb) [] (walked rules [] w word) words) (end_fault verb (fold (walked rules []) (walked rules [] w word) words)))
    ∙ faulty_first (turn_fault (level verb) [] w word) rest (end_task verb (fold (walked rules []) (walked rules [] w word) words))
    ∙ ap (unless_fault (turn_fault (level verb) [] w word)) (same_outcome verb words (walked rules [] w word))
  where
    regroup : (a b c : Kinds) → or_else (or_else a b) c ≡ or_else a (or_else b c)
    regroup [] b c = refl
    regroup (k ∷ ks) b c = refl

-- the task of a level, where nothing of it fails
pub level_outcome : (verb : Text) (words : List Text)
    → unless_fault (level_fault (level verb) [] nothing_held words false []) (matched_task (verb, rows_after rules [] words)) ≡ outcome verb words (walk_from nothing_held)
level_outcome verb words = same_outcome verb words (walk_from nothing_held)

nothing_behind : (ks : Kinds) → or_else ks [] ≡ ks
nothing_behind [] = refl
nothing_behind (k ∷ ks) = refl

pub none_of : (ks : Kinds) (t : Option Task) → fails ks ≡ true → unless_fault ks t ≡ None
none_of [] t e = absurd (true≢false (sym e))
none_of (k ∷ ks) t e = refl

all_of : (ks : Kinds) (t : Option Task) → ks ≡ [] → unless_fault ks t ≡ t
all_of ks t e = ap (λ l. unless_fault l t) e

-- ---- a use that has a fault and is settled by whatever comes next

pub data Doomed : Walk → Type 0 where
  before_dashes : (rows : List Row) (pending : Option (Text × List Text)) (position : ℕ) → fails (settle_fault rules false (holding rows pending)) ≡ true
      → Doomed (standing rows pending idle position false)
  behind_dashes : (rows : List Row) (pending : Option (Text × List Text)) (waiting : Waiting) (position : ℕ) → fails (settle_fault rules false (holding rows pending)) ≡ true
      → Doomed (standing rows pending waiting position true)

doomed_end : (verb : Text) (w : Walk) → fails (settle_fault rules false w.held) ≡ true → outcome verb [] w ≡ None
doomed_end verb w f = none_of (end_fault verb w) (end_task verb w) (first_fails (settle_fault rules false w.held) _ f)

-- an option or a flag settles it
long_fails : (a : Option Rule) (v : Option Text) (h : Held) → fails (settle_fault rules false h) ≡ true → fails (long_fault rules false a v h) ≡ true
long_fails None v h f = refl
long_fails (Some a) v h f = go (takes_values a) v
  where
    go : (t : Bool) (x : Option Text) → fails (cond t (option_fault rules false a x h) (cond (Rattle.std.specs.Option.is_some x) (kind.TooManyValues ∷ []) (react_fault rules false a [] h))) ≡ true
    go true None = f
    go true (Some x) = first_fails (settle_fault rules false h) _ f
    go false None = first_fails (settle_fault rules false h) _ f
    go false (Some x) = refl

-- so does an operand
operand_fails : (found : Option Rule) (h : Held) → ((a : Rule) → found ≡ Some a → takes_several a ≡ false) → fails (settle_fault rules false h) ≡ true
    → fails (option_map_or (λ (a : Rule). positional_fault rules false a h) found (kind.UnknownArgument ∷ [])) ≡ true
operand_fails None h single f = refl
operand_fails (Some a) h single f = ap (λ b. fails (cond (is_pending a h.pending && b) [] (settle_fault rules false h))) (single a refl)
    ∙ ap (λ b. fails (cond b [] (settle_fault rules false h))) (and_false (is_pending a h.pending)) ∙ f

some_same : {X : Type 0} (x y : X) → Some x ≡ Some y → x ≡ y
some_same x y e = ap (λ o. Rattle.std.specs.Option.unwrap_or o x) e

-- no operand takes several words
pub single : (position : ℕ) (a : Rule) → arg_by_index rules position ≡ Some a → takes_several a ≡ false
single position a e = go (1 == position) (2 == position) e
  where
    go : (x y : Bool) → cond x (Some operand) (cond y (Some second) None) ≡ Some a → takes_several a ≡ false
    go true y is = subst (λ r. takes_several r ≡ false) (some_same operand a is) refl
    go false true is = subst (λ r. takes_several r ≡ false) (some_same second a is) refl
    go false false is = absurd (true≢false (sym (ap Rattle.std.specs.Option.is_some is)))

abbrev head_text : (word : Text) (words : List Text) → All IsUtf8 (word ∷ words) → IsUtf8 word
head_text word words texts = texts 0 [] (omega arith)

tail_texts : (word : Text) (words : List Text) → All IsUtf8 (word ∷ words) → All {X = List ℕ} IsUtf8 words
tail_texts word words texts k d lt = texts (suc k) d (omega arith)

-- no argument has a short name
no_short : (k : ℕ) → arg_by_short rules k ≡ None
no_short k = refl

module _ (verb word : Text) (words : List Text) (text : IsUtf8 word) where
  -- a turn that fails
  lost : (t : Turn) → fails t.0 ≡ true → after_turn t (outcome verb words) ≡ None
  lost t f = none_of t.0 (outcome verb words t.1) f

  -- a word with one hyphen in front fails
  strange_fails : (x : ℕ) (xs : List ℕ) (rows : List Row) (pending : Option (Text × List Text)) (waiting : Waiting) (position : ℕ) → word ≡ 45 ∷ x ∷ xs
      → after_turn (short_turn (Some (x ∷ xs)) rows pending waiting position word) (outcome verb words) ≡ None
  strange_fails x xs rows pending waiting position is =
      lost (short_turn (Some (x ∷ xs)) rows pending waiting position word) (first_fails (bundle_fault rules false (x ∷ xs) (holding rows pending)) _ (ap fails (refused_bundle rules no_short x xs rows pending (subst IsUtf8 is text))))

  module _ (rest : (w : Walk) → Doomed w → outcome verb words w ≡ None) where
    doomed_before : (rows : List Row) (pending : Option (Text × List Text)) (position : ℕ) → fails (settle_fault rules false (holding rows pending)) ≡ true
        → (form : Form) → Lexes word form → after_turn (turn_at verb (standing rows pending idle position false) word) (outcome verb words) ≡ None
    doomed_before rows pending position f Dashes (dashes d) =
        ap (λ t. after_turn t (outcome verb words)) (turn_of_dashes verb rows pending position word idle d) ∙ rest (standing rows pending idle position true) (behind_dashes rows pending idle position f)
    doomed_before rows pending position f (Named name v) (named _ _ d l) =
        ap (λ t. after_turn t (outcome verb words)) (turn_of_named verb rows pending position word idle name v d l)
        ∙ lost (long_turn (arg_by_long rules name) v rows pending idle position word) (first_fails (long_fault rules false (arg_by_long rules name) v (holding rows pending)) _ (long_fails (arg_by_long rules name) v (holding rows pending) f))
    doomed_before rows pending position f Plain (plain_word d l s) =
        ap (λ t. after_turn t (outcome verb words)) (turn_of_others verb rows pending position word idle None d l s)
        ∙ lost (operand_turn rows pending idle position false word) (operand_fails (arg_by_index rules position) (holding rows pending) (single position) f)
    doomed_before rows pending position f Unknown (strange x xs is d l s) =
        ap (λ t. after_turn t (outcome verb words)) (turn_of_others verb rows pending position word idle (Some (x ∷ xs)) d l s) ∙ strange_fails x xs rows pending idle position is

    doomed_turn : (w : Walk) → Doomed w → after_turn (turn_at verb w word) (outcome verb words) ≡ None
    doomed_turn w (before_dashes rows pending position f) = doomed_before rows pending position f (form_of word) (lexes word)
    doomed_turn w (behind_dashes rows pending waiting position f) =
        ap (λ t. after_turn t (outcome verb words)) (turn_behind verb rows pending position word waiting)
        ∙ lost (operand_turn rows pending waiting position true word) (operand_fails (arg_by_index rules position) (holding rows pending) (single position) f)

pub doomed : (verb : Text) (words : List Text) → All IsUtf8 words → (w : Walk) → Doomed w → outcome verb words w ≡ None
doomed verb [] texts w (before_dashes rows pending position f) = doomed_end verb (standing rows pending idle position false) f
doomed verb [] texts w (behind_dashes rows pending waiting position f) = doomed_end verb (standing rows pending waiting position true) f
doomed verb (word ∷ words) texts w d = doomed_turn verb word words (head_text word words texts) (doomed verb words (tail_texts word words texts)) w d

-- ---- where the walk stands, by what is given

-- the position of the next operand
pub data Placed (given : List (List ℕ × List ℕ)) : ℕ → Type 0 where
  at_first : is_given (codes "operand") given ≡ false → is_given (codes "second") given ≡ false → Placed given 1
  at_second : is_given (codes "operand") given ≡ true → is_given (codes "second") given ≡ false → Placed given 2
  at_end : is_given (codes "operand") given ≡ true → is_given (codes "second") given ≡ true → Placed given 3

pub data Stands : WordsSoFar → Walk → Type 0 where
  before : (given : List (List ℕ × List ℕ)) (rows : List Row) (pending : Option (Text × List Text)) (position : ℕ) → Settles given rows pending → Placed given position
      → Stands (record { due = Word; given = given }) (standing rows pending idle position false)
  behind : (given : List (List ℕ × List ℕ)) (rows : List Row) (pending : Option (Text × List Text)) (position : ℕ) → Settles given rows pending → Placed given position
      → Stands (record { due = Operand; given = given }) (standing rows pending idle position true)
  waits_for : (given : List (List ℕ × List ℕ)) (a : Rule) (name : Text) (position : ℕ) → HasValue a name → Placed given position
      → Stands (record { due = Value name; given = given }) (standing (as_rows given) (Some (name, [])) (option name) position false)

-- an option is no operand
placed_more : (given : List (List ℕ × List ℕ)) (name v : Text) (position : ℕ) → bytes_eq name (codes "operand") ≡ false → bytes_eq name (codes "second") ≡ false → Placed given position
    → Placed (given ++ (name, v) ∷ []) position
placed_more given name v position no_operand no_second (at_first o s) =
    at_first (given_more (codes "operand") name v given ∙ ap₂ (λ x y. x || y) o no_operand) (given_more (codes "second") name v given ∙ ap₂ (λ x y. x || y) s no_second)
placed_more given name v position no_operand no_second (at_second o s) =
    at_second (given_more (codes "operand") name v given ∙ ap₂ (λ x y. x || y) o no_operand) (given_more (codes "second") name v given ∙ ap₂ (λ x y. x || y) s no_second)
placed_more given name v position no_operand no_second (at_end o s) =
    at_end (given_more (codes "operand") name v given ∙ ap₂ (λ x y. x || y) o no_operand) (given_more (codes "second") name v given ∙ ap₂ (λ x y. x || y) s no_second)

-- ---- the end of the words

or_true : (a : Bool) → (a || true) ≡ true
or_true true = refl
or_true false = refl

no_default_fault : (a : Rule) (more : List Rule) → is_empty a.defaults ≡ true → ((rows : List Row) → defaults_fault rows more ≡ []) → (rows : List Row) → defaults_fault rows (a ∷ more) ≡ []
unfolding defaults_fault
no_default_fault a more none others rows =
    nothing_before (default_fault rows a) (defaults_fault (with_default rows a) more)
    (ap (λ b. cond (has_row a.id rows || b) [] (given_default_fault a a.defaults)) none ∙ ap (λ b. cond b [] (given_default_fault a a.defaults)) (or_true (has_row a.id rows)))
    ∙ others (with_default rows a)

flag_default_fault : (rows : List Row) → defaults_fault rows (flag ∷ []) ≡ []
unfolding defaults_fault
flag_default_fault rows = go (has_row (codes "names") rows)
  where
    go : (b : Bool) → or_else (cond (b || false) [] (given_default_fault flag flag.defaults)) [] ≡ []
    go true = refl
    go false = refl

-- no default fails
defaults_pass : (rows : List Row) → defaults_fault rows rules ≡ []
defaults_pass =
    no_default_fault operand _ refl (no_default_fault second _ refl (no_default_fault (option_rule (codes "workers")) _ refl (no_default_fault (option_rule (codes "fuel")) _ refl (no_default_fault (option_rule (codes "input")) _ refl flag_default_fault))))

no_default : (a : Rule) (more : List Rule) → a.defaults ≡ [] → ((rows : List Row) → fold with_default rows more ≡ with_default rows flag) → (rows : List Row) → fold with_default rows (a ∷ more) ≡ with_default rows flag
no_default a more none others rows =
    others (with_default rows a)
    ∙ ap (λ rs. with_default rs flag) (ap (λ ds. cond (has_row a.id rows) rows (default_rows a.id (reading_by a) ds rows)) none ∙ either (has_row a.id rows) rows)

-- the flag alone has a default
defaulted : (rows : List Row) → fold with_default rows rules ≡ with_default rows flag
defaulted =
    no_default operand (second ∷ option_rule (codes "workers") ∷ option_rule (codes "fuel") ∷ option_rule (codes "input") ∷ flag ∷ []) refl
    (no_default second (option_rule (codes "workers") ∷ option_rule (codes "fuel") ∷ option_rule (codes "input") ∷ flag ∷ []) refl
    (no_default (option_rule (codes "workers")) (option_rule (codes "fuel") ∷ option_rule (codes "input") ∷ flag ∷ []) refl
    (no_default (option_rule (codes "fuel")) (option_rule (codes "input") ∷ flag ∷ []) refl
    (no_default (option_rule (codes "input")) (flag ∷ []) refl (λ rows. refl)))))

abbrev default_row : Row
default_row = record { id = codes "names"; values = codes "false" ∷ []; count = None; source = Some DefaultValue; reading = reading.AsWritten }

flag_default : (rows : List Row) → has_row (codes "names") rows ≡ false → with_values (codes "names") reading.AsWritten DefaultValue (codes "false" ∷ []) rows ≡ rows ++ default_row ∷ []
flag_default rows none = fresh (codes "names") (more_values DefaultValue (codes "false" ∷ [])) default_row rows none

-- which hides nothing
hidden : (name : Text) (rows : List Row) → bytes_eq (codes "names") name ≡ false → find (λ r. bytes_eq r.id name) (with_default rows flag) ≡ find (λ r. bytes_eq r.id name) rows
hidden name rows other_name = go (has_row (codes "names") rows) refl
  where
    go : (b : Bool) → has_row (codes "names") rows ≡ b
        → find (λ r. bytes_eq r.id name) (cond b rows (with_values (codes "names") reading.AsWritten DefaultValue (codes "false" ∷ []) rows)) ≡ find (λ r. bytes_eq r.id name) rows
    go true e = refl
    go false e = ap (find (λ r. bytes_eq r.id name)) (flag_default rows e) ∙ found_before name rows default_row other_name

-- and sets no flag
flag_text : (given : List (List ℕ × List ℕ)) → is_true (first_of (codes "names") (with_default (as_rows given) flag)) ≡ is_true (text_of given (codes "names"))
flag_text given = go (has_row (codes "names") (as_rows given)) refl
  where
    go : (b : Bool) → has_row (codes "names") (as_rows given) ≡ b
        → is_true (first_of (codes "names") (cond b (as_rows given) (with_values (codes "names") reading.AsWritten DefaultValue (codes "false" ∷ []) (as_rows given)))) ≡ is_true (text_of given (codes "names"))
    go true e = ap is_true (first_is_text (codes "names") given)
    go false e =
        ap (λ rs. is_true (first_of (codes "names") rs)) (flag_default (as_rows given) e)
        ∙ ap (λ o. is_true (option_and_then (λ (r : Row). slice_get r.values 0) o)) (found_behind (codes "names") (as_rows given) default_row e refl)
        ∙ ap (λ o. is_true (option_map (λ (g : List ℕ × List ℕ). g.1) o)) (sym (no_text (codes "names") given (sym (has_given (codes "names") given) ∙ e)))

-- the task of a verb depends on six texts
task_same : (verb : Text) (t u : Text → Option Text) → t (codes "operand") ≡ u (codes "operand") → t (codes "second") ≡ u (codes "second") → t (codes "workers") ≡ u (codes "workers")
    → t (codes "fuel") ≡ u (codes "fuel") → t (codes "input") ≡ u (codes "input") → is_true (t (codes "names")) ≡ is_true (u (codes "names")) → task_with verb t ≡ task_with verb u
task_same verb t u o s w f i n = λ k. option_and_then (λ text. task_by verb (record { operand = text; second = s k; workers = w k; fuel = f k; input = i k; names = n k })) (o k)

abbrev end_by : Text → List Row → Option Task
end_by verb rows = unless_fault (check_fault (level verb) rows false) (matched_task (verb, rows))

module _ (verb : Text) (given : List (List ℕ × List ℕ)) where
  text_is : (name : Text) → bytes_eq (codes "names") name ≡ false → first_of name (with_default (as_rows given) flag) ≡ text_of given name
  text_is name other_name = ap (option_and_then (λ (r : Row). slice_get r.values 0)) (hidden name (as_rows given) other_name) ∙ first_is_text name given

  all_texts : task_with verb (λ name. first_of name (with_default (as_rows given) flag)) ≡ task_with verb (text_of given)
  all_texts = task_same verb (λ name. first_of name (with_default (as_rows given) flag)) (text_of given)
      (text_is (codes "operand") refl) (text_is (codes "second") refl) (text_is (codes "workers") refl) (text_is (codes "fuel") refl) (text_is (codes "input") refl) (flag_text given)

  -- an operand is missing, or nothing is
  checked : (o : Option Row) → find (λ r. bytes_eq r.id (codes "operand")) (with_default (as_rows given) flag) ≡ o
      → check_fault (level verb) (with_default (as_rows given) flag) false ≡ cond (not (option_map_or (λ (r : Row). explicit_source r.source) o false) || false) (kind.MissingRequiredArgument ∷ []) []
  checked o e = ap (λ (x : Option Row). cond (not (option_map_or (λ (r : Row). explicit_source r.source) x false) || false) (kind.MissingRequiredArgument ∷ []) []) e

  operand_row : find (λ r. bytes_eq r.id (codes "operand")) (with_default (as_rows given) flag) ≡ option_map as_row (find (λ g. bytes_eq g.0 (codes "operand")) given)
  operand_row = hidden (codes "operand") (as_rows given) refl ∙ found_row (codes "operand") given

  ended : (b : Bool) → is_given (codes "operand") given ≡ b → end_by verb (with_default (as_rows given) flag) ≡ task_with verb (text_of given)
  ended true e =
      let g = some_text (codes "operand") given e in
      all_of (check_fault (level verb) (with_default (as_rows given) flag) false) _ (checked (Some (as_row g.0)) (operand_row ∙ ap (option_map as_row) g.1)) ∙ all_texts
  ended false e =
      none_of (check_fault (level verb) (with_default (as_rows given) flag) false) _ (ap fails (checked None (operand_row ∙ ap (option_map as_row) (no_text (codes "operand") given e))))
      ∙ ap (λ o. option_and_then (λ text. task_by verb (given_by (text_of given) text)) (option_map (λ (g : List ℕ × List ℕ). g.1) o)) (sym (no_text (codes "operand") given e))

  end_is : end_by verb (fold with_default (as_rows given) rules) ≡ task_with verb (text_of given)
  end_is = ap (end_by verb) (defaulted (as_rows given)) ∙ ended (is_given (codes "operand") given) refl

  -- the words have ended
  pub settled_end : (rows : List Row) (pending : Option (Text × List Text)) (waiting : Waiting) (position : ℕ) (is_trailing : Bool) → Settles given rows pending
      → outcome verb [] (standing rows pending waiting position is_trailing) ≡ task_with verb (text_of given)
  settled_end rows pending waiting position is_trailing s =
      (λ i. unless_fault (or_else (s.clear i) (or_else (defaults_fault (s.rows_are i) rules) (check_fault (level verb) (fold with_default (s.rows_are i) rules) false))) (matched_task (verb, fold with_default (s.rows_are i) rules)))
      ∙ ap (λ ks. unless_fault (or_else ks (check_fault (level verb) (fold with_default (as_rows given) rules) false)) (matched_task (verb, fold with_default (as_rows given) rules))) (defaults_pass (as_rows given))
      ∙ end_is

-- ---- a word

abbrev expected : Text → List Text → WordsSoFar → Option Task
expected verb words found = option_and_then (task_of_found verb) (steps found words)

abbrev by_next : Text → List Text → Option WordsSoFar → Option Task
by_next verb words o = option_and_then (task_of_found verb) (option_and_then (λ found. steps found words) o)

-- a text that is given by this name, or is given already
abbrev text_by : Bool → WordsSoFar → (name text : Text) → Option WordsSoFar
text_by old found name text = if old then None else Some (record found { given = found.given ++ (name, text) ∷ [] })

module _ (verb word : Text) (words : List Text) (text : IsUtf8 word) (law : (found : WordsSoFar) (w : Walk) → Stands found w → outcome verb words w ≡ expected verb words found)
    (doom : (w : Walk) → Doomed w → outcome verb words w ≡ None) where
  abbrev after : Turn → Option Task
  after t = after_turn t (outcome verb words)

  -- the argument that gets the word as an operand
  module _ (given : List (List ℕ × List ℕ)) (rows : List Row) (pending : Option (Text × List Text)) (s : Settles given rows pending) where
    operand_held : (a : Rule) → takes_several a ≡ false → positional_held rules a word (holding rows pending) ≡ holding (as_rows given) (Some (a.id, word ∷ []))
    operand_held a one =
        ap (λ b. pushed a.id word (cond (is_pending a pending && b) (holding rows pending) (settled rules (holding rows pending)))) one
        ∙ ap (λ b. pushed a.id word (cond b (holding rows pending) (settled rules (holding rows pending)))) (and_false (is_pending a pending))
        ∙ ap (λ rs. holding rs (Some (a.id, word ∷ []))) s.rows_are

    operand_clear : (a : Rule) → takes_several a ≡ false → positional_fault rules false a (holding rows pending) ≡ []
    operand_clear a one =
        ap (λ b. cond (is_pending a pending && b) [] (settle_fault rules false (holding rows pending))) one
        ∙ ap (λ b. cond b [] (settle_fault rules false (holding rows pending))) (and_false (is_pending a pending)) ∙ s.clear

    -- a word that is an operand
    operand_step : (is_trailing : Bool) (due : NextWord) (position : ℕ)
        → ((more : List (List ℕ × List ℕ)) (rs : List Row) (p : Option (Text × List Text)) (k : ℕ) → Settles more rs p → Placed more k → Stands (record { due = due; given = more }) (standing rs p idle k is_trailing))
        → Placed given position → after (operand_turn rows pending idle position is_trailing word) ≡ by_next verb words (with_operand (record { due = due; given = given }) word)
    operand_step is_trailing due position stands (at_first o n) =
        (λ i. after (operand_clear operand refl i, record { held = operand_held operand refl i; waiting = idle; position = 2; is_trailing = or_false is_trailing i; stopped = None }))
        ∙ law (record { due = due; given = given ++ (codes "operand", word) ∷ [] }) (standing (as_rows given) (Some (codes "operand", word ∷ [])) idle 2 is_trailing)
        (stands (given ++ (codes "operand", word) ∷ []) (as_rows given) (Some (codes "operand", word ∷ [])) 2 (settles_more operand (codes "operand") word given usable_operand o)
        (at_second (given_more (codes "operand") (codes "operand") word given ∙ ap (λ x. x || true) o) (given_more (codes "second") (codes "operand") word given ∙ ap (λ x. x || false) n)))
        ∙ λ i. by_next verb words (cond (sym o i) (with_text (record { due = due; given = given }) (codes "second") word) (text_by (sym o i) (record { due = due; given = given }) (codes "operand") word))
    operand_step is_trailing due position stands (at_second o n) =
        (λ i. after (operand_clear second refl i, record { held = operand_held second refl i; waiting = idle; position = 3; is_trailing = or_false is_trailing i; stopped = None }))
        ∙ law (record { due = due; given = given ++ (codes "second", word) ∷ [] }) (standing (as_rows given) (Some (codes "second", word ∷ [])) idle 3 is_trailing)
        (stands (given ++ (codes "second", word) ∷ []) (as_rows given) (Some (codes "second", word ∷ [])) 3 (settles_more second (codes "second") word given usable_second n)
        (at_end (given_more (codes "operand") (codes "second") word given ∙ ap (λ x. x || false) o) (given_more (codes "second") (codes "second") word given ∙ ap (λ x. x || true) n)))
        ∙ λ i. by_next verb words (cond (sym o i) (text_by (sym n i) (record { due = due; given = given }) (codes "second") word) (with_text (record { due = due; given = given }) (codes "operand") word))
    operand_step is_trailing due position stands (at_end o n) =
        λ i. by_next verb words (cond (sym o i) (text_by (sym n i) (record { due = due; given = given }) (codes "second") word) (with_text (record { due = due; given = given }) (codes "operand") word))

    abbrev found : WordsSoFar
    found = record { due = Word; given = given }

    -- an option with a value
    abbrev valued_turn : Bool → Rule → Option Text → ℕ → Turn
    valued_turn takes a v position =
        let h = holding rows pending in
        let met = cond takes (option_met rules a v h) (flag_met rules a v h) in
        turn_met (cond takes (option_fault rules false a v h) (cond (is_some v) (kind.TooManyValues ∷ []) (react_fault rules false a [] h))) (after_flag rules idle word met.0 met.1) rows pending idle position word

    valued_is : (a : Rule) (name : Text) (v : Option Text) (position : ℕ) → HasValue a name → long_turn (arg_by_long rules name) v rows pending idle position word ≡ valued_turn true a v position
    valued_is a name v position u = ap (λ o. long_turn o v rows pending idle position word) u.by_name ∙ ap (λ t. valued_turn t a v position) u.takes

    -- a use at once, of an argument that is given already or is not
    used_step : (name v : Text) (position : ℕ) (fault : Kinds) (rs : List Row) → bytes_eq name (codes "operand") ≡ false → bytes_eq name (codes "second") ≡ false
        → fault ≡ or_else (repeat_fault false name (as_rows given)) [] → rs ≡ with_values name reading.AsWritten CommandLine (v ∷ []) (without name (as_rows given)) → Placed given position
        → (b : Bool) → is_given name given ≡ b → after (fault, standing rs None idle position false) ≡ by_next verb words (text_by b found name v)
    used_step name v position fault rs no_operand no_second fault_is rows_are placed true old =
        none_of fault _ (ap fails (fault_is ∙ ap (λ b. or_else (cond (b && true) (kind.ArgumentConflict ∷ []) []) []) (has_given name given ∙ old)))
    used_step name v position fault rs no_operand no_second fault_is rows_are placed false new =
        all_of fault _ (fault_is ∙ ap (λ b. or_else (cond (b && true) (kind.ArgumentConflict ∷ []) []) []) (has_given name given ∙ new))
        ∙ ap (λ l. outcome verb words (standing l None idle position false)) (rows_are ∙ used_new name v given new)
        ∙ law (record { due = Word; given = given ++ (name, v) ∷ [] }) (standing (as_rows (given ++ (name, v) ∷ [])) None idle position false)
        (before (given ++ (name, v) ∷ []) (as_rows (given ++ (name, v) ∷ [])) None position (record { clear = refl; rows_are = refl }) (placed_more given name v position no_operand no_second placed))

    -- a word `--name` or `--name=value`
    named_step : (name : Text) (v : Option Text) (position : ℕ) → Placed given position → Sort name
        → after (long_turn (arg_by_long rules name) v rows pending idle position word) ≡ by_next verb words (with_option found name v)
    named_step name None position placed (with_value a u) =
        ap after (valued_is a name None position u)
        ∙ (λ i. after (or_else (s.clear i) [], standing (s.rows_are i) (Some (u.id_is i, [])) (option (u.id_is i)) position false))
        ∙ law (record { due = Value name; given = given }) (standing (as_rows given) (Some (name, [])) (option name) position false) (waits_for given a name position u placed)
        ∙ ap (λ b. by_next verb words (cond b (Some (record found { due = Value name })) (cond (is_among alone name) (with_text found name (codes "true")) None))) (sym u.is_valued)
    named_step name (Some x) position placed (with_value a u) =
        ap after (valued_is a name (Some x) position u)
        ∙ used_step name x position (or_else (or_else (settle_fault rules false (holding rows pending)) (use_fault false a (x ∷ []) (settled_rows rules pending rows))) []) (used a (x ∷ []) (settled_rows rules pending rows))
        u.no_operand u.no_second
        ((λ i. or_else (or_else (s.clear i) (use_fault false a (x ∷ []) (s.rows_are i))) []) ∙ ap (λ ks. or_else ks []) (u.usable.fault x (as_rows given)) ∙ nothing_behind (or_else (repeat_fault false name (as_rows given)) []))
        (ap (λ l. used a (x ∷ []) l) s.rows_are ∙ u.usable.used_is x (as_rows given)) placed (is_given name given) refl
        ∙ ap (λ b. by_next verb words (cond b (with_text found name x) None)) (sym u.is_valued)
    named_step name v position placed (stands_alone long is unvalued alone_is) = subst (λ n. after (long_turn (arg_by_long rules n) v rows pending idle position word) ≡ by_next verb words (with_option found n v)) (sym is) (flag_step v)
      where
        flag_step : (x : Option Text) → after (long_turn (arg_by_long rules (codes "names")) x rows pending idle position word) ≡ by_next verb words (with_option found (codes "names") x)
        flag_step None = used_step (codes "names") (codes "true") position (or_else (or_else (settle_fault rules false (holding rows pending)) (use_fault false flag [] (settled_rows rules pending rows))) []) (used flag [] (settled_rows rules pending rows))
            refl refl
            ((λ i. or_else (or_else (s.clear i) (use_fault false flag [] (s.rows_are i))) []) ∙ nothing_behind (or_else (repeat_fault false (codes "names") (as_rows given)) []))
            (ap (λ l. used flag [] l) s.rows_are) placed (is_given (codes "names") given) refl
        flag_step (Some x) = refl
    named_step name None position placed (no_option long unvalued none) =
        ap (λ o. after (long_turn o None rows pending idle position word)) long
        ∙ λ i. by_next verb words (cond (sym unvalued i) (Some (record found { due = Value name })) (cond (sym none i) (with_text found name (codes "true")) None))
    named_step name (Some x) position placed (no_option long unvalued none) =
        ap (λ o. after (long_turn o (Some x) rows pending idle position word)) long ∙ ap (λ b. by_next verb words (cond b (with_text found name x) None)) (sym unvalued)

    -- a word where options may stand
    before_step : (position : ℕ) → Placed given position → (form : Form) → Lexes word form
        → after (turn_at verb (standing rows pending idle position false) word) ≡ by_next verb words (any_word found form word)
    before_step position placed Dashes (dashes d) =
        ap after (turn_of_dashes verb rows pending position word idle d)
        ∙ law (record { due = Operand; given = given }) (standing rows pending idle position true) (behind given rows pending position s placed)
    before_step position placed (Named name v) (named _ _ d l) =
        ap after (turn_of_named verb rows pending position word idle name v d l) ∙ named_step name v position placed (sort_of name)
    before_step position placed Plain (plain_word d l e) =
        ap after (turn_of_others verb rows pending position word idle None d l e) ∙ operand_step false Word position before placed
    before_step position placed Unknown (strange x xs is d l e) =
        ap after (turn_of_others verb rows pending position word idle (Some (x ∷ xs)) d l e) ∙ strange_fails verb word words text x xs rows pending idle position is

  -- the value of an option
  module _ (given : List (List ℕ × List ℕ)) (a : Rule) (name : Text) (u : HasValue a name) (position : ℕ) (placed : Placed given position) where
    abbrev waiting_found : WordsSoFar
    waiting_found = record { due = Value name; given = given }

    value_given : (b : Bool) → is_given name given ≡ b
        → outcome verb words (standing (as_rows given) (Some (name, word ∷ [])) idle position false) ≡ by_next verb words (text_by b (record { due = Word; given = given }) name word)
    value_given true old = doom (standing (as_rows given) (Some (name, word ∷ [])) idle position false) (before_dashes (as_rows given) (Some (name, word ∷ [])) position (clashes a name word given u.usable old))
    value_given false new =
        law (record { due = Word; given = given ++ (name, word) ∷ [] }) (standing (as_rows given) (Some (name, word ∷ [])) idle position false)
        (before (given ++ (name, word) ∷ []) (as_rows given) (Some (name, word ∷ [])) position (settles_more a name word given u.usable new) (placed_more given name word position u.no_operand u.no_second placed))

    value_step : (form : Form) → Lexes word form
        → after (turn_at verb (standing (as_rows given) (Some (name, [])) (option name) position false) word) ≡ by_next verb words (value_word waiting_found name form word)
    value_step Dashes (dashes d) =
        ap after (turn_of_dashes verb (as_rows given) (Some (name, [])) position word (option name) d)
        ∙ doom (standing (as_rows given) (Some (name, [])) (option name) position true) (behind_dashes (as_rows given) (Some (name, [])) (option name) position (lacks_value a name given u.usable))
    value_step (Named other_name v) (named _ _ d l) =
        ap after (turn_of_named verb (as_rows given) (Some (name, [])) position word (option name) other_name v d l)
        ∙ none_of (long_turn (arg_by_long rules other_name) v (as_rows given) (Some (name, [])) (option name) position word).0 _
        (first_fails (long_fault rules false (arg_by_long rules other_name) v (holding (as_rows given) (Some (name, [])))) _
        (long_fails (arg_by_long rules other_name) v (holding (as_rows given) (Some (name, []))) (lacks_value a name given u.usable)))
    value_step Plain (plain_word d l e) =
        ap after (turn_of_others verb (as_rows given) (Some (name, [])) position word (option name) None d l e)
        ∙ (λ i. after ([], value_walk (option_word (u.usable.by_id i) name word (holding (as_rows given) (Some (name, []))))))
        ∙ (λ i. after ([], value_walk (u.enough word (as_rows given) i)))
        ∙ value_given (is_given name given) refl
      where
        value_walk : Held × Waiting → Walk
        value_walk p = record { held = p.0; waiting = p.1; position = position; is_trailing = false; stopped = None }
    value_step Unknown (strange x xs is d l e) =
        ap after (turn_of_others verb (as_rows given) (Some (name, [])) position word (option name) (Some (x ∷ xs)) d l e) ∙ strange_fails verb word words text x xs (as_rows given) (Some (name, [])) (option name) position is

  -- one word more
  word_step : (found : WordsSoFar) (w : Walk) → Stands found w → after (turn_at verb w word) ≡ by_next verb words (step found word)
  word_step found w (before given rows pending position s placed) = before_step given rows pending s position placed (form_of word) (lexes word)
  word_step found w (behind given rows pending position s placed) =
      ap after (turn_behind verb rows pending position word idle) ∙ operand_step given rows pending s true Operand position behind placed
  word_step found w (waits_for given a name position u placed) = value_step given a name u position placed (form_of word) (lexes word)

pub words_law : (verb : Text) (words : List Text) → All IsUtf8 words → (found : WordsSoFar) (w : Walk) → Stands found w → outcome verb words w ≡ expected verb words found
words_law verb [] texts found w (before given rows pending position s placed) = settled_end verb given rows pending idle position false s
words_law verb [] texts found w (behind given rows pending position s placed) = settled_end verb given rows pending idle position true s
words_law verb [] texts found w (waits_for given a name position u placed) =
    doomed_end verb (standing (as_rows given) (Some (name, [])) (option name) position false) (lacks_value a name given u.usable)
words_law verb (word ∷ words) texts found w stands =
    word_step verb word words (head_text word words texts) (words_law verb words (tail_texts word words texts)) (doomed verb words (tail_texts word words texts)) found w stands

-- the words behind a verb
pub behind_verb : (verb : Text) (words : List Text) → All IsUtf8 words
    → unless_fault (level_fault (level verb) [] nothing_held words false []) (matched_task (verb, rows_after rules [] words)) ≡ option_and_then (task_of_found verb) (steps start words)
behind_verb verb words texts =
    level_outcome verb words
    ∙ words_law verb words texts start (walk_from nothing_held) (before [] [] None 1 (record { clear = refl; rows_are = refl }) (at_first refl refl))
