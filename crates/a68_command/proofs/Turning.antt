-- What one word does to the walk of `clap` over the words behind a verb.
use Rattle.std.proofs.Common.{◌≡◌, ◌∙◌, ◌||◌, ◌&&◌, ℕ, Bool, cond, true, false, true≢false, ap, sym, subst, refl, List, [], ◌∷◌, ◌++◌, codes}
use Rattle.std.specs.Prelude.{None, Some, if◌then◌else◌}
use Rattle.std.specs.Option.{option_map_or}
use Rattle.std.specs.Str.{bytes_eq}
use Rattle.std.specs.declared.option.Option.{Option}
use Rattle.std.proofs.lemmas.Slice.Eq.{bytes_eq-Decides}
use Rattle.clap.specs.Kinds.{Kinds, or_else}
use Rattle.clap.specs.Lexer.{long_of, short_of}
use Rattle.clap.specs.Faults.{long_fault, positional_fault, repeat_fault, settle_fault, bundle_fault, flag_word_fault, turn_fault, use_fault, step_fault}
use Rattle.clap.specs.Simple.{Shape, filled, with_index, new_shape}
use Rattle.clap.specs.Walk.{Held, Names, Row, Rule, Step, Text, Waiting, Walk, after_flag, after_step, arg_by_id, arg_by_index, arg_by_long, flag_met, has_row, long_or_other, idle, is_pending, long_met, long_word, option, option_met, option_word, positional_held, positional, plain_word, reacted, settled, settled_rows, short_or_plain, takes_several, takes_values, to_positional, trailing, next, used, value, walked, with_values, without}
use Rattle.clap.specs.declared.builder.value_parser.Reading.TheVariants as reading
use Rattle.clap.specs.declared.error.kind.ErrorKind.TheVariants as kind
use Rattle.clap.specs.declared.parser.matches.ValueSource.TheVariants.{CommandLine}
use Rattle.a68_command.specs.Options.{is_given, is_among, valued, alone}
use Rattle.a68_command.specs.Splitting.{operand_rule, second_rule, valued_rule, names_rule}
use Rattle.a68_command.proofs.Rows.{as_rows, has_given, used_new}

-- the arguments of a verb once it is built
abbrev pub operand : Rule
operand = with_index 1 (filled operand_rule)

abbrev pub second : Rule
second = with_index 2 (filled second_rule)

abbrev pub option_rule : Text → Rule
option_rule name = with_index 3 (filled (valued_rule name))

abbrev pub flag : Rule
flag = with_index 3 (filled names_rule)

abbrev pub rules : List Rule
rules = operand ∷ second ∷ option_rule (codes "workers") ∷ option_rule (codes "fuel") ∷ option_rule (codes "input") ∷ flag ∷ []

-- a verb once it is built
abbrev pub level : Text → Shape
level verb = record (new_shape verb) {
  rules = rules;
  no_binary_name = true;
  disable_help_flag = true;
  disable_help_subcommand = true;
  disable_version_flag = true;
  is_built = true;
}

-- ---- faults

abbrev pub fails : Kinds → Bool
fails [] = false
fails (k ∷ ks) = true

pub first_fails : (a b : Kinds) → fails a ≡ true → fails (or_else a b) ≡ true
first_fails [] b e = absurd (true≢false (sym e))
first_fails (k ∷ ks) b e = refl

pub nothing_before : (a b : Kinds) → a ≡ [] → or_else a b ≡ b
nothing_before a b e = ap (λ ks. or_else ks b) e

pub last_fails : (a b : Kinds) → fails b ≡ true → fails (or_else a b) ≡ true
last_fails [] b e = e
last_fails (k ∷ ks) b e = refl

-- ---- arguments with one value

-- the argument of this name is used with one value
pub record Usable (a : Rule) (name : Text) : Type 0 where
  pub by_id : arg_by_id rules name ≡ Some a
  pub used_is : (v : Text) (rows : List Row) → used a (v ∷ []) rows ≡ with_values name reading.AsWritten CommandLine (v ∷ []) (without name rows)
  pub fault : (v : Text) (rows : List Row) → use_fault false a (v ∷ []) rows ≡ or_else (repeat_fault false name rows) []
  pub lacks : (rows : List Row) → fails (use_fault false a [] rows) ≡ true

pub usable_operand : Usable operand (codes "operand")
usable_operand = record { by_id = refl; used_is = λ v rows. refl; fault = λ v rows. refl; lacks = λ rows. refl }

pub usable_second : Usable second (codes "second")
usable_second = record { by_id = refl; used_is = λ v rows. refl; fault = λ v rows. refl; lacks = λ rows. refl }

-- an option with a value, by its name
pub record HasValue (a : Rule) (name : Text) : Type 0 where
  pub usable : Usable a name
  pub by_name : arg_by_long rules name ≡ Some a
  pub id_is : a.id ≡ name
  pub takes : takes_values a ≡ true
  pub enough : (word : Text) (rows : List Row) → option_word (Some a) name word (record { rows = rows; pending = Some (name, []); skip = 0 })
      ≡ (record { rows = rows; pending = Some (name, word ∷ []); skip = 0 }, idle)
  pub is_valued : is_among valued name ≡ true
  pub no_operand : bytes_eq name (codes "operand") ≡ false
  pub no_second : bytes_eq name (codes "second") ≡ false

workers_has : HasValue (option_rule (codes "workers")) (codes "workers")
workers_has = record {
  usable = record { by_id = refl; used_is = λ v rows. refl; fault = λ v rows. refl; lacks = λ rows. refl };
  by_name = refl;
  id_is = refl;
  takes = refl;
  enough = λ word rows. refl;
  is_valued = refl;
  no_operand = refl;
  no_second = refl;
}

fuel_has : HasValue (option_rule (codes "fuel")) (codes "fuel")
fuel_has = record {
  usable = record { by_id = refl; used_is = λ v rows. refl; fault = λ v rows. refl; lacks = λ rows. refl };
  by_name = refl;
  id_is = refl;
  takes = refl;
  enough = λ word rows. refl;
  is_valued = refl;
  no_operand = refl;
  no_second = refl;
}

input_has : HasValue (option_rule (codes "input")) (codes "input")
input_has = record {
  usable = record { by_id = refl; used_is = λ v rows. refl; fault = λ v rows. refl; lacks = λ rows. refl };
  by_name = refl;
  id_is = refl;
  takes = refl;
  enough = λ word rows. refl;
  is_valued = refl;
  no_operand = refl;
  no_second = refl;
}

-- what a name is
pub data Sort (name : Text) : Type 0 where
  with_value : (a : Rule) → HasValue a name → Sort name
  stands_alone : arg_by_long rules name ≡ Some flag → name ≡ codes "names" → is_among valued name ≡ false → is_among alone name ≡ true → Sort name
  no_option : arg_by_long rules name ≡ None → is_among valued name ≡ false → is_among alone name ≡ false → Sort name

-- the same by the tests of the name
abbrev long_by : (w f i n : Bool) → Option Rule
long_by w f i n =
    cond (w || false) (Some (option_rule (codes "workers"))) (cond (f || false) (Some (option_rule (codes "fuel")))
    (cond (i || false) (Some (option_rule (codes "input"))) (cond (n || false) (Some flag) None)))

pub sort_of : (name : Text) → Sort name
sort_of name = workers_or (bytes_eq (codes "workers") name) refl
  where
    is : (literal : Text) → bytes_eq literal name ≡ true → literal ≡ name
    is literal e = (bytes_eq-Decides literal name).0 e

    names_or : bytes_eq (codes "workers") name ≡ false → bytes_eq (codes "fuel") name ≡ false → bytes_eq (codes "input") name ≡ false → (t : Bool) → bytes_eq (codes "names") name ≡ t → Sort name
    names_or w f i true e = stands_alone (rw (w, f, i, e) refl) (sym (is (codes "names") e)) (rw (w, f, i) refl) (rw e refl)
    names_or w f i false e = no_option (rw (w, f, i, e) refl) (rw (w, f, i) refl) (rw e refl)

    input_or : bytes_eq (codes "workers") name ≡ false → bytes_eq (codes "fuel") name ≡ false → (t : Bool) → bytes_eq (codes "input") name ≡ t → Sort name
    input_or w f true e = with_value (option_rule (codes "input")) (subst (λ n. HasValue (option_rule (codes "input")) n) (is (codes "input") e) input_has)
    input_or w f false e = names_or w f e (bytes_eq (codes "names") name) refl

    fuel_or : bytes_eq (codes "workers") name ≡ false → (t : Bool) → bytes_eq (codes "fuel") name ≡ t → Sort name
    fuel_or w true e = with_value (option_rule (codes "fuel")) (subst (λ n. HasValue (option_rule (codes "fuel")) n) (is (codes "fuel") e) fuel_has)
    fuel_or w false e = input_or w e (bytes_eq (codes "input") name) refl

    workers_or : (t : Bool) → bytes_eq (codes "workers") name ≡ t → Sort name
    workers_or true e = with_value (option_rule (codes "workers")) (subst (λ n. HasValue (option_rule (codes "workers")) n) (is (codes "workers") e) workers_has)
    workers_or false e = fuel_or e (bytes_eq (codes "fuel") name) refl

-- ---- what is held

abbrev pub holding : List Row → Option (Text × List Text) → Held
holding rows pending = record { rows = rows; pending = pending; skip = 0 }

-- what is held is what is given, and the use that is pending has no fault
pub record Settles (given : List (List ℕ × List ℕ)) (rows : List Row) (pending : Option (Text × List Text)) : Type 0 where
  pub clear : settle_fault rules false (holding rows pending) ≡ []
  pub rows_are : settled_rows rules pending rows ≡ as_rows given

-- a use that is pending, of an argument that is not given before
pub settles_more : (a : Rule) (name v : Text) (given : List (List ℕ × List ℕ)) → Usable a name → is_given name given ≡ false
    → Settles (given ++ (name, v) ∷ []) (as_rows given) (Some (name, v ∷ []))
settles_more a name v given u new = record {
  clear = ap (λ o. option_map_or (λ (r : Rule). use_fault false r (v ∷ []) (as_rows given)) o []) u.by_id ∙ u.fault v (as_rows given) ∙ ap (λ b. or_else (cond (b && true) (kind.ArgumentConflict ∷ []) []) []) (has_given name given ∙ new);
  rows_are = ap (λ o. Rattle.clap.specs.Walk.used_by_id o (v ∷ []) (as_rows given)) u.by_id ∙ u.used_is v (as_rows given) ∙ used_new name v given new;
}

-- one of an argument that is given already
pub clashes : (a : Rule) (name v : Text) (given : List (List ℕ × List ℕ)) → Usable a name → is_given name given ≡ true
    → fails (settle_fault rules false (holding (as_rows given) (Some (name, v ∷ [])))) ≡ true
clashes a name v given u old =
    ap fails (ap (λ o. option_map_or (λ (r : Rule). use_fault false r (v ∷ []) (as_rows given)) o []) u.by_id ∙ u.fault v (as_rows given) ∙ ap (λ b. or_else (cond (b && true) (kind.ArgumentConflict ∷ []) []) []) (has_given name given ∙ old))

-- an option that waits for its value
pub lacks_value : (a : Rule) (name : Text) (given : List (List ℕ × List ℕ)) → Usable a name → fails (settle_fault rules false (holding (as_rows given) (Some (name, [])))) ≡ true
lacks_value a name given u = ap fails (ap (λ o. option_map_or (λ (r : Rule). use_fault false r [] (as_rows given)) o []) u.by_id) ∙ u.lacks (as_rows given)

-- ---- turns

abbrev pub standing : List Row → Option (Text × List Text) → Waiting → ℕ → Bool → Walk
standing rows pending waiting position is_trailing = record { held = holding rows pending; waiting = waiting; position = position; is_trailing = is_trailing; stopped = None }

abbrev pub Turn : Type 0
Turn = Kinds × Walk

-- a word that is an operand, whether `--` stands before it or not
abbrev pub operand_turn : List Row → Option (Text × List Text) → Waiting → ℕ → Bool → Text → Turn
operand_turn rows pending waiting position is_trailing word =
    (option_map_or (λ (a : Rule). positional_fault rules false a (holding rows pending)) (arg_by_index rules position) (kind.UnknownArgument ∷ []), to_positional rules (arg_by_index rules position) word (standing rows pending waiting position is_trailing) (holding rows pending))

-- a word before `--`, by what it is to the lexer
abbrev pub turn_met : Kinds → Held × Step → List Row → Option (Text × List Text) → Waiting → ℕ → Text → Turn
turn_met fault met rows pending waiting position word =
    (or_else fault (step_fault (level []) position met.0 met.1), after_step rules word (standing rows pending waiting position false) met.0 met.1)

abbrev pub long_turn : Option Rule → Option Text → List Row → Option (Text × List Text) → Waiting → ℕ → Text → Turn
long_turn a v rows pending waiting position word =
    let met = long_met rules a v (holding rows pending) in
    turn_met (long_fault rules false a v (holding rows pending)) (after_flag rules waiting word met.0 met.1) rows pending waiting position word

-- the same by the tests of the word
abbrev fault_by : Bool → Option (Text × Option Text) → Text → Held → Kinds
fault_by d l word h = if d then [] else flag_word_fault rules false l word h

abbrev met_by : Bool → Option (Text × Option Text) → Waiting → ℕ → Text → Held → Held × Step
met_by d l waiting position word h = if d then (h, trailing position) else long_or_other rules waiting word l h

abbrev turn_by : Bool → Option (Text × Option Text) → List Row → Option (Text × List Text) → Waiting → ℕ → Text → Turn
turn_by d l rows pending waiting position word =
    turn_met (fault_by d l word (holding rows pending)) (met_by d l waiting position word (holding rows pending)) rows pending waiting position word

-- a word that is no flag and no option
abbrev pub short_turn : Option Text → List Row → Option (Text × List Text) → Waiting → ℕ → Text → Turn
short_turn s rows pending waiting position word =
    turn_met (option_map_or (λ flags. bundle_fault rules false flags (holding rows pending)) s []) (short_or_plain rules waiting word s (holding rows pending)) rows pending waiting position word

abbrev pub turn_at : Text → Walk → Text → Turn
turn_at verb w word = (turn_fault (level verb) [] w word, walked rules [] w word)

module _ (verb : Text) (rows : List Row) (pending : Option (Text × List Text)) (position : ℕ) (word : Text) where
  pub turn_behind : (waiting : Waiting) → turn_at verb (standing rows pending waiting position true) word ≡ operand_turn rows pending waiting position true word
  unfolding walked
  turn_behind idle = refl
  turn_behind (option name) = refl
  turn_behind positional = refl

  turn_before : (waiting : Waiting)
      → turn_at verb (standing rows pending waiting position false) word ≡ turn_by (bytes_eq word (45 ∷ 45 ∷ [])) (long_of word) rows pending waiting position word
  unfolding walked
  turn_before idle = refl
  turn_before (option name) = refl
  turn_before positional = refl

  pub turn_of_dashes : (waiting : Waiting) → bytes_eq word (45 ∷ 45 ∷ []) ≡ true
      → turn_at verb (standing rows pending waiting position false) word ≡ ([], standing rows pending waiting position true)
  turn_of_dashes waiting d = turn_before waiting ∙ ap (λ t. turn_by t (long_of word) rows pending waiting position word) d

  pub turn_of_named : (waiting : Waiting) (name : Text) (v : Option Text) → bytes_eq word (45 ∷ 45 ∷ []) ≡ false → long_of word ≡ Some (name, v)
      → turn_at verb (standing rows pending waiting position false) word ≡ long_turn (arg_by_long rules name) v rows pending waiting position word
  turn_of_named waiting name v d l = turn_before waiting ∙ λ i. turn_by (d i) (l i) rows pending waiting position word

  pub turn_of_others : (waiting : Waiting) (s : Option Text) → bytes_eq word (45 ∷ 45 ∷ []) ≡ false → long_of word ≡ None → short_of word ≡ s
      → turn_at verb (standing rows pending waiting position false) word ≡ short_turn s rows pending waiting position word
  turn_of_others waiting s d l e = turn_before waiting ∙ (λ i. turn_by (d i) (l i) rows pending waiting position word) ∙ ap (λ o. short_turn o rows pending waiting position word) e
