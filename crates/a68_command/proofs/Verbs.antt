-- The first word of a call: the words behind a verb are read by that verb's rules, and no other word is a verb.
use Rattle.std.proofs.Common.{◌≡◌, ◌∙◌, ◌||◌, ◌&&◌, ◌⊎◌, inl, inr, suc, Bool, cond, true, false, true≢false, ap, sym, subst, refl, arith, List, [], ◌∷◌, ◌++◌, map, codes}
use Rattle.std.specs.Prelude.{None, Some, find, is_some}
use Rattle.std.specs.List.{All, fold}
use Rattle.std.specs.Option.{option_map, option_map_or, option_and_then}
use Rattle.std.specs.Str.{IsUtf8, bytes_eq}
use Rattle.std.specs.declared.option.Option.{Option}
use Rattle.std.proofs.lemmas.Slice.Eq.{bytes_eq-Decides}
use Rattle.clap.specs.Kinds.{Kinds, or_else}
use Rattle.clap.specs.Lexer.{long_of}
use Rattle.clap.specs.declared.error.kind.ErrorKind.TheVariants as kind
use Rattle.clap.specs.Faults.{bundle_fault, check_fault, flag_word_fault, other_fault, settle_fault, step_fault, defaults_fault, entered_fault, fault_of, level_fault, turn_fault, walk_fault}
use Rattle.clap.specs.Simple.{App, Shape, built, entered, label_of, names_of, rows_at, subcommand_of}
use Rattle.clap.specs.Walk.{Names, Text, Walk, after_step, answers_to, finished, idle, long_or_other, nothing_held, rows_after, settled, short_or_plain, subcommand_met, subcommand_or_other, trailing, walk, walk_from, walked}
use Rattle.clap.proofs.WalkLemmas.{walk_stopped}
use Rattle.a68_command.specs.Matching.{matched_task, split_task, unless_fault}
use Rattle.a68_command.specs.Options.{Dashes, Form, Named, Plain, Unknown, WordsSoFar, form_of, is_among, start, steps, text_of}
use Rattle.a68_command.specs.Splitting.{call_app}
use Rattle.a68_command.specs.Words.{Given, Task, allowed_to, asked_by, given_by, is_allowed, is_whole, lay_out, made_by, races_by, replay_by, run_by, show_code, task_by, task_in, task_of_found, task_with, trace_by, verbs}
use Rattle.a68_command.proofs.Level.{behind_verb, none_of}
use Rattle.a68_command.proofs.Lexed.{Lexes, dashes, lexes, named, plain_word, refused_bundle, strange}
use Rattle.a68_command.proofs.Rows.{either}
use Rattle.a68_command.proofs.Turning.{fails, first_fails, level, rules}

abbrev app : App
app = built call_app

-- the names of verbs and the verbs, as the call has them
abbrev names : List Text → Names
names vs = map (λ v. (v, [])) vs

abbrev levels : List Text → List Shape
levels vs = map level vs

names_are : names_of app ≡ names verbs
names_are = refl

levels_are : app.subs ≡ levels verbs
levels_are = refl

is_name : (v name : Text) → bytes_eq v name ≡ true → v ≡ name
is_name v name e = (bytes_eq-Decides v name).0 e

-- a verb is found, and its rules
met : (vs : List Text) (name : Text) → is_among vs name ≡ true → find (answers_to name) (names vs) ≡ Some (name, [])
met [] name e = absurd (true≢false (sym e))
met (v ∷ vs) name e = go (bytes_eq v name) refl e (met vs name)
  where
    go : (b : Bool) → bytes_eq v name ≡ b → (b || is_among vs name) ≡ true → (is_among vs name ≡ true → find (answers_to name) (names vs) ≡ Some (name, []))
        → cond (b || false) (Some (v, [])) (find (answers_to name) (names vs)) ≡ Some (name, [])
    go true t is more = ap (λ n. Some (n, [])) (is_name v name t)
    go false t is more = more is

level_found : (vs : List Text) (name : Text) → is_among vs name ≡ true → find (λ s. answers_to name (label_of s)) (levels vs) ≡ Some (level name)
level_found [] name e = absurd (true≢false (sym e))
level_found (v ∷ vs) name e = go (bytes_eq v name) refl e (level_found vs name)
  where
    go : (b : Bool) → bytes_eq v name ≡ b → (b || is_among vs name) ≡ true → (is_among vs name ≡ true → find (λ s. answers_to name (label_of s)) (levels vs) ≡ Some (level name))
        → cond (b || false) (Some (level v)) (find (λ s. answers_to name (label_of s)) (levels vs)) ≡ Some (level name)
    go true t is more = ap (λ n. Some (level n)) (is_name v name t)
    go false t is more = more is

-- no other word is
unmet : (vs : List Text) (name : Text) → is_among vs name ≡ false → find (answers_to name) (names vs) ≡ None
unmet [] name e = refl
unmet (v ∷ vs) name e = go (bytes_eq v name) e (unmet vs name)
  where
    go : (b : Bool) → (b || is_among vs name) ≡ false → (is_among vs name ≡ false → find (answers_to name) (names vs) ≡ None)
        → cond (b || false) (Some (v, [])) (find (answers_to name) (names vs)) ≡ None
    go true is more = absurd (true≢false is)
    go false is more = more is

-- ---- behind a verb

-- the walk once the verb was met, with the words behind it
abbrev stopped_at : Text → List Text → Walk
stopped_at name words = record (walk_from nothing_held) { stopped = Some (name, words) }

-- nothing fails then
stopped_fault : (w : Walk) (p : Text × List Text) (words : List Text) → walk_fault app.top (names_of app) (record w { stopped = Some p }) words ≡ []
unfolding walk_fault walked
stopped_fault w p [] = refl
stopped_fault w p (word ∷ words) = stopped_fault w (p.0, p.1 ++ word ∷ []) words

module _ (name : Text) (words : List Text) (is : is_among verbs name ≡ true) where
  meets : subcommand_met (names_of app) idle name ≡ Some name
  meets = ap (option_map (λ (s : Text × List Text). s.0)) (met verbs name is)

  first_walk : walked app.top.rules (names_of app) (walk_from nothing_held) name ≡ stopped_at name []
  unfolding walked
  first_walk = ap (λ o. after_step app.top.rules name (walk_from nothing_held) (subcommand_or_other app.top.rules o idle 1 name nothing_held).0 (subcommand_or_other app.top.rules o idle 1 name nothing_held).1) meets

  first_fault : turn_fault app.top (names_of app) (walk_from nothing_held) name ≡ []
  first_fault = ap (λ o. or_else (other_fault app.top o name nothing_held) (step_fault app.top 1 (subcommand_or_other app.top.rules o idle 1 name nothing_held).0 (subcommand_or_other app.top.rules o idle 1 name nothing_held).1)) meets ∙ no_help (bytes_eq name (codes "help"))
    where
      no_help : (b : Bool) → or_else (cond (b && false) (kind.DisplayHelp ∷ kind.InvalidSubcommand ∷ []) []) [] ≡ []
      no_help true = refl
      no_help false = refl

  whole_walk : walk app.top.rules (names_of app) nothing_held (name ∷ words) ≡ stopped_at name words
  whole_walk = ap (λ (w : Walk). fold (walked app.top.rules (names_of app)) w words) first_walk ∙ sym (walk_stopped app.top.rules (names_of app) (walk_from nothing_held) name [] words)

  walk_clear : walk_fault app.top (names_of app) (walk_from nothing_held) (name ∷ words) ≡ []
  unfolding walk_fault
  walk_clear =
      ap (λ ks. or_else ks (walk_fault app.top (names_of app) (walked app.top.rules (names_of app) (walk_from nothing_held) name) words)) first_fault
      ∙ ap (λ (w : Walk). walk_fault app.top (names_of app) w words) first_walk ∙ stopped_fault (walk_from nothing_held) (name, []) words

  enters : find (λ s. answers_to name (label_of s)) app.subs ≡ Some (level name)
  enters = level_found verbs name is

  -- the faults of a call are those of the verb
  verb_fault : fault_of call_app (name ∷ words) ≡ level_fault (level name) [] nothing_held words false []
  unfolding defaults_fault
  verb_fault =
      ap (λ (e : Walk). or_else (walk_fault app.top (names_of app) (walk_from nothing_held) (name ∷ words)) (or_else (entered_fault app e.stopped)
      (or_else (settle_fault app.top.rules app.top.args_override_self e.held) (or_else (defaults_fault (settled app.top.rules e.held).rows app.top.rules)
      (check_fault app.top (finished app.top.rules e.held) (is_some (entered app e.stopped))))))) whole_walk
      ∙ ap (λ ks. or_else ks (or_else (entered_fault app (Some (name, words))) (check_fault app.top [] (is_some (entered app (Some (name, words))))))) walk_clear
      ∙ ap (λ (o : Option Shape). or_else (option_map_or (λ s. level_fault s [] nothing_held words false []) o []) (check_fault app.top [] (is_some (option_map (λ s. rows_at s words) o)))) enters
      ∙ nothing_more (level_fault (level name) [] nothing_held words false [])
    where
      nothing_more : (ks : Kinds) → or_else ks [] ≡ ks
      nothing_more [] = refl
      nothing_more (k ∷ ks) = refl

  verb_rows : subcommand_of call_app (name ∷ words) ≡ Some (rows_at (level name) words)
  verb_rows = ap (λ (e : Walk). entered app e.stopped) whole_walk ∙ ap (λ (o : Option Shape). option_map (λ s. rows_at s words) o) enters

  verb_split : split_task (name ∷ words) ≡ unless_fault (level_fault (level name) [] nothing_held words false []) (matched_task (name, rows_after rules [] words))
  verb_split = λ i. unless_fault (verb_fault i) (option_and_then matched_task (verb_rows i))

-- ---- any other word

-- behind `--` there is no verb
dashes_fail : (words : List Text) → fails (fault_of call_app ((45 ∷ 45 ∷ []) ∷ words)) ≡ true
unfolding walk_fault walked defaults_fault
dashes_fail [] = refl
dashes_fail (word ∷ words) = refl

-- it is split into nothing
module _ (name : Text) (words : List Text) (none : is_among verbs name ≡ false) (text : IsUtf8 name) where
  meets_none : subcommand_met (names_of app) idle name ≡ None
  meets_none = ap (option_map (λ (s : Text × List Text). s.0)) (unmet verbs name none)

  -- the faults of the first turn, by the tests of the word
  abbrev fault_with : Bool → Option (Text × Option Text) → Kinds
  fault_with d l =
      let then_met = cond d (nothing_held, trailing 1) (long_or_other app.top.rules idle name l nothing_held) in
      or_else (cond d [] (flag_word_fault app.top.rules app.top.args_override_self l name nothing_held)) (step_fault app.top 1 then_met.0 then_met.1)

  abbrev fault_short : Option Text → Kinds
  fault_short s =
      let then_met = short_or_plain app.top.rules idle name s nothing_held in
      or_else (option_map_or (λ flags. bundle_fault app.top.rules app.top.args_override_self flags nothing_held) s []) (step_fault app.top 1 then_met.0 then_met.1)

  first_turn : turn_fault app.top (names_of app) (walk_from nothing_held) name ≡ fault_with (bytes_eq name (45 ∷ 45 ∷ [])) (long_of name)
  first_turn = ap (λ o. or_else (other_fault app.top o name nothing_held) (step_fault app.top 1 (subcommand_or_other app.top.rules o idle 1 name nothing_held).0 (subcommand_or_other app.top.rules o idle 1 name nothing_held).1)) meets_none

  -- the first turn fails, or the word is `--`
  turn_fails : (form : Form) → Lexes name form → (fails (turn_fault app.top (names_of app) (walk_from nothing_held) name) ≡ true) ⊎ (name ≡ 45 ∷ 45 ∷ [])
  turn_fails Dashes (dashes d) = inr ((bytes_eq-Decides name (45 ∷ 45 ∷ [])).0 d)
  turn_fails (Named n v) (named _ _ d l) = inl (ap fails first_turn ∙ λ i. fails (fault_with (d i) (l i)))
  turn_fails Plain (plain_word d l s) = inl (ap fails first_turn ∙ (λ i. fails (fault_with (d i) (l i))) ∙ ap (λ o. fails (fault_short o)) s)
  turn_fails Unknown (strange x xs is d l s) =
      inl (ap fails first_turn ∙ (λ i. fails (fault_with (d i) (l i))) ∙ ap (λ o. fails (fault_short o)) s
      ∙ first_fails (bundle_fault [] false (x ∷ xs) nothing_held) _ (ap fails (refused_bundle [] (λ k. refl) x xs [] None (subst IsUtf8 is text))))

  other_fails : (fails (turn_fault app.top (names_of app) (walk_from nothing_held) name) ≡ true) ⊎ (name ≡ 45 ∷ 45 ∷ []) → fails (fault_of call_app (name ∷ words)) ≡ true
  unfolding walk_fault
  other_fails (inl f) =
      first_fails (walk_fault app.top (names_of app) (walk_from nothing_held) (name ∷ words)) _
      (first_fails (turn_fault app.top (names_of app) (walk_from nothing_held) name) _ f)
  other_fails (inr is) = subst (λ n. fails (fault_of call_app (n ∷ words)) ≡ true) (sym is) (dashes_fail words)

  other_split : split_task (name ∷ words) ≡ None
  other_split = none_of (fault_of call_app (name ∷ words)) _ (other_fails (turn_fails (form_of name) (lexes name)))

-- and asks for nothing
both_false : (a b : Bool) → (a || b) ≡ false → (a ≡ false) × (b ≡ false)
both_false true b e = absurd (true≢false e)
both_false false b e = (refl, e)

turned_round : (a b : Text) → bytes_eq a b ≡ false → bytes_eq b a ≡ false
turned_round a b e = go (bytes_eq b a) refl
  where
    go : (t : Bool) → bytes_eq b a ≡ t → t ≡ false
    go false is = refl
    go true is = absurd (true≢false (sym ((bytes_eq-Decides a b).1 (sym ((bytes_eq-Decides b a).0 is))) ∙ e))

unasked : (name : Text) (g : Given) → is_among verbs name ≡ false → asked_by name g ≡ None
unasked name g none =
    let run = both_false _ _ none in
    let check = both_false _ _ run.1 in
    let code = both_false _ _ check.1 in
    let make = both_false _ _ code.1 in
    let trace = both_false _ _ make.1 in
    let replay = both_false _ _ trace.1 in
    let races = both_false _ _ replay.1 in
    let list = both_false _ _ races.1 in
    λ i. cond (turned_round (codes "run") name run.0 i) (run_by g) (cond (turned_round (codes "check") name check.0 i) (Some (Rattle.a68_command.specs.Words.check g.operand))
    (cond (turned_round (codes "code") name code.0 i) (Some (show_code g.operand)) (cond (turned_round (codes "make") name make.0 i) (made_by g)
    (cond (turned_round (codes "trace") name trace.0 i) (trace_by g) (cond (turned_round (codes "replay") name replay.0 i) (replay_by g)
    (cond (turned_round (codes "races") name races.0 i) (races_by g)
    (cond (turned_round (codes "list") name list.0 i) (Some (lay_out g.operand)) None)))))))

no_task : (name : Text) (o : Option WordsSoFar) → is_among verbs name ≡ false → option_and_then (task_of_found name) o ≡ None
no_task name None none = refl
no_task name (Some found) none = whole (is_whole found.due) (text_of found.given (codes "operand"))
  where
    whole : (b : Bool) (o : Option Text) → cond b (option_and_then (λ operand. task_by name (given_by (text_of found.given) operand)) o) None ≡ None
    whole false o = refl
    whole true None = refl
    whole true (Some operand) =
        let g = given_by (text_of found.given) operand in
        ap (λ t. cond (is_allowed (allowed_to name) g) t None) (unasked name g none) ∙ either (is_allowed (allowed_to name) g) None

-- words that are texts are split into the task that they ask for
pub split_is_task : (words : List Text) → All IsUtf8 words → split_task words ≡ task_in words
unfolding walk_fault defaults_fault
split_is_task [] texts = refl
split_is_task (name ∷ words) texts = go (is_among verbs name) refl
  where
    go : (b : Bool) → is_among verbs name ≡ b → split_task (name ∷ words) ≡ task_in (name ∷ words)
    go true is = verb_split name words is ∙ behind_verb name words (λ k d lt. texts (suc k) d (omega arith))
    go false is = other_split name words is (texts 0 [] (omega arith)) ∙ sym (no_task name (steps start words) is)
