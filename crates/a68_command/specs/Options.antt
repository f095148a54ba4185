-- The words behind the verb: operands, and options with their values.
use Rattle.std.specs.Prelude.{ℕ, Bool, ◌==◌, List, [], ◌∷◌, ◌++◌, codes, None, Some, find, if◌then◌else◌}
use Rattle.std.specs.List.{list_any, before_first, after_first}
use Rattle.std.specs.Option.{option_map, option_and_then}
use Rattle.std.specs.Str.{bytes_eq}
use Rattle.std.specs.declared.option.Option.{Option}

-- the names of the options that have a value
abbrev pub valued : List (List ℕ)
valued = codes "workers" ∷ codes "fuel" ∷ codes "input" ∷ []

-- the names of the options that stand alone
abbrev pub alone : List (List ℕ)
alone = codes "names" ∷ []

abbrev pub is_among : List (List ℕ) → List ℕ → Bool
is_among names name = list_any (λ n. bytes_eq n name) names

-- the form of a word: `--`; `--name` or `--name=value`; `-` or a word that does not begin with `-`; and any other
pub data Form : Type 0 where
  Dashes : Form
  Named : (name : List ℕ) (value : Option (List ℕ)) → Form
  Plain : Form
  Unknown : Form

-- what stands behind the first `=`
abbrev pub value_in : List ℕ → Option (List ℕ)
value_in text = if list_any (λ b. b == 61) text then Some (after_first (λ b. b == 61) text) else None

-- the form of a word, by what stands behind `--`, or behind `-`
abbrev pub form_behind_dashes : List ℕ → Form
form_behind_dashes [] = Dashes
form_behind_dashes (b ∷ bs) = Named (before_first (λ b. b == 61) (b ∷ bs)) (value_in (b ∷ bs))

abbrev pub form_behind_dash : List ℕ → Form
form_behind_dash [] = Plain
form_behind_dash (b ∷ bs) = if b == 45 then form_behind_dashes bs else Unknown

abbrev pub form_of : List ℕ → Form
form_of [] = Plain
form_of (b ∷ bs) = if b == 45 then form_behind_dash bs else Plain

-- what the next word is: an option or an operand, the value of the option of this name, or an operand whatever its form is
pub data NextWord : Type 0 where
  Word : NextWord
  Value : (name : List ℕ) → NextWord
  Operand : NextWord

-- what the words give so far: operands and options by their names, each with its text
pub record WordsSoFar : Type 0 where
  pub due : NextWord
  pub given : List (List ℕ × List ℕ)

-- the words before any word was read
abbrev pub start : WordsSoFar
start = record { due = Word; given = [] }

abbrev pub is_given : (name : List ℕ) → List (List ℕ × List ℕ) → Bool
is_given name given = list_any (λ g. bytes_eq g.0 name) given

-- the text that is given by this name
abbrev pub text_of : List (List ℕ × List ℕ) → (name : List ℕ) → Option (List ℕ)
text_of given name = option_map (λ g. g.1) (find (λ g. bytes_eq g.0 name) given)

-- A text is given by this name; once at most.
abbrev pub with_text : WordsSoFar → (name text : List ℕ) → Option WordsSoFar
with_text found name text = if is_given name found.given then None else Some (record found { given = found.given ++ (name, text) ∷ [] })

-- there are two operands at most
abbrev pub with_operand : WordsSoFar → List ℕ → Option WordsSoFar
with_operand found word = if is_given (codes "operand") found.given then with_text found (codes "second") word else with_text found (codes "operand") word

-- an option alone, or with its value: `--fuel`, `--fuel=7`
abbrev pub with_option : WordsSoFar → (name : List ℕ) → Option (List ℕ) → Option WordsSoFar
with_option found name None = if is_among valued name then Some (record found { due = Value name }) else (if is_among alone name then with_text found name (codes "true") else None)
with_option found name (Some value) = if is_among valued name then with_text found name value else None

-- a word where options may stand
abbrev pub any_word : WordsSoFar → Form → List ℕ → Option WordsSoFar
any_word found Dashes word = Some (record found { due = Operand })
any_word found (Named name value) word = with_option found name value
any_word found Plain word = with_operand found word
any_word found Unknown word = None

-- the value of an option, in a word of its own
abbrev pub value_word : WordsSoFar → (name : List ℕ) → Form → List ℕ → Option WordsSoFar
value_word found name Plain word = with_text (record found { due = Word }) name word
value_word found name _ word = None

abbrev pub by_due : NextWord → WordsSoFar → List ℕ → Option WordsSoFar
by_due Word found word = any_word found (form_of word) word
by_due (Value name) found word = value_word found name (form_of word) word
by_due Operand found word = with_operand found word

-- what the words up to this one give; None where it may not stand here
abbrev pub step : WordsSoFar → List ℕ → Option WordsSoFar
step found word = by_due found.due found word

-- what all words give
abbrev pub steps : WordsSoFar → List (List ℕ) → Option WordsSoFar
steps found [] = Some found
steps found (word ∷ words) = option_and_then (λ next. steps next words) (step found word)
