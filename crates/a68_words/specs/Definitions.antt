-- The places of a text at which words are defined (4.2, 4.3, 4.5; that places alone decide is own).
use Rattle.std.specs.Prelude.{◌≡◌, ◌≢◌, ℕ, ◌+◌, ◌<◌, true, List, Some, None}
use Rattle.a68_words.specs.declared.class.Class.{Class}
use Rattle.a68_words.specs.declared.class.Class.TheVariants.{ModeWord, OperatorWord}
use Rattle.a68_words.specs.declared.role.Role.{Role}
use Rattle.a68_words.specs.declared.role.Role.TheVariants.{Round, Comma, Mode, Prio, Op, Equals}
use Rattle.a68_words.specs.Roles.{is_definable, definer}
use Rattle.a68_words.specs.Levels.{role_at, level_of}

-- a word that is not reserved stands there
abbrev pub IsDefinable : List Role → ℕ → Type 0
IsDefinable roles i = is_definable (role_at roles i) ≡ true

-- two symbols of one level
abbrev pub SameLevel : List Role → ℕ → ℕ → Type 0
SameLevel roles k i = level_of roles k ≡ level_of roles i

-- What the word that is symbol i is defined as there.
pub data Defines (roles : List Role) (i : ℕ) : Class → Type 0 where
  -- a word directly behind MODE is defined as a mode
  behind_mode : (k : ℕ) → IsDefinable roles i → k + 1 ≡ i → role_at roles k ≡ Mode → Defines roles i ModeWord
  -- a word directly behind PRIO is defined as an operator
  behind_prio : (k : ℕ) → IsDefinable roles i → k + 1 ≡ i → role_at roles k ≡ Prio → Defines roles i OperatorWord
  -- a word directly behind OP is defined as an operator
  behind_op : (k : ℕ) → IsDefinable roles i → k + 1 ≡ i → role_at roles k ≡ Op → Defines roles i OperatorWord
  -- behind an OP that a ( follows directly, the word directly before the first = at the level of that OP is defined as an
  -- operator (a word is no bracket, so its level is that of the =)
  before_equals : (k : ℕ) → IsDefinable roles i → role_at roles (i + 1) ≡ Equals
      → k < i → role_at roles k ≡ Op → role_at roles (k + 1) ≡ Round → SameLevel roles k i
      → ((m : ℕ) → k < m → m < i → SameLevel roles m i → role_at roles m ≢ Equals) → Defines roles i OperatorWord
  -- a word directly behind a comma and directly before = is defined as what the last MODE, PRIO or OP before it at its
  -- level defines
  joined : (j k : ℕ) {class : Class} → IsDefinable roles i → j + 1 ≡ i → role_at roles j ≡ Comma → role_at roles (i + 1) ≡ Equals
      → k < i → definer (role_at roles k) ≡ Some class → SameLevel roles k i
      → ((m : ℕ) → k < m → m < i → SameLevel roles m i → definer (role_at roles m) ≡ None) → Defines roles i class
