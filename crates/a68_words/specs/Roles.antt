-- What the symbols do to levels and to the classes of words (own).
use Rattle.std.specs.Prelude.{Bool, true, false, Option, Some, None}
use Rattle.a68_words.specs.declared.class.Class.{Class}
use Rattle.a68_words.specs.declared.class.Class.TheVariants.{ModeWord, OperatorWord}
use Rattle.a68_words.specs.declared.role.Role.{Role}
use Rattle.a68_words.specs.declared.role.Role.TheVariants.{Round, Open, Do, Close, Comma, Separator, Mode, Prio, Op, Standard, Bold}

-- ( [ BEGIN IF CASE DO
abbrev pub opens : Role → Bool
opens Round = true
opens Open = true
opens Do = true
opens _ = false

-- ) ] END FI ESAC OD
abbrev pub closes : Role → Bool
closes Close = true
closes _ = false

-- ; , | |: THEN ELIF ELSE IN OUSE OUT FROM BY TO WHILE DO
abbrev pub separates : Role → Bool
separates Do = true
separates Comma = true
separates Separator = true
separates _ = false

-- a word that is not reserved
abbrev pub is_definable : Role → Bool
is_definable Standard = true
is_definable Bold = true
is_definable _ = false

-- MODE defines words as modes, PRIO and OP as operators
abbrev pub definer : Role → Option Class
definer Mode = Some ModeWord
definer Prio = Some OperatorWord
definer Op = Some OperatorWord
definer _ = None
