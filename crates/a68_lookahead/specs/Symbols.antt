-- Inner: the headline does not rest on this file.
-- The first symbols of a text.
use Rattle.std.specs.Prelude.{◌≡◌, Bool, true, false, ◌||◌, ◌&&◌, List, [], ◌∷◌}
use Rattle.a68_symbols.specs.declared.sym.Bracket.TheVariants as b
use Rattle.a68_symbols.specs.declared.sym.Token.{Token}
use Rattle.a68_symbols.specs.declared.sym.Token.TheVariants as t
use Rattle.a68_symbols.specs.declared.sym.Sym.{Sym}
use Rattle.a68_symbols.specs.declared.sym.Sym.TheVariants.{Opens, Closes, Is}
use Rattle.a68_symbols.specs.contracts.sym.SymPartialEq.TheImpl as sym_eq

-- whether two symbols are the same
abbrev pub same : Sym → Sym → Bool
same = sym_eq.eq-value.it

-- whether a text begins with that symbol
abbrev pub starts : Sym → List Sym → Bool
starts wanted [] = false
starts wanted (s ∷ text) = same s wanted

-- whether a text begins with these two symbols
abbrev pub starts_pair : Sym → Sym → List Sym → Bool
starts_pair wanted second [] = false
starts_pair wanted second (s ∷ text) = same s wanted && starts second text

-- a label: a tag and a colon
abbrev pub label_ahead : List Sym → Bool
label_ahead text = starts_pair (Is t.Tag) (Is t.Colon) text

abbrev pub starts_is : Token → List Sym → Bool
starts_is wanted text = starts (Is wanted) text

-- an operator that may stand before an operand alone
abbrev pub is_monadic : List Sym → Bool
is_monadic text = starts_is t.Plus text || (starts_is t.Minus text || starts_is t.Monad text)

abbrev pub is_comparison : List Sym → Bool
is_comparison text = starts_is t.Equals text || (starts_is t.Differs text || (starts_is t.Less text || (starts_is t.AtMost text || (starts_is t.Greater text || starts_is t.AtLeast text))))

abbrev pub is_operator : List Sym → Bool
is_operator text = is_monadic text || (is_comparison text || (starts_is t.Times text || starts_is t.Nomad text))

abbrev pub is_denotation : List Sym → Bool
is_denotation text = starts_is t.Digit text || (starts_is t.Number text || (starts_is t.BitsNumber text || (starts_is t.Quoted text || (starts_is t.True text || starts_is t.False text))))

-- the word of a mode
abbrev pub is_plain : List Sym → Bool
is_plain text = starts_is t.Int text || starts_is t.Plain text

-- a symbol with which declarers begin
abbrev pub is_declarer : List Sym → Bool
is_declarer text =
    is_plain text || (starts_is t.Long text || (starts_is t.ModeWord text || (starts_is t.Ref text || (starts_is t.Flex text || (starts_is t.Struct text || (starts_is t.Union text || (starts_is t.Proc text || starts (Opens b.Square) text)))))))

-- a symbol that stands behind a place in square brackets
abbrev pub ends_bound : List Sym → Bool
ends_bound text = starts_is t.Comma text || starts (Closes b.Square) text

abbrev pub ends_trimmer : List Sym → Bool
ends_trimmer text = starts_is t.At text || ends_bound text

-- the text begins with a symbol of that set
pub record Begins (set : Sym → Bool) (text : List Sym) : Type 0 where
  pub first : Sym
  pub rest : List Sym
  pub is : text ≡ first ∷ rest
  pub within : set first ≡ true

-- the text has no symbol, or begins with one of that set
pub data Follows (set : Sym → Bool) : List Sym → Type 0 where
  at_end : Follows set []
  next : {s : Sym} {text : List Sym} → set s ≡ true → Follows set (s ∷ text)
