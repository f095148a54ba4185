-- What the symbols of a text do to levels and to the classes of words, by the symbols of the grammar that they are (own).
use Rattle.std.specs.Prelude.{ℕ, List, [], map, slice_get, Option, Some, None, if◌then◌else◌}
use Rattle.a68_signs.specs.Signs.{is_sign}
use Rattle.a68_symbols.specs.declared.sym.Bracket.TheVariants as b
use Rattle.a68_symbols.specs.declared.sym.Sym.{Sym}
use Rattle.a68_symbols.specs.declared.sym.Sym.TheVariants.{Opens, Closes, Is}
use Rattle.a68_symbols.specs.declared.sym.Token.{Token}
use Rattle.a68_symbols.specs.declared.sym.Token.TheVariants as t
use Rattle.a68_symbols.specs.declared.symbol.Symbol.{Symbol}
use Rattle.a68_symbols.specs.Names.{Named}
use Rattle.a68_symbols.specs.Spellings.{sym_in, bytes_of}
use Rattle.a68_words.specs.declared.role.Role.{Role}
use Rattle.a68_words.specs.declared.role.Role.TheVariants.{Round, Open, Do, Close, Comma, Separator, Mode, Prio, Op, Equals, Standard, Bold, Other}

-- a word that is not reserved: the operators of the standard environ that are words are those of the table of signs
abbrev pub word_role : List ℕ → Role
word_role s = if is_sign s then Standard else Bold

-- the symbols behind which a stretch begins, and those that define words
abbrev pub token_role : Token → Role
token_role t.Comma = Comma
token_role t.Semicolon = Separator
token_role t.Bar = Separator
token_role t.BarColon = Separator
token_role t.Then = Separator
token_role t.Elif = Separator
token_role t.Else = Separator
token_role t.In = Separator
token_role t.Ouse = Separator
token_role t.Out = Separator
token_role t.Exit = Separator
token_role t.From = Separator
token_role t.By = Separator
token_role t.To = Separator
token_role t.While = Separator
token_role t.Mode = Mode
token_role t.Prio = Prio
token_role t.Op = Op
token_role t.Equals = Equals
token_role _ = Other

-- a symbol of the grammar, and its spelling
abbrev pub role_of : Sym → List ℕ → Role
role_of (Opens b.Round) s = Round
role_of (Opens b.Do) s = Do
role_of (Opens _) s = Open
role_of (Closes _) s = Close
role_of (Is t.Word) s = word_role s
role_of (Is token) s = token_role token

-- a symbol of a text
abbrev pub role_in : Named → Symbol → Role
role_in found s = role_of (sym_in found s) (bytes_of (slice_get found.spellings s.name))

-- the roles of the symbols of a text
abbrev pub roles_of : Named → List Role
roles_of found = map (role_in found) found.symbols

-- the names of the symbols of a text
abbrev pub names_of : Named → List ℕ
names_of found = map (λ (s : Symbol). s.name) found.symbols
