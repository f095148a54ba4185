-- The symbol of the grammar that a symbol of a text is (9.4; what is told apart is own). Until words have classes, each word
-- that is not reserved is one that no rule takes.
use Rattle.std.specs.Prelude.{ℕ, Bool, false, List, [], ◌∷◌, Option, Some, None, map, slice_get, nat_le, ◌&&◌, if◌then◌else◌}
use Rattle.a68_base.specs.Tables.{find}
use Rattle.a68_symbols.specs.declared.symbol.Symbol.{Symbol}
use Rattle.a68_symbols.specs.declared.symbol.SymbolKind.{SymbolKind}
use Rattle.a68_symbols.specs.declared.symbol.SymbolKind.TheVariants.{Word, Tag, Number, BitsNumber, Quoted, Mark}
use Rattle.a68_symbols.specs.Marks.{is_monad}
use Rattle.a68_symbols.specs.Names.{Named, Spelled}
use Rattle.a68_symbols.specs.declared.symbol.Spelling.{Spelling}
use Rattle.a68_symbols.specs.declared.spelling.TheConstants.{SYMBOLS}
use Rattle.a68_symbols.specs.declared.sym.Token.TheVariants as t
use Rattle.a68_symbols.specs.declared.sym.Sym.{Sym}
use Rattle.a68_symbols.specs.declared.sym.Sym.TheVariants.{Is}

-- the symbols that the grammar tells apart by their spellings
abbrev pub symbols : List (List ℕ × Sym)
symbols = map (λ row. (row.0.now, row.1)) SYMBOLS

-- what is there, or else the other
abbrev pub or_else : Option Sym → Sym → Sym
or_else (Some s) other = s
or_else None other = other

abbrev pub word_sym : List ℕ → Sym
word_sym s = or_else (find symbols s) (Is t.Word)

-- any other operator: by the mark that it begins with it may stand before an operand alone, or not
abbrev pub begins_monad : List ℕ → Bool
begins_monad [] = false
begins_monad (a ∷ more) = is_monad a

abbrev pub other_sign : List ℕ → Sym
other_sign s = if begins_monad s then Is t.Monad else Is t.Nomad

abbrev pub mark_sym : List ℕ → Sym
mark_sym s = or_else (find symbols s) (other_sign s)

-- one digit from 1 to 9
abbrev pub is_digit : List ℕ → Bool
is_digit [] = false
is_digit (a ∷ []) = nat_le 49 a && nat_le a 57
is_digit (a ∷ b ∷ more) = false

abbrev pub number_sym : List ℕ → Sym
number_sym s = if is_digit s then Is t.Digit else Is t.Number

-- a symbol by its kind and its spelling
abbrev pub sym_of : SymbolKind → List ℕ → Sym
sym_of Word s = word_sym s
sym_of Tag s = Is t.Tag
sym_of Number s = number_sym s
sym_of BitsNumber s = Is t.BitsNumber
sym_of Quoted s = Is t.Quoted
sym_of Mark s = mark_sym s

-- a spelling as the code has it
abbrev pub sym_spelled : Spelling → Sym
sym_spelled s = sym_of s.kind s.bytes.items

abbrev pub bytes_of : Option Spelled → List ℕ
bytes_of (Some s) = s.bytes
bytes_of None = []

-- the symbols of a text as the grammar tells them apart
abbrev pub sym_in : Named → Symbol → Sym
sym_in found s = sym_of s.kind (bytes_of (slice_get found.spellings s.name))

abbrev pub syms_of : Named → List Sym
syms_of found = map (sym_in found) found.symbols
