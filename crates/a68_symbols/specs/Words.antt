-- Words that give no symbol, and the word LONG.
use Rattle.std.specs.Prelude.{ℕ, Bool, false, List, [], ◌∷◌, codes, map}
use Rattle.std.specs.Str.{bytes_eq}
use Rattle.a68_base.specs.Tables.{is_listed}
use Rattle.a68_symbols.specs.declared.judge.TheConstants.{LEFT_OUT}
use Rattle.a68_symbols.specs.declared.symbol.SymbolKind.{SymbolKind}
use Rattle.a68_symbols.specs.declared.symbol.SymbolKind.TheVariants.{Word, Tag, Number, BitsNumber, Quoted, Mark}

-- the words that begin and end comments and pragmats
abbrev pub openers : List (List ℕ)
openers = codes "CO" ∷ codes "COMMENT" ∷ codes "PR" ∷ codes "PRAGMAT" ∷ []

abbrev pub is_opener : List ℕ → Bool
is_opener word = is_listed openers word

-- the words of the parts of the language that are left out
abbrev pub left_out : List (List ℕ)
left_out = map (λ word. word.now) LEFT_OUT

abbrev pub is_left_out : List ℕ → Bool
is_left_out word = is_listed left_out word

-- a symbol of that kind and stretch is the word LONG
abbrev pub is_long : SymbolKind → List ℕ → Bool
is_long Word s = bytes_eq s (codes "LONG")
is_long Tag s = false
is_long Number s = false
is_long BitsNumber s = false
is_long Quoted s = false
is_long Mark s = false
