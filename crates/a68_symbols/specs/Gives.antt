-- What a stretch gives: nothing, a symbol, or a rule that it breaks.
use Rattle.std.specs.Prelude.{ℕ, Bool, List, if◌then◌else◌}
use Rattle.std.specs.Option.{is_some}
use Rattle.a68_base.specs.declared.refusal.Rule.TheVariants.{S1, S3, S5}
use Rattle.a68_denote.specs.Numbers.{int_in, long_in, bits_in}
use Rattle.a68_symbols.specs.declared.form.StretchForm.{StretchForm}
use Rattle.a68_symbols.specs.declared.form.StretchForm.TheVariants as forms
use Rattle.a68_symbols.specs.declared.form.Given.{Given}
use Rattle.a68_symbols.specs.declared.form.Given.TheVariants.{Nothing, Symbol, Broken}
use Rattle.a68_symbols.specs.declared.symbol.SymbolKind.TheVariants.{Word, Tag, Number, BitsNumber, Quoted, Mark}
use Rattle.a68_symbols.specs.Bytes.{without_layout}
use Rattle.a68_symbols.specs.Words.{is_opener, is_left_out}

-- an opener that is a word by itself has no other behind it
abbrev pub word_gives : List ℕ → Given
word_gives s = if is_opener s then Broken S1 else (if is_left_out s then Broken S3 else Symbol Word)

-- a number's value is one of INT, or of LONG INT where the symbol before it is LONG
abbrev pub is_number : Bool → List ℕ → Bool
is_number long s = if long then is_some (long_in s) else is_some (int_in s)

-- a stretch of digits and small letters without its layout
abbrev pub number_gives : Bool → List ℕ → Given
number_gives long s = if is_number long s then Symbol Number else (if is_some (bits_in s) then Symbol BitsNumber else Broken S5)

-- what a stretch gives; `long` where the symbol before it is LONG
abbrev pub gives : Bool → StretchForm → List ℕ → Given
gives long forms.Layout s = Nothing
gives long forms.SharpComment s = Nothing
gives long forms.WordComment s = Nothing
gives long forms.OpenComment s = Broken S1
gives long forms.OpenString s = Broken S1
gives long forms.Word s = word_gives s
gives long forms.Tag s = Symbol Tag
gives long forms.Number s = number_gives long (without_layout s)
gives long forms.Quoted s = Symbol Quoted
gives long forms.Mark s = Symbol Mark
