-- Inner: the headline does not rest on this file.
-- With which symbols the forms of the grammar begin, and which ones may stand behind them.
use Rattle.std.specs.Prelude.{Bool, true, false, ◌||◌}
use Rattle.a68_symbols.specs.declared.sym.Bracket.TheVariants as b
use Rattle.a68_symbols.specs.declared.sym.Token.TheVariants as t
use Rattle.a68_symbols.specs.declared.sym.Sym.{Sym}
use Rattle.a68_symbols.specs.declared.sym.Sym.TheVariants.{Opens, Closes, Is}
use Rattle.a68_lookahead.specs.Symbols.{same}

-- ---- a loop, from the inside out

abbrev pub begins_while : Sym → Bool
begins_while s = same s (Is t.While) || same s (Opens b.Do)

abbrev pub begins_to : Sym → Bool
begins_to s = begins_while s || same s (Is t.To)

abbrev pub begins_by : Sym → Bool
begins_by s = begins_to s || same s (Is t.By)

abbrev pub begins_from : Sym → Bool
begins_from s = begins_by s || same s (Is t.From)

abbrev pub begins_loop : Sym → Bool
begins_loop s = begins_from s || same s (Is t.For)

-- ---- units, from the inside out

abbrev pub begins_enclosed : Sym → Bool
begins_enclosed s =
    begins_loop s || (same s (Opens b.Round) || (same s (Opens b.Begin) || (same s (Is t.Par) || (same s (Opens b.If) || same s (Opens b.Case)))))

abbrev pub begins_declarer : Sym → Bool
begins_declarer s =
    same s (Is t.Int) || (same s (Is t.Plain) || (same s (Is t.Long) || (same s (Is t.ModeWord) || (same s (Is t.Ref) || (same s (Opens b.Square) || (same s (Is t.Flex) || (same s (Is t.Struct) || (same s (Is t.Union) || same s (Is t.Proc)))))))))

abbrev pub begins_denotation : Sym → Bool
begins_denotation s =
    same s (Is t.Digit) || (same s (Is t.Number) || (same s (Is t.BitsNumber) || (same s (Is t.Quoted) || (same s (Is t.True) || same s (Is t.False)))))

-- a declarer or VOID
abbrev pub begins_result : Sym → Bool
begins_result s = begins_declarer s || same s (Is t.Void)

abbrev pub begins_base : Sym → Bool
begins_base s = begins_enclosed s || (begins_result s || (begins_denotation s || same s (Is t.Tag)))

abbrev pub begins_secondary : Sym → Bool
begins_secondary s = begins_base s || (same s (Is t.Loc) || same s (Is t.Heap))

abbrev pub is_monadic : Sym → Bool
is_monadic s = same s (Is t.Plus) || (same s (Is t.Minus) || same s (Is t.Monad))

abbrev pub is_operator : Sym → Bool
is_operator s =
    is_monadic s || (same s (Is t.Times) || (same s (Is t.Equals) || (same s (Is t.Differs) || (same s (Is t.Less) || (same s (Is t.AtMost) || (same s (Is t.Greater) || (same s (Is t.AtLeast) || same s (Is t.Nomad))))))))

abbrev pub begins_tertiary : Sym → Bool
begins_tertiary s = begins_secondary s || (same s (Is t.Nil) || is_monadic s)

abbrev pub begins_unit : Sym → Bool
begins_unit s = begins_tertiary s || (same s (Is t.Skip) || (same s (Is t.Go) || same s (Is t.Goto)))

-- ---- what may stand behind, from the outside in

abbrev pub closes : Sym → Bool
closes (Closes b) = true
closes s = false

-- behind a serial clause, or behind a list that commas join
abbrev pub ends_clause : Sym → Bool
ends_clause s =
    closes s || (same s (Is t.Bar) || (same s (Is t.BarColon) || (same s (Is t.Then) || (same s (Is t.Elif) || (same s (Is t.Else) || (same s (Is t.In) || (same s (Is t.Ouse) || (same s (Is t.Out) || same s (Opens b.Do)))))))))

-- behind a declaration
abbrev pub ends_declaration : Sym → Bool
ends_declaration s = same s (Is t.Semicolon)

-- behind a definition
abbrev pub ends_definition : Sym → Bool
ends_definition s = ends_declaration s || same s (Is t.Comma)

abbrev pub ends_unit : Sym → Bool
ends_unit s =
    ends_clause s || (ends_definition s || (same s (Is t.Exit) || (same s (Is t.Colon) || (same s (Is t.At) || (same s (Is t.By) || (same s (Is t.To) || same s (Is t.While)))))))

abbrev pub ends_tertiary : Sym → Bool
ends_tertiary s = ends_unit s || (same s (Is t.Becomes) || (same s (Is t.Is) || same s (Is t.Isnt)))

abbrev pub ends_secondary : Sym → Bool
ends_secondary s = ends_tertiary s || is_operator s

-- behind a primary that is neither a slice nor a call
abbrev pub ends_base : Sym → Bool
ends_base s = ends_secondary s || (same s (Opens b.Square) || same s (Opens b.Round))
