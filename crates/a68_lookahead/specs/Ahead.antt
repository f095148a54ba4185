-- Inner: the headline does not rest on this file.
-- What tells apart what may begin with the same symbols, however far ahead it stands (own).
use Rattle.std.specs.Prelude.{ℕ, zero, suc, Bool, true, false, List, [], ◌∷◌, ◌||◌}
use Rattle.a68_symbols.specs.declared.sym.Bracket.{Bracket}
use Rattle.a68_symbols.specs.declared.sym.Bracket.TheVariants as b
use Rattle.a68_symbols.specs.declared.sym.Token.{Token}
use Rattle.a68_symbols.specs.declared.sym.Token.TheVariants as t
use Rattle.a68_symbols.specs.declared.sym.Sym.{Sym}
use Rattle.a68_symbols.specs.declared.sym.Sym.TheVariants.{Opens, Closes, Is}
use Rattle.a68_lookahead.specs.declared.look.Due.{Due}
use Rattle.a68_lookahead.specs.declared.look.Due.TheVariants as due
use Rattle.a68_lookahead.specs.declared.look.Landmark.{Landmark}
use Rattle.a68_lookahead.specs.declared.look.Landmark.TheVariants as m
use Rattle.a68_lookahead.specs.declared.look.Look.{Look}
use Rattle.a68_lookahead.specs.declared.look.Look.TheVariants.{Goes, Found, Missed}

-- a word of a declarer, outside the brackets
abbrev pub word : Token → Look
word t.Int = Goes 0 due.Ended
word t.Plain = Goes 0 due.Ended
word t.Long = Goes 0 due.Long
word t.ModeWord = Goes 0 due.Ended
word t.Ref = Goes 0 due.Declarer
word t.Flex = Goes 0 due.Declarer
word t.Struct = Goes 0 due.Fields
word t.Union = Goes 0 due.Fields
word t.Proc = Goes 0 due.Procedure
word t = Missed

abbrev pub word_or_void : Token → Look
word_or_void t.Void = Goes 0 due.Ended
word_or_void t = word t

-- the token behind LONG
abbrev pub behind_long : Token → Look
behind_long t.Int = Goes 0 due.Ended
behind_long t = Missed

-- the token behind a declarer
abbrev pub test : Landmark → Token → Look
test m.Colon t.Colon = Found
test m.Tag t.Tag = Found
test m.Parameters t.Tag = Goes 0 due.Named
test m.Spec t.Tag = Goes 0 due.Named
test m t = Missed

-- behind a tag in the brackets, if not their end: the comma before more parameters
abbrev pub named : Landmark → Token → Look
named m.Parameters t.Comma = Goes 0 due.More
named m t = Missed

-- behind that comma: one more tag, or a declarer
abbrev pub more : Token → Look
more t.Tag = Goes 0 due.Named
more t = word t

-- behind the brackets of a spec with a tag
abbrev pub colon : Token → Look
colon t.Colon = Found
colon t = Missed

-- a bracket that opens outside the brackets
abbrev pub bracket : Due → Bracket → Look
bracket due.Declarer b.Square = Goes 1 due.Declarer
bracket due.Result b.Square = Goes 1 due.Declarer
bracket due.Procedure b.Square = Goes 1 due.Declarer
bracket due.Procedure b.Round = Goes 1 due.Result
bracket due.Fields b.Round = Goes 1 due.Ended
bracket due.More b.Square = Goes 1 due.Declarer
bracket d b = Missed

-- The bracket that closes those in which looking began. A declarer alone in them is no more than a spec, whatever stands
-- behind it; a declarer and a tag are parameters where no colon does.
abbrev pub closing : Landmark → Due → Bracket → Look
closing m.Parameters due.Named b.Round = Found
closing m.Spec due.Ended b.Round = Found
closing m.Spec due.Named b.Round = Goes 0 due.Colon
closing m d b = Missed

-- a token outside the brackets
abbrev pub token : Landmark → Due → Token → Look
token sought due.Declarer t = word t
token sought due.Result t = word_or_void t
token sought due.Procedure t = word_or_void t
token sought due.Fields t = Missed
token sought due.Ended t = test sought t
token sought due.Named t = named sought t
token sought due.More t = more t
token sought due.Colon t = colon t
token sought due.Long t = behind_long t

-- what one more symbol says, within so many brackets
abbrev pub step : Landmark → ℕ → Due → Sym → Look
step sought zero d (Opens b) = bracket d b
step sought zero d (Closes b) = closing sought d b
step sought zero d (Is t) = token sought d t
step sought (suc n) d (Opens b) = Goes (suc (suc n)) d
step sought (suc n) d (Closes b) = Goes n d
step sought (suc n) d (Is t) = Goes (suc n) d

-- Within so many brackets: whether what is looked for stands at the front, of which this is due.
abbrev pub behind : Landmark → ℕ → Due → List Sym → Bool
behind sought n d [] = false
behind sought n d (s ∷ text) = elim (step sought n d s) [ Goes m e ↦ behind sought m e text | Found ↦ true | Missed ↦ false ]

-- whether that stands behind an opening bracket at the front
abbrev pub inside : Landmark → List Sym → Bool
inside sought (Opens b.Round ∷ text) = behind sought 0 due.Declarer text
inside sought text = false

-- a routine text: parameters in brackets; or a declarer or VOID, and a colon
abbrev pub routine_ahead : List Sym → Bool
routine_ahead text = inside m.Parameters text || behind m.Colon 0 due.Result text

-- the spec of a choice: a declarer in brackets; or a declarer and a tag, and a colon behind the brackets
abbrev pub spec_ahead : List Sym → Bool
spec_ahead text = inside m.Spec text

-- behind PROC, the tag of a definition
abbrev pub tag_first : List Sym → Bool
tag_first (Is t.Tag ∷ text) = true
tag_first text = false

-- A declaration: it begins with MODE, PRIO or OP, with PROC and a tag, or with a declarer, perhaps behind LOC or HEAP, and a tag.
abbrev pub phrase_ahead : List Sym → Bool
phrase_ahead (Is t.Mode ∷ text) = true
phrase_ahead (Is t.Prio ∷ text) = true
phrase_ahead (Is t.Op ∷ text) = true
phrase_ahead (Is t.Proc ∷ Is t.Tag ∷ text) = true
phrase_ahead (Is t.Loc ∷ text) = behind m.Tag 0 due.Declarer text
phrase_ahead (Is t.Heap ∷ text) = behind m.Tag 0 due.Declarer text
phrase_ahead text = behind m.Tag 0 due.Declarer text
