-- Inner: the headline does not rest on this file.
-- What is to be read: secondaries, primaries and what stands in the brackets of a slice.
use Rattle.std.specs.Prelude.{List, [], ◌∷◌, if◌then◌else◌}
use Rattle.a68_tree.specs.declared.kind.NodeKind.TheVariants as k
use Rattle.a68_symbols.specs.declared.sym.Bracket.TheVariants as b
use Rattle.a68_symbols.specs.declared.sym.Token.TheVariants as t
use Rattle.a68_symbols.specs.declared.sym.Sym.{Sym}
use Rattle.a68_symbols.specs.declared.sym.Sym.TheVariants.{Opens, Is}
use Rattle.a68_lookahead.specs.Symbols.{starts, starts_pair, is_denotation, is_declarer, ends_trimmer}
use Rattle.a68_unit_productions.specs.declared.goal.Goal.{Goal}
use Rattle.a68_unit_productions.specs.declared.goal.Goal.TheVariants as g

-- a selection, a generator or a primary
abbrev pub secondary : List Sym → List Goal
secondary text =
    if starts_pair (Is t.Tag) (Is t.Of) text then g.Take t.Tag ∷ g.Take t.Of ∷ g.Begin ∷ g.Secondary ∷ g.Leave ∷ g.Wrap k.Selection ∷ [] else (
    if starts (Is t.Loc) text then g.Take t.Loc ∷ g.DeclarerNode ∷ g.Wrap k.Generator ∷ [] else (
    if starts (Is t.Heap) text then g.Take t.Heap ∷ g.DeclarerNode ∷ g.Wrap k.Generator ∷ [] else
    g.Base ∷ g.PrimaryTail ∷ []))

-- a primary that is neither a slice nor a call
abbrev pub base : List Sym → List Goal
base text =
    if starts (Is t.Tag) text then g.Take t.Tag ∷ g.Wrap k.Tag ∷ [] else (
    if is_denotation text then g.Denotation ∷ g.Wrap k.Denotation ∷ [] else (
    if starts_pair (Is t.Long) (Is t.Digit) text then g.Take t.Long ∷ g.Take t.Digit ∷ g.WrapLong ∷ [] else (
    if starts_pair (Is t.Long) (Is t.Number) text then g.Take t.Long ∷ g.Take t.Number ∷ g.WrapLong ∷ [] else (
    if starts (Is t.Void) text then g.Begin ∷ g.Take t.Void ∷ g.Close k.VoidWord ∷ g.Begin ∷ g.Enclosed ∷ g.Leave ∷ g.Wrap k.Cast ∷ [] else (
    if is_declarer text then g.DeclarerNode ∷ g.Begin ∷ g.Enclosed ∷ g.Leave ∷ g.Wrap k.Cast ∷ [] else
    g.Enclosed ∷ [])))))

-- {'[' indexes ']' | '(' units ')'}
abbrev pub primary_tail : List Sym → List Goal
primary_tail text =
    if starts (Opens b.Square) text then g.Opens b.Square ∷ g.Indexes ∷ g.Closes b.Square ∷ g.Wrap k.Slice ∷ g.PrimaryTail ∷ [] else (
    if starts (Opens b.Round) text then g.Opens b.Round ∷ g.Units ∷ g.Closes b.Round ∷ g.Wrap k.Call ∷ g.PrimaryTail ∷ [] else
    [])

-- index {',' index}
abbrev pub indexes : List Goal
indexes = g.Begin ∷ g.Index ∷ g.Close k.Index ∷ g.IndexesTail ∷ []

-- {',' index}
abbrev pub indexes_tail : List Sym → List Goal
indexes_tail text =
    if starts (Is t.Comma) text then g.Take t.Comma ∷ g.Indexes ∷ [] else
    []

-- unit | [unit] ':' [unit] [AT unit] | [AT unit]
abbrev pub index : List Sym → List Goal
index text =
    if starts (Is t.Colon) text then g.Take t.Colon ∷ g.Trimmer ∷ [] else (
    if ends_trimmer text then g.AtPart ∷ [] else
    g.Begin ∷ g.Unit ∷ g.IndexTail ∷ [])

-- behind the first unit
abbrev pub index_tail : List Sym → List Goal
index_tail text =
    if starts (Is t.Colon) text then g.Close k.Lower ∷ g.Take t.Colon ∷ g.Trimmer ∷ [] else
    g.Leave ∷ []

-- [unit] [AT unit]
abbrev pub trimmer : List Sym → List Goal
trimmer text =
    if ends_trimmer text then g.AtPart ∷ [] else
    g.Begin ∷ g.Unit ∷ g.Close k.Upper ∷ g.AtPart ∷ []

-- [AT unit]
abbrev pub at_part : List Sym → List Goal
at_part text =
    if starts (Is t.At) text then g.Take t.At ∷ g.Begin ∷ g.Unit ∷ g.Close k.At ∷ [] else
    []
