-- Inner: the headline does not rest on this file.
-- What is to be read: declarers.
use Rattle.std.specs.Prelude.{List, [], ◌∷◌, if◌then◌else◌}
use Rattle.a68_tree.specs.declared.kind.NodeKind.TheVariants as k
use Rattle.a68_symbols.specs.declared.sym.Bracket.TheVariants as b
use Rattle.a68_symbols.specs.declared.sym.Token.TheVariants as t
use Rattle.a68_symbols.specs.declared.sym.Sym.{Sym}
use Rattle.a68_symbols.specs.declared.sym.Sym.TheVariants.{Opens, Is}
use Rattle.a68_lookahead.specs.Symbols.{starts, ends_bound}
use Rattle.a68_unit_productions.specs.declared.goal.Goal.{Goal}
use Rattle.a68_unit_productions.specs.declared.goal.Goal.TheVariants as g

-- a declarer, as a node
abbrev pub declarer_node : List Goal
declarer_node = g.Begin ∷ g.Declarer ∷ g.Close k.Declarer ∷ []

-- a declarer
abbrev pub declarer : List Sym → List Goal
declarer text =
    if starts (Is t.ModeWord) text then g.Take t.ModeWord ∷ [] else (
    if starts (Is t.Ref) text then g.Take t.Ref ∷ g.DeclarerNode ∷ [] else (
    if starts (Opens b.Square) text then g.Opens b.Square ∷ g.Bounds ∷ g.Closes b.Square ∷ g.DeclarerNode ∷ [] else (
    if starts (Is t.Flex) text then g.Take t.Flex ∷ g.Opens b.Square ∷ g.Bounds ∷ g.Closes b.Square ∷ g.DeclarerNode ∷ [] else (
    if starts (Is t.Struct) text then g.Take t.Struct ∷ g.Opens b.Round ∷ g.Fields ∷ g.Closes b.Round ∷ [] else (
    if starts (Is t.Union) text then g.Take t.Union ∷ g.Opens b.Round ∷ g.DeclarerNode ∷ g.Take t.Comma ∷ g.Declarers ∷ g.Closes b.Round ∷ [] else (
    if starts (Is t.Proc) text then g.Take t.Proc ∷ g.ProcedurePlan ∷ [] else (
    if starts (Is t.Long) text then g.Take t.Long ∷ g.Take t.Int ∷ [] else
    g.Plain ∷ [])))))))

-- ['(' declarers ')'] (declarer | VOID)
abbrev pub procedure_plan : List Sym → List Goal
procedure_plan text =
    if starts (Opens b.Round) text then g.Opens b.Round ∷ g.Declarers ∷ g.Closes b.Round ∷ g.Yields ∷ [] else
    g.Yields ∷ []

-- declarer | VOID
abbrev pub yields : List Sym → List Goal
yields text =
    if starts (Is t.Void) text then g.Begin ∷ g.Take t.Void ∷ g.Close k.VoidWord ∷ [] else
    g.DeclarerNode ∷ []

-- declarer {',' declarer}
abbrev pub declarers : List Goal
declarers = g.DeclarerNode ∷ g.DeclarersTail ∷ []

-- {',' declarer}
abbrev pub declarers_tail : List Sym → List Goal
declarers_tail text =
    if starts (Is t.Comma) text then g.Take t.Comma ∷ g.Declarers ∷ [] else
    []

-- bound {',' bound}
abbrev pub bounds : List Goal
bounds = g.Begin ∷ g.Bound ∷ g.Close k.Bound ∷ g.BoundsTail ∷ []

-- {',' bound}
abbrev pub bounds_tail : List Sym → List Goal
bounds_tail text =
    if starts (Is t.Comma) text then g.Take t.Comma ∷ g.Bounds ∷ [] else
    []

-- [':' | unit | unit ':' unit]
abbrev pub bound : List Sym → List Goal
bound text =
    if starts (Is t.Colon) text then g.Take t.Colon ∷ [] else (
    if ends_bound text then [] else
    g.Begin ∷ g.Unit ∷ g.BoundTail ∷ [])

-- behind the first unit
abbrev pub bound_tail : List Sym → List Goal
bound_tail text =
    if starts (Is t.Colon) text then g.Close k.Lower ∷ g.Take t.Colon ∷ g.Begin ∷ g.Unit ∷ g.Close k.Upper ∷ [] else
    g.Close k.Upper ∷ []

-- declarer tag {',' tag} {',' declarer tag {',' tag}}
abbrev pub fields : List Goal
fields = g.DeclarerNode ∷ g.FieldTags ∷ []

-- tag {',' tag} {',' declarer tag {',' tag}}
abbrev pub field_tags : List Goal
field_tags = g.Begin ∷ g.Take t.Tag ∷ g.Close k.Field ∷ g.FieldTail ∷ []

-- {',' tag} {',' declarer tag {',' tag}}
abbrev pub field_tail : List Sym → List Goal
field_tail text =
    if starts (Is t.Comma) text then g.Take t.Comma ∷ g.FieldMore ∷ [] else
    []

-- behind the comma
abbrev pub field_more : List Sym → List Goal
field_more text =
    if starts (Is t.Tag) text then g.FieldTags ∷ [] else
    g.Fields ∷ []
