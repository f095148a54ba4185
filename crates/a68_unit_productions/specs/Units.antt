-- Inner: the headline does not rest on this file.
-- What is to be read: serial clauses, units and formulas.
use Rattle.std.specs.Prelude.{List, [], ◌∷◌, if◌then◌else◌}
use Rattle.a68_tree.specs.declared.kind.NodeKind.TheVariants as k
use Rattle.a68_symbols.specs.declared.sym.Bracket.TheVariants as b
use Rattle.a68_symbols.specs.declared.sym.Token.TheVariants as t
use Rattle.a68_symbols.specs.declared.sym.Sym.{Sym}
use Rattle.a68_symbols.specs.declared.sym.Sym.TheVariants.{Opens, Is}
use Rattle.a68_lookahead.specs.Ahead.{routine_ahead, phrase_ahead}
use Rattle.a68_lookahead.specs.Symbols.{starts, is_monadic, is_operator, label_ahead}
use Rattle.a68_unit_productions.specs.declared.goal.Goal.{Goal}
use Rattle.a68_unit_productions.specs.declared.goal.Goal.TheVariants as g

-- a serial clause, as a node
abbrev pub serial_node : List Goal
serial_node = g.Begin ∷ g.Serial ∷ g.Close k.Serial ∷ []

-- {phrase ';'} unit | {phrase ';'} labelled | {phrase ';'} unit EXIT labelled
abbrev pub serial : List Sym → List Goal
serial text =
    if label_ahead text then g.Labelled ∷ [] else (
    if phrase_ahead text then g.Declaration ∷ g.Take t.Semicolon ∷ g.Serial ∷ [] else
    g.Unit ∷ g.SerialTail ∷ [])

-- [';' serial | EXIT labelled]
abbrev pub serial_tail : List Sym → List Goal
serial_tail text =
    if starts (Is t.Semicolon) text then g.Take t.Semicolon ∷ g.Serial ∷ [] else (
    if starts (Is t.Exit) text then g.Begin ∷ g.Take t.Exit ∷ g.Close k.Exit ∷ g.Labelled ∷ [] else
    [])

-- label steps
abbrev pub labelled : List Goal
labelled = g.Begin ∷ g.Take t.Tag ∷ g.Take t.Colon ∷ g.Close k.Label ∷ g.Steps ∷ []

-- {label} unit {(';' {label} unit) | (EXIT label {label} unit)}
abbrev pub steps : List Sym → List Goal
steps text =
    if label_ahead text then g.Labelled ∷ [] else
    g.Unit ∷ g.StepsTail ∷ []

-- [';' steps | EXIT labelled]
abbrev pub steps_tail : List Sym → List Goal
steps_tail text =
    if starts (Is t.Semicolon) text then g.Take t.Semicolon ∷ g.Steps ∷ [] else (
    if starts (Is t.Exit) text then g.Begin ∷ g.Take t.Exit ∷ g.Close k.Exit ∷ g.Labelled ∷ [] else
    [])

-- the serial clause of an enquiry, as a node
abbrev pub enquiry_node : List Goal
enquiry_node = g.Begin ∷ g.Enquiry ∷ g.Close k.Serial ∷ []

-- {phrase ';'} unit
abbrev pub enquiry : List Sym → List Goal
enquiry text =
    if phrase_ahead text then g.Declaration ∷ g.Take t.Semicolon ∷ g.Enquiry ∷ [] else
    g.Unit ∷ g.EnquiryTail ∷ []

-- [';' enquiry]
abbrev pub enquiry_tail : List Sym → List Goal
enquiry_tail text =
    if starts (Is t.Semicolon) text then g.Take t.Semicolon ∷ g.Enquiry ∷ [] else
    []

-- unit {',' unit}
abbrev pub units : List Goal
units = g.Unit ∷ g.UnitsTail ∷ []

-- {',' unit}
abbrev pub units_tail : List Sym → List Goal
units_tail text =
    if starts (Is t.Comma) text then g.Take t.Comma ∷ g.Units ∷ [] else
    []

-- a unit, as a node
abbrev pub unit : List Sym → List Goal
unit text =
    if starts (Is t.Skip) text then g.Begin ∷ g.Take t.Skip ∷ g.Close k.Skip ∷ [] else (
    if starts (Is t.Go) text then g.Begin ∷ g.Take t.Go ∷ g.Take t.To ∷ g.Take t.Tag ∷ g.Leap ∷ [] else (
    if starts (Is t.Goto) text then g.Begin ∷ g.Take t.Goto ∷ g.Take t.Tag ∷ g.Leap ∷ [] else (
    if routine_ahead text then g.Begin ∷ g.Routine ∷ g.Close k.RoutineText ∷ [] else
    g.Begin ∷ g.Tertiary ∷ g.UnitTail ∷ g.Leave ∷ [])))

-- behind a tertiary
abbrev pub unit_tail : List Sym → List Goal
unit_tail text =
    if starts (Is t.Becomes) text then g.Take t.Becomes ∷ g.Unit ∷ g.Wrap k.Assignation ∷ [] else (
    if starts (Is t.Is) text then g.Take t.Is ∷ g.Begin ∷ g.Tertiary ∷ g.Leave ∷ g.Relate ∷ [] else (
    if starts (Is t.Isnt) text then g.Take t.Isnt ∷ g.Begin ∷ g.Tertiary ∷ g.Leave ∷ g.Relate ∷ [] else
    []))

-- ['(' parameters ')'] (declarer | VOID) ':' unit
abbrev pub routine : List Sym → List Goal
routine text =
    if starts (Opens b.Round) text then g.Opens b.Round ∷ g.Parameters ∷ g.Closes b.Round ∷ g.RoutineResult ∷ [] else
    g.RoutineResult ∷ []

-- (declarer | VOID) ':' unit
abbrev pub routine_result : List Sym → List Goal
routine_result text =
    if starts (Is t.Void) text then g.Begin ∷ g.Take t.Void ∷ g.Close k.VoidWord ∷ g.Take t.Colon ∷ g.Unit ∷ [] else
    g.DeclarerNode ∷ g.Take t.Colon ∷ g.Unit ∷ []

-- declarer tag {',' tag} {',' declarer tag {',' tag}}
abbrev pub parameters : List Goal
parameters = g.DeclarerNode ∷ g.ParameterTags ∷ []

-- tag {',' tag} {',' declarer tag {',' tag}}
abbrev pub parameter_tags : List Goal
parameter_tags = g.Begin ∷ g.Take t.Tag ∷ g.Close k.Parameter ∷ g.ParameterTail ∷ []

-- {',' tag} {',' declarer tag {',' tag}}
abbrev pub parameter_tail : List Sym → List Goal
parameter_tail text =
    if starts (Is t.Comma) text then g.Take t.Comma ∷ g.ParameterMore ∷ [] else
    []

-- behind the comma
abbrev pub parameter_more : List Sym → List Goal
parameter_more text =
    if starts (Is t.Tag) text then g.ParameterTags ∷ [] else
    g.Parameters ∷ []

-- a nihil, a formula or a secondary
abbrev pub tertiary : List Sym → List Goal
tertiary text =
    if starts (Is t.Nil) text then g.Take t.Nil ∷ g.Wrap k.Nil ∷ [] else (
    if is_monadic text then g.Monadic ∷ g.Operands ∷ g.Wrap k.Formula ∷ [] else
    g.Secondary ∷ g.TertiaryTail ∷ [])

-- behind the first operand
abbrev pub tertiary_tail : List Sym → List Goal
tertiary_tail text =
    if is_operator text then g.Dyadic ∷ g.Operands ∷ g.Wrap k.Formula ∷ [] else
    []

-- {sign} secondary {sign {sign} secondary}
abbrev pub operands : List Sym → List Goal
operands text =
    if is_monadic text then g.Monadic ∷ g.Operands ∷ [] else
    g.Begin ∷ g.Secondary ∷ g.Leave ∷ g.OperandsTail ∷ []

-- {sign {sign} secondary}
abbrev pub operands_tail : List Sym → List Goal
operands_tail text =
    if is_operator text then g.Dyadic ∷ g.Operands ∷ [] else
    []
