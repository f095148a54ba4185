-- Inner: the headline does not rest on this file.
-- What is to be read: declarations.
use Rattle.std.specs.Prelude.{Bool, List, [], ◌∷◌, if◌then◌else◌}
use Rattle.a68_tree.specs.declared.kind.NodeKind.TheVariants as k
use Rattle.a68_symbols.specs.declared.sym.Bracket.TheVariants as b
use Rattle.a68_symbols.specs.declared.sym.Token.TheVariants as t
use Rattle.a68_symbols.specs.declared.sym.Sym.{Sym}
use Rattle.a68_symbols.specs.declared.sym.Sym.TheVariants.{Opens, Is}
use Rattle.a68_lookahead.specs.Symbols.{starts, starts_pair, is_operator}
use Rattle.a68_unit_productions.specs.declared.goal.Goal.{Goal}
use Rattle.a68_unit_productions.specs.declared.goal.Goal.TheVariants as g
use Rattle.a68_unit_productions.specs.declared.goal.Defining.{Defining}
use Rattle.a68_unit_productions.specs.declared.goal.Defining.TheVariants as d

-- one definition, or several as a node Joined
abbrev pub declaration : List Goal
declaration = g.Begin ∷ g.Forget ∷ g.Definitions ∷ g.Join ∷ []

-- a declaration and those that commas join to it
abbrev pub definitions : List Sym → List Goal
definitions text =
    if starts (Is t.Mode) text then g.Take t.Mode ∷ g.Definition d.Mode ∷ g.Tail d.Mode ∷ [] else (
    if starts (Is t.Prio) text then g.Take t.Prio ∷ g.Definition d.Priority ∷ g.Tail d.Priority ∷ [] else (
    if starts (Is t.Op) text then g.Take t.Op ∷ g.OperatorForm ∷ [] else (
    if starts_pair (Is t.Proc) (Is t.Tag) text then g.Take t.Proc ∷ g.ProcedureForm ∷ [] else (
    if starts (Is t.Loc) text then g.Take t.Loc ∷ g.Begin ∷ g.Declarer ∷ g.SetAside k.Declarer ∷ g.Definition d.Variable ∷ g.Tail d.Variable ∷ [] else (
    if starts (Is t.Heap) text then g.Begin ∷ g.Take t.Heap ∷ g.SetAside k.Heap ∷ g.Begin ∷ g.Declarer ∷ g.SetAside k.Declarer ∷ g.Definition d.Variable ∷ g.Tail d.Variable ∷ [] else
    g.Begin ∷ g.Declarer ∷ g.SetAside k.Declarer ∷ g.Named ∷ [])))))

-- behind OP
abbrev pub operator_form : List Sym → List Goal
operator_form text =
    if starts (Opens b.Round) text then g.Begin ∷ g.Plan ∷ g.SetAside k.Plan ∷ g.Definition d.Planned ∷ g.Tail d.Planned ∷ [] else
    g.Definition d.Operator ∷ g.Tail d.Operator ∷ []

-- behind PROC
abbrev pub procedure_form : List Sym → List Goal
procedure_form text =
    if starts_pair (Is t.Tag) (Is t.Becomes) text then g.Definition d.ProcedureVariable ∷ g.Tail d.ProcedureVariable ∷ [] else
    g.Definition d.Procedure ∷ g.Tail d.Procedure ∷ []

-- behind the declarer
abbrev pub named : List Sym → List Goal
named text =
    if starts_pair (Is t.Tag) (Is t.Equals) text then g.Definition d.Identity ∷ g.Tail d.Identity ∷ [] else
    g.Definition d.Variable ∷ g.Tail d.Variable ∷ []

-- '(' declarer [',' declarer] ')' (declarer | VOID)
abbrev pub plan : List Goal
plan = g.Opens b.Round ∷ g.DeclarerNode ∷ g.PlanTail ∷ g.Closes b.Round ∷ g.Yields ∷ []

-- [',' declarer]
abbrev pub plan_tail : List Sym → List Goal
plan_tail text =
    if starts (Is t.Comma) text then g.Take t.Comma ∷ g.DeclarerNode ∷ [] else
    []

-- [':=' unit]
abbrev pub initial : List Sym → List Goal
initial text =
    if starts (Is t.Becomes) text then g.Take t.Becomes ∷ g.Unit ∷ [] else
    []

-- a definition, as a node
abbrev pub definition : Defining → List Goal
definition d.Mode = g.Begin ∷ g.Take t.ModeWord ∷ g.Take t.Equals ∷ g.DeclarerNode ∷ g.Close k.ModeDefinition ∷ []
definition d.Priority = g.Begin ∷ g.Operator ∷ g.Take t.Equals ∷ g.Begin ∷ g.Take t.Digit ∷ g.Close k.Digit ∷ g.Close k.Priority ∷ []
definition d.Operator = g.Begin ∷ g.Operator ∷ g.Take t.Equals ∷ g.Begin ∷ g.Routine ∷ g.Close k.RoutineText ∷ g.Close k.OpDefinition ∷ []
definition d.Planned = g.Begin ∷ g.Share ∷ g.Operator ∷ g.Take t.Equals ∷ g.Unit ∷ g.Close k.OpDefinition ∷ []
definition d.Identity = g.Begin ∷ g.Share ∷ g.Take t.Tag ∷ g.Take t.Equals ∷ g.Unit ∷ g.Close k.IdentityDefinition ∷ []
definition d.Procedure = g.Begin ∷ g.Take t.Tag ∷ g.Take t.Equals ∷ g.Begin ∷ g.Routine ∷ g.Close k.RoutineText ∷ g.Close k.IdentityDefinition ∷ []
definition d.ProcedureVariable = g.Begin ∷ g.Take t.Tag ∷ g.Take t.Becomes ∷ g.Begin ∷ g.Routine ∷ g.Close k.RoutineText ∷ g.Close k.Variable ∷ []
definition d.Variable = g.Begin ∷ g.Share ∷ g.Take t.Tag ∷ g.Initial ∷ g.Close k.Variable ∷ []

abbrev pub comma_more : Defining → List Goal
comma_more x = g.Take t.Comma ∷ g.More x ∷ []

-- {',' definition}, of the same declaration or of others
abbrev pub tail : Defining → List Sym → List Goal
tail x text = if starts (Is t.Comma) text then comma_more x else []

abbrev pub definition_tail : Defining → List Goal
definition_tail x = g.Definition x ∷ g.Tail x ∷ []

-- whether one more definition of the same declaration stands behind the comma
abbrev pub goes_on : Defining → List Sym → Bool
goes_on d.Mode text = starts_pair (Is t.ModeWord) (Is t.Equals) text
goes_on d.Priority text = is_operator text
goes_on d.Operator text = is_operator text
goes_on d.Planned text = is_operator text
goes_on d.Identity text = starts (Is t.Tag) text
goes_on d.Procedure text = starts (Is t.Tag) text
goes_on d.ProcedureVariable text = starts (Is t.Tag) text
goes_on d.Variable text = starts (Is t.Tag) text

-- behind the comma: a definition of the same declaration, or another declaration
abbrev pub more : Defining → List Sym → List Goal
more x text = if goes_on x text then definition_tail x else g.Forget ∷ g.Definitions ∷ []
