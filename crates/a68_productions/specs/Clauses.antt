-- Inner: the headline does not rest on this file.
-- What is to be read: closed, collateral and parallel clauses, choices and loops.
use Rattle.std.specs.Prelude.{List, [], ◌∷◌, if◌then◌else◌}
use Rattle.a68_tree.specs.declared.kind.NodeKind.TheVariants as k
use Rattle.a68_symbols.specs.declared.sym.Bracket.TheVariants as b
use Rattle.a68_symbols.specs.declared.sym.Token.TheVariants as t
use Rattle.a68_symbols.specs.declared.sym.Sym.{Sym}
use Rattle.a68_symbols.specs.declared.sym.Sym.TheVariants.{Opens, Closes, Is}
use Rattle.a68_lookahead.specs.Ahead.{phrase_ahead, spec_ahead}
use Rattle.a68_lookahead.specs.Symbols.{starts, label_ahead}
use Rattle.a68_unit_productions.specs.declared.goal.Goal.{Goal}
use Rattle.a68_unit_productions.specs.declared.goal.Goal.TheVariants as g

-- an enclosed clause, by its first symbol
abbrev pub enclosed : List Sym → List Goal
enclosed text =
    if starts (Opens b.Round) text then g.Opens b.Round ∷ g.Brief ∷ [] else (
    if starts (Opens b.Begin) text then g.Opens b.Begin ∷ g.Block ∷ [] else (
    if starts (Is t.Par) text then g.Take t.Par ∷ g.Parallel ∷ [] else (
    if starts (Opens b.If) text then g.Opens b.If ∷ g.EnquiryNode ∷ g.Take t.Then ∷ g.SerialNode ∷ g.ElsePart ∷ g.Closes b.If ∷ g.Wrap k.Conditional ∷ [] else (
    if starts (Opens b.Case) text then g.Opens b.Case ∷ g.EnquiryNode ∷ g.Take t.In ∷ g.CaseChoice ∷ [] else (
    if starts (Is t.For) text then g.Take t.For ∷ g.Begin ∷ g.Take t.Tag ∷ g.Close k.For ∷ g.LoopFrom ∷ g.Wrap k.Loop ∷ [] else
    g.LoopFrom ∷ g.Wrap k.Loop ∷ [])))))

-- what stands behind `(`
abbrev pub brief : List Sym → List Goal
brief text =
    if starts (Closes b.Round) text then g.Closes b.Round ∷ g.Wrap k.Vacuum ∷ [] else (
    if label_ahead text then g.Begin ∷ g.Labelled ∷ g.BriefLabelled ∷ [] else (
    if phrase_ahead text then g.Begin ∷ g.Declaration ∷ g.Take t.Semicolon ∷ g.BriefSteps ∷ [] else
    g.Begin ∷ g.Unit ∷ g.BriefUnit ∷ []))

-- behind `(` and a unit: one more unit, or the rest of a serial clause
abbrev pub brief_unit : List Sym → List Goal
brief_unit text =
    if starts (Is t.Comma) text then g.Leave ∷ g.Take t.Comma ∷ g.Units ∷ g.Closes b.Round ∷ g.Wrap k.Collateral ∷ [] else
    g.BriefTail ∷ []

-- behind `(` and a unit of a serial clause in which no label stands yet: only such a clause is an enquiry
abbrev pub brief_tail : List Sym → List Goal
brief_tail text =
    if starts (Is t.Semicolon) text then g.Take t.Semicolon ∷ g.BriefSteps ∷ [] else (
    if starts (Is t.Exit) text then g.Begin ∷ g.Take t.Exit ∷ g.Close k.Exit ∷ g.Labelled ∷ g.BriefLabelled ∷ [] else
    g.Close k.Serial ∷ g.BriefEnd ∷ [])

-- behind `(` and one phrase or several
abbrev pub brief_steps : List Sym → List Goal
brief_steps text =
    if label_ahead text then g.Labelled ∷ g.BriefLabelled ∷ [] else (
    if phrase_ahead text then g.Declaration ∷ g.Take t.Semicolon ∷ g.BriefSteps ∷ [] else
    g.Unit ∷ g.BriefTail ∷ [])

-- behind `(` and a serial clause with labels
abbrev pub brief_labelled : List Goal
brief_labelled = g.Close k.Serial ∷ g.Closes b.Round ∷ g.Wrap k.Closed ∷ []

-- behind `(` and a serial clause without labels
abbrev pub brief_end : List Sym → List Goal
brief_end text =
    if starts (Is t.Bar) text then g.Take t.Bar ∷ g.BriefChoice ∷ [] else
    g.Closes b.Round ∷ g.Wrap k.Closed ∷ []

-- behind the first bar
abbrev pub brief_choice : List Sym → List Goal
brief_choice text =
    if spec_ahead text then g.Choices ∷ g.OutConformityBrief ∷ g.Closes b.Round ∷ g.Wrap k.Conformity ∷ [] else (
    if label_ahead text then g.Begin ∷ g.Labelled ∷ g.Close k.Serial ∷ g.ElseBrief ∷ g.Closes b.Round ∷ g.Wrap k.Conditional ∷ [] else (
    if phrase_ahead text then g.Begin ∷ g.Declaration ∷ g.Take t.Semicolon ∷ g.Serial ∷ g.Close k.Serial ∷ g.ElseBrief ∷ g.Closes b.Round ∷ g.Wrap k.Conditional ∷ [] else
    g.Begin ∷ g.Unit ∷ g.BriefChosen ∷ []))

-- behind the first bar and a unit
abbrev pub brief_chosen : List Sym → List Goal
brief_chosen text =
    if starts (Is t.Comma) text then g.Leave ∷ g.Take t.Comma ∷ g.Units ∷ g.OutCaseBrief ∷ g.Closes b.Round ∷ g.Wrap k.Case ∷ [] else
    g.SerialTail ∷ g.Close k.Serial ∷ g.ElseBrief ∷ g.Closes b.Round ∷ g.Wrap k.Conditional ∷ []

-- what stands behind BEGIN
abbrev pub block : List Sym → List Goal
block text =
    if starts (Closes b.Begin) text then g.Closes b.Begin ∷ g.Wrap k.Vacuum ∷ [] else (
    if label_ahead text then g.Begin ∷ g.Labelled ∷ g.Close k.Serial ∷ g.Closes b.Begin ∷ g.Wrap k.Closed ∷ [] else (
    if phrase_ahead text then g.Begin ∷ g.Declaration ∷ g.Take t.Semicolon ∷ g.Serial ∷ g.Close k.Serial ∷ g.Closes b.Begin ∷ g.Wrap k.Closed ∷ [] else
    g.Begin ∷ g.Unit ∷ g.BlockUnit ∷ []))

-- behind BEGIN and a unit
abbrev pub block_unit : List Sym → List Goal
block_unit text =
    if starts (Is t.Comma) text then g.Leave ∷ g.Take t.Comma ∷ g.Units ∷ g.Closes b.Begin ∷ g.Wrap k.Collateral ∷ [] else
    g.SerialTail ∷ g.Close k.Serial ∷ g.Closes b.Begin ∷ g.Wrap k.Closed ∷ []

-- what stands behind PAR
abbrev pub parallel : List Sym → List Goal
parallel text =
    if starts (Opens b.Round) text then g.Opens b.Round ∷ g.Units ∷ g.Closes b.Round ∷ g.Wrap k.Parallel ∷ [] else
    g.Opens b.Begin ∷ g.Units ∷ g.Closes b.Begin ∷ g.Wrap k.Parallel ∷ []

-- behind CASE, the enquiry and IN
abbrev pub case_choice : List Sym → List Goal
case_choice text =
    if spec_ahead text then g.Choices ∷ g.OutConformity ∷ g.Closes b.Case ∷ g.Wrap k.Conformity ∷ [] else
    g.Unit ∷ g.Take t.Comma ∷ g.Units ∷ g.OutCase ∷ g.Closes b.Case ∷ g.Wrap k.Case ∷ []
