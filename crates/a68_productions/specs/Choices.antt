-- Inner: the headline does not rest on this file.
-- What is to be read: the parts of choices and loops.
use Rattle.std.specs.Prelude.{List, [], ◌∷◌, if◌then◌else◌}
use Rattle.a68_tree.specs.declared.kind.NodeKind.TheVariants as k
use Rattle.a68_symbols.specs.declared.sym.Bracket.TheVariants as b
use Rattle.a68_symbols.specs.declared.sym.Token.TheVariants as t
use Rattle.a68_symbols.specs.declared.sym.Sym.{Sym}
use Rattle.a68_symbols.specs.declared.sym.Sym.TheVariants.{Is}
use Rattle.a68_lookahead.specs.Symbols.{starts}
use Rattle.a68_unit_productions.specs.declared.goal.Goal.{Goal}
use Rattle.a68_unit_productions.specs.declared.goal.Goal.TheVariants as g

-- {ELIF enquiry THEN serial} [ELSE serial]
abbrev pub else_part : List Sym → List Goal
else_part text =
    if starts (Is t.Elif) text then g.Begin ∷ g.Take t.Elif ∷ g.EnquiryNode ∷ g.Take t.Then ∷ g.SerialNode ∷ g.ElsePart ∷ g.Close k.Conditional ∷ [] else (
    if starts (Is t.Else) text then g.Take t.Else ∷ g.SerialNode ∷ [] else
    [])

-- {'|:' enquiry '|' serial} ['|' serial]
abbrev pub else_brief : List Sym → List Goal
else_brief text =
    if starts (Is t.BarColon) text then g.Begin ∷ g.Take t.BarColon ∷ g.EnquiryNode ∷ g.Take t.Bar ∷ g.SerialNode ∷ g.ElseBrief ∷ g.Close k.Conditional ∷ [] else (
    if starts (Is t.Bar) text then g.Take t.Bar ∷ g.SerialNode ∷ [] else
    [])

-- {OUSE enquiry IN unit ',' units} [OUT serial]
abbrev pub out_case : List Sym → List Goal
out_case text =
    if starts (Is t.Ouse) text then g.Begin ∷ g.Begin ∷ g.Take t.Ouse ∷ g.EnquiryNode ∷ g.Take t.In ∷ g.Unit ∷ g.Take t.Comma ∷ g.Units ∷ g.OutCase ∷ g.Close k.Case ∷ g.Close k.Out ∷ [] else (
    if starts (Is t.Out) text then g.Take t.Out ∷ g.Begin ∷ g.SerialNode ∷ g.Close k.Out ∷ [] else
    [])

-- {'|:' enquiry '|' unit ',' units} ['|' serial]
abbrev pub out_case_brief : List Sym → List Goal
out_case_brief text =
    if starts (Is t.BarColon) text then g.Begin ∷ g.Begin ∷ g.Take t.BarColon ∷ g.EnquiryNode ∷ g.Take t.Bar ∷ g.Unit ∷ g.Take t.Comma ∷ g.Units ∷ g.OutCaseBrief ∷ g.Close k.Case ∷ g.Close k.Out ∷ [] else (
    if starts (Is t.Bar) text then g.Take t.Bar ∷ g.Begin ∷ g.SerialNode ∷ g.Close k.Out ∷ [] else
    [])

-- {OUSE enquiry IN choices} [OUT serial]
abbrev pub out_conformity : List Sym → List Goal
out_conformity text =
    if starts (Is t.Ouse) text then g.Begin ∷ g.Begin ∷ g.Take t.Ouse ∷ g.EnquiryNode ∷ g.Take t.In ∷ g.Choices ∷ g.OutConformity ∷ g.Close k.Conformity ∷ g.Close k.Out ∷ [] else (
    if starts (Is t.Out) text then g.Take t.Out ∷ g.Begin ∷ g.SerialNode ∷ g.Close k.Out ∷ [] else
    [])

-- {'|:' enquiry '|' choices} ['|' serial]
abbrev pub out_conformity_brief : List Sym → List Goal
out_conformity_brief text =
    if starts (Is t.BarColon) text then g.Begin ∷ g.Begin ∷ g.Take t.BarColon ∷ g.EnquiryNode ∷ g.Take t.Bar ∷ g.Choices ∷ g.OutConformityBrief ∷ g.Close k.Conformity ∷ g.Close k.Out ∷ [] else (
    if starts (Is t.Bar) text then g.Take t.Bar ∷ g.Begin ∷ g.SerialNode ∷ g.Close k.Out ∷ [] else
    [])

-- [FROM unit] [BY unit] [TO unit] [WHILE enquiry] DO serial OD
abbrev pub loop_from : List Sym → List Goal
loop_from text =
    if starts (Is t.From) text then g.Take t.From ∷ g.Begin ∷ g.Unit ∷ g.Close k.From ∷ g.LoopBy ∷ [] else
    g.LoopBy ∷ []

-- the same from BY on
abbrev pub loop_by : List Sym → List Goal
loop_by text =
    if starts (Is t.By) text then g.Take t.By ∷ g.Begin ∷ g.Unit ∷ g.Close k.By ∷ g.LoopTo ∷ [] else
    g.LoopTo ∷ []

-- the same from TO on
abbrev pub loop_to : List Sym → List Goal
loop_to text =
    if starts (Is t.To) text then g.Take t.To ∷ g.Begin ∷ g.Unit ∷ g.Close k.To ∷ g.LoopWhile ∷ [] else
    g.LoopWhile ∷ []

-- the same from WHILE on
abbrev pub loop_while : List Sym → List Goal
loop_while text =
    if starts (Is t.While) text then g.Take t.While ∷ g.Begin ∷ g.EnquiryNode ∷ g.Close k.While ∷ g.Opens b.Do ∷ g.SerialNode ∷ g.Closes b.Do ∷ [] else
    g.Opens b.Do ∷ g.SerialNode ∷ g.Closes b.Do ∷ []

-- spec unit {',' spec unit}
abbrev pub choices : List Goal
choices = g.Begin ∷ g.ChoiceSpec ∷ g.Close k.Spec ∷ g.Unit ∷ g.ChoicesTail ∷ []

-- {',' spec unit}
abbrev pub choices_tail : List Sym → List Goal
choices_tail text =
    if starts (Is t.Comma) text then g.Take t.Comma ∷ g.Choices ∷ [] else
    []

-- '(' declarer [tag] ')' ':'
abbrev pub choice_spec : List Goal
choice_spec = g.Opens b.Round ∷ g.DeclarerNode ∷ g.SpecTag ∷ g.Closes b.Round ∷ g.Take t.Colon ∷ []

-- [tag]
abbrev pub spec_tag : List Sym → List Goal
spec_tag text =
    if starts (Is t.Tag) text then g.Begin ∷ g.Take t.Tag ∷ g.Close k.Parameter ∷ [] else
    []
