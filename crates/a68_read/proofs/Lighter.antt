-- Less is to be done for what a form is made of than for the form.
use Rattle.std.proofs.Common.{◌≡◌, Bool, true, false, List, [], ◌∷◌, refl, if◌then◌else◌}
use Rattle.a68_tree.specs.declared.kind.NodeKind.TheVariants as k
use Rattle.a68_symbols.specs.declared.sym.Bracket.TheVariants as b
use Rattle.a68_symbols.specs.declared.sym.Token.TheVariants as t
use Rattle.a68_symbols.specs.declared.sym.Sym.{Sym}
use Rattle.a68_symbols.specs.declared.sym.Sym.TheVariants.{Opens, Closes, Is}
use Rattle.a68_lookahead.specs.Ahead.{routine_ahead, phrase_ahead, spec_ahead}
use Rattle.a68_lookahead.specs.Symbols.{starts, starts_pair, label_ahead, is_monadic, is_operator, is_denotation, is_declarer, ends_trimmer, ends_bound}
use Rattle.a68_unit_productions.specs.declared.goal.Goal.{Goal}
use Rattle.a68_unit_productions.specs.declared.goal.Goal.TheVariants as g
use Rattle.a68_unit_productions.specs.declared.goal.Defining.{Defining}
use Rattle.a68_unit_productions.specs.declared.goal.Defining.TheVariants as d
use Rattle.a68_unit_productions.specs.Declarations as declarations
use Rattle.a68_productions.specs.Expand.{expand}
use Rattle.a68_read.specs.Weights.{is_lighter}
use Rattle.a68_read.proofs.Steps.{OnGoals}

enclosed_light : (c1 c2 c3 c4 c5 c6 : Bool) → is_lighter g.Enclosed (if c1 then (g.Opens b.Round ∷ g.Brief ∷ []) else (if c2 then (g.Opens b.Begin ∷ g.Block ∷ []) else (if c3 then (g.Take t.Par ∷ g.Parallel ∷ []) else (if c4 then (g.Opens b.If ∷ g.EnquiryNode ∷ g.Take t.Then ∷ g.SerialNode ∷ g.ElsePart ∷ g.Closes b.If ∷ g.Wrap k.Conditional ∷ []) else (if c5 then (g.Opens b.Case ∷ g.EnquiryNode ∷ g.Take t.In ∷ g.CaseChoice ∷ []) else (if c6 then (g.Take t.For ∷ g.Begin ∷ g.Take t.Tag ∷ g.Close k.For ∷ g.LoopFrom ∷ g.Wrap k.Loop ∷ []) else ((g.LoopFrom ∷ g.Wrap k.Loop ∷ [])))))))) ≡ true
enclosed_light true c2 c3 c4 c5 c6 = refl
enclosed_light false true c3 c4 c5 c6 = refl
enclosed_light false false true c4 c5 c6 = refl
enclosed_light false false false true c5 c6 = refl
enclosed_light false false false false true c6 = refl
enclosed_light false false false false false true = refl
enclosed_light false false false false false false = refl

brief_light : (c1 c2 c3 : Bool) → is_lighter g.Brief (if c1 then (g.Closes b.Round ∷ g.Wrap k.Vacuum ∷ []) else (if c2 then (g.Begin ∷ g.Labelled ∷ g.BriefLabelled ∷ []) else (if c3 then (g.Begin ∷ g.Declaration ∷ g.Take t.Semicolon ∷ g.BriefSteps ∷ []) else ((g.Begin ∷ g.Unit ∷ g.BriefUnit ∷ []))))) ≡ true
brief_light true c2 c3 = refl
brief_light false true c3 = refl
brief_light false false true = refl
brief_light false false false = refl

brief_unit_light : (c1 : Bool) → is_lighter g.BriefUnit (if c1 then (g.Leave ∷ g.Take t.Comma ∷ g.Units ∷ g.Closes b.Round ∷ g.Wrap k.Collateral ∷ []) else ((g.BriefTail ∷ []))) ≡ true
brief_unit_light true = refl
brief_unit_light false = refl

brief_tail_light : (c1 c2 : Bool) → is_lighter g.BriefTail (if c1 then (g.Take t.Semicolon ∷ g.BriefSteps ∷ []) else (if c2 then (g.Begin ∷ g.Take t.Exit ∷ g.Close k.Exit ∷ g.Labelled ∷ g.BriefLabelled ∷ []) else ((g.Close k.Serial ∷ g.BriefEnd ∷ [])))) ≡ true
brief_tail_light true c2 = refl
brief_tail_light false true = refl
brief_tail_light false false = refl

brief_steps_light : (c1 c2 : Bool) → is_lighter g.BriefSteps (if c1 then (g.Labelled ∷ g.BriefLabelled ∷ []) else (if c2 then (g.Declaration ∷ g.Take t.Semicolon ∷ g.BriefSteps ∷ []) else ((g.Unit ∷ g.BriefTail ∷ [])))) ≡ true
brief_steps_light true c2 = refl
brief_steps_light false true = refl
brief_steps_light false false = refl

brief_end_light : (c1 : Bool) → is_lighter g.BriefEnd (if c1 then (g.Take t.Bar ∷ g.BriefChoice ∷ []) else ((g.Closes b.Round ∷ g.Wrap k.Closed ∷ []))) ≡ true
brief_end_light true = refl
brief_end_light false = refl

brief_choice_light : (c1 c2 c3 : Bool) → is_lighter g.BriefChoice (if c1 then (g.Choices ∷ g.OutConformityBrief ∷ g.Closes b.Round ∷ g.Wrap k.Conformity ∷ []) else (if c2 then (g.Begin ∷ g.Labelled ∷ g.Close k.Serial ∷ g.ElseBrief ∷ g.Closes b.Round ∷ g.Wrap k.Conditional ∷ []) else (if c3 then (g.Begin ∷ g.Declaration ∷ g.Take t.Semicolon ∷ g.Serial ∷ g.Close k.Serial ∷ g.ElseBrief ∷ g.Closes b.Round ∷ g.Wrap k.Conditional ∷ []) else ((g.Begin ∷ g.Unit ∷ g.BriefChosen ∷ []))))) ≡ true
brief_choice_light true c2 c3 = refl
brief_choice_light false true c3 = refl
brief_choice_light false false true = refl
brief_choice_light false false false = refl

brief_chosen_light : (c1 : Bool) → is_lighter g.BriefChosen (if c1 then (g.Leave ∷ g.Take t.Comma ∷ g.Units ∷ g.OutCaseBrief ∷ g.Closes b.Round ∷ g.Wrap k.Case ∷ []) else ((g.SerialTail ∷ g.Close k.Serial ∷ g.ElseBrief ∷ g.Closes b.Round ∷ g.Wrap k.Conditional ∷ []))) ≡ true
brief_chosen_light true = refl
brief_chosen_light false = refl

block_light : (c1 c2 c3 : Bool) → is_lighter g.Block (if c1 then (g.Closes b.Begin ∷ g.Wrap k.Vacuum ∷ []) else (if c2 then (g.Begin ∷ g.Labelled ∷ g.Close k.Serial ∷ g.Closes b.Begin ∷ g.Wrap k.Closed ∷ []) else (if c3 then (g.Begin ∷ g.Declaration ∷ g.Take t.Semicolon ∷ g.Serial ∷ g.Close k.Serial ∷ g.Closes b.Begin ∷ g.Wrap k.Closed ∷ []) else ((g.Begin ∷ g.Unit ∷ g.BlockUnit ∷ []))))) ≡ true
block_light true c2 c3 = refl
block_light false true c3 = refl
block_light false false true = refl
block_light false false false = refl

block_unit_light : (c1 : Bool) → is_lighter g.BlockUnit (if c1 then (g.Leave ∷ g.Take t.Comma ∷ g.Units ∷ g.Closes b.Begin ∷ g.Wrap k.Collateral ∷ []) else ((g.SerialTail ∷ g.Close k.Serial ∷ g.Closes b.Begin ∷ g.Wrap k.Closed ∷ []))) ≡ true
block_unit_light true = refl
block_unit_light false = refl

parallel_light : (c1 : Bool) → is_lighter g.Parallel (if c1 then (g.Opens b.Round ∷ g.Units ∷ g.Closes b.Round ∷ g.Wrap k.Parallel ∷ []) else ((g.Opens b.Begin ∷ g.Units ∷ g.Closes b.Begin ∷ g.Wrap k.Parallel ∷ []))) ≡ true
parallel_light true = refl
parallel_light false = refl

case_choice_light : (c1 : Bool) → is_lighter g.CaseChoice (if c1 then (g.Choices ∷ g.OutConformity ∷ g.Closes b.Case ∷ g.Wrap k.Conformity ∷ []) else ((g.Unit ∷ g.Take t.Comma ∷ g.Units ∷ g.OutCase ∷ g.Closes b.Case ∷ g.Wrap k.Case ∷ []))) ≡ true
case_choice_light true = refl
case_choice_light false = refl

else_part_light : (c1 c2 : Bool) → is_lighter g.ElsePart (if c1 then (g.Begin ∷ g.Take t.Elif ∷ g.EnquiryNode ∷ g.Take t.Then ∷ g.SerialNode ∷ g.ElsePart ∷ g.Close k.Conditional ∷ []) else (if c2 then (g.Take t.Else ∷ g.SerialNode ∷ []) else (([])))) ≡ true
else_part_light true c2 = refl
else_part_light false true = refl
else_part_light false false = refl

else_brief_light : (c1 c2 : Bool) → is_lighter g.ElseBrief (if c1 then (g.Begin ∷ g.Take t.BarColon ∷ g.EnquiryNode ∷ g.Take t.Bar ∷ g.SerialNode ∷ g.ElseBrief ∷ g.Close k.Conditional ∷ []) else (if c2 then (g.Take t.Bar ∷ g.SerialNode ∷ []) else (([])))) ≡ true
else_brief_light true c2 = refl
else_brief_light false true = refl
else_brief_light false false = refl

out_case_light : (c1 c2 : Bool) → is_lighter g.OutCase (if c1 then (g.Begin ∷ g.Begin ∷ g.Take t.Ouse ∷ g.EnquiryNode ∷ g.Take t.In ∷ g.Unit ∷ g.Take t.Comma ∷ g.Units ∷ g.OutCase ∷ g.Close k.Case ∷ g.Close k.Out ∷ []) else (if c2 then (g.Take t.Out ∷ g.Begin ∷ g.SerialNode ∷ g.Close k.Out ∷ []) else (([])))) ≡ true
out_case_light true c2 = refl
out_case_light false true = refl
out_case_light false false = refl

out_case_brief_light : (c1 c2 : Bool) → is_lighter g.OutCaseBrief (if c1 then (g.Begin ∷ g.Begin ∷ g.Take t.BarColon ∷ g.EnquiryNode ∷ g.Take t.Bar ∷ g.Unit ∷ g.Take t.Comma ∷ g.Units ∷ g.OutCaseBrief ∷ g.Close k.Case ∷ g.Close k.Out ∷ []) else (if c2 then (g.Take t.Bar ∷ g.Begin ∷ g.SerialNode ∷ g.Close k.Out ∷ []) else (([])))) ≡ true
out_case_brief_light true c2 = refl
out_case_brief_light false true = refl
out_case_brief_light false false = refl

out_conformity_light : (c1 c2 : Bool) → is_lighter g.OutConformity (if c1 then (g.Begin ∷ g.Begin ∷ g.Take t.Ouse ∷ g.EnquiryNode ∷ g.Take t.In ∷ g.Choices ∷ g.OutConformity ∷ g.Close k.Conformity ∷ g.Close k.Out ∷ []) else (if c2 then (g.Take t.Out ∷ g.Begin ∷ g.SerialNode ∷ g.Close k.Out ∷ []) else (([])))) ≡ true
out_conformity_light true c2 = refl
out_conformity_light false true = refl
out_conformity_light false false = refl

out_conformity_brief_light : (c1 c2 : Bool) → is_lighter g.OutConformityBrief (if c1 then (g.Begin ∷ g.Begin ∷ g.Take t.BarColon ∷ g.EnquiryNode ∷ g.Take t.Bar ∷ g.Choices ∷ g.OutConformityBrief ∷ g.Close k.Conformity ∷ g.Close k.Out ∷ []) else (if c2 then (g.Take t.Bar ∷ g.Begin ∷ g.SerialNode ∷ g.Close k.Out ∷ []) else (([])))) ≡ true
out_conformity_brief_light true c2 = refl
out_conformity_brief_light false true = refl
out_conformity_brief_light false false = refl

loop_from_light : (c1 : Bool) → is_lighter g.LoopFrom (if c1 then (g.Take t.From ∷ g.Begin ∷ g.Unit ∷ g.Close k.From ∷ g.LoopBy ∷ []) else ((g.LoopBy ∷ []))) ≡ true
loop_from_light true = refl
loop_from_light false = refl

loop_by_light : (c1 : Bool) → is_lighter g.LoopBy (if c1 then (g.Take t.By ∷ g.Begin ∷ g.Unit ∷ g.Close k.By ∷ g.LoopTo ∷ []) else ((g.LoopTo ∷ []))) ≡ true
loop_by_light true = refl
loop_by_light false = refl

loop_to_light : (c1 : Bool) → is_lighter g.LoopTo (if c1 then (g.Take t.To ∷ g.Begin ∷ g.Unit ∷ g.Close k.To ∷ g.LoopWhile ∷ []) else ((g.LoopWhile ∷ []))) ≡ true
loop_to_light true = refl
loop_to_light false = refl

loop_while_light : (c1 : Bool) → is_lighter g.LoopWhile (if c1 then (g.Take t.While ∷ g.Begin ∷ g.EnquiryNode ∷ g.Close k.While ∷ g.Opens b.Do ∷ g.SerialNode ∷ g.Closes b.Do ∷ []) else ((g.Opens b.Do ∷ g.SerialNode ∷ g.Closes b.Do ∷ []))) ≡ true
loop_while_light true = refl
loop_while_light false = refl

choices_tail_light : (c1 : Bool) → is_lighter g.ChoicesTail (if c1 then (g.Take t.Comma ∷ g.Choices ∷ []) else (([]))) ≡ true
choices_tail_light true = refl
choices_tail_light false = refl

spec_tag_light : (c1 : Bool) → is_lighter g.SpecTag (if c1 then (g.Begin ∷ g.Take t.Tag ∷ g.Close k.Parameter ∷ []) else (([]))) ≡ true
spec_tag_light true = refl
spec_tag_light false = refl

serial_light : (c1 c2 : Bool) → is_lighter g.Serial (if c1 then (g.Labelled ∷ []) else (if c2 then (g.Declaration ∷ g.Take t.Semicolon ∷ g.Serial ∷ []) else ((g.Unit ∷ g.SerialTail ∷ [])))) ≡ true
serial_light true c2 = refl
serial_light false true = refl
serial_light false false = refl

serial_tail_light : (c1 c2 : Bool) → is_lighter g.SerialTail (if c1 then (g.Take t.Semicolon ∷ g.Serial ∷ []) else (if c2 then (g.Begin ∷ g.Take t.Exit ∷ g.Close k.Exit ∷ g.Labelled ∷ []) else (([])))) ≡ true
serial_tail_light true c2 = refl
serial_tail_light false true = refl
serial_tail_light false false = refl

steps_light : (c1 : Bool) → is_lighter g.Steps (if c1 then (g.Labelled ∷ []) else ((g.Unit ∷ g.StepsTail ∷ []))) ≡ true
steps_light true = refl
steps_light false = refl

steps_tail_light : (c1 c2 : Bool) → is_lighter g.StepsTail (if c1 then (g.Take t.Semicolon ∷ g.Steps ∷ []) else (if c2 then (g.Begin ∷ g.Take t.Exit ∷ g.Close k.Exit ∷ g.Labelled ∷ []) else (([])))) ≡ true
steps_tail_light true c2 = refl
steps_tail_light false true = refl
steps_tail_light false false = refl

enquiry_light : (c1 : Bool) → is_lighter g.Enquiry (if c1 then (g.Declaration ∷ g.Take t.Semicolon ∷ g.Enquiry ∷ []) else ((g.Unit ∷ g.EnquiryTail ∷ []))) ≡ true
enquiry_light true = refl
enquiry_light false = refl

enquiry_tail_light : (c1 : Bool) → is_lighter g.EnquiryTail (if c1 then (g.Take t.Semicolon ∷ g.Enquiry ∷ []) else (([]))) ≡ true
enquiry_tail_light true = refl
enquiry_tail_light false = refl

units_tail_light : (c1 : Bool) → is_lighter g.UnitsTail (if c1 then (g.Take t.Comma ∷ g.Units ∷ []) else (([]))) ≡ true
units_tail_light true = refl
units_tail_light false = refl

unit_light : (c1 c2 c3 c4 : Bool) → is_lighter g.Unit (if c1 then (g.Begin ∷ g.Take t.Skip ∷ g.Close k.Skip ∷ []) else (if c2 then (g.Begin ∷ g.Take t.Go ∷ g.Take t.To ∷ g.Take t.Tag ∷ g.Leap ∷ []) else (if c3 then (g.Begin ∷ g.Take t.Goto ∷ g.Take t.Tag ∷ g.Leap ∷ []) else (if c4 then (g.Begin ∷ g.Routine ∷ g.Close k.RoutineText ∷ []) else ((g.Begin ∷ g.Tertiary ∷ g.UnitTail ∷ g.Leave ∷ [])))))) ≡ true
unit_light true c2 c3 c4 = refl
unit_light false true c3 c4 = refl
unit_light false false true c4 = refl
unit_light false false false true = refl
unit_light false false false false = refl

unit_tail_light : (c1 c2 c3 : Bool) → is_lighter g.UnitTail (if c1 then (g.Take t.Becomes ∷ g.Unit ∷ g.Wrap k.Assignation ∷ []) else (if c2 then (g.Take t.Is ∷ g.Begin ∷ g.Tertiary ∷ g.Leave ∷ g.Relate ∷ []) else (if c3 then (g.Take t.Isnt ∷ g.Begin ∷ g.Tertiary ∷ g.Leave ∷ g.Relate ∷ []) else (([]))))) ≡ true
unit_tail_light true c2 c3 = refl
unit_tail_light false true c3 = refl
unit_tail_light false false true = refl
unit_tail_light false false false = refl

routine_light : (c1 : Bool) → is_lighter g.Routine (if c1 then (g.Opens b.Round ∷ g.Parameters ∷ g.Closes b.Round ∷ g.RoutineResult ∷ []) else ((g.RoutineResult ∷ []))) ≡ true
routine_light true = refl
routine_light false = refl

routine_result_light : (c1 : Bool) → is_lighter g.RoutineResult (if c1 then (g.Begin ∷ g.Take t.Void ∷ g.Close k.VoidWord ∷ g.Take t.Colon ∷ g.Unit ∷ []) else ((g.DeclarerNode ∷ g.Take t.Colon ∷ g.Unit ∷ []))) ≡ true
routine_result_light true = refl
routine_result_light false = refl

parameter_tail_light : (c1 : Bool) → is_lighter g.ParameterTail (if c1 then (g.Take t.Comma ∷ g.ParameterMore ∷ []) else (([]))) ≡ true
parameter_tail_light true = refl
parameter_tail_light false = refl

parameter_more_light : (c1 : Bool) → is_lighter g.ParameterMore (if c1 then (g.ParameterTags ∷ []) else ((g.Parameters ∷ []))) ≡ true
parameter_more_light true = refl
parameter_more_light false = refl

tertiary_light : (c1 c2 : Bool) → is_lighter g.Tertiary (if c1 then (g.Take t.Nil ∷ g.Wrap k.Nil ∷ []) else (if c2 then (g.Monadic ∷ g.Operands ∷ g.Wrap k.Formula ∷ []) else ((g.Secondary ∷ g.TertiaryTail ∷ [])))) ≡ true
tertiary_light true c2 = refl
tertiary_light false true = refl
tertiary_light false false = refl

tertiary_tail_light : (c1 : Bool) → is_lighter g.TertiaryTail (if c1 then (g.Dyadic ∷ g.Operands ∷ g.Wrap k.Formula ∷ []) else (([]))) ≡ true
tertiary_tail_light true = refl
tertiary_tail_light false = refl

operands_light : (c1 : Bool) → is_lighter g.Operands (if c1 then (g.Monadic ∷ g.Operands ∷ []) else ((g.Begin ∷ g.Secondary ∷ g.Leave ∷ g.OperandsTail ∷ []))) ≡ true
operands_light true = refl
operands_light false = refl

operands_tail_light : (c1 : Bool) → is_lighter g.OperandsTail (if c1 then (g.Dyadic ∷ g.Operands ∷ []) else (([]))) ≡ true
operands_tail_light true = refl
operands_tail_light false = refl

secondary_light : (c1 c2 c3 : Bool) → is_lighter g.Secondary (if c1 then (g.Take t.Tag ∷ g.Take t.Of ∷ g.Begin ∷ g.Secondary ∷ g.Leave ∷ g.Wrap k.Selection ∷ []) else (if c2 then (g.Take t.Loc ∷ g.DeclarerNode ∷ g.Wrap k.Generator ∷ []) else (if c3 then (g.Take t.Heap ∷ g.DeclarerNode ∷ g.Wrap k.Generator ∷ []) else ((g.Base ∷ g.PrimaryTail ∷ []))))) ≡ true
secondary_light true c2 c3 = refl
secondary_light false true c3 = refl
secondary_light false false true = refl
secondary_light false false false = refl

base_light : (c1 c2 c3 c4 c5 c6 : Bool) → is_lighter g.Base (if c1 then (g.Take t.Tag ∷ g.Wrap k.Tag ∷ []) else (if c2 then (g.Denotation ∷ g.Wrap k.Denotation ∷ []) else (if c3 then (g.Take t.Long ∷ g.Take t.Digit ∷ g.WrapLong ∷ []) else (if c4 then (g.Take t.Long ∷ g.Take t.Number ∷ g.WrapLong ∷ []) else (if c5 then (g.Begin ∷ g.Take t.Void ∷ g.Close k.VoidWord ∷ g.Begin ∷ g.Enclosed ∷ g.Leave ∷ g.Wrap k.Cast ∷ []) else (if c6 then (g.DeclarerNode ∷ g.Begin ∷ g.Enclosed ∷ g.Leave ∷ g.Wrap k.Cast ∷ []) else ((g.Enclosed ∷ [])))))))) ≡ true
base_light true c2 c3 c4 c5 c6 = refl
base_light false true c3 c4 c5 c6 = refl
base_light false false true c4 c5 c6 = refl
base_light false false false true c5 c6 = refl
base_light false false false false true c6 = refl
base_light false false false false false true = refl
base_light false false false false false false = refl

primary_tail_light : (c1 c2 : Bool) → is_lighter g.PrimaryTail (if c1 then (g.Opens b.Square ∷ g.Indexes ∷ g.Closes b.Square ∷ g.Wrap k.Slice ∷ g.PrimaryTail ∷ []) else (if c2 then (g.Opens b.Round ∷ g.Units ∷ g.Closes b.Round ∷ g.Wrap k.Call ∷ g.PrimaryTail ∷ []) else (([])))) ≡ true
primary_tail_light true c2 = refl
primary_tail_light false true = refl
primary_tail_light false false = refl

indexes_tail_light : (c1 : Bool) → is_lighter g.IndexesTail (if c1 then (g.Take t.Comma ∷ g.Indexes ∷ []) else (([]))) ≡ true
indexes_tail_light true = refl
indexes_tail_light false = refl

index_light : (c1 c2 : Bool) → is_lighter g.Index (if c1 then (g.Take t.Colon ∷ g.Trimmer ∷ []) else (if c2 then (g.AtPart ∷ []) else ((g.Begin ∷ g.Unit ∷ g.IndexTail ∷ [])))) ≡ true
index_light true c2 = refl
index_light false true = refl
index_light false false = refl

index_tail_light : (c1 : Bool) → is_lighter g.IndexTail (if c1 then (g.Close k.Lower ∷ g.Take t.Colon ∷ g.Trimmer ∷ []) else ((g.Leave ∷ []))) ≡ true
index_tail_light true = refl
index_tail_light false = refl

trimmer_light : (c1 : Bool) → is_lighter g.Trimmer (if c1 then (g.AtPart ∷ []) else ((g.Begin ∷ g.Unit ∷ g.Close k.Upper ∷ g.AtPart ∷ []))) ≡ true
trimmer_light true = refl
trimmer_light false = refl

at_part_light : (c1 : Bool) → is_lighter g.AtPart (if c1 then (g.Take t.At ∷ g.Begin ∷ g.Unit ∷ g.Close k.At ∷ []) else (([]))) ≡ true
at_part_light true = refl
at_part_light false = refl

declarer_light : (c1 c2 c3 c4 c5 c6 c7 c8 : Bool) → is_lighter g.Declarer (if c1 then (g.Take t.ModeWord ∷ []) else (if c2 then (g.Take t.Ref ∷ g.DeclarerNode ∷ []) else (if c3 then (g.Opens b.Square ∷ g.Bounds ∷ g.Closes b.Square ∷ g.DeclarerNode ∷ []) else (if c4 then (g.Take t.Flex ∷ g.Opens b.Square ∷ g.Bounds ∷ g.Closes b.Square ∷ g.DeclarerNode ∷ []) else (if c5 then (g.Take t.Struct ∷ g.Opens b.Round ∷ g.Fields ∷ g.Closes b.Round ∷ []) else (if c6 then (g.Take t.Union ∷ g.Opens b.Round ∷ g.DeclarerNode ∷ g.Take t.Comma ∷ g.Declarers ∷ g.Closes b.Round ∷ []) else (if c7 then (g.Take t.Proc ∷ g.ProcedurePlan ∷ []) else (if c8 then (g.Take t.Long ∷ g.Take t.Int ∷ []) else ((g.Plain ∷ [])))))))))) ≡ true
declarer_light true c2 c3 c4 c5 c6 c7 c8 = refl
declarer_light false true c3 c4 c5 c6 c7 c8 = refl
declarer_light false false true c4 c5 c6 c7 c8 = refl
declarer_light false false false true c5 c6 c7 c8 = refl
declarer_light false false false false true c6 c7 c8 = refl
declarer_light false false false false false true c7 c8 = refl
declarer_light false false false false false false true c8 = refl
declarer_light false false false false false false false true = refl
declarer_light false false false false false false false false = refl

procedure_plan_light : (c1 : Bool) → is_lighter g.ProcedurePlan (if c1 then (g.Opens b.Round ∷ g.Declarers ∷ g.Closes b.Round ∷ g.Yields ∷ []) else ((g.Yields ∷ []))) ≡ true
procedure_plan_light true = refl
procedure_plan_light false = refl

yields_light : (c1 : Bool) → is_lighter g.Yields (if c1 then (g.Begin ∷ g.Take t.Void ∷ g.Close k.VoidWord ∷ []) else ((g.DeclarerNode ∷ []))) ≡ true
yields_light true = refl
yields_light false = refl

declarers_tail_light : (c1 : Bool) → is_lighter g.DeclarersTail (if c1 then (g.Take t.Comma ∷ g.Declarers ∷ []) else (([]))) ≡ true
declarers_tail_light true = refl
declarers_tail_light false = refl

bounds_tail_light : (c1 : Bool) → is_lighter g.BoundsTail (if c1 then (g.Take t.Comma ∷ g.Bounds ∷ []) else (([]))) ≡ true
bounds_tail_light true = refl
bounds_tail_light false = refl

bound_light : (c1 c2 : Bool) → is_lighter g.Bound (if c1 then (g.Take t.Colon ∷ []) else (if c2 then ([]) else ((g.Begin ∷ g.Unit ∷ g.BoundTail ∷ [])))) ≡ true
bound_light true c2 = refl
bound_light false true = refl
bound_light false false = refl

bound_tail_light : (c1 : Bool) → is_lighter g.BoundTail (if c1 then (g.Close k.Lower ∷ g.Take t.Colon ∷ g.Begin ∷ g.Unit ∷ g.Close k.Upper ∷ []) else ((g.Close k.Upper ∷ []))) ≡ true
bound_tail_light true = refl
bound_tail_light false = refl

field_tail_light : (c1 : Bool) → is_lighter g.FieldTail (if c1 then (g.Take t.Comma ∷ g.FieldMore ∷ []) else (([]))) ≡ true
field_tail_light true = refl
field_tail_light false = refl

field_more_light : (c1 : Bool) → is_lighter g.FieldMore (if c1 then (g.FieldTags ∷ []) else ((g.Fields ∷ []))) ≡ true
field_more_light true = refl
field_more_light false = refl

definitions_light : (c1 c2 c3 c4 c5 c6 : Bool) → is_lighter g.Definitions (if c1 then (g.Take t.Mode ∷ g.Definition d.Mode ∷ g.Tail d.Mode ∷ []) else (if c2 then (g.Take t.Prio ∷ g.Definition d.Priority ∷ g.Tail d.Priority ∷ []) else (if c3 then (g.Take t.Op ∷ g.OperatorForm ∷ []) else (if c4 then (g.Take t.Proc ∷ g.ProcedureForm ∷ []) else (if c5 then (g.Take t.Loc ∷ g.Begin ∷ g.Declarer ∷ g.SetAside k.Declarer ∷ g.Definition d.Variable ∷ g.Tail d.Variable ∷ []) else (if c6 then (g.Begin ∷ g.Take t.Heap ∷ g.SetAside k.Heap ∷ g.Begin ∷ g.Declarer ∷ g.SetAside k.Declarer ∷ g.Definition d.Variable ∷ g.Tail d.Variable ∷ []) else ((g.Begin ∷ g.Declarer ∷ g.SetAside k.Declarer ∷ g.Named ∷ [])))))))) ≡ true
definitions_light true c2 c3 c4 c5 c6 = refl
definitions_light false true c3 c4 c5 c6 = refl
definitions_light false false true c4 c5 c6 = refl
definitions_light false false false true c5 c6 = refl
definitions_light false false false false true c6 = refl
definitions_light false false false false false true = refl
definitions_light false false false false false false = refl

operator_form_light : (c1 : Bool) → is_lighter g.OperatorForm (if c1 then (g.Begin ∷ g.Plan ∷ g.SetAside k.Plan ∷ g.Definition d.Planned ∷ g.Tail d.Planned ∷ []) else ((g.Definition d.Operator ∷ g.Tail d.Operator ∷ []))) ≡ true
operator_form_light true = refl
operator_form_light false = refl

procedure_form_light : (c1 : Bool) → is_lighter g.ProcedureForm (if c1 then (g.Definition d.ProcedureVariable ∷ g.Tail d.ProcedureVariable ∷ []) else ((g.Definition d.Procedure ∷ g.Tail d.Procedure ∷ []))) ≡ true
procedure_form_light true = refl
procedure_form_light false = refl

named_light : (c1 : Bool) → is_lighter g.Named (if c1 then (g.Definition d.Identity ∷ g.Tail d.Identity ∷ []) else ((g.Definition d.Variable ∷ g.Tail d.Variable ∷ []))) ≡ true
named_light true = refl
named_light false = refl

plan_tail_light : (c1 : Bool) → is_lighter g.PlanTail (if c1 then (g.Take t.Comma ∷ g.DeclarerNode ∷ []) else (([]))) ≡ true
plan_tail_light true = refl
plan_tail_light false = refl

initial_light : (c1 : Bool) → is_lighter g.Initial (if c1 then (g.Take t.Becomes ∷ g.Unit ∷ []) else (([]))) ≡ true
initial_light true = refl
initial_light false = refl

definition_light : (x : Defining) → is_lighter (g.Definition x) (declarations.definition x) ≡ true
definition_light d.Mode = refl
definition_light d.Priority = refl
definition_light d.Operator = refl
definition_light d.Planned = refl
definition_light d.Identity = refl
definition_light d.Procedure = refl
definition_light d.ProcedureVariable = refl
definition_light d.Variable = refl

tail_light : (x : Defining) (c : Bool) → is_lighter (g.Tail x) (if c then declarations.comma_more x else []) ≡ true
tail_light x true = refl
tail_light x false = refl

more_light : (x : Defining) (c : Bool) → is_lighter (g.More x) (if c then declarations.definition_tail x else g.Forget ∷ g.Definitions ∷ []) ≡ true
more_light x true = refl
more_light x false = refl

pub lighter_on : (goal : Goal) (text : List Sym) → OnGoals (expand goal text) (λ goals. is_lighter goal goals ≡ true)
lighter_on g.Enclosed text = enclosed_light (starts (Opens b.Round) text) (starts (Opens b.Begin) text) (starts (Is t.Par) text) (starts (Opens b.If) text) (starts (Opens b.Case) text) (starts (Is t.For) text)
lighter_on g.Brief text = brief_light (starts (Closes b.Round) text) (label_ahead text) (phrase_ahead text)
lighter_on g.BriefUnit text = brief_unit_light (starts (Is t.Comma) text)
lighter_on g.BriefTail text = brief_tail_light (starts (Is t.Semicolon) text) (starts (Is t.Exit) text)
lighter_on g.BriefSteps text = brief_steps_light (label_ahead text) (phrase_ahead text)
lighter_on g.BriefLabelled text = refl
lighter_on g.BriefEnd text = brief_end_light (starts (Is t.Bar) text)
lighter_on g.BriefChoice text = brief_choice_light (spec_ahead text) (label_ahead text) (phrase_ahead text)
lighter_on g.BriefChosen text = brief_chosen_light (starts (Is t.Comma) text)
lighter_on g.Block text = block_light (starts (Closes b.Begin) text) (label_ahead text) (phrase_ahead text)
lighter_on g.BlockUnit text = block_unit_light (starts (Is t.Comma) text)
lighter_on g.Parallel text = parallel_light (starts (Opens b.Round) text)
lighter_on g.CaseChoice text = case_choice_light (spec_ahead text)
lighter_on g.ElsePart text = else_part_light (starts (Is t.Elif) text) (starts (Is t.Else) text)
lighter_on g.ElseBrief text = else_brief_light (starts (Is t.BarColon) text) (starts (Is t.Bar) text)
lighter_on g.OutCase text = out_case_light (starts (Is t.Ouse) text) (starts (Is t.Out) text)
lighter_on g.OutCaseBrief text = out_case_brief_light (starts (Is t.BarColon) text) (starts (Is t.Bar) text)
lighter_on g.OutConformity text = out_conformity_light (starts (Is t.Ouse) text) (starts (Is t.Out) text)
lighter_on g.OutConformityBrief text = out_conformity_brief_light (starts (Is t.BarColon) text) (starts (Is t.Bar) text)
lighter_on g.LoopFrom text = loop_from_light (starts (Is t.From) text)
lighter_on g.LoopBy text = loop_by_light (starts (Is t.By) text)
lighter_on g.LoopTo text = loop_to_light (starts (Is t.To) text)
lighter_on g.LoopWhile text = loop_while_light (starts (Is t.While) text)
lighter_on g.Choices text = refl
lighter_on g.ChoicesTail text = choices_tail_light (starts (Is t.Comma) text)
lighter_on g.ChoiceSpec text = refl
lighter_on g.SpecTag text = spec_tag_light (starts (Is t.Tag) text)
lighter_on g.SerialNode text = refl
lighter_on g.Serial text = serial_light (label_ahead text) (phrase_ahead text)
lighter_on g.SerialTail text = serial_tail_light (starts (Is t.Semicolon) text) (starts (Is t.Exit) text)
lighter_on g.Labelled text = refl
lighter_on g.Steps text = steps_light (label_ahead text)
lighter_on g.StepsTail text = steps_tail_light (starts (Is t.Semicolon) text) (starts (Is t.Exit) text)
lighter_on g.EnquiryNode text = refl
lighter_on g.Enquiry text = enquiry_light (phrase_ahead text)
lighter_on g.EnquiryTail text = enquiry_tail_light (starts (Is t.Semicolon) text)
lighter_on g.Units text = refl
lighter_on g.UnitsTail text = units_tail_light (starts (Is t.Comma) text)
lighter_on g.Unit text = unit_light (starts (Is t.Skip) text) (starts (Is t.Go) text) (starts (Is t.Goto) text) (routine_ahead text)
lighter_on g.UnitTail text = unit_tail_light (starts (Is t.Becomes) text) (starts (Is t.Is) text) (starts (Is t.Isnt) text)
lighter_on g.Routine text = routine_light (starts (Opens b.Round) text)
lighter_on g.RoutineResult text = routine_result_light (starts (Is t.Void) text)
lighter_on g.Parameters text = refl
lighter_on g.ParameterTags text = refl
lighter_on g.ParameterTail text = parameter_tail_light (starts (Is t.Comma) text)
lighter_on g.ParameterMore text = parameter_more_light (starts (Is t.Tag) text)
lighter_on g.Tertiary text = tertiary_light (starts (Is t.Nil) text) (is_monadic text)
lighter_on g.TertiaryTail text = tertiary_tail_light (is_operator text)
lighter_on g.Operands text = operands_light (is_monadic text)
lighter_on g.OperandsTail text = operands_tail_light (is_operator text)
lighter_on g.Secondary text = secondary_light (starts_pair (Is t.Tag) (Is t.Of) text) (starts (Is t.Loc) text) (starts (Is t.Heap) text)
lighter_on g.Base text = base_light (starts (Is t.Tag) text) (is_denotation text) (starts_pair (Is t.Long) (Is t.Digit) text) (starts_pair (Is t.Long) (Is t.Number) text) (starts (Is t.Void) text) (is_declarer text)
lighter_on g.PrimaryTail text = primary_tail_light (starts (Opens b.Square) text) (starts (Opens b.Round) text)
lighter_on g.Indexes text = refl
lighter_on g.IndexesTail text = indexes_tail_light (starts (Is t.Comma) text)
lighter_on g.Index text = index_light (starts (Is t.Colon) text) (ends_trimmer text)
lighter_on g.IndexTail text = index_tail_light (starts (Is t.Colon) text)
lighter_on g.Trimmer text = trimmer_light (ends_trimmer text)
lighter_on g.AtPart text = at_part_light (starts (Is t.At) text)
lighter_on g.DeclarerNode text = refl
lighter_on g.Declarer text = declarer_light (starts (Is t.ModeWord) text) (starts (Is t.Ref) text) (starts (Opens b.Square) text) (starts (Is t.Flex) text) (starts (Is t.Struct) text) (starts (Is t.Union) text) (starts (Is t.Proc) text) (starts (Is t.Long) text)
lighter_on g.ProcedurePlan text = procedure_plan_light (starts (Opens b.Round) text)
lighter_on g.Yields text = yields_light (starts (Is t.Void) text)
lighter_on g.Declarers text = refl
lighter_on g.DeclarersTail text = declarers_tail_light (starts (Is t.Comma) text)
lighter_on g.Bounds text = refl
lighter_on g.BoundsTail text = bounds_tail_light (starts (Is t.Comma) text)
lighter_on g.Bound text = bound_light (starts (Is t.Colon) text) (ends_bound text)
lighter_on g.BoundTail text = bound_tail_light (starts (Is t.Colon) text)
lighter_on g.Fields text = refl
lighter_on g.FieldTags text = refl
lighter_on g.FieldTail text = field_tail_light (starts (Is t.Comma) text)
lighter_on g.FieldMore text = field_more_light (starts (Is t.Tag) text)
lighter_on g.Declaration text = refl
lighter_on g.Definitions text = definitions_light (starts (Is t.Mode) text) (starts (Is t.Prio) text) (starts (Is t.Op) text) (starts_pair (Is t.Proc) (Is t.Tag) text) (starts (Is t.Loc) text) (starts (Is t.Heap) text)
lighter_on g.OperatorForm text = operator_form_light (starts (Opens b.Round) text)
lighter_on g.ProcedureForm text = procedure_form_light (starts_pair (Is t.Tag) (Is t.Becomes) text)
lighter_on g.Named text = named_light (starts_pair (Is t.Tag) (Is t.Equals) text)
lighter_on g.Plan text = refl
lighter_on g.PlanTail text = plan_tail_light (starts (Is t.Comma) text)
lighter_on g.Initial text = initial_light (starts (Is t.Becomes) text)
lighter_on (g.Definition x) text = definition_light x
lighter_on (g.Tail x) text = tail_light x (starts (Is t.Comma) text)
lighter_on (g.More x) text = more_light x (declarations.goes_on x text)
lighter_on goal text = record {}
