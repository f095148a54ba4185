-- Inner: the headline does not rest on this file.
-- How much is to be done for goals before a symbol is taken.
use Rattle.std.specs.Prelude.{ℕ, ◌+◌, Bool, true, false, List, [], ◌∷◌, nat_lt, not, ◌&&◌, ◌||◌, if◌then◌else◌}
use Rattle.a68_unit_productions.specs.declared.goal.Goal.{Goal}
use Rattle.a68_unit_productions.specs.declared.goal.Goal.TheVariants as g

abbrev pub weight : Goal → ℕ
weight g.Enclosed = 6
weight g.Brief = 13
weight g.BriefUnit = 6
weight g.BriefTail = 4
weight g.BriefSteps = 12
weight g.BriefLabelled = 3
weight g.BriefEnd = 2
weight g.BriefChoice = 13
weight g.BriefChosen = 9
weight g.Block = 13
weight g.BlockUnit = 6
weight g.Parallel = 2
weight g.CaseChoice = 12
weight g.ElsePart = 3
weight g.ElseBrief = 3
weight g.OutCase = 4
weight g.OutCaseBrief = 4
weight g.OutConformity = 4
weight g.OutConformityBrief = 4
weight g.LoopFrom = 5
weight g.LoopBy = 4
weight g.LoopTo = 3
weight g.LoopWhile = 2
weight g.Choices = 4
weight g.ChoicesTail = 2
weight g.ChoiceSpec = 2
weight g.SpecTag = 3
weight g.SerialNode = 14
weight g.Serial = 12
weight g.SerialTail = 3
weight g.Labelled = 3
weight g.Steps = 12
weight g.StepsTail = 3
weight g.EnquiryNode = 14
weight g.Enquiry = 12
weight g.EnquiryTail = 2
weight g.Units = 12
weight g.UnitsTail = 2
weight g.Unit = 11
weight g.UnitTail = 2
weight g.Routine = 6
weight g.RoutineResult = 5
weight g.Parameters = 5
weight g.ParameterTags = 3
weight g.ParameterTail = 2
weight g.ParameterMore = 6
weight g.Tertiary = 9
weight g.TertiaryTail = 2
weight g.Operands = 10
weight g.OperandsTail = 2
weight g.Secondary = 8
weight g.Base = 7
weight g.PrimaryTail = 2
weight g.Indexes = 18
weight g.IndexesTail = 2
weight g.Index = 13
weight g.IndexTail = 3
weight g.Trimmer = 13
weight g.AtPart = 2
weight g.DeclarerNode = 4
weight g.Declarer = 2
weight g.ProcedurePlan = 6
weight g.Yields = 5
weight g.Declarers = 5
weight g.DeclarersTail = 2
weight g.Bounds = 18
weight g.BoundsTail = 2
weight g.Bound = 13
weight g.BoundTail = 3
weight g.Fields = 5
weight g.FieldTags = 3
weight g.FieldTail = 2
weight g.FieldMore = 6
weight g.Declaration = 7
weight g.Definitions = 4
weight g.OperatorForm = 5
weight g.ProcedureForm = 5
weight g.Named = 5
weight g.Plan = 2
weight g.PlanTail = 2
weight g.Initial = 2
weight (g.Definition x) = 4
weight (g.Tail x) = 2
weight (g.More x) = 6
weight goal = 1

-- whether a goal is to take a symbol
abbrev pub is_taking : Goal → Bool
is_taking (g.Take s) = true
is_taking (g.Opens c) = true
is_taking (g.Closes c) = true
is_taking g.Monadic = true
is_taking g.Dyadic = true
is_taking g.Operator = true
is_taking g.Denotation = true
is_taking g.Plain = true
is_taking goal = false

-- whether a symbol is taken for a goal, whatever the text
abbrev pub is_sure : Goal → Bool
is_sure g.ElsePart = false
is_sure g.ElseBrief = false
is_sure g.OutCase = false
is_sure g.OutCaseBrief = false
is_sure g.OutConformity = false
is_sure g.OutConformityBrief = false
is_sure g.ChoicesTail = false
is_sure g.SpecTag = false
is_sure g.SerialTail = false
is_sure g.StepsTail = false
is_sure g.EnquiryTail = false
is_sure g.UnitsTail = false
is_sure g.UnitTail = false
is_sure g.ParameterTail = false
is_sure g.TertiaryTail = false
is_sure g.OperandsTail = false
is_sure g.PrimaryTail = false
is_sure g.Indexes = false
is_sure g.IndexesTail = false
is_sure g.Index = false
is_sure g.IndexTail = false
is_sure g.Trimmer = false
is_sure g.AtPart = false
is_sure g.DeclarersTail = false
is_sure g.Bounds = false
is_sure g.BoundsTail = false
is_sure g.Bound = false
is_sure g.BoundTail = false
is_sure g.FieldTail = false
is_sure g.PlanTail = false
is_sure g.Initial = false
is_sure (g.Tail x) = false
is_sure g.Begin = false
is_sure g.Leave = false
is_sure (g.Wrap j) = false
is_sure g.Relate = false
is_sure g.WrapLong = false
is_sure g.Leap = false
is_sure (g.Close j) = false
is_sure (g.SetAside j) = false
is_sure g.Share = false
is_sure g.Forget = false
is_sure g.Join = false
is_sure goal = true

-- what is to be done before a symbol is taken for sure
abbrev pub weights : List Goal → ℕ
weights [] = 0
weights (goal ∷ goals) = weight goal + (if is_sure goal then 0 else weights goals)

abbrev pub has_sure : List Goal → Bool
has_sure [] = false
has_sure (goal ∷ goals) = is_sure goal || has_sure goals

-- less is to be done for the goals than for the form that they make, and a symbol is taken for them if for it
abbrev pub is_lighter : Goal → List Goal → Bool
is_lighter goal goals = nat_lt (weights goals) (weight goal) && (has_sure goals || not (is_sure goal))
