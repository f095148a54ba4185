-- A goal that is neither a form nor to take a symbol is to do something.
use Rattle.std.proofs.Common.{◌≡◌, Bool, true, false, Option, None, Some, List, refl}
use Rattle.std.proofs.lemmas.Bool.{true≢false}
use Rattle.a68_symbols.specs.declared.sym.Sym.{Sym}
use Rattle.a68_unit_productions.specs.declared.goal.Goal.{Goal}
use Rattle.a68_unit_productions.specs.declared.goal.Goal.TheVariants as g
use Rattle.a68_productions.specs.Expand.{expand}
use Rattle.a68_read.specs.Weights.{is_taking}
use Rattle.a68_read.specs.Acts.{is_acting}

-- whether a goal is a form
abbrev pub is_some : Option (List Goal) → Bool
is_some None = false
is_some (Some goals) = true

pub only_acts : (goal : Goal) (text : List Sym) → is_some (expand goal text) ≡ false → is_taking goal ≡ false → is_acting goal ≡ true
only_acts g.Enclosed text e h = absurd (true≢false e)
only_acts g.Brief text e h = absurd (true≢false e)
only_acts g.BriefUnit text e h = absurd (true≢false e)
only_acts g.BriefTail text e h = absurd (true≢false e)
only_acts g.BriefSteps text e h = absurd (true≢false e)
only_acts g.BriefLabelled text e h = absurd (true≢false e)
only_acts g.BriefEnd text e h = absurd (true≢false e)
only_acts g.BriefChoice text e h = absurd (true≢false e)
only_acts g.BriefChosen text e h = absurd (true≢false e)
only_acts g.Block text e h = absurd (true≢false e)
only_acts g.BlockUnit text e h = absurd (true≢false e)
only_acts g.Parallel text e h = absurd (true≢false e)
only_acts g.CaseChoice text e h = absurd (true≢false e)
only_acts g.ElsePart text e h = absurd (true≢false e)
only_acts g.ElseBrief text e h = absurd (true≢false e)
only_acts g.OutCase text e h = absurd (true≢false e)
only_acts g.OutCaseBrief text e h = absurd (true≢false e)
only_acts g.OutConformity text e h = absurd (true≢false e)
only_acts g.OutConformityBrief text e h = absurd (true≢false e)
only_acts g.LoopFrom text e h = absurd (true≢false e)
only_acts g.LoopBy text e h = absurd (true≢false e)
only_acts g.LoopTo text e h = absurd (true≢false e)
only_acts g.LoopWhile text e h = absurd (true≢false e)
only_acts g.Choices text e h = absurd (true≢false e)
only_acts g.ChoicesTail text e h = absurd (true≢false e)
only_acts g.ChoiceSpec text e h = absurd (true≢false e)
only_acts g.SpecTag text e h = absurd (true≢false e)
only_acts g.SerialNode text e h = absurd (true≢false e)
only_acts g.Serial text e h = absurd (true≢false e)
only_acts g.SerialTail text e h = absurd (true≢false e)
only_acts g.Labelled text e h = absurd (true≢false e)
only_acts g.Steps text e h = absurd (true≢false e)
only_acts g.StepsTail text e h = absurd (true≢false e)
only_acts g.EnquiryNode text e h = absurd (true≢false e)
only_acts g.Enquiry text e h = absurd (true≢false e)
only_acts g.EnquiryTail text e h = absurd (true≢false e)
only_acts g.Units text e h = absurd (true≢false e)
only_acts g.UnitsTail text e h = absurd (true≢false e)
only_acts g.Unit text e h = absurd (true≢false e)
only_acts g.UnitTail text e h = absurd (true≢false e)
only_acts g.Routine text e h = absurd (true≢false e)
only_acts g.RoutineResult text e h = absurd (true≢false e)
only_acts g.Parameters text e h = absurd (true≢false e)
only_acts g.ParameterTags text e h = absurd (true≢false e)
only_acts g.ParameterTail text e h = absurd (true≢false e)
only_acts g.ParameterMore text e h = absurd (true≢false e)
only_acts g.Tertiary text e h = absurd (true≢false e)
only_acts g.TertiaryTail text e h = absurd (true≢false e)
only_acts g.Operands text e h = absurd (true≢false e)
only_acts g.OperandsTail text e h = absurd (true≢false e)
only_acts g.Secondary text e h = absurd (true≢false e)
only_acts g.Base text e h = absurd (true≢false e)
only_acts g.PrimaryTail text e h = absurd (true≢false e)
only_acts g.Indexes text e h = absurd (true≢false e)
only_acts g.IndexesTail text e h = absurd (true≢false e)
only_acts g.Index text e h = absurd (true≢false e)
only_acts g.IndexTail text e h = absurd (true≢false e)
only_acts g.Trimmer text e h = absurd (true≢false e)
only_acts g.AtPart text e h = absurd (true≢false e)
only_acts g.DeclarerNode text e h = absurd (true≢false e)
only_acts g.Declarer text e h = absurd (true≢false e)
only_acts g.ProcedurePlan text e h = absurd (true≢false e)
only_acts g.Yields text e h = absurd (true≢false e)
only_acts g.Declarers text e h = absurd (true≢false e)
only_acts g.DeclarersTail text e h = absurd (true≢false e)
only_acts g.Bounds text e h = absurd (true≢false e)
only_acts g.BoundsTail text e h = absurd (true≢false e)
only_acts g.Bound text e h = absurd (true≢false e)
only_acts g.BoundTail text e h = absurd (true≢false e)
only_acts g.Fields text e h = absurd (true≢false e)
only_acts g.FieldTags text e h = absurd (true≢false e)
only_acts g.FieldTail text e h = absurd (true≢false e)
only_acts g.FieldMore text e h = absurd (true≢false e)
only_acts g.Declaration text e h = absurd (true≢false e)
only_acts g.Definitions text e h = absurd (true≢false e)
only_acts g.OperatorForm text e h = absurd (true≢false e)
only_acts g.ProcedureForm text e h = absurd (true≢false e)
only_acts g.Named text e h = absurd (true≢false e)
only_acts g.Plan text e h = absurd (true≢false e)
only_acts g.PlanTail text e h = absurd (true≢false e)
only_acts g.Initial text e h = absurd (true≢false e)
only_acts (g.Definition x) text e h = absurd (true≢false e)
only_acts (g.Tail x) text e h = absurd (true≢false e)
only_acts (g.More x) text e h = absurd (true≢false e)
only_acts (g.Take x) text e h = absurd (true≢false h)
only_acts (g.Opens x) text e h = absurd (true≢false h)
only_acts (g.Closes x) text e h = absurd (true≢false h)
only_acts g.Monadic text e h = absurd (true≢false h)
only_acts g.Dyadic text e h = absurd (true≢false h)
only_acts g.Operator text e h = absurd (true≢false h)
only_acts g.Denotation text e h = absurd (true≢false h)
only_acts g.Plain text e h = absurd (true≢false h)
only_acts g.Begin text e h = refl
only_acts g.Leave text e h = refl
only_acts (g.Wrap x) text e h = refl
only_acts g.Relate text e h = refl
only_acts g.WrapLong text e h = refl
only_acts g.Leap text e h = refl
only_acts (g.Close x) text e h = refl
only_acts (g.SetAside x) text e h = refl
only_acts g.Share text e h = refl
only_acts g.Forget text e h = refl
only_acts g.Join text e h = refl
