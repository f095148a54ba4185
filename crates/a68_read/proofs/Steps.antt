-- One goal after another: where a goal fits and stands for what is at the front of a text, so do the goals that it is
-- made of.
use Rattle.std.proofs.Common.{Option, Some, None, List, [], ◌∷◌}
use Rattle.a68_symbols.specs.declared.sym.Sym.{Sym}
use Rattle.a68_nodes.specs.Stack.{Layer}
use Rattle.a68_unit_productions.specs.declared.goal.Goal.{Goal}
use Rattle.a68_unit_productions.specs.declared.goal.Goal.TheVariants as g
use Rattle.a68_productions.specs.Expand.{expand}
use Rattle.a68_read.specs.Fits.{Shape, fits, all_fit}
use Rattle.a68_read.specs.Awaits.{Awaited, awaits, all_await}
use Rattle.a68_read.proofs.FitClauses as fit_clauses
use Rattle.a68_read.proofs.AwaitClauses as await_clauses
use Rattle.a68_read.proofs.FitChoices as fit_choices
use Rattle.a68_read.proofs.AwaitChoices as await_choices
use Rattle.a68_read.proofs.FitUnits as fit_units
use Rattle.a68_read.proofs.AwaitUnits as await_units
use Rattle.a68_read.proofs.FitPrimaries as fit_primaries
use Rattle.a68_read.proofs.AwaitPrimaries as await_primaries
use Rattle.a68_read.proofs.FitDeclarers as fit_declarers
use Rattle.a68_read.proofs.AwaitDeclarers as await_declarers
use Rattle.a68_read.proofs.FitDeclarations as fit_declarations
use Rattle.a68_read.proofs.AwaitDeclarations as await_declarations

-- of the goals that a form is made of, if any
abbrev pub OnGoals : Option (List Goal) → (List Goal → Type 0) → Type 0
OnGoals None P = Unit {0}
OnGoals (Some goals) P = P goals

pub fits_on : (K : Shape) (goal : Goal) (S : List Layer) (text : List Sym) → fits goal K S → OnGoals (expand goal text) (λ goals. all_fit goals K S)
fits_on K g.Enclosed S text h = fit_clauses.enclosed_fits K S text h
fits_on K g.Brief S text h = fit_clauses.brief_fits K S text h
fits_on K g.BriefUnit S text h = fit_clauses.brief_unit_fits K S text h
fits_on K g.BriefTail S text h = fit_clauses.brief_tail_fits K S text h
fits_on K g.BriefSteps S text h = fit_clauses.brief_steps_fits K S text h
fits_on K g.BriefLabelled S text h = fit_clauses.brief_labelled_fits K S h
fits_on K g.BriefEnd S text h = fit_clauses.brief_end_fits K S text h
fits_on K g.BriefChoice S text h = fit_clauses.brief_choice_fits K S text h
fits_on K g.BriefChosen S text h = fit_clauses.brief_chosen_fits K S text h
fits_on K g.Block S text h = fit_clauses.block_fits K S text h
fits_on K g.BlockUnit S text h = fit_clauses.block_unit_fits K S text h
fits_on K g.Parallel S text h = fit_clauses.parallel_fits K S text h
fits_on K g.CaseChoice S text h = fit_clauses.case_choice_fits K S text h
fits_on K g.ElsePart [] text h = absurd h
fits_on K g.ElsePart (l ∷ S) text h = fit_choices.else_part_fits K l S text h
fits_on K g.ElseBrief [] text h = absurd h
fits_on K g.ElseBrief (l ∷ S) text h = fit_choices.else_brief_fits K l S text h
fits_on K g.OutCase [] text h = absurd h
fits_on K g.OutCase (l ∷ S) text h = fit_choices.out_case_fits K l S text h
fits_on K g.OutCaseBrief [] text h = absurd h
fits_on K g.OutCaseBrief (l ∷ S) text h = fit_choices.out_case_brief_fits K l S text h
fits_on K g.OutConformity [] text h = absurd h
fits_on K g.OutConformity (l ∷ S) text h = fit_choices.out_conformity_fits K l S text h
fits_on K g.OutConformityBrief [] text h = absurd h
fits_on K g.OutConformityBrief (l ∷ S) text h = fit_choices.out_conformity_brief_fits K l S text h
fits_on K g.LoopFrom [] text h = absurd h
fits_on K g.LoopFrom (l ∷ S) text h = fit_choices.loop_from_fits K l S text h
fits_on K g.LoopBy [] text h = absurd h
fits_on K g.LoopBy (l ∷ S) text h = fit_choices.loop_by_fits K l S text h
fits_on K g.LoopTo [] text h = absurd h
fits_on K g.LoopTo (l ∷ S) text h = fit_choices.loop_to_fits K l S text h
fits_on K g.LoopWhile [] text h = absurd h
fits_on K g.LoopWhile (l ∷ S) text h = fit_choices.loop_while_fits K l S text h
fits_on K g.Choices [] text h = absurd h
fits_on K g.Choices (l ∷ S) text h = fit_choices.choices_fits K l S h
fits_on K g.ChoicesTail [] text h = absurd h
fits_on K g.ChoicesTail (l ∷ S) text h = fit_choices.choices_tail_fits K l S text h
fits_on K g.ChoiceSpec [] text h = absurd h
fits_on K g.ChoiceSpec (l ∷ S) text h = fit_choices.choice_spec_fits K l S h
fits_on K g.SpecTag [] text h = absurd h
fits_on K g.SpecTag (l ∷ S) text h = fit_choices.spec_tag_fits K l S text h
fits_on K g.SerialNode [] text h = absurd h
fits_on K g.SerialNode (l ∷ S) text h = fit_units.serial_node_fits K l S h
fits_on K g.Serial [] text h = absurd h
fits_on K g.Serial (l ∷ S) text h = fit_units.serial_fits K l S text h
fits_on K g.SerialTail [] text h = absurd h
fits_on K g.SerialTail (l ∷ S) text h = fit_units.serial_tail_fits K l S text h
fits_on K g.Labelled [] text h = absurd h
fits_on K g.Labelled (l ∷ S) text h = fit_units.labelled_fits K l S h
fits_on K g.Steps [] text h = absurd h
fits_on K g.Steps (l ∷ S) text h = fit_units.steps_fits K l S text h
fits_on K g.StepsTail [] text h = absurd h
fits_on K g.StepsTail (l ∷ S) text h = fit_units.steps_tail_fits K l S text h
fits_on K g.EnquiryNode [] text h = absurd h
fits_on K g.EnquiryNode (l ∷ S) text h = fit_units.enquiry_node_fits K l S h
fits_on K g.Enquiry [] text h = absurd h
fits_on K g.Enquiry (l ∷ S) text h = fit_units.enquiry_fits K l S text h
fits_on K g.EnquiryTail [] text h = absurd h
fits_on K g.EnquiryTail (l ∷ S) text h = fit_units.enquiry_tail_fits K l S text h
fits_on K g.Units [] text h = absurd h
fits_on K g.Units (l ∷ S) text h = fit_units.units_fits K l S h
fits_on K g.UnitsTail [] text h = absurd h
fits_on K g.UnitsTail (l ∷ S) text h = fit_units.units_tail_fits K l S text h
fits_on K g.Unit [] text h = absurd h
fits_on K g.Unit (l ∷ S) text h = fit_units.unit_fits K l S text h
fits_on K g.UnitTail S text h = fit_units.unit_tail_fits K S text h
fits_on K g.Routine [] text h = absurd h
fits_on K g.Routine (l ∷ S) text h = fit_units.routine_fits K l S text h
fits_on K g.RoutineResult [] text h = absurd h
fits_on K g.RoutineResult (l ∷ S) text h = fit_units.routine_result_fits K l S text h
fits_on K g.Parameters [] text h = absurd h
fits_on K g.Parameters (l ∷ S) text h = fit_units.parameters_fits K l S h
fits_on K g.ParameterTags [] text h = absurd h
fits_on K g.ParameterTags (l ∷ S) text h = fit_units.parameter_tags_fits K l S h
fits_on K g.ParameterTail [] text h = absurd h
fits_on K g.ParameterTail (l ∷ S) text h = fit_units.parameter_tail_fits K l S text h
fits_on K g.ParameterMore [] text h = absurd h
fits_on K g.ParameterMore (l ∷ S) text h = fit_units.parameter_more_fits K l S text h
fits_on K g.Tertiary S text h = fit_units.tertiary_fits K S text h
fits_on K g.TertiaryTail S text h = fit_units.tertiary_tail_fits K S text h
fits_on K g.Operands [] text h = absurd h
fits_on K g.Operands (l ∷ S) text h = fit_units.operands_fits K l S text h
fits_on K g.OperandsTail [] text h = absurd h
fits_on K g.OperandsTail (l ∷ S) text h = fit_units.operands_tail_fits K l S text h
fits_on K g.Secondary S text h = fit_primaries.secondary_fits K S text h
fits_on K g.Base S text h = fit_primaries.base_fits K S text h
fits_on K g.PrimaryTail S text h = fit_primaries.primary_tail_fits K S text h
fits_on K g.Indexes [] text h = absurd h
fits_on K g.Indexes (l ∷ S) text h = fit_primaries.indexes_fits K l S h
fits_on K g.IndexesTail [] text h = absurd h
fits_on K g.IndexesTail (l ∷ S) text h = fit_primaries.indexes_tail_fits K l S text h
fits_on K g.Index [] text h = absurd h
fits_on K g.Index (l ∷ S) text h = fit_primaries.index_fits K l S text h
fits_on K g.IndexTail S text h = fit_primaries.index_tail_fits K S text h
fits_on K g.Trimmer [] text h = absurd h
fits_on K g.Trimmer (l ∷ S) text h = fit_primaries.trimmer_fits K l S text h
fits_on K g.AtPart [] text h = absurd h
fits_on K g.AtPart (l ∷ S) text h = fit_primaries.at_part_fits K l S text h
fits_on K g.DeclarerNode [] text h = absurd h
fits_on K g.DeclarerNode (l ∷ S) text h = fit_declarers.declarer_node_fits K l S h
fits_on K g.Declarer [] text h = absurd h
fits_on K g.Declarer (l ∷ S) text h = fit_declarers.declarer_fits K l S text h
fits_on K g.ProcedurePlan [] text h = absurd h
fits_on K g.ProcedurePlan (l ∷ S) text h = fit_declarers.procedure_plan_fits K l S text h
fits_on K g.Yields [] text h = absurd h
fits_on K g.Yields (l ∷ S) text h = fit_declarers.yields_fits K l S text h
fits_on K g.Declarers [] text h = absurd h
fits_on K g.Declarers (l ∷ S) text h = fit_declarers.declarers_fits K l S h
fits_on K g.DeclarersTail [] text h = absurd h
fits_on K g.DeclarersTail (l ∷ S) text h = fit_declarers.declarers_tail_fits K l S text h
fits_on K g.Bounds [] text h = absurd h
fits_on K g.Bounds (l ∷ S) text h = fit_declarers.bounds_fits K l S h
fits_on K g.BoundsTail [] text h = absurd h
fits_on K g.BoundsTail (l ∷ S) text h = fit_declarers.bounds_tail_fits K l S text h
fits_on K g.Bound [] text h = absurd h
fits_on K g.Bound (l ∷ S) text h = fit_declarers.bound_fits K l S text h
fits_on K g.BoundTail S text h = fit_declarers.bound_tail_fits K S text h
fits_on K g.Fields [] text h = absurd h
fits_on K g.Fields (l ∷ S) text h = fit_declarers.fields_fits K l S h
fits_on K g.FieldTags [] text h = absurd h
fits_on K g.FieldTags (l ∷ S) text h = fit_declarers.field_tags_fits K l S h
fits_on K g.FieldTail [] text h = absurd h
fits_on K g.FieldTail (l ∷ S) text h = fit_declarers.field_tail_fits K l S text h
fits_on K g.FieldMore [] text h = absurd h
fits_on K g.FieldMore (l ∷ S) text h = fit_declarers.field_more_fits K l S text h
fits_on K g.Declaration [] text h = absurd h
fits_on K g.Declaration (l ∷ S) text h = fit_declarations.declaration_fits K l S h
fits_on K g.Definitions [] text h = absurd h
fits_on K g.Definitions (l ∷ S) text h = fit_declarations.definitions_fits K l S text h
fits_on K g.OperatorForm [] text h = absurd h
fits_on K g.OperatorForm (l ∷ S) text h = fit_declarations.operator_form_fits K l S text h
fits_on K g.ProcedureForm [] text h = absurd h
fits_on K g.ProcedureForm (l ∷ S) text h = fit_declarations.procedure_form_fits K l S text h
fits_on K g.Named [] text h = absurd h
fits_on K g.Named (l ∷ S) text h = fit_declarations.named_fits K l S text h
fits_on K g.Plan [] text h = absurd h
fits_on K g.Plan (l ∷ S) text h = fit_declarations.plan_fits K l S h
fits_on K g.PlanTail [] text h = absurd h
fits_on K g.PlanTail (l ∷ S) text h = fit_declarations.plan_tail_fits K l S text h
fits_on K g.Initial [] text h = absurd h
fits_on K g.Initial (l ∷ S) text h = fit_declarations.initial_fits K l S text h
fits_on K (g.Definition x) [] text h = absurd h
fits_on K (g.Definition x) (l ∷ S) text h = fit_declarations.definition_fits K l S x h
fits_on K (g.Tail x) [] text h = absurd h
fits_on K (g.Tail x) (l ∷ S) text h = fit_declarations.tail_fits K l S x text h
fits_on K (g.More x) [] text h = absurd h
fits_on K (g.More x) (l ∷ S) text h = fit_declarations.more_fits K l S x text h
fits_on K goal S text h = record {}

pub awaits_on : (K0 : Shape) (K : Awaited) (goal : Goal) (S : List Layer) (text : List Sym) → fits goal K0 S → awaits goal K S text → OnGoals (expand goal text) (λ goals. all_await goals K S text)
awaits_on K0 K g.Enclosed S text e h = await_clauses.enclosed_awaits K0 K S text e h
awaits_on K0 K g.Brief S text e h = await_clauses.brief_awaits K0 K S text e h
awaits_on K0 K g.BriefUnit S text e h = await_clauses.brief_unit_awaits K0 K S text e h
awaits_on K0 K g.BriefTail S text e h = await_clauses.brief_tail_awaits K0 K S text e h
awaits_on K0 K g.BriefSteps S text e h = await_clauses.brief_steps_awaits K0 K S text e h
awaits_on K0 K g.BriefLabelled S text e h = await_clauses.brief_labelled_awaits K0 K S text e h
awaits_on K0 K g.BriefEnd S text e h = await_clauses.brief_end_awaits K0 K S text e h
awaits_on K0 K g.BriefChoice S text e h = await_clauses.brief_choice_awaits K0 K S text e h
awaits_on K0 K g.BriefChosen S text e h = await_clauses.brief_chosen_awaits K0 K S text e h
awaits_on K0 K g.Block S text e h = await_clauses.block_awaits K0 K S text e h
awaits_on K0 K g.BlockUnit S text e h = await_clauses.block_unit_awaits K0 K S text e h
awaits_on K0 K g.Parallel S text e h = await_clauses.parallel_awaits K0 K S text e h
awaits_on K0 K g.CaseChoice S text e h = await_clauses.case_choice_awaits K0 K S text e h
awaits_on K0 K g.ElsePart S text e h = await_choices.else_part_awaits K S text h
awaits_on K0 K g.ElseBrief S text e h = await_choices.else_brief_awaits K S text h
awaits_on K0 K g.OutCase S text e h = await_choices.out_case_awaits K S text h
awaits_on K0 K g.OutCaseBrief S text e h = await_choices.out_case_brief_awaits K S text h
awaits_on K0 K g.OutConformity S text e h = await_choices.out_conformity_awaits K S text h
awaits_on K0 K g.OutConformityBrief S text e h = await_choices.out_conformity_brief_awaits K S text h
awaits_on K0 K g.LoopFrom S text e h = await_choices.loop_from_awaits K S text h
awaits_on K0 K g.LoopBy S text e h = await_choices.loop_by_awaits K S text h
awaits_on K0 K g.LoopTo S text e h = await_choices.loop_to_awaits K S text h
awaits_on K0 K g.LoopWhile S text e h = await_choices.loop_while_awaits K S text h
awaits_on K0 K g.Choices S text e h = await_choices.choices_awaits K S text h
awaits_on K0 K g.ChoicesTail S text e h = await_choices.choices_tail_awaits K S text h
awaits_on K0 K g.ChoiceSpec S text e h = await_choices.choice_spec_awaits K S text h
awaits_on K0 K g.SpecTag S text e h = await_choices.spec_tag_awaits K S text h
awaits_on K0 K g.SerialNode S text e h = await_units.serial_node_awaits K S text h
awaits_on K0 K g.Serial S text e h = await_units.serial_awaits K S text h
awaits_on K0 K g.SerialTail S text e h = await_units.serial_tail_awaits K S text h
awaits_on K0 K g.Labelled S text e h = await_units.labelled_awaits K S text h
awaits_on K0 K g.Steps S text e h = await_units.steps_awaits K S text h
awaits_on K0 K g.StepsTail S text e h = await_units.steps_tail_awaits K S text h
awaits_on K0 K g.EnquiryNode S text e h = await_units.enquiry_node_awaits K S text h
awaits_on K0 K g.Enquiry S text e h = await_units.enquiry_awaits K S text h
awaits_on K0 K g.EnquiryTail S text e h = await_units.enquiry_tail_awaits K S text h
awaits_on K0 K g.Units S text e h = await_units.units_awaits K S text h
awaits_on K0 K g.UnitsTail S text e h = await_units.units_tail_awaits K S text h
awaits_on K0 K g.Unit S text e h = await_units.unit_awaits K S text h
awaits_on K0 K g.UnitTail S text e h = await_units.unit_tail_awaits K0 K S text e h
awaits_on K0 K g.Routine S text e h = await_units.routine_awaits K S text h
awaits_on K0 K g.RoutineResult S text e h = await_units.routine_result_awaits K S text h
awaits_on K0 K g.Parameters S text e h = await_units.parameters_awaits K S text h
awaits_on K0 K g.ParameterTags S text e h = await_units.parameter_tags_awaits K S text h
awaits_on K0 K g.ParameterTail S text e h = await_units.parameter_tail_awaits K S text h
awaits_on K0 K g.ParameterMore S text e h = await_units.parameter_more_awaits K S text h
awaits_on K0 K g.Tertiary S text e h = await_units.tertiary_awaits K0 K S text e h
awaits_on K0 K g.TertiaryTail S text e h = await_units.tertiary_tail_awaits K0 K S text e h
awaits_on K0 K g.Operands S text e h = await_units.operands_awaits K S text h
awaits_on K0 K g.OperandsTail S text e h = await_units.operands_tail_awaits K S text h
awaits_on K0 K g.Secondary S text e h = await_primaries.secondary_awaits K0 K S text e h
awaits_on K0 K g.Base S text e h = await_primaries.base_awaits K0 K S text e h
awaits_on K0 K g.PrimaryTail S text e h = await_primaries.primary_tail_awaits K0 K S text e h
awaits_on K0 K g.Indexes S text e h = await_primaries.indexes_awaits K S text h
awaits_on K0 K g.IndexesTail S text e h = await_primaries.indexes_tail_awaits K S text h
awaits_on K0 K g.Index S text e h = await_primaries.index_awaits K S text h
awaits_on K0 K g.IndexTail S text e h = await_primaries.index_tail_awaits K0 K S text e h
awaits_on K0 K g.Trimmer S text e h = await_primaries.trimmer_awaits K S text h
awaits_on K0 K g.AtPart S text e h = await_primaries.at_part_awaits K S text h
awaits_on K0 K g.DeclarerNode S text e h = await_declarers.declarer_node_awaits K S text h
awaits_on K0 K g.Declarer S text e h = await_declarers.declarer_awaits K S text h
awaits_on K0 K g.ProcedurePlan S text e h = await_declarers.procedure_plan_awaits K S text h
awaits_on K0 K g.Yields S text e h = await_declarers.yields_awaits K S text h
awaits_on K0 K g.Declarers S text e h = await_declarers.declarers_awaits K S text h
awaits_on K0 K g.DeclarersTail S text e h = await_declarers.declarers_tail_awaits K S text h
awaits_on K0 K g.Bounds S text e h = await_declarers.bounds_awaits K S text h
awaits_on K0 K g.BoundsTail S text e h = await_declarers.bounds_tail_awaits K S text h
awaits_on K0 K g.Bound S text e h = await_declarers.bound_awaits K S text h
awaits_on K0 K g.BoundTail S text e h = await_declarers.bound_tail_awaits K0 K S text e h
awaits_on K0 K g.Fields S text e h = await_declarers.fields_awaits K S text h
awaits_on K0 K g.FieldTags S text e h = await_declarers.field_tags_awaits K S text h
awaits_on K0 K g.FieldTail S text e h = await_declarers.field_tail_awaits K S text h
awaits_on K0 K g.FieldMore S text e h = await_declarers.field_more_awaits K S text h
awaits_on K0 K g.Declaration S text e h = await_declarations.declaration_awaits K S text h
awaits_on K0 K g.Definitions S text e h = await_declarations.definitions_awaits K S text h
awaits_on K0 K g.OperatorForm S text e h = await_declarations.operator_form_awaits K S text h
awaits_on K0 K g.ProcedureForm S text e h = await_declarations.procedure_form_awaits K S text h
awaits_on K0 K g.Named S text e h = await_declarations.named_awaits K S text h
awaits_on K0 K g.Plan S text e h = await_declarations.plan_awaits K S text h
awaits_on K0 K g.PlanTail S text e h = await_declarations.plan_tail_awaits K S text h
awaits_on K0 K g.Initial S text e h = await_declarations.initial_awaits K S text h
awaits_on K0 K (g.Definition y) S text e h = await_declarations.definition_awaits K S y text h
awaits_on K0 K (g.Tail y) S text e h = await_declarations.tail_awaits K S y text h
awaits_on K0 K (g.More y) S text e h = await_declarations.more_awaits K S y text h
awaits_on K0 K goal S text e h = record {}
