-- Where a goal fits, what it is made of fits: serial clauses, units and formulas.
use Rattle.std.proofs.Common.{Bool, true, false, List, [], ◌∷◌, refl, if◌then◌else◌}
use Rattle.a68_tree.specs.declared.kind.NodeKind.TheVariants as k
use Rattle.a68_symbols.specs.declared.sym.Token.TheVariants as t
use Rattle.a68_symbols.specs.declared.sym.Bracket.TheVariants as b
use Rattle.a68_symbols.specs.declared.sym.Sym.{Sym}
use Rattle.a68_tree.specs.Grammar as gr
use Rattle.a68_nodes.specs.Stack.{Layer}
use Rattle.a68_unit_productions.specs.declared.goal.Goal.TheVariants as g
use Rattle.a68_read.specs.Middles as m
use Rattle.a68_read.specs.Fits as f
use Rattle.a68_read.specs.Fits.{Shape, fits, all_fit}
use Rattle.a68_read.proofs.Joins.{back, back3, stay}
use Rattle.a68_read.proofs.Forms as forms
use Rattle.a68_unit_productions.specs.Units as units
use Rattle.a68_symbols.specs.declared.sym.Sym.TheVariants.{Opens, Is}
use Rattle.a68_lookahead.specs.Ahead.{routine_ahead, phrase_ahead}
use Rattle.a68_lookahead.specs.Symbols.{starts, is_monadic, is_operator, label_ahead}

pub serial_node_fits : (K : Shape) (l : Layer) (S : List Layer) → fits g.SerialNode K (l ∷ S) → all_fit units.serial_node K (l ∷ S)
serial_node_fits K l S h = λ x p. (refl, refl, h x p)

serial_by : (K : Shape) (l : Layer) (S : List Layer) (c1 c2 : Bool) → fits g.Serial K (l ∷ S) → all_fit (if c1 then (g.Labelled ∷ []) else (if c2 then (g.Declaration ∷ g.Take t.Semicolon ∷ g.Serial ∷ []) else ((g.Unit ∷ g.SerialTail ∷ [])))) K (l ∷ S)
serial_by K l S true c2 h = λ x p. h _ (gr.serial_labelled p)
serial_by K l S false true h = λ e p x q. back3 K l S _ _ _ (h _ (gr.serial_declaration p q))
serial_by K l S false false h = λ j u p x q. back K l S _ _ (h _ (forms.unit_serial p q))

pub serial_fits : (K : Shape) (l : Layer) (S : List Layer) (text : List Sym) → fits g.Serial K (l ∷ S) → all_fit (units.serial text) K (l ∷ S)
serial_fits K l S text h = serial_by K l S (label_ahead text) (phrase_ahead text) h

serial_tail_by : (K : Shape) (l : Layer) (S : List Layer) (c1 c2 : Bool) → fits g.SerialTail K (l ∷ S) → all_fit (if c1 then (g.Take t.Semicolon ∷ g.Serial ∷ []) else (if c2 then (g.Begin ∷ g.Take t.Exit ∷ g.Close k.Exit ∷ g.Labelled ∷ []) else (([])))) K (l ∷ S)
serial_tail_by K l S true c2 h = λ x p. back K l S _ _ (h _ (m.serial_on p))
serial_tail_by K l S false true h = (refl, refl, λ x p. back K l S _ _ (h _ (m.serial_out p)))
serial_tail_by K l S false false h = stay K l S (h _ m.serial_end)

pub serial_tail_fits : (K : Shape) (l : Layer) (S : List Layer) (text : List Sym) → fits g.SerialTail K (l ∷ S) → all_fit (units.serial_tail text) K (l ∷ S)
serial_tail_fits K l S text h = serial_tail_by K l S (starts (Is t.Semicolon) text) (starts (Is t.Exit) text) h

pub labelled_fits : (K : Shape) (l : Layer) (S : List Layer) → fits g.Labelled K (l ∷ S) → all_fit units.labelled K (l ∷ S)
labelled_fits K l S h = (refl, refl, λ x p. back K l S _ _ (h _ (gr.label p)))

steps_by : (K : Shape) (l : Layer) (S : List Layer) (c1 : Bool) → fits g.Steps K (l ∷ S) → all_fit (if c1 then (g.Labelled ∷ []) else ((g.Unit ∷ g.StepsTail ∷ []))) K (l ∷ S)
steps_by K l S true h = λ x p. h _ (gr.steps_labelled p)
steps_by K l S false h = λ j u p x q. back K l S _ _ (h _ (forms.unit_steps p q))

pub steps_fits : (K : Shape) (l : Layer) (S : List Layer) (text : List Sym) → fits g.Steps K (l ∷ S) → all_fit (units.steps text) K (l ∷ S)
steps_fits K l S text h = steps_by K l S (label_ahead text) h

steps_tail_by : (K : Shape) (l : Layer) (S : List Layer) (c1 c2 : Bool) → fits g.StepsTail K (l ∷ S) → all_fit (if c1 then (g.Take t.Semicolon ∷ g.Steps ∷ []) else (if c2 then (g.Begin ∷ g.Take t.Exit ∷ g.Close k.Exit ∷ g.Labelled ∷ []) else (([])))) K (l ∷ S)
steps_tail_by K l S true c2 h = λ x p. back K l S _ _ (h _ (m.steps_on p))
steps_tail_by K l S false true h = (refl, refl, λ x p. back K l S _ _ (h _ (m.steps_out p)))
steps_tail_by K l S false false h = stay K l S (h _ m.steps_end)

pub steps_tail_fits : (K : Shape) (l : Layer) (S : List Layer) (text : List Sym) → fits g.StepsTail K (l ∷ S) → all_fit (units.steps_tail text) K (l ∷ S)
steps_tail_fits K l S text h = steps_tail_by K l S (starts (Is t.Semicolon) text) (starts (Is t.Exit) text) h

pub enquiry_node_fits : (K : Shape) (l : Layer) (S : List Layer) → fits g.EnquiryNode K (l ∷ S) → all_fit units.enquiry_node K (l ∷ S)
enquiry_node_fits K l S h = λ x p. (refl, refl, h x p)

enquiry_by : (K : Shape) (l : Layer) (S : List Layer) (c1 : Bool) → fits g.Enquiry K (l ∷ S) → all_fit (if c1 then (g.Declaration ∷ g.Take t.Semicolon ∷ g.Enquiry ∷ []) else ((g.Unit ∷ g.EnquiryTail ∷ []))) K (l ∷ S)
enquiry_by K l S true h = λ e p x q. back3 K l S _ _ _ (h _ (gr.enquiry_declaration p q))
enquiry_by K l S false h = λ j u p x q. back K l S _ _ (h _ (forms.unit_enquiry p q))

pub enquiry_fits : (K : Shape) (l : Layer) (S : List Layer) (text : List Sym) → fits g.Enquiry K (l ∷ S) → all_fit (units.enquiry text) K (l ∷ S)
enquiry_fits K l S text h = enquiry_by K l S (phrase_ahead text) h

enquiry_tail_by : (K : Shape) (l : Layer) (S : List Layer) (c1 : Bool) → fits g.EnquiryTail K (l ∷ S) → all_fit (if c1 then (g.Take t.Semicolon ∷ g.Enquiry ∷ []) else (([]))) K (l ∷ S)
enquiry_tail_by K l S true h = λ x p. back K l S _ _ (h _ (m.enquiry_on p))
enquiry_tail_by K l S false h = stay K l S (h _ m.enquiry_end)

pub enquiry_tail_fits : (K : Shape) (l : Layer) (S : List Layer) (text : List Sym) → fits g.EnquiryTail K (l ∷ S) → all_fit (units.enquiry_tail text) K (l ∷ S)
enquiry_tail_fits K l S text h = enquiry_tail_by K l S (starts (Is t.Semicolon) text) h

pub units_fits : (K : Shape) (l : Layer) (S : List Layer) → fits g.Units K (l ∷ S) → all_fit units.units K (l ∷ S)
units_fits K l S h = λ j u p x q. back K l S _ _ (h _ (forms.units_from p q))

units_tail_by : (K : Shape) (l : Layer) (S : List Layer) (c1 : Bool) → fits g.UnitsTail K (l ∷ S) → all_fit (if c1 then (g.Take t.Comma ∷ g.Units ∷ []) else (([]))) K (l ∷ S)
units_tail_by K l S true h = λ x p. back K l S _ _ (h _ (m.comma_on p))
units_tail_by K l S false h = stay K l S (h _ m.comma_end)

pub units_tail_fits : (K : Shape) (l : Layer) (S : List Layer) (text : List Sym) → fits g.UnitsTail K (l ∷ S) → all_fit (units.units_tail text) K (l ∷ S)
units_tail_fits K l S text h = units_tail_by K l S (starts (Is t.Comma) text) h

unit_by : (K : Shape) (l : Layer) (S : List Layer) (c1 c2 c3 c4 : Bool) → fits g.Unit K (l ∷ S) → all_fit (if c1 then (g.Begin ∷ g.Take t.Skip ∷ g.Close k.Skip ∷ []) else (if c2 then (g.Begin ∷ g.Take t.Go ∷ g.Take t.To ∷ g.Take t.Tag ∷ g.Leap ∷ []) else (if c3 then (g.Begin ∷ g.Take t.Goto ∷ g.Take t.Tag ∷ g.Leap ∷ []) else (if c4 then (g.Begin ∷ g.Routine ∷ g.Close k.RoutineText ∷ []) else ((g.Begin ∷ g.Tertiary ∷ g.UnitTail ∷ g.Leave ∷ [])))))) K (l ∷ S)
unit_by K l S true c2 c3 c4 h = (refl, refl, h _ _ gr.skip)
unit_by K l S false true c3 c4 h = (refl, h _ _ gr.go_to)
unit_by K l S false false true c4 h = (refl, h _ _ gr.goto_)
unit_by K l S false false false true h = λ x p. (refl, refl, h _ _ (gr.routine p))
unit_by K l S false false false false h = f.fresh (λ j u p. f.tails p (λ i v q. (refl, h i v q)))

pub unit_fits : (K : Shape) (l : Layer) (S : List Layer) (text : List Sym) → fits g.Unit K (l ∷ S) → all_fit (units.unit text) K (l ∷ S)
unit_fits K l S text h = unit_by K l S (starts (Is t.Skip) text) (starts (Is t.Go) text) (starts (Is t.Goto) text) (routine_ahead text) h

unit_tail_by : (K : Shape) (S : List Layer) (c1 c2 c3 : Bool) → fits g.UnitTail K S → all_fit (if c1 then (g.Take t.Becomes ∷ g.Unit ∷ g.Wrap k.Assignation ∷ []) else (if c2 then (g.Take t.Is ∷ g.Begin ∷ g.Tertiary ∷ g.Leave ∷ g.Relate ∷ []) else (if c3 then (g.Take t.Isnt ∷ g.Begin ∷ g.Tertiary ∷ g.Leave ∷ g.Relate ∷ []) else (([]))))) K S
unit_tail_by K _ true c2 c3 (f.tails p ends) = λ j u q. (refl, refl, ends _ _ (gr.assignation p q))
unit_tail_by K _ false true c3 (f.tails p ends) = f.fresh (λ j u q. (refl, (refl, f.has_first, ends _ _ (gr.identity_is p q))))
unit_tail_by K _ false false true (f.tails p ends) = f.fresh (λ j u q. (refl, (refl, f.has_first, ends _ _ (gr.identity_isnt p q))))
unit_tail_by K _ false false false (f.tails p ends) = ends _ _ (gr.tertiary p)

pub unit_tail_fits : (K : Shape) (S : List Layer) (text : List Sym) → fits g.UnitTail K S → all_fit (units.unit_tail text) K S
unit_tail_fits K S text h = unit_tail_by K S (starts (Is t.Becomes) text) (starts (Is t.Is) text) (starts (Is t.Isnt) text) h

routine_by : (K : Shape) (l : Layer) (S : List Layer) (c1 : Bool) → fits g.Routine K (l ∷ S) → all_fit (if c1 then (g.Opens b.Round ∷ g.Parameters ∷ g.Closes b.Round ∷ g.RoutineResult ∷ []) else ((g.RoutineResult ∷ []))) K (l ∷ S)
routine_by K l S true h = λ x p. (refl, λ y q. back K l S _ _ (h _ (gr.routine_params p q)))
routine_by K l S false h = λ x p. h _ (gr.routine_plain p)

pub routine_fits : (K : Shape) (l : Layer) (S : List Layer) (text : List Sym) → fits g.Routine K (l ∷ S) → all_fit (units.routine text) K (l ∷ S)
routine_fits K l S text h = routine_by K l S (starts (Opens b.Round) text) h

routine_result_by : (K : Shape) (l : Layer) (S : List Layer) (c1 : Bool) → fits g.RoutineResult K (l ∷ S) → all_fit (if c1 then (g.Begin ∷ g.Take t.Void ∷ g.Close k.VoidWord ∷ g.Take t.Colon ∷ g.Unit ∷ []) else ((g.DeclarerNode ∷ g.Take t.Colon ∷ g.Unit ∷ []))) K (l ∷ S)
routine_result_by K l S true h = (refl, refl, λ j u p. back3 K l S _ _ _ (h _ (gr.result_void p)))
routine_result_by K l S false h = λ e p j u q. back3 K l S _ _ _ (h _ (gr.result p q))

pub routine_result_fits : (K : Shape) (l : Layer) (S : List Layer) (text : List Sym) → fits g.RoutineResult K (l ∷ S) → all_fit (units.routine_result text) K (l ∷ S)
routine_result_fits K l S text h = routine_result_by K l S (starts (Is t.Void) text) h

pub parameters_fits : (K : Shape) (l : Layer) (S : List Layer) → fits g.Parameters K (l ∷ S) → all_fit units.parameters K (l ∷ S)
parameters_fits K l S h = λ e p x q. back K l S _ _ (h _ (gr.params p q))

pub parameter_tags_fits : (K : Shape) (l : Layer) (S : List Layer) → fits g.ParameterTags K (l ∷ S) → all_fit units.parameter_tags K (l ∷ S)
parameter_tags_fits K l S h = (refl, refl, λ x p. back K l S _ _ (h _ (forms.tags_from p)))

parameter_tail_by : (K : Shape) (l : Layer) (S : List Layer) (c1 : Bool) → fits g.ParameterTail K (l ∷ S) → all_fit (if c1 then (g.Take t.Comma ∷ g.ParameterMore ∷ []) else (([]))) K (l ∷ S)
parameter_tail_by K l S true h = λ x p. back K l S _ _ (h _ (m.comma_on p))
parameter_tail_by K l S false h = stay K l S (h _ m.comma_end)

pub parameter_tail_fits : (K : Shape) (l : Layer) (S : List Layer) (text : List Sym) → fits g.ParameterTail K (l ∷ S) → all_fit (units.parameter_tail text) K (l ∷ S)
parameter_tail_fits K l S text h = parameter_tail_by K l S (starts (Is t.Comma) text) h

parameter_more_by : (K : Shape) (l : Layer) (S : List Layer) (c1 : Bool) → fits g.ParameterMore K (l ∷ S) → all_fit (if c1 then (g.ParameterTags ∷ []) else ((g.Parameters ∷ []))) K (l ∷ S)
parameter_more_by K l S true h = λ x p. h _ (m.tags_again p)
parameter_more_by K l S false h = λ x p. h _ (m.params_again p)

pub parameter_more_fits : (K : Shape) (l : Layer) (S : List Layer) (text : List Sym) → fits g.ParameterMore K (l ∷ S) → all_fit (units.parameter_more text) K (l ∷ S)
parameter_more_fits K l S text h = parameter_more_by K l S (starts (Is t.Tag) text) h

tertiary_by : (K : Shape) (S : List Layer) (c1 c2 : Bool) → fits g.Tertiary K S → all_fit (if c1 then (g.Take t.Nil ∷ g.Wrap k.Nil ∷ []) else (if c2 then (g.Monadic ∷ g.Operands ∷ g.Wrap k.Formula ∷ []) else ((g.Secondary ∷ g.TertiaryTail ∷ [])))) K S
tertiary_by K _ true c2 (f.fresh ends) = (refl, refl, ends _ _ gr.nil)
tertiary_by K _ false true (f.fresh ends) = λ s p x q. (refl, refl, ends _ _ (gr.monadic p q))
tertiary_by K _ false false (f.fresh ends) = f.fresh (λ j u p. f.tails p ends)

pub tertiary_fits : (K : Shape) (S : List Layer) (text : List Sym) → fits g.Tertiary K S → all_fit (units.tertiary text) K S
tertiary_fits K S text h = tertiary_by K S (starts (Is t.Nil) text) (is_monadic text) h

tertiary_tail_by : (K : Shape) (S : List Layer) (c1 : Bool) → fits g.TertiaryTail K S → all_fit (if c1 then (g.Dyadic ∷ g.Operands ∷ g.Wrap k.Formula ∷ []) else (([]))) K S
tertiary_tail_by K _ true (f.tails p ends) = λ s q x r. (refl, refl, ends _ _ (gr.dyadic p q r))
tertiary_tail_by K _ false (f.tails p ends) = ends _ _ (gr.secondary p)

pub tertiary_tail_fits : (K : Shape) (S : List Layer) (text : List Sym) → fits g.TertiaryTail K S → all_fit (units.tertiary_tail text) K S
tertiary_tail_fits K S text h = tertiary_tail_by K S (is_operator text) h

operands_by : (K : Shape) (l : Layer) (S : List Layer) (c1 : Bool) → fits g.Operands K (l ∷ S) → all_fit (if c1 then (g.Monadic ∷ g.Operands ∷ []) else ((g.Begin ∷ g.Secondary ∷ g.Leave ∷ g.OperandsTail ∷ []))) K (l ∷ S)
operands_by K l S true h = (λ s p. (λ x q. back K l S _ _ (h _ (gr.operand_sign p q))))
operands_by K l S false h = f.fresh (λ j u p. (refl, (λ x q. back K l S _ _ (h _ (forms.operands_from p q)))))

pub operands_fits : (K : Shape) (l : Layer) (S : List Layer) (text : List Sym) → fits g.Operands K (l ∷ S) → all_fit (units.operands text) K (l ∷ S)
operands_fits K l S text h = operands_by K l S (is_monadic text) h

operands_tail_by : (K : Shape) (l : Layer) (S : List Layer) (c1 : Bool) → fits g.OperandsTail K (l ∷ S) → all_fit (if c1 then (g.Dyadic ∷ g.Operands ∷ []) else (([]))) K (l ∷ S)
operands_tail_by K l S true h = (λ s p. (λ x q. back K l S _ _ (h _ (m.operands_on p q))))
operands_tail_by K l S false h = stay K l S (h _ m.operands_end)

pub operands_tail_fits : (K : Shape) (l : Layer) (S : List Layer) (text : List Sym) → fits g.OperandsTail K (l ∷ S) → all_fit (units.operands_tail text) K (l ∷ S)
operands_tail_fits K l S text h = operands_tail_by K l S (is_operator text) h
