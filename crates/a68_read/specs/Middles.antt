-- Inner: the headline does not rest on this file.
-- Forms that stand within those of the grammar: what is left of a form behind its first pieces.
use Rattle.a68_tree.specs.declared.kind.NodeKind.{NodeKind}
use Rattle.a68_tree.specs.declared.kind.NodeKind.TheVariants as k
use Rattle.a68_symbols.specs.declared.sym.Bracket.TheVariants as b
use Rattle.a68_symbols.specs.declared.sym.Token.{Token}
use Rattle.a68_symbols.specs.declared.sym.Token.TheVariants as t
use Rattle.a68_tree.specs.Forest.{Forest, end, mark, group, part, sign, shared, forget, joined}
use Rattle.a68_tree.specs.Grammar.{IsEnclosed, IsElseBrief, IsOut, IsOutBrief, IsOutC, IsOutCBrief, IsChoices, IsSerial, IsLabelled, IsSteps, IsEnquiry, IsUnits2, IsUnit, IsRoutine, IsParams, IsTags, IsTertiary, IsOperands, IsDeclarer, IsDenotation, IsNumber, IsYield, IsDeclarers, IsDefinitions, IsSign}
use Rattle.a68_unit_productions.specs.declared.goal.Defining.{Defining}
use Rattle.a68_unit_productions.specs.declared.goal.Defining.TheVariants as d

-- ---- tails

-- [',' list]
pub data IsCommaTail (P : Forest → Type 0) : Forest → Type 0 where
  comma_end : IsCommaTail P end
  comma_on : {f : Forest} → P f → IsCommaTail P (mark t.Comma f)

-- [';' serial | EXIT labelled]
pub data IsSerialTail : Forest → Type 0 where
  serial_end : IsSerialTail end
  serial_on : {f : Forest} → IsSerial f → IsSerialTail (mark t.Semicolon f)
  serial_out : {f : Forest} → IsLabelled f → IsSerialTail (part k.Exit (mark t.Exit end) f)

-- [';' steps | EXIT labelled]
pub data IsStepsTail : Forest → Type 0 where
  steps_end : IsStepsTail end
  steps_on : {f : Forest} → IsSteps f → IsStepsTail (mark t.Semicolon f)
  steps_out : {f : Forest} → IsLabelled f → IsStepsTail (part k.Exit (mark t.Exit end) f)

-- [';' enquiry]
pub data IsEnquiryTail : Forest → Type 0 where
  enquiry_end : IsEnquiryTail end
  enquiry_on : {f : Forest} → IsEnquiry f → IsEnquiryTail (mark t.Semicolon f)

-- [sign operands]
pub data IsOperandsTail : Forest → Type 0 where
  operands_end : IsOperandsTail end
  operands_on : {s : Token} {f : Forest} → IsSign s → IsOperands f → IsOperandsTail (sign s f)

-- [tag], of a spec
pub data IsSpecTag : Forest → Type 0 where
  no_spec_tag : IsSpecTag end
  a_spec_tag : IsSpecTag (part k.Parameter (mark t.Tag end) end)

-- [':=' unit]
pub data IsInitial : Forest → Type 0 where
  no_initial : IsInitial end
  an_initial : {j : NodeKind} {u : Forest} → IsUnit j u → IsInitial (mark t.Becomes (part j u end))

-- [',' declarer]
pub data IsPlanTail : Forest → Type 0 where
  plan_end : IsPlanTail end
  plan_on : {d : Forest} → IsDeclarer d → IsPlanTail (mark t.Comma (part k.Declarer d end))

-- behind a comma: tags, or parameters or fields
pub data IsTagsMore (i : NodeKind) : Forest → Type 0 where
  tags_again : {f : Forest} → IsTags i f → IsTagsMore i f
  params_again : {f : Forest} → IsParams i f → IsTagsMore i f

-- ['(' declarers ')'] (declarer | VOID), behind PROC
pub data IsProcedurePlan : Forest → Type 0 where
  plan_none : {f : Forest} → IsYield f → IsProcedurePlan f
  plan_some : {p f : Forest} → IsDeclarers p → IsYield f → IsProcedurePlan (group b.Round p f)

-- ---- clauses in brackets

-- behind the first bar: what a brief choice is, and its rest
pub data InChoice : NodeKind → Forest → Type 0 where
  choice_conditional : {a e : Forest} → IsSerial a → IsElseBrief e → InChoice k.Conditional (part k.Serial a e)
  choice_case : {f e : Forest} → IsUnits2 f → IsOutBrief e → InChoice k.Case (joined f e)
  choice_conformity : {f e : Forest} → IsChoices f → IsOutCBrief e → InChoice k.Conformity (joined f e)

-- behind `(` and a serial clause that may be an enquiry
pub data AfterSerial : NodeKind → Forest → Type 0 where
  serial_closes : AfterSerial k.Closed end
  serial_bar : {j : NodeKind} {g : Forest} → InChoice j g → AfterSerial j (mark t.Bar g)

-- between `(` and `)`
pub data InBrief : NodeKind → Forest → Type 0 where
  brief_vacuum : InBrief k.Vacuum end
  brief_units : {f : Forest} → IsUnits2 f → InBrief k.Collateral f
  brief_serial : {a : Forest} → IsSerial a → InBrief k.Closed (part k.Serial a end)
  brief_enquiry : {j : NodeKind} {a g : Forest} → IsEnquiry a → InChoice j g → InBrief j (part k.Serial a (mark t.Bar g))

-- between BEGIN and END
pub data InBlock : NodeKind → Forest → Type 0 where
  block_vacuum : InBlock k.Vacuum end
  block_units : {f : Forest} → IsUnits2 f → InBlock k.Collateral f
  block_serial : {a : Forest} → IsSerial a → InBlock k.Closed (part k.Serial a end)

-- between IN and ESAC
pub data InCase : NodeKind → Forest → Type 0 where
  in_case : {f e : Forest} → IsUnits2 f → IsOut e → InCase k.Case (joined f e)
  in_conformity : {f e : Forest} → IsChoices f → IsOutC e → InCase k.Conformity (joined f e)

-- ---- behind the first piece of a node

-- (':=' unit | (IS | ISNT) tertiary)
pub data UnitRest : NodeKind → Forest → Type 0 where
  rest_becomes : {j : NodeKind} {u : Forest} → IsUnit j u → UnitRest k.Assignation (mark t.Becomes (part j u end))
  rest_is : {j : NodeKind} {u : Forest} → IsTertiary j u → UnitRest k.Identity (mark t.Is (part j u end))
  rest_isnt : {j : NodeKind} {u : Forest} → IsTertiary j u → UnitRest k.Identity (mark t.Isnt (part j u end))

-- a primary that is neither a slice nor a call
pub data IsBase : NodeKind → Forest → Type 0 where
  base_cast : {j : NodeKind} {c u : Forest} → IsDeclarer c → IsEnclosed j u → IsBase k.Cast (part k.Declarer c (part j u end))
  base_cast_void : {j : NodeKind} {u : Forest} → IsEnclosed j u → IsBase k.Cast (part k.VoidWord (mark t.Void end) (part j u end))
  base_tag : IsBase k.Tag (mark t.Tag end)
  base_denotation : {s : Token} → IsDenotation s → IsBase k.Denotation (mark s end)
  base_long_denotation : {s : Token} → IsNumber s → IsBase k.LongDenotation (mark t.Long (mark s end))
  base_enclosed : {j : NodeKind} {u : Forest} → IsEnclosed j u → IsBase j u

-- ---- definitions

-- one definition, as a node
pub data IsDefinition : Defining → NodeKind → Forest → Type 0 where
  defines_mode : {c : Forest} → IsDeclarer c → IsDefinition d.Mode k.ModeDefinition (mark t.ModeWord (mark t.Equals (part k.Declarer c end)))
  defines_priority : {s : Token} → IsSign s → IsDefinition d.Priority k.Priority (mark s (mark t.Equals (part k.Digit (mark t.Digit end) end)))
  defines_operator : {s : Token} {r : Forest} → IsSign s → IsRoutine r → IsDefinition d.Operator k.OpDefinition (mark s (mark t.Equals (part k.RoutineText r end)))
  defines_planned : {j : NodeKind} {s : Token} {u : Forest} → IsSign s → IsUnit j u → IsDefinition d.Planned k.OpDefinition (shared (mark s (mark t.Equals (part j u end))))
  defines_identity : {j : NodeKind} {u : Forest} → IsUnit j u → IsDefinition d.Identity k.IdentityDefinition (shared (mark t.Tag (mark t.Equals (part j u end))))
  defines_procedure : {r : Forest} → IsRoutine r → IsDefinition d.Procedure k.IdentityDefinition (mark t.Tag (mark t.Equals (part k.RoutineText r end)))
  defines_procedure_variable : {r : Forest} → IsRoutine r → IsDefinition d.ProcedureVariable k.Variable (mark t.Tag (mark t.Becomes (part k.RoutineText r end)))
  defines_variable : {f : Forest} → IsInitial f → IsDefinition d.Variable k.Variable (shared (mark t.Tag f))

mutual
  -- definitions from one of that form on, to the last one that commas join to it
  pub data AreJoinedDefinitions : Defining → Forest → Type 0 where
    run : {x : Defining} {j : NodeKind} {u f : Forest} → IsDefinition x j u → IsTail x f → AreJoinedDefinitions x (part j u f)

  -- what is joined to a definition of that form
  pub data IsTail : Defining → Forest → Type 0 where
    tail_end : {x : Defining} → IsTail x end
    tail_on : {x : Defining} {f : Forest} → IsMore x f → IsTail x (mark t.Comma f)

  -- a definition of the same declaration, or another declaration
  pub data IsMore : Defining → Forest → Type 0 where
    more_same : {x : Defining} {f : Forest} → AreJoinedDefinitions x f → IsMore x f
    more_anew : {x : Defining} {f : Forest} → IsDefinitions f → IsMore x (forget f)
