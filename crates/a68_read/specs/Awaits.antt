-- Inner: the headline does not rest on this file.
-- What goals stand for in a text: the forms that stand at its front one after another, up to the end.
use Rattle.std.specs.Prelude.{Bool, List, [], ◌∷◌}
use Rattle.a68_tree.specs.declared.kind.NodeKind.{NodeKind}
use Rattle.a68_tree.specs.declared.kind.NodeKind.TheVariants as k
use Rattle.a68_symbols.specs.declared.sym.Bracket.{Bracket}
use Rattle.a68_symbols.specs.declared.sym.Bracket.TheVariants as b
use Rattle.a68_symbols.specs.declared.sym.Token.{Token}
use Rattle.a68_symbols.specs.declared.sym.Token.TheVariants as t
use Rattle.a68_symbols.specs.declared.sym.Sym.{Sym}
use Rattle.a68_symbols.specs.declared.sym.Sym.TheVariants.{Opens, Closes, Is}
use Rattle.a68_tree.specs.Forest.{Forest, end, mark, group, part, sign, aside, shared, forget, joined, spells, Single, Several}
use Rattle.a68_tree.specs.Grammar.{IsMonadic, IsSign, IsDenotation, IsPlain, IsClosing, IsEnclosed, IsElse, IsElseBrief, IsOut, IsOutBrief, IsOutC, IsOutCBrief, IsFrom, IsBy, IsTo, IsWhile, IsChoices, IsSpec, IsSerial, IsLabelled, IsSteps, IsEnquiry, IsUnits, IsUnit, IsRoutine, IsResult, IsParams, IsTags, IsTertiary, IsOperands, IsSecondary, IsIndexes, IsIndex, IsTrimmer, IsAt, IsDeclarer, IsYield, IsDeclarers, IsBounds, IsBound, IsDeclaration, IsPlan}
use Rattle.a68_lookahead.specs.Symbols.{Follows}
use Rattle.a68_lookahead.specs.Sets as set
use Rattle.a68_nodes.specs.Stack.{Layer, node, inside, put}
use Rattle.a68_unit_productions.specs.declared.goal.Goal.{Goal}
use Rattle.a68_unit_productions.specs.declared.goal.Goal.TheVariants as g
use Rattle.a68_unit_productions.specs.declared.goal.Defining.TheVariants as d
use Rattle.a68_read.specs.Middles.{IsCommaTail, IsSerialTail, IsStepsTail, IsEnquiryTail, IsOperandsTail, IsSpecTag, IsInitial, IsPlanTail, IsTagsMore, IsProcedurePlan, IsBase, InChoice, AfterSerial, InBrief, InBlock, InCase, UnitRest, IsDefinition, AreJoinedDefinitions, IsTail, IsMore}

-- what is said of a stack of layers and of the text that is left
abbrev pub Awaited : Type 1
Awaited = List Layer → List Sym → Type 0

-- ---- symbols, and what is done with what was read

pub data TakesSymbol (s : Token) (K : Awaited) : List Layer → List Sym → Type 0 where
  takes : {l : Layer} {S : List Layer} {r : List Sym} → K (put l (mark s end) ∷ S) r → TakesSymbol s K (l ∷ S) (Is s ∷ r)

pub data TakesMark (P : Token → Type 0) (K : Awaited) : List Layer → List Sym → Type 0 where
  takes_mark : {l : Layer} {S : List Layer} {s : Token} {r : List Sym} → P s → K (put l (mark s end) ∷ S) r → TakesMark P K (l ∷ S) (Is s ∷ r)

pub data TakesSign (P : Token → Type 0) (K : Awaited) : List Layer → List Sym → Type 0 where
  takes_sign : {l : Layer} {S : List Layer} {s : Token} {r : List Sym} → P s → K (put l (sign s end) ∷ S) r → TakesSign P K (l ∷ S) (Is s ∷ r)

pub data IsOpened (c : Bracket) (K : Awaited) : List Layer → List Sym → Type 0 where
  opened : {S : List Layer} {r : List Sym} → K (inside c end ∷ S) r → IsOpened c K S (Opens c ∷ r)

pub data IsClosed (c : Bracket) (K : Awaited) : List Layer → List Sym → Type 0 where
  closed : {x l : Layer} {S : List Layer} {r : List Sym} → K (put l (group c x.forest end) ∷ S) r → IsClosed c K (x ∷ l ∷ S) (Closes c ∷ r)

abbrev pub awaits_leave : Awaited → Awaited
awaits_leave K [] text = ⊥
awaits_leave K (x ∷ []) text = ⊥
awaits_leave K (x ∷ l ∷ S) text = K (put l x.forest ∷ S) text

abbrev pub awaits_wrap : NodeKind → Awaited → Awaited
awaits_wrap j K [] text = ⊥
awaits_wrap j K (x ∷ S) text = K (node (part j x.forest end) ∷ S) text

abbrev pub awaits_close : NodeKind → Awaited → Awaited
awaits_close j K [] text = ⊥
awaits_close j K (x ∷ []) text = ⊥
awaits_close j K (x ∷ l ∷ S) text = K (put l (part j x.forest end) ∷ S) text

abbrev pub awaits_aside : NodeKind → Awaited → Awaited
awaits_aside j K [] text = ⊥
awaits_aside j K (x ∷ []) text = ⊥
awaits_aside j K (x ∷ l ∷ S) text = K (put l (aside j x.forest end) ∷ S) text

abbrev pub awaits_put : Forest → Awaited → Awaited
awaits_put f K [] text = ⊥
awaits_put f K (l ∷ S) text = K (put l f ∷ S) text

pub data AwaitsJoin (K : Awaited) : List Layer → List Sym → Type 0 where
  joins_one : {f : Forest} {l : Layer} {S : List Layer} {r : List Sym} → Single f → K (put l (forget f) ∷ S) r → AwaitsJoin K (node (forget f) ∷ l ∷ S) r
  joins_more : {f : Forest} {l : Layer} {S : List Layer} {r : List Sym} → Several f → K (put l (part k.Joined (forget f) end) ∷ S) r → AwaitsJoin K (node (forget f) ∷ l ∷ S) r

-- ---- forms of the grammar

-- a list, where a symbol of the set stands behind it
pub data Reads (P : Forest → Type 0) (A : Sym → Bool) (K : Awaited) : List Layer → List Sym → Type 0 where
  reads : {l : Layer} {S : List Layer} {f : Forest} {r : List Sym} → P f → Follows A r → K (put l f ∷ S) r → Reads P A K (l ∷ S) (spells f r)

-- a list, whatever stands behind it
pub data ReadsFree (P : Forest → Type 0) (K : Awaited) : List Layer → List Sym → Type 0 where
  reads_free : {l : Layer} {S : List Layer} {f : Forest} {r : List Sym} → P f → K (put l f ∷ S) r → ReadsFree P K (l ∷ S) (spells f r)

-- a node
pub data ReadsNode (P : NodeKind → Forest → Type 0) (A : Sym → Bool) (K : Awaited) : List Layer → List Sym → Type 0 where
  reads_node : {l : Layer} {S : List Layer} {j : NodeKind} {u : Forest} {r : List Sym} → P j u → Follows A r → K (put l (part j u end) ∷ S) r → ReadsNode P A K (l ∷ S) (spells u r)

-- a node of one kind
pub data ReadsPart (j : NodeKind) (P : Forest → Type 0) (A : Sym → Bool) (K : Awaited) : List Layer → List Sym → Type 0 where
  reads_part : {l : Layer} {S : List Layer} {u : Forest} {r : List Sym} → P u → Follows A r → K (put l (part j u end) ∷ S) r → ReadsPart j P A K (l ∷ S) (spells u r)

pub data ReadsPartFree (j : NodeKind) (P : Forest → Type 0) (K : Awaited) : List Layer → List Sym → Type 0 where
  reads_part_free : {l : Layer} {S : List Layer} {u : Forest} {r : List Sym} → P u → K (put l (part j u end) ∷ S) r → ReadsPartFree j P K (l ∷ S) (spells u r)

-- what begins here becomes a node
pub data Turns (P : NodeKind → Forest → Type 0) (A : Sym → Bool) (K : Awaited) : List Layer → List Sym → Type 0 where
  turns : {x : Layer} {S : List Layer} {j : NodeKind} {u : Forest} {r : List Sym} → P j u → Follows A r → K (node (part j u end) ∷ S) r → Turns P A K (x ∷ S) (spells u r)

pub data TurnsFree (P : NodeKind → Forest → Type 0) (K : Awaited) : List Layer → List Sym → Type 0 where
  turns_free : {x : Layer} {S : List Layer} {j : NodeKind} {u : Forest} {r : List Sym} → P j u → K (node (part j u end) ∷ S) r → TurnsFree P K (x ∷ S) (spells u r)

-- a comma or a closing square bracket, behind a place in square brackets
pub data EndsPlace : List Sym → Type 0 where
  place_comma : {r : List Sym} → EndsPlace (Is t.Comma ∷ r)
  place_closes : {r : List Sym} → EndsPlace (Closes b.Square ∷ r)

pub data ReadsPlace (P : Forest → Type 0) (K : Awaited) : List Layer → List Sym → Type 0 where
  reads_place : {l : Layer} {S : List Layer} {f : Forest} {r : List Sym} → P f → EndsPlace r → K (put l f ∷ S) r → ReadsPlace P K (l ∷ S) (spells f r)

-- a list up to a closing square bracket
pub data ReadsSquare (P : Forest → Type 0) (K : Awaited) : List Layer → List Sym → Type 0 where
  reads_square : {l : Layer} {S : List Layer} {f : Forest} {r : List Sym} → P f → K (put l f ∷ S) (Closes b.Square ∷ r) → ReadsSquare P K (l ∷ S) (spells f (Closes b.Square ∷ r))

-- ---- what is left of a form

-- the rest of a clause in brackets
pub data AwaitsWithin (c : Bracket) (P : NodeKind → Forest → Type 0) (K : Awaited) : List Layer → List Sym → Type 0 where
  rest_within : {i n : Layer} {S : List Layer} {j : NodeKind} {f : Forest} {r : List Sym} → P j f
      → K (node (part j (group c (joined i.forest f) end) end) ∷ S) r → AwaitsWithin c P K (i ∷ n ∷ S) (spells f (Closes c ∷ r))

-- the rest of a serial clause between BEGIN and END
pub data AwaitsBlock (K : Awaited) : List Layer → List Sym → Type 0 where
  block_ends : {x i n : Layer} {S : List Layer} {y : Forest} {r : List Sym} → IsSerialTail y
      → K (node (part k.Closed (group b.Begin (part k.Serial (joined x.forest y) end) end) end) ∷ S) r → AwaitsBlock K (x ∷ i ∷ n ∷ S) (spells y (Closes b.Begin ∷ r))

-- the rest of a serial clause between `(` and `)` in which no label has come: of the form P up to `)`, or of the form Q up to
-- a bar, where it is an enquiry
pub data AwaitsBrief (P Q : Forest → Type 0) (K : Awaited) : List Layer → List Sym → Type 0 where
  brief_ends : {x i n : Layer} {S : List Layer} {y : Forest} {r : List Sym} → P y
      → K (node (part k.Closed (group b.Round (part k.Serial (joined x.forest y) end) end) end) ∷ S) r → AwaitsBrief P Q K (x ∷ i ∷ n ∷ S) (spells y (Closes b.Round ∷ r))
  brief_goes : {x i n : Layer} {S : List Layer} {j : NodeKind} {y f : Forest} {r : List Sym} → Q y → InChoice j f
      → K (node (part j (group b.Round (part k.Serial (joined x.forest y) (mark t.Bar f)) end) end) ∷ S) r → AwaitsBrief P Q K (x ∷ i ∷ n ∷ S) (spells y (Is t.Bar ∷ spells f (Closes b.Round ∷ r)))

-- the bracket behind a serial clause with labels
pub data AwaitsLabelled (K : Awaited) : List Layer → List Sym → Type 0 where
  labelled_ends : {x i n : Layer} {S : List Layer} {r : List Sym} → K (node (part k.Closed (group b.Round (part k.Serial x.forest end) end) end) ∷ S) r → AwaitsLabelled K (x ∷ i ∷ n ∷ S) (Closes b.Round ∷ r)

-- the rest behind a first unit: more units, or the rest R of a serial clause
pub data AwaitsUnit (c : Bracket) (R K : Awaited) : List Layer → List Sym → Type 0 where
  unit_comma : {x i n : Layer} {S : List Layer} {f : Forest} {r : List Sym} → IsUnits f
      → K (node (part k.Collateral (group c (joined x.forest (mark t.Comma f)) end) end) ∷ S) r → AwaitsUnit c R K (x ∷ i ∷ n ∷ S) (Is t.Comma ∷ spells f (Closes c ∷ r))
  unit_serial : {S : List Layer} {text : List Sym} → R S text → AwaitsUnit c R K S text

pub data AwaitsChosen (K : Awaited) : List Layer → List Sym → Type 0 where
  chosen_comma : {x i n : Layer} {S : List Layer} {f e : Forest} {r : List Sym} → IsUnits f → IsOutBrief e
      → K (node (part k.Case (group b.Round (joined i.forest (joined x.forest (mark t.Comma (joined f e)))) end) end) ∷ S) r
      → AwaitsChosen K (x ∷ i ∷ n ∷ S) (Is t.Comma ∷ spells f (spells e (Closes b.Round ∷ r)))
  chosen_serial : {x i n : Layer} {S : List Layer} {y e : Forest} {r : List Sym} → IsSerialTail y → IsElseBrief e
      → K (node (part k.Conditional (group b.Round (joined i.forest (part k.Serial (joined x.forest y) e)) end) end) ∷ S) r
      → AwaitsChosen K (x ∷ i ∷ n ∷ S) (spells y (spells e (Closes b.Round ∷ r)))

pub data AwaitsParallel (K : Awaited) : List Layer → List Sym → Type 0 where
  parallel_units : {x : Layer} {S : List Layer} {c : Bracket} {f : Forest} {r : List Sym} → IsClosing c → IsUnits f
      → K (node (part k.Parallel (mark t.Par (group c f end)) end) ∷ S) r → AwaitsParallel K (x ∷ S) (Opens c ∷ spells f (Closes c ∷ r))

pub data AwaitsUnitTail (K : Awaited) : List Layer → List Sym → Type 0 where
  unit_stays : {x : Layer} {S : List Layer} {r : List Sym} → Follows set.ends_unit r → K (x ∷ S) r → AwaitsUnitTail K (x ∷ S) r
  unit_rests : {x : Layer} {S : List Layer} {j : NodeKind} {f : Forest} {r : List Sym} → UnitRest j f → Follows set.ends_unit r
      → K (node (part j (joined x.forest f) end) ∷ S) r → AwaitsUnitTail K (x ∷ S) (spells f r)

pub data AwaitsTertiaryTail (K : Awaited) : List Layer → List Sym → Type 0 where
  tertiary_stays : {x : Layer} {S : List Layer} {r : List Sym} → Follows set.ends_tertiary r → K (x ∷ S) r → AwaitsTertiaryTail K (x ∷ S) r
  tertiary_rests : {x : Layer} {S : List Layer} {s : Token} {f : Forest} {r : List Sym} → IsSign s → IsOperands f → Follows set.ends_tertiary r
      → K (node (part k.Formula (joined x.forest (sign s f)) end) ∷ S) r → AwaitsTertiaryTail K (x ∷ S) (Is s ∷ spells f r)

pub data AwaitsPrimaryTail (K : Awaited) : List Layer → List Sym → Type 0 where
  primary_stays : {x : Layer} {S : List Layer} {r : List Sym} → Follows set.ends_secondary r → K (x ∷ S) r → AwaitsPrimaryTail K (x ∷ S) r
  primary_slice : {x : Layer} {S : List Layer} {f : Forest} {r : List Sym} → IsIndexes f
      → AwaitsPrimaryTail K (node (part k.Slice (joined x.forest (group b.Square f end)) end) ∷ S) r → AwaitsPrimaryTail K (x ∷ S) (Opens b.Square ∷ spells f (Closes b.Square ∷ r))
  primary_call : {x : Layer} {S : List Layer} {f : Forest} {r : List Sym} → IsUnits f
      → AwaitsPrimaryTail K (node (part k.Call (joined x.forest (group b.Round f end)) end) ∷ S) r → AwaitsPrimaryTail K (x ∷ S) (Opens b.Round ∷ spells f (Closes b.Round ∷ r))

pub data AwaitsIndexTail (K : Awaited) : List Layer → List Sym → Type 0 where
  index_stays : {x l : Layer} {S : List Layer} {r : List Sym} → EndsPlace r → K (put l x.forest ∷ S) r → AwaitsIndexTail K (x ∷ l ∷ S) r
  index_rests : {x l : Layer} {S : List Layer} {f : Forest} {r : List Sym} → IsTrimmer f → EndsPlace r
      → K (put l (part k.Lower x.forest (mark t.Colon f)) ∷ S) r → AwaitsIndexTail K (x ∷ l ∷ S) (Is t.Colon ∷ spells f r)

pub data AwaitsBoundTail (K : Awaited) : List Layer → List Sym → Type 0 where
  bound_stays : {x l : Layer} {S : List Layer} {r : List Sym} → EndsPlace r → K (put l (part k.Upper x.forest end) ∷ S) r → AwaitsBoundTail K (x ∷ l ∷ S) r
  bound_rests : {x l : Layer} {S : List Layer} {j : NodeKind} {u : Forest} {r : List Sym} → IsUnit j u → EndsPlace r
      → K (put l (part k.Lower x.forest (mark t.Colon (part k.Upper (part j u end) end))) ∷ S) r → AwaitsBoundTail K (x ∷ l ∷ S) (Is t.Colon ∷ spells u r)

-- ---- declarations by their definitions

pub data IsOperatorForm : Forest → Type 0 where
  form_operators : {f : Forest} → AreJoinedDefinitions d.Operator f → IsOperatorForm f
  form_planned : {c f : Forest} → IsPlan c → AreJoinedDefinitions d.Planned f → IsOperatorForm (aside k.Plan c f)

pub data IsProcedureForm : Forest → Type 0 where
  form_procedures : {f : Forest} → AreJoinedDefinitions d.Procedure f → IsProcedureForm f
  form_procedure_variables : {f : Forest} → AreJoinedDefinitions d.ProcedureVariable f → IsProcedureForm f

pub data IsNamed : Forest → Type 0 where
  named_identities : {f : Forest} → AreJoinedDefinitions d.Identity f → IsNamed f
  named_variables : {f : Forest} → AreJoinedDefinitions d.Variable f → IsNamed f

-- a declaration and those that commas join to it
pub data IsDeclaring : Forest → Type 0 where
  declares_modes : {f : Forest} → AreJoinedDefinitions d.Mode f → IsDeclaring (mark t.Mode f)
  declares_priorities : {f : Forest} → AreJoinedDefinitions d.Priority f → IsDeclaring (mark t.Prio f)
  declares_operators : {f : Forest} → IsOperatorForm f → IsDeclaring (mark t.Op f)
  declares_procedures : {f : Forest} → IsProcedureForm f → IsDeclaring (mark t.Proc f)
  declares_local : {c f : Forest} → IsDeclarer c → AreJoinedDefinitions d.Variable f → IsDeclaring (mark t.Loc (aside k.Declarer c f))
  declares_heap : {c f : Forest} → IsDeclarer c → AreJoinedDefinitions d.Variable f → IsDeclaring (aside k.Heap (mark t.Heap end) (aside k.Declarer c f))
  declares_named : {c f : Forest} → IsDeclarer c → IsNamed f → IsDeclaring (aside k.Declarer c f)

-- ---- all goals

abbrev pub awaits : Goal → Awaited → Awaited
awaits (g.Take s) K S x = TakesSymbol s K S x
awaits (g.Opens c) K S x = IsOpened c K S x
awaits (g.Closes c) K S x = IsClosed c K S x
awaits g.Monadic K S x = TakesSign IsMonadic K S x
awaits g.Dyadic K S x = TakesSign IsSign K S x
awaits g.Operator K S x = TakesMark IsSign K S x
awaits g.Denotation K S x = TakesMark IsDenotation K S x
awaits g.Plain K S x = TakesMark IsPlain K S x
awaits g.Begin K S x = K (node end ∷ S) x
awaits g.Leave K S x = awaits_leave K S x
awaits (g.Wrap j) K S x = awaits_wrap j K S x
awaits g.Relate K S x = awaits_wrap k.Identity K S x
awaits g.WrapLong K S x = awaits_wrap k.LongDenotation K S x
awaits g.Leap K S x = awaits_close k.GoTo K S x
awaits (g.Close j) K S x = awaits_close j K S x
awaits (g.SetAside j) K S x = awaits_aside j K S x
awaits g.Share K S x = awaits_put (shared end) K S x
awaits g.Forget K S x = awaits_put (forget end) K S x
awaits g.Join K S x = AwaitsJoin K S x
awaits g.Enclosed K S x = TurnsFree IsEnclosed K S x
awaits g.Brief K S x = AwaitsWithin b.Round InBrief K S x
awaits g.BriefUnit K S x = AwaitsUnit b.Round (AwaitsBrief IsSerialTail IsEnquiryTail K) K S x
awaits g.BriefTail K S x = AwaitsBrief IsSerialTail IsEnquiryTail K S x
awaits g.BriefSteps K S x = AwaitsBrief IsSerial IsEnquiry K S x
awaits g.BriefLabelled K S x = AwaitsLabelled K S x
awaits g.BriefEnd K S x = AwaitsWithin b.Round AfterSerial K S x
awaits g.BriefChoice K S x = AwaitsWithin b.Round InChoice K S x
awaits g.BriefChosen K S x = AwaitsChosen K S x
awaits g.Block K S x = AwaitsWithin b.Begin InBlock K S x
awaits g.BlockUnit K S x = AwaitsUnit b.Begin (AwaitsBlock K) K S x
awaits g.Parallel K S x = AwaitsParallel K S x
awaits g.CaseChoice K S x = AwaitsWithin b.Case InCase K S x
awaits g.ElsePart K S x = Reads IsElse set.closes K S x
awaits g.ElseBrief K S x = Reads IsElseBrief set.closes K S x
awaits g.OutCase K S x = Reads IsOut set.closes K S x
awaits g.OutCaseBrief K S x = Reads IsOutBrief set.closes K S x
awaits g.OutConformity K S x = Reads IsOutC set.closes K S x
awaits g.OutConformityBrief K S x = Reads IsOutCBrief set.closes K S x
awaits g.LoopFrom K S x = ReadsFree IsFrom K S x
awaits g.LoopBy K S x = ReadsFree IsBy K S x
awaits g.LoopTo K S x = ReadsFree IsTo K S x
awaits g.LoopWhile K S x = ReadsFree IsWhile K S x
awaits g.Choices K S x = Reads IsChoices set.ends_clause K S x
awaits g.ChoicesTail K S x = Reads (IsCommaTail IsChoices) set.ends_clause K S x
awaits g.ChoiceSpec K S x = ReadsFree IsSpec K S x
awaits g.SpecTag K S x = Reads IsSpecTag set.closes K S x
awaits g.SerialNode K S x = ReadsPart k.Serial IsSerial set.ends_clause K S x
awaits g.Serial K S x = Reads IsSerial set.ends_clause K S x
awaits g.SerialTail K S x = Reads IsSerialTail set.ends_clause K S x
awaits g.Labelled K S x = Reads IsLabelled set.ends_clause K S x
awaits g.Steps K S x = Reads IsSteps set.ends_clause K S x
awaits g.StepsTail K S x = Reads IsStepsTail set.ends_clause K S x
awaits g.EnquiryNode K S x = ReadsPart k.Serial IsEnquiry set.ends_clause K S x
awaits g.Enquiry K S x = Reads IsEnquiry set.ends_clause K S x
awaits g.EnquiryTail K S x = Reads IsEnquiryTail set.ends_clause K S x
awaits g.Units K S x = Reads IsUnits set.ends_clause K S x
awaits g.UnitsTail K S x = Reads (IsCommaTail IsUnits) set.ends_clause K S x
awaits g.Unit K S x = ReadsNode IsUnit set.ends_unit K S x
awaits g.UnitTail K S x = AwaitsUnitTail K S x
awaits g.Routine K S x = Reads IsRoutine set.ends_unit K S x
awaits g.RoutineResult K S x = Reads IsResult set.ends_unit K S x
awaits g.Parameters K S x = Reads (IsParams k.Parameter) set.closes K S x
awaits g.ParameterTags K S x = Reads (IsTags k.Parameter) set.closes K S x
awaits g.ParameterTail K S x = Reads (IsCommaTail (IsTagsMore k.Parameter)) set.closes K S x
awaits g.ParameterMore K S x = Reads (IsTagsMore k.Parameter) set.closes K S x
awaits g.Tertiary K S x = Turns IsTertiary set.ends_tertiary K S x
awaits g.TertiaryTail K S x = AwaitsTertiaryTail K S x
awaits g.Operands K S x = Reads IsOperands set.ends_tertiary K S x
awaits g.OperandsTail K S x = Reads IsOperandsTail set.ends_tertiary K S x
awaits g.Secondary K S x = Turns IsSecondary set.ends_secondary K S x
awaits g.Base K S x = Turns IsBase set.ends_base K S x
awaits g.PrimaryTail K S x = AwaitsPrimaryTail K S x
awaits g.Indexes K S x = ReadsSquare IsIndexes K S x
awaits g.IndexesTail K S x = ReadsSquare (IsCommaTail IsIndexes) K S x
awaits g.Index K S x = ReadsPlace IsIndex K S x
awaits g.IndexTail K S x = AwaitsIndexTail K S x
awaits g.Trimmer K S x = ReadsPlace IsTrimmer K S x
awaits g.AtPart K S x = ReadsPlace IsAt K S x
awaits g.DeclarerNode K S x = ReadsPartFree k.Declarer IsDeclarer K S x
awaits g.Declarer K S x = ReadsFree IsDeclarer K S x
awaits g.ProcedurePlan K S x = ReadsFree IsProcedurePlan K S x
awaits g.Yields K S x = ReadsFree IsYield K S x
awaits g.Declarers K S x = Reads IsDeclarers set.closes K S x
awaits g.DeclarersTail K S x = Reads (IsCommaTail IsDeclarers) set.closes K S x
awaits g.Bounds K S x = ReadsSquare IsBounds K S x
awaits g.BoundsTail K S x = ReadsSquare (IsCommaTail IsBounds) K S x
awaits g.Bound K S x = ReadsPlace IsBound K S x
awaits g.BoundTail K S x = AwaitsBoundTail K S x
awaits g.Fields K S x = Reads (IsParams k.Field) set.closes K S x
awaits g.FieldTags K S x = Reads (IsTags k.Field) set.closes K S x
awaits g.FieldTail K S x = Reads (IsCommaTail (IsTagsMore k.Field)) set.closes K S x
awaits g.FieldMore K S x = Reads (IsTagsMore k.Field) set.closes K S x
awaits g.Declaration K S x = Reads IsDeclaration set.ends_declaration K S x
awaits g.Definitions K S x = Reads IsDeclaring set.ends_declaration K S x
awaits g.OperatorForm K S x = Reads IsOperatorForm set.ends_declaration K S x
awaits g.ProcedureForm K S x = Reads IsProcedureForm set.ends_declaration K S x
awaits g.Named K S x = Reads IsNamed set.ends_declaration K S x
awaits g.Plan K S x = ReadsFree IsPlan K S x
awaits g.PlanTail K S x = Reads IsPlanTail set.closes K S x
awaits (g.Definition y) K S x = ReadsNode (IsDefinition y) set.ends_definition K S x
awaits (g.Tail y) K S x = Reads (IsTail y) set.ends_declaration K S x
awaits (g.More y) K S x = Reads (IsMore y) set.ends_declaration K S x
awaits g.Initial K S x = Reads IsInitial set.ends_definition K S x

-- goals one after another
abbrev pub all_await : List Goal → Awaited → Awaited
all_await [] K S x = K S x
all_await (goal ∷ goals) K S x = awaits goal (all_await goals K) S x
