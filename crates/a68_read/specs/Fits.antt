-- Inner: the headline does not rest on this file.
-- What goals lead to, whatever text is read: behind all forms that a goal stands for, what was opened is of that shape.
use Rattle.std.specs.Prelude.{◌≡◌, true, List, [], ◌∷◌, None, Some}
use Rattle.a68_tree.specs.declared.kind.NodeKind.{NodeKind}
use Rattle.a68_tree.specs.declared.kind.NodeKind.TheVariants as k
use Rattle.a68_symbols.specs.declared.sym.Bracket.{Bracket}
use Rattle.a68_symbols.specs.declared.sym.Bracket.TheVariants as b
use Rattle.a68_symbols.specs.declared.sym.Token.{Token}
use Rattle.a68_symbols.specs.declared.sym.Token.TheVariants as t
use Rattle.a68_tree.specs.Forest.{Forest, end, mark, group, part, sign, aside, shared, forget, joined, Single, Several}
use Rattle.a68_tree.specs.Grammar.{IsMonadic, IsSign, IsDenotation, IsPlain, IsEnclosed, IsElse, IsElseBrief, IsOut, IsOutBrief, IsOutC, IsOutCBrief, IsFrom, IsBy, IsTo, IsWhile, IsChoices, IsSpec, IsSerial, IsLabelled, IsSteps, IsEnquiry, IsUnits, IsUnit, IsRoutine, IsResult, IsParams, IsTags, IsTertiary, IsOperands, IsSecondary, IsPrimary, IsIndexes, IsIndex, IsTrimmer, IsAt, IsDeclarer, IsYield, IsDeclarers, IsBounds, IsBound, IsDeclaration, IsDefinitions, IsPlan}
use Rattle.a68_nodes.specs.Closing.{names_first}
use Rattle.a68_nodes.specs.Stack.{Layer, node, inside, put}
use Rattle.a68_unit_productions.specs.declared.goal.Goal.{Goal}
use Rattle.a68_unit_productions.specs.declared.goal.Goal.TheVariants as g
use Rattle.a68_read.specs.Middles.{IsCommaTail, IsSerialTail, IsStepsTail, IsEnquiryTail, IsOperandsTail, IsSpecTag, IsInitial, IsPlanTail, IsTagsMore, IsProcedurePlan, IsBase, IsDefinition, IsTail, IsMore}

-- what is said of a stack of layers
abbrev pub Shape : Type 1
Shape = List Layer → Type 0

-- an identity relation has its left side as its first part
pub data HasFirst : Forest → Type 0 where
  has_first : {j : NodeKind} {u f : Forest} → HasFirst (part j u f)

-- a denotation of LONG INT begins with a symbol that does not name it
pub data HasMark : Forest → Type 0 where
  has_mark : {s : Token} {f : Forest} → HasMark (mark s f)

-- ---- symbols, and what is done with what was read

abbrev pub fits_mark : Token → Shape → Shape
fits_mark s K [] = ⊥
fits_mark s K (l ∷ S) = K (put l (mark s end) ∷ S)

abbrev pub fits_marks : (Token → Type 0) → Shape → Shape
fits_marks P K [] = ⊥
fits_marks P K (l ∷ S) = (s : Token) → P s → K (put l (mark s end) ∷ S)

abbrev pub fits_signs : (Token → Type 0) → Shape → Shape
fits_signs P K [] = ⊥
fits_signs P K (l ∷ S) = (s : Token) → P s → K (put l (sign s end) ∷ S)

abbrev pub fits_closes : Bracket → Shape → Shape
fits_closes c K [] = ⊥
fits_closes c K (x ∷ []) = ⊥
fits_closes c K (x ∷ l ∷ S) = (x.bracket ≡ Some c) × K (put l (group c x.forest end) ∷ S)

abbrev pub fits_leave : Shape → Shape
fits_leave K [] = ⊥
fits_leave K (x ∷ []) = ⊥
fits_leave K (x ∷ l ∷ S) = (x.bracket ≡ None) × K (put l x.forest ∷ S)

abbrev pub fits_wrap : NodeKind → Shape → Shape
fits_wrap j K [] = ⊥
fits_wrap j K (x ∷ S) = (x.bracket ≡ None) × (names_first j ≡ true) × K (node (part j x.forest end) ∷ S)

abbrev pub fits_relate : Shape → Shape
fits_relate K [] = ⊥
fits_relate K (x ∷ S) = (x.bracket ≡ None) × HasFirst x.forest × K (node (part k.Identity x.forest end) ∷ S)

abbrev pub fits_long : Shape → Shape
fits_long K [] = ⊥
fits_long K (x ∷ S) = (x.bracket ≡ None) × HasMark x.forest × K (node (part k.LongDenotation x.forest end) ∷ S)

abbrev pub fits_leap : Shape → Shape
fits_leap K [] = ⊥
fits_leap K (x ∷ []) = ⊥
fits_leap K (x ∷ l ∷ S) = (x.bracket ≡ None) × K (put l (part k.GoTo x.forest end) ∷ S)

abbrev pub fits_close : NodeKind → Shape → Shape
fits_close j K [] = ⊥
fits_close j K (x ∷ []) = ⊥
fits_close j K (x ∷ l ∷ S) = (x.bracket ≡ None) × (names_first j ≡ true) × K (put l (part j x.forest end) ∷ S)

abbrev pub fits_aside : NodeKind → Shape → Shape
fits_aside j K [] = ⊥
fits_aside j K (x ∷ []) = ⊥
fits_aside j K (x ∷ l ∷ S) = (x.bracket ≡ None) × (names_first j ≡ true) × K (put l (aside j x.forest end) ∷ S)

abbrev pub fits_put : Forest → Shape → Shape
fits_put f K [] = ⊥
fits_put f K (l ∷ S) = K (put l f ∷ S)

-- a single definition is left as it is, several become a node
pub data FitsJoin (K : Shape) : List Layer → Type 0 where
  fits_join : {f : Forest} {l : Layer} {S : List Layer} → IsDefinitions f
      → (Single f → K (put l (forget f) ∷ S)) → (Several f → K (put l (part k.Joined (forget f) end) ∷ S))
      → FitsJoin K (node (forget f) ∷ l ∷ S)

-- ---- forms of the grammar

-- a list, in what stands about it
abbrev pub Puts : (Forest → Type 0) → Shape → Shape
Puts P K [] = ⊥
Puts P K (l ∷ S) = (f : Forest) → P f → K (put l f ∷ S)

-- a node, in what stands about it
abbrev pub PutsNode : (NodeKind → Forest → Type 0) → Shape → Shape
PutsNode P K [] = ⊥
PutsNode P K (l ∷ S) = (j : NodeKind) (u : Forest) → P j u → K (put l (part j u end) ∷ S)

-- the same, of one kind
abbrev pub PutsPart : NodeKind → (Forest → Type 0) → Shape → Shape
PutsPart j P K [] = ⊥
PutsPart j P K (l ∷ S) = (u : Forest) → P u → K (put l (part j u end) ∷ S)

-- what begins here is a node of such a form
abbrev pub Ends : (NodeKind → Forest → Type 0) → Shape → Shape
Ends P K S = (j : NodeKind) (u : Forest) → P j u → K (node (part j u end) ∷ S)

pub data Fresh (P : NodeKind → Forest → Type 0) (K : Shape) : List Layer → Type 0 where
  fresh : {S : List Layer} → Ends P K S → Fresh P K (node end ∷ S)

-- ---- what is left of a form

-- behind a first part, of the form P, what began with it becomes one of the form Q
pub data Tails (P Q : NodeKind → Forest → Type 0) (K : Shape) : List Layer → Type 0 where
  tails : {j : NodeKind} {u : Forest} {S : List Layer} → P j u → Ends Q K S → Tails P Q K (node (part j u end) ∷ S)

-- the same, where it becomes a list of the form Q
pub data TailsList (Q : Forest → Type 0) (K : Shape) : List Layer → Type 0 where
  tails_list : {j : NodeKind} {u : Forest} {l : Layer} {S : List Layer} → IsUnit j u → ((f : Forest) → Q f → K (put l f ∷ S)) → TailsList Q K (node (part j u end) ∷ l ∷ S)

-- within a pair of brackets, where nothing is read yet
pub data Within (c : Bracket) (K : Shape) : List Layer → Type 0 where
  within : {S : List Layer} → Ends IsEnclosed K S → Within c K (inside c end ∷ node end ∷ S)

-- behind a first unit
pub data WithinUnit (c : Bracket) (K : Shape) : List Layer → Type 0 where
  within_unit : {j : NodeKind} {u : Forest} {S : List Layer} → IsUnit j u → Ends IsEnclosed K S → WithinUnit c K (node (part j u end) ∷ inside c end ∷ node end ∷ S)

-- Behind `(`, where no label has come: behind phrases, each with its semicolon, or behind such phrases and a unit. What has
-- been read goes on as a serial clause, and as an enquiry.
pub data WithinSteps (P Q : Forest → Type 0) (K : Shape) : List Layer → Type 0 where
  within_steps : {x : Forest} {S : List Layer} → ((a : Forest) → P a → IsSerial (joined x a)) → ((a : Forest) → Q a → IsEnquiry (joined x a)) → Ends IsEnclosed K S
      → WithinSteps P Q K (node x ∷ inside b.Round end ∷ node end ∷ S)

-- behind `(` and a serial clause with labels
pub data WithinLabelled (K : Shape) : List Layer → Type 0 where
  within_labelled : {x : Forest} {S : List Layer} → IsSerial x → Ends IsEnclosed K S → WithinLabelled K (node x ∷ inside b.Round end ∷ node end ∷ S)

-- behind an enquiry, and perhaps a symbol
pub data WithinEnquiry (c : Bracket) (more : Forest) (K : Shape) : List Layer → Type 0 where
  within_enquiry : {a : Forest} {S : List Layer} → IsEnquiry a → Ends IsEnclosed K S → WithinEnquiry c more K (inside c (part k.Serial a more) ∷ node end ∷ S)

-- behind an enquiry, a bar and a unit
pub data WithinChosen (K : Shape) : List Layer → Type 0 where
  within_chosen : {j : NodeKind} {a u : Forest} {S : List Layer} → IsEnquiry a → IsUnit j u → Ends IsEnclosed K S
      → WithinChosen K (node (part j u end) ∷ inside b.Round (part k.Serial a (mark t.Bar end)) ∷ node end ∷ S)

-- behind PAR
pub data WithinParallel (K : Shape) : List Layer → Type 0 where
  within_parallel : {S : List Layer} → Ends IsEnclosed K S → WithinParallel K (node (mark t.Par end) ∷ S)

-- behind the declarer of a declaration
abbrev pub FitsNamed : Shape → Shape
FitsNamed K [] = ⊥
FitsNamed K (l ∷ S) = (c : Forest) × IsDeclarer c × ((f : Forest) → IsDefinitions (aside k.Declarer c f) → K (put l f ∷ S))

-- ---- all goals

-- whatever form is read for the goal, the stack is then such as K says
abbrev pub fits : Goal → Shape → Shape
fits (g.Take s) K S = fits_mark s K S
fits (g.Opens c) K S = K (inside c end ∷ S)
fits (g.Closes c) K S = fits_closes c K S
fits g.Monadic K S = fits_signs IsMonadic K S
fits g.Dyadic K S = fits_signs IsSign K S
fits g.Operator K S = fits_marks IsSign K S
fits g.Denotation K S = fits_marks IsDenotation K S
fits g.Plain K S = fits_marks IsPlain K S
fits g.Begin K S = K (node end ∷ S)
fits g.Leave K S = fits_leave K S
fits (g.Wrap j) K S = fits_wrap j K S
fits g.Relate K S = fits_relate K S
fits g.WrapLong K S = fits_long K S
fits g.Leap K S = fits_leap K S
fits (g.Close j) K S = fits_close j K S
fits (g.SetAside j) K S = fits_aside j K S
fits g.Share K S = fits_put (shared end) K S
fits g.Forget K S = fits_put (forget end) K S
fits g.Join K S = FitsJoin K S
fits g.Enclosed K S = Fresh IsEnclosed K S
fits g.Brief K S = Within b.Round K S
fits g.BriefUnit K S = WithinUnit b.Round K S
fits g.BriefTail K S = WithinSteps IsSerialTail IsEnquiryTail K S
fits g.BriefSteps K S = WithinSteps IsSerial IsEnquiry K S
fits g.BriefLabelled K S = WithinLabelled K S
fits g.BriefEnd K S = WithinEnquiry b.Round end K S
fits g.BriefChoice K S = WithinEnquiry b.Round (mark t.Bar end) K S
fits g.BriefChosen K S = WithinChosen K S
fits g.Block K S = Within b.Begin K S
fits g.BlockUnit K S = WithinUnit b.Begin K S
fits g.Parallel K S = WithinParallel K S
fits g.CaseChoice K S = WithinEnquiry b.Case (mark t.In end) K S
fits g.ElsePart K S = Puts IsElse K S
fits g.ElseBrief K S = Puts IsElseBrief K S
fits g.OutCase K S = Puts IsOut K S
fits g.OutCaseBrief K S = Puts IsOutBrief K S
fits g.OutConformity K S = Puts IsOutC K S
fits g.OutConformityBrief K S = Puts IsOutCBrief K S
fits g.LoopFrom K S = Puts IsFrom K S
fits g.LoopBy K S = Puts IsBy K S
fits g.LoopTo K S = Puts IsTo K S
fits g.LoopWhile K S = Puts IsWhile K S
fits g.Choices K S = Puts IsChoices K S
fits g.ChoicesTail K S = Puts (IsCommaTail IsChoices) K S
fits g.ChoiceSpec K S = Puts IsSpec K S
fits g.SpecTag K S = Puts IsSpecTag K S
fits g.SerialNode K S = PutsPart k.Serial IsSerial K S
fits g.Serial K S = Puts IsSerial K S
fits g.SerialTail K S = Puts IsSerialTail K S
fits g.Labelled K S = Puts IsLabelled K S
fits g.Steps K S = Puts IsSteps K S
fits g.StepsTail K S = Puts IsStepsTail K S
fits g.EnquiryNode K S = PutsPart k.Serial IsEnquiry K S
fits g.Enquiry K S = Puts IsEnquiry K S
fits g.EnquiryTail K S = Puts IsEnquiryTail K S
fits g.Units K S = Puts IsUnits K S
fits g.UnitsTail K S = Puts (IsCommaTail IsUnits) K S
fits g.Unit K S = PutsNode IsUnit K S
fits g.UnitTail K S = Tails IsTertiary IsUnit K S
fits g.Routine K S = Puts IsRoutine K S
fits g.RoutineResult K S = Puts IsResult K S
fits g.Parameters K S = Puts (IsParams k.Parameter) K S
fits g.ParameterTags K S = Puts (IsTags k.Parameter) K S
fits g.ParameterTail K S = Puts (IsCommaTail (IsTagsMore k.Parameter)) K S
fits g.ParameterMore K S = Puts (IsTagsMore k.Parameter) K S
fits g.Tertiary K S = Fresh IsTertiary K S
fits g.TertiaryTail K S = Tails IsSecondary IsTertiary K S
fits g.Operands K S = Puts IsOperands K S
fits g.OperandsTail K S = Puts IsOperandsTail K S
fits g.Secondary K S = Fresh IsSecondary K S
fits g.Base K S = Fresh IsBase K S
fits g.PrimaryTail K S = Tails IsPrimary IsPrimary K S
fits g.Indexes K S = Puts IsIndexes K S
fits g.IndexesTail K S = Puts (IsCommaTail IsIndexes) K S
fits g.Index K S = Puts IsIndex K S
fits g.IndexTail K S = TailsList IsIndex K S
fits g.Trimmer K S = Puts IsTrimmer K S
fits g.AtPart K S = Puts IsAt K S
fits g.DeclarerNode K S = PutsPart k.Declarer IsDeclarer K S
fits g.Declarer K S = Puts IsDeclarer K S
fits g.ProcedurePlan K S = Puts IsProcedurePlan K S
fits g.Yields K S = Puts IsYield K S
fits g.Declarers K S = Puts IsDeclarers K S
fits g.DeclarersTail K S = Puts (IsCommaTail IsDeclarers) K S
fits g.Bounds K S = Puts IsBounds K S
fits g.BoundsTail K S = Puts (IsCommaTail IsBounds) K S
fits g.Bound K S = Puts IsBound K S
fits g.BoundTail K S = TailsList IsBound K S
fits g.Fields K S = Puts (IsParams k.Field) K S
fits g.FieldTags K S = Puts (IsTags k.Field) K S
fits g.FieldTail K S = Puts (IsCommaTail (IsTagsMore k.Field)) K S
fits g.FieldMore K S = Puts (IsTagsMore k.Field) K S
fits g.Declaration K S = Puts IsDeclaration K S
fits g.Definitions K S = Puts IsDefinitions K S
fits g.OperatorForm K S = Puts (λ f. IsDefinitions (mark t.Op f)) K S
fits g.ProcedureForm K S = Puts (λ f. IsDefinitions (mark t.Proc f)) K S
fits g.Named K S = FitsNamed K S
fits g.Plan K S = Puts IsPlan K S
fits g.PlanTail K S = Puts IsPlanTail K S
fits (g.Definition x) K S = PutsNode (IsDefinition x) K S
fits (g.Tail x) K S = Puts (IsTail x) K S
fits (g.More x) K S = Puts (IsMore x) K S
fits g.Initial K S = Puts IsInitial K S

-- goals one after another
abbrev pub all_fit : List Goal → Shape → Shape
all_fit [] K S = K S
all_fit (goal ∷ goals) K S = fits goal (all_fit goals K) S
