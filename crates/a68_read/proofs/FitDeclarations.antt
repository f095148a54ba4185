-- Where a goal fits, what it is made of fits: declarations.
use Rattle.std.proofs.Common.{Bool, true, false, List, [], ◌∷◌, refl, if◌then◌else◌}
use Rattle.a68_tree.specs.declared.kind.NodeKind.TheVariants as k
use Rattle.a68_symbols.specs.declared.sym.Token.TheVariants as t
use Rattle.a68_symbols.specs.declared.sym.Bracket.TheVariants as b
use Rattle.a68_symbols.specs.declared.sym.Sym.{Sym}
use Rattle.a68_tree.specs.Grammar as gr
use Rattle.a68_nodes.specs.Stack.{Layer}
use Rattle.a68_unit_productions.specs.declared.goal.Goal.TheVariants as g
use Rattle.a68_unit_productions.specs.declared.goal.Defining.{Defining}
use Rattle.a68_unit_productions.specs.declared.goal.Defining.TheVariants as d
use Rattle.a68_read.specs.Middles as m
use Rattle.a68_read.specs.Fits as f
use Rattle.a68_read.specs.Fits.{Shape, fits, all_fit}
use Rattle.a68_read.proofs.Joins.{back, back3, back4, stay}
use Rattle.a68_read.proofs.Forms as forms
use Rattle.a68_unit_productions.specs.Declarations as declarations
use Rattle.a68_symbols.specs.declared.sym.Sym.TheVariants.{Opens, Is}
use Rattle.a68_lookahead.specs.Symbols.{starts, starts_pair}
use Rattle.a68_read.proofs.Definings as defs

pub declaration_fits : (K : Shape) (l : Layer) (S : List Layer) → fits g.Declaration K (l ∷ S) → all_fit declarations.declaration K (l ∷ S)
declaration_fits K l S h = λ x p. f.fits_join p (λ s. h _ (gr.single p s)) (λ s. h _ (gr.joined_ p s))

definitions_by : (K : Shape) (l : Layer) (S : List Layer) (c1 c2 c3 c4 c5 c6 : Bool) → fits g.Definitions K (l ∷ S) → all_fit (if c1 then (g.Take t.Mode ∷ g.Definition d.Mode ∷ g.Tail d.Mode ∷ []) else (if c2 then (g.Take t.Prio ∷ g.Definition d.Priority ∷ g.Tail d.Priority ∷ []) else (if c3 then (g.Take t.Op ∷ g.OperatorForm ∷ []) else (if c4 then (g.Take t.Proc ∷ g.ProcedureForm ∷ []) else (if c5 then (g.Take t.Loc ∷ g.Begin ∷ g.Declarer ∷ g.SetAside k.Declarer ∷ g.Definition d.Variable ∷ g.Tail d.Variable ∷ []) else (if c6 then (g.Begin ∷ g.Take t.Heap ∷ g.SetAside k.Heap ∷ g.Begin ∷ g.Declarer ∷ g.SetAside k.Declarer ∷ g.Definition d.Variable ∷ g.Tail d.Variable ∷ []) else ((g.Begin ∷ g.Declarer ∷ g.SetAside k.Declarer ∷ g.Named ∷ [])))))))) K (l ∷ S)
definitions_by K l S true c2 c3 c4 c5 c6 h = λ j u p. (λ x q. back3 K l S _ _ _ (h _ (defs.modes p q)))
definitions_by K l S false true c3 c4 c5 c6 h = λ j u p. (λ x q. back3 K l S _ _ _ (h _ (defs.priorities p q)))
definitions_by K l S false false true c4 c5 c6 h = (λ x p. back K l S _ _ (h _ p))
definitions_by K l S false false false true c5 c6 h = (λ x p. back K l S _ _ (h _ p))
definitions_by K l S false false false false true c6 h = λ c p. (refl, refl, λ j u q. (λ x r. back4 K l S _ _ _ _ (h _ (defs.loc_variables p q r))))
definitions_by K l S false false false false false true h = (refl, refl, λ c p. (refl, refl, λ j u q. (λ x r. back4 K l S _ _ _ _ (h _ (defs.heap_variables p q r)))))
definitions_by K l S false false false false false false h = λ c p. (refl, refl, (c, p, λ x q. back K l S _ _ (h _ q)))

pub definitions_fits : (K : Shape) (l : Layer) (S : List Layer) (text : List Sym) → fits g.Definitions K (l ∷ S) → all_fit (declarations.definitions text) K (l ∷ S)
definitions_fits K l S text h = definitions_by K l S (starts (Is t.Mode) text) (starts (Is t.Prio) text) (starts (Is t.Op) text) (starts_pair (Is t.Proc) (Is t.Tag) text) (starts (Is t.Loc) text) (starts (Is t.Heap) text) h

operator_form_by : (K : Shape) (l : Layer) (S : List Layer) (c1 : Bool) → fits g.OperatorForm K (l ∷ S) → all_fit (if c1 then (g.Begin ∷ g.Plan ∷ g.SetAside k.Plan ∷ g.Definition d.Planned ∷ g.Tail d.Planned ∷ []) else ((g.Definition d.Operator ∷ g.Tail d.Operator ∷ []))) K (l ∷ S)
operator_form_by K l S true h = λ c p. (refl, refl, λ j u q. (λ x r. back3 K l S _ _ _ (h _ (defs.planned p q r))))
operator_form_by K l S false h = λ j u q. (λ x r. back K l S _ _ (h _ (defs.operators q r)))

pub operator_form_fits : (K : Shape) (l : Layer) (S : List Layer) (text : List Sym) → fits g.OperatorForm K (l ∷ S) → all_fit (declarations.operator_form text) K (l ∷ S)
operator_form_fits K l S text h = operator_form_by K l S (starts (Opens b.Round) text) h

procedure_form_by : (K : Shape) (l : Layer) (S : List Layer) (c1 : Bool) → fits g.ProcedureForm K (l ∷ S) → all_fit (if c1 then (g.Definition d.ProcedureVariable ∷ g.Tail d.ProcedureVariable ∷ []) else ((g.Definition d.Procedure ∷ g.Tail d.Procedure ∷ []))) K (l ∷ S)
procedure_form_by K l S true h = λ j u q. (λ x r. back K l S _ _ (h _ (defs.procedure_variables q r)))
procedure_form_by K l S false h = λ j u q. (λ x r. back K l S _ _ (h _ (defs.procedures q r)))

pub procedure_form_fits : (K : Shape) (l : Layer) (S : List Layer) (text : List Sym) → fits g.ProcedureForm K (l ∷ S) → all_fit (declarations.procedure_form text) K (l ∷ S)
procedure_form_fits K l S text h = procedure_form_by K l S (starts_pair (Is t.Tag) (Is t.Becomes) text) h

named_by : (K : Shape) (l : Layer) (S : List Layer) (c1 : Bool) → fits g.Named K (l ∷ S) → all_fit (if c1 then (g.Definition d.Identity ∷ g.Tail d.Identity ∷ []) else ((g.Definition d.Variable ∷ g.Tail d.Variable ∷ []))) K (l ∷ S)
named_by K l S true (c, p, h) = λ j u q. (λ x r. back K l S _ _ (h _ (defs.identities p q r)))
named_by K l S false (c, p, h) = λ j u q. (λ x r. back K l S _ _ (h _ (defs.variables p q r)))

pub named_fits : (K : Shape) (l : Layer) (S : List Layer) (text : List Sym) → fits g.Named K (l ∷ S) → all_fit (declarations.named text) K (l ∷ S)
named_fits K l S text h = named_by K l S (starts_pair (Is t.Tag) (Is t.Equals) text) h

pub plan_fits : (K : Shape) (l : Layer) (S : List Layer) → fits g.Plan K (l ∷ S) → all_fit declarations.plan K (l ∷ S)
plan_fits K l S h = λ e p x q. (refl, λ y r. back K l S _ _ (h _ (forms.plan_from p q r)))

plan_tail_by : (K : Shape) (l : Layer) (S : List Layer) (c1 : Bool) → fits g.PlanTail K (l ∷ S) → all_fit (if c1 then (g.Take t.Comma ∷ g.DeclarerNode ∷ []) else (([]))) K (l ∷ S)
plan_tail_by K l S true h = λ e p. back K l S _ _ (h _ (m.plan_on p))
plan_tail_by K l S false h = stay K l S (h _ m.plan_end)

pub plan_tail_fits : (K : Shape) (l : Layer) (S : List Layer) (text : List Sym) → fits g.PlanTail K (l ∷ S) → all_fit (declarations.plan_tail text) K (l ∷ S)
plan_tail_fits K l S text h = plan_tail_by K l S (starts (Is t.Comma) text) h

initial_by : (K : Shape) (l : Layer) (S : List Layer) (c1 : Bool) → fits g.Initial K (l ∷ S) → all_fit (if c1 then (g.Take t.Becomes ∷ g.Unit ∷ []) else (([]))) K (l ∷ S)
initial_by K l S true h = λ j u p. back K l S _ _ (h _ (m.an_initial p))
initial_by K l S false h = stay K l S (h _ m.no_initial)

pub initial_fits : (K : Shape) (l : Layer) (S : List Layer) (text : List Sym) → fits g.Initial K (l ∷ S) → all_fit (declarations.initial text) K (l ∷ S)
initial_fits K l S text h = initial_by K l S (starts (Is t.Becomes) text) h

pub definition_fits : (K : Shape) (l : Layer) (S : List Layer) (x : Defining) → fits (g.Definition x) K (l ∷ S) → all_fit (declarations.definition x) K (l ∷ S)
definition_fits K l S d.Mode h = λ c p. (refl, refl, h _ _ (m.defines_mode p))
definition_fits K l S d.Priority h = λ s p. (refl, refl, (refl, refl, h _ _ (m.defines_priority p)))
definition_fits K l S d.Operator h = λ s p x q. (refl, refl, (refl, refl, h _ _ (m.defines_operator p q)))
definition_fits K l S d.Planned h = λ s p j u q. (refl, refl, h _ _ (m.defines_planned p q))
definition_fits K l S d.Identity h = λ j u p. (refl, refl, h _ _ (m.defines_identity p))
definition_fits K l S d.Procedure h = λ x p. (refl, refl, (refl, refl, h _ _ (m.defines_procedure p)))
definition_fits K l S d.ProcedureVariable h = λ x p. (refl, refl, (refl, refl, h _ _ (m.defines_procedure_variable p)))
definition_fits K l S d.Variable h = λ x p. (refl, refl, h _ _ (m.defines_variable p))

tail_by : (K : Shape) (l : Layer) (S : List Layer) (x : Defining) (c : Bool) → fits (g.Tail x) K (l ∷ S) → all_fit (if c then declarations.comma_more x else []) K (l ∷ S)
tail_by K l S x true h = (λ y p. back K l S _ _ (h _ (m.tail_on p)))
tail_by K l S x false h = stay K l S (h _ m.tail_end)

pub tail_fits : (K : Shape) (l : Layer) (S : List Layer) (x : Defining) (text : List Sym) → fits (g.Tail x) K (l ∷ S) → all_fit (declarations.tail x text) K (l ∷ S)
tail_fits K l S x text h = tail_by K l S x (starts (Is t.Comma) text) h

more_by : (K : Shape) (l : Layer) (S : List Layer) (x : Defining) (c : Bool) → fits (g.More x) K (l ∷ S) → all_fit (if c then declarations.definition_tail x else g.Forget ∷ g.Definitions ∷ []) K (l ∷ S)
more_by K l S x true h = λ j u p. (λ y q. back K l S _ _ (h _ (m.more_same (m.run p q))))
more_by K l S x false h = ((λ y p. back K l S _ _ (h _ (m.more_anew p))))

pub more_fits : (K : Shape) (l : Layer) (S : List Layer) (x : Defining) (text : List Sym) → fits (g.More x) K (l ∷ S) → all_fit (declarations.more x text) K (l ∷ S)
more_fits K l S x text h = more_by K l S x (declarations.goes_on x text) h
