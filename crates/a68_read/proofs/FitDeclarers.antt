-- Where a goal fits, what it is made of fits: declarers.
use Rattle.std.proofs.Common.{Bool, true, false, List, [], ◌∷◌, refl, if◌then◌else◌}
use Rattle.a68_tree.specs.declared.kind.NodeKind.TheVariants as k
use Rattle.a68_symbols.specs.declared.sym.Token.TheVariants as t
use Rattle.a68_symbols.specs.declared.sym.Bracket.TheVariants as b
use Rattle.a68_symbols.specs.declared.sym.Sym.{Sym}
use Rattle.a68_tree.specs.Grammar as gr
use Rattle.a68_nodes.specs.Stack.{Layer}
use Rattle.a68_unit_productions.specs.declared.goal.Goal.TheVariants as g
use Rattle.a68_read.specs.Middles as m
use Rattle.a68_read.specs.Fits as f
use Rattle.a68_read.specs.Fits.{Shape, fits, all_fit}
use Rattle.a68_read.proofs.Joins.{back, back3, stay}
use Rattle.a68_read.proofs.Forms as forms
use Rattle.a68_unit_productions.specs.Declarers as declarers
use Rattle.a68_symbols.specs.declared.sym.Sym.TheVariants.{Opens, Is}
use Rattle.a68_lookahead.specs.Symbols.{starts, ends_bound}

pub fields_fits : (K : Shape) (l : Layer) (S : List Layer) → fits g.Fields K (l ∷ S) → all_fit declarers.fields K (l ∷ S)
fields_fits K l S h = λ e p x q. back K l S _ _ (h _ (gr.params p q))

pub field_tags_fits : (K : Shape) (l : Layer) (S : List Layer) → fits g.FieldTags K (l ∷ S) → all_fit declarers.field_tags K (l ∷ S)
field_tags_fits K l S h = (refl, refl, λ x p. back K l S _ _ (h _ (forms.tags_from p)))

field_tail_by : (K : Shape) (l : Layer) (S : List Layer) (c1 : Bool) → fits g.FieldTail K (l ∷ S) → all_fit (if c1 then (g.Take t.Comma ∷ g.FieldMore ∷ []) else (([]))) K (l ∷ S)
field_tail_by K l S true h = λ x p. back K l S _ _ (h _ (m.comma_on p))
field_tail_by K l S false h = stay K l S (h _ m.comma_end)

pub field_tail_fits : (K : Shape) (l : Layer) (S : List Layer) (text : List Sym) → fits g.FieldTail K (l ∷ S) → all_fit (declarers.field_tail text) K (l ∷ S)
field_tail_fits K l S text h = field_tail_by K l S (starts (Is t.Comma) text) h

field_more_by : (K : Shape) (l : Layer) (S : List Layer) (c1 : Bool) → fits g.FieldMore K (l ∷ S) → all_fit (if c1 then (g.FieldTags ∷ []) else ((g.Fields ∷ []))) K (l ∷ S)
field_more_by K l S true h = λ x p. h _ (m.tags_again p)
field_more_by K l S false h = λ x p. h _ (m.params_again p)

pub field_more_fits : (K : Shape) (l : Layer) (S : List Layer) (text : List Sym) → fits g.FieldMore K (l ∷ S) → all_fit (declarers.field_more text) K (l ∷ S)
field_more_fits K l S text h = field_more_by K l S (starts (Is t.Tag) text) h

pub declarer_node_fits : (K : Shape) (l : Layer) (S : List Layer) → fits g.DeclarerNode K (l ∷ S) → all_fit declarers.declarer_node K (l ∷ S)
declarer_node_fits K l S h = λ x p. (refl, refl, h x p)

declarer_by : (K : Shape) (l : Layer) (S : List Layer) (c1 c2 c3 c4 c5 c6 c7 c8 : Bool) → fits g.Declarer K (l ∷ S) → all_fit (if c1 then (g.Take t.ModeWord ∷ []) else (if c2 then (g.Take t.Ref ∷ g.DeclarerNode ∷ []) else (if c3 then (g.Opens b.Square ∷ g.Bounds ∷ g.Closes b.Square ∷ g.DeclarerNode ∷ []) else (if c4 then (g.Take t.Flex ∷ g.Opens b.Square ∷ g.Bounds ∷ g.Closes b.Square ∷ g.DeclarerNode ∷ []) else (if c5 then (g.Take t.Struct ∷ g.Opens b.Round ∷ g.Fields ∷ g.Closes b.Round ∷ []) else (if c6 then (g.Take t.Union ∷ g.Opens b.Round ∷ g.DeclarerNode ∷ g.Take t.Comma ∷ g.Declarers ∷ g.Closes b.Round ∷ []) else (if c7 then (g.Take t.Proc ∷ g.ProcedurePlan ∷ []) else (if c8 then (g.Take t.Long ∷ g.Take t.Int ∷ []) else ((g.Plain ∷ [])))))))))) K (l ∷ S)
declarer_by K l S true c2 c3 c4 c5 c6 c7 c8 h = h _ gr.mode_word
declarer_by K l S false true c3 c4 c5 c6 c7 c8 h = λ e p. back K l S _ _ (h _ (gr.ref p))
declarer_by K l S false false true c4 c5 c6 c7 c8 h = λ x p. (refl, λ e q. back K l S _ _ (h _ (gr.rows p q)))
declarer_by K l S false false false true c5 c6 c7 c8 h = λ x p. (refl, λ e q. back3 K l S _ _ _ (h _ (gr.flex p q)))
declarer_by K l S false false false false true c6 c7 c8 h = λ x p. (refl, back K l S _ _ (h _ (gr.struct_ p)))
declarer_by K l S false false false false false true c7 c8 h = λ e p x q. (refl, back K l S _ _ (h _ (gr.union_ p q)))
declarer_by K l S false false false false false false true c8 h = λ x p. back K l S _ _ (h _ (forms.proc_from p))
declarer_by K l S false false false false false false false true h = back K l S _ _ (h _ gr.long_int)
declarer_by K l S false false false false false false false false h = λ s p. h _ (gr.plain p)

pub declarer_fits : (K : Shape) (l : Layer) (S : List Layer) (text : List Sym) → fits g.Declarer K (l ∷ S) → all_fit (declarers.declarer text) K (l ∷ S)
declarer_fits K l S text h = declarer_by K l S (starts (Is t.ModeWord) text) (starts (Is t.Ref) text) (starts (Opens b.Square) text) (starts (Is t.Flex) text) (starts (Is t.Struct) text) (starts (Is t.Union) text) (starts (Is t.Proc) text) (starts (Is t.Long) text) h

procedure_plan_by : (K : Shape) (l : Layer) (S : List Layer) (c1 : Bool) → fits g.ProcedurePlan K (l ∷ S) → all_fit (if c1 then (g.Opens b.Round ∷ g.Declarers ∷ g.Closes b.Round ∷ g.Yields ∷ []) else ((g.Yields ∷ []))) K (l ∷ S)
procedure_plan_by K l S true h = λ x p. (refl, λ y q. back K l S _ _ (h _ (m.plan_some p q)))
procedure_plan_by K l S false h = λ x p. h _ (m.plan_none p)

pub procedure_plan_fits : (K : Shape) (l : Layer) (S : List Layer) (text : List Sym) → fits g.ProcedurePlan K (l ∷ S) → all_fit (declarers.procedure_plan text) K (l ∷ S)
procedure_plan_fits K l S text h = procedure_plan_by K l S (starts (Opens b.Round) text) h

yields_by : (K : Shape) (l : Layer) (S : List Layer) (c1 : Bool) → fits g.Yields K (l ∷ S) → all_fit (if c1 then (g.Begin ∷ g.Take t.Void ∷ g.Close k.VoidWord ∷ []) else ((g.DeclarerNode ∷ []))) K (l ∷ S)
yields_by K l S true h = (refl, refl, h _ gr.yield_void)
yields_by K l S false h = λ e p. h _ (gr.yield_ p)

pub yields_fits : (K : Shape) (l : Layer) (S : List Layer) (text : List Sym) → fits g.Yields K (l ∷ S) → all_fit (declarers.yields text) K (l ∷ S)
yields_fits K l S text h = yields_by K l S (starts (Is t.Void) text) h

pub declarers_fits : (K : Shape) (l : Layer) (S : List Layer) → fits g.Declarers K (l ∷ S) → all_fit declarers.declarers K (l ∷ S)
declarers_fits K l S h = λ e p x q. back K l S _ _ (h _ (forms.declarers_from p q))

declarers_tail_by : (K : Shape) (l : Layer) (S : List Layer) (c1 : Bool) → fits g.DeclarersTail K (l ∷ S) → all_fit (if c1 then (g.Take t.Comma ∷ g.Declarers ∷ []) else (([]))) K (l ∷ S)
declarers_tail_by K l S true h = λ x p. back K l S _ _ (h _ (m.comma_on p))
declarers_tail_by K l S false h = stay K l S (h _ m.comma_end)

pub declarers_tail_fits : (K : Shape) (l : Layer) (S : List Layer) (text : List Sym) → fits g.DeclarersTail K (l ∷ S) → all_fit (declarers.declarers_tail text) K (l ∷ S)
declarers_tail_fits K l S text h = declarers_tail_by K l S (starts (Is t.Comma) text) h

pub bounds_fits : (K : Shape) (l : Layer) (S : List Layer) → fits g.Bounds K (l ∷ S) → all_fit declarers.bounds K (l ∷ S)
bounds_fits K l S h = λ x p. (refl, refl, λ y q. back K l S _ _ (h _ (forms.bounds_from p q)))

bounds_tail_by : (K : Shape) (l : Layer) (S : List Layer) (c1 : Bool) → fits g.BoundsTail K (l ∷ S) → all_fit (if c1 then (g.Take t.Comma ∷ g.Bounds ∷ []) else (([]))) K (l ∷ S)
bounds_tail_by K l S true h = λ x p. back K l S _ _ (h _ (m.comma_on p))
bounds_tail_by K l S false h = stay K l S (h _ m.comma_end)

pub bounds_tail_fits : (K : Shape) (l : Layer) (S : List Layer) (text : List Sym) → fits g.BoundsTail K (l ∷ S) → all_fit (declarers.bounds_tail text) K (l ∷ S)
bounds_tail_fits K l S text h = bounds_tail_by K l S (starts (Is t.Comma) text) h

bound_by : (K : Shape) (l : Layer) (S : List Layer) (c1 c2 : Bool) → fits g.Bound K (l ∷ S) → all_fit (if c1 then (g.Take t.Colon ∷ []) else (if c2 then ([]) else ((g.Begin ∷ g.Unit ∷ g.BoundTail ∷ [])))) K (l ∷ S)
bound_by K l S true c2 h = h _ gr.bound_colon
bound_by K l S false true h = stay K l S (h _ gr.bound_none)
bound_by K l S false false h = λ j u p. f.tails_list p h

pub bound_fits : (K : Shape) (l : Layer) (S : List Layer) (text : List Sym) → fits g.Bound K (l ∷ S) → all_fit (declarers.bound text) K (l ∷ S)
bound_fits K l S text h = bound_by K l S (starts (Is t.Colon) text) (ends_bound text) h

bound_tail_by : (K : Shape) (S : List Layer) (c1 : Bool) → fits g.BoundTail K S → all_fit (if c1 then (g.Close k.Lower ∷ g.Take t.Colon ∷ g.Begin ∷ g.Unit ∷ g.Close k.Upper ∷ []) else ((g.Close k.Upper ∷ []))) K S
bound_tail_by K _ true (f.tails_list {l = l} {S = S} p h) = (refl, refl, λ j u q. (refl, refl, back3 K l S _ _ _ (h _ (gr.bound_both p q))))
bound_tail_by K _ false (f.tails_list {l = l} {S = S} p h) = (refl, refl, h _ (gr.bound_upper p))

pub bound_tail_fits : (K : Shape) (S : List Layer) (text : List Sym) → fits g.BoundTail K S → all_fit (declarers.bound_tail text) K S
bound_tail_fits K S text h = bound_tail_by K S (starts (Is t.Colon) text) h
