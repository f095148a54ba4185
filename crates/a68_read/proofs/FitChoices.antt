-- Where a goal fits, what it is made of fits: the parts of choices and loops.
use Rattle.std.proofs.Common.{Bool, true, false, List, [], ◌∷◌, refl, if◌then◌else◌}
use Rattle.a68_tree.specs.declared.kind.NodeKind.TheVariants as k
use Rattle.a68_symbols.specs.declared.sym.Token.TheVariants as t
use Rattle.a68_symbols.specs.declared.sym.Bracket.TheVariants as b
use Rattle.a68_symbols.specs.declared.sym.Sym.{Sym}
use Rattle.a68_tree.specs.Grammar as gr
use Rattle.a68_nodes.specs.Stack.{Layer}
use Rattle.a68_unit_productions.specs.declared.goal.Goal.TheVariants as g
use Rattle.a68_read.specs.Middles as m
use Rattle.a68_read.specs.Fits.{Shape, fits, all_fit}
use Rattle.a68_read.proofs.Joins.{back, back3, stay}
use Rattle.a68_read.proofs.Forms as forms
use Rattle.a68_productions.specs.Choices as choices
use Rattle.a68_symbols.specs.declared.sym.Sym.TheVariants.{Is}
use Rattle.a68_lookahead.specs.Symbols.{starts}

else_part_by : (K : Shape) (l : Layer) (S : List Layer) (c1 c2 : Bool) → fits g.ElsePart K (l ∷ S) → all_fit (if c1 then (g.Begin ∷ g.Take t.Elif ∷ g.EnquiryNode ∷ g.Take t.Then ∷ g.SerialNode ∷ g.ElsePart ∷ g.Close k.Conditional ∷ []) else (if c2 then (g.Take t.Else ∷ g.SerialNode ∷ []) else (([])))) K (l ∷ S)
else_part_by K l S true c2 h = λ a p e q x r. (refl, refl, h _ (gr.elif p q r))
else_part_by K l S false true h = λ a p. back K l S _ _ (h _ (gr.else_ p))
else_part_by K l S false false h = stay K l S (h _ gr.no_else)

pub else_part_fits : (K : Shape) (l : Layer) (S : List Layer) (text : List Sym) → fits g.ElsePart K (l ∷ S) → all_fit (choices.else_part text) K (l ∷ S)
else_part_fits K l S text h = else_part_by K l S (starts (Is t.Elif) text) (starts (Is t.Else) text) h

else_brief_by : (K : Shape) (l : Layer) (S : List Layer) (c1 c2 : Bool) → fits g.ElseBrief K (l ∷ S) → all_fit (if c1 then (g.Begin ∷ g.Take t.BarColon ∷ g.EnquiryNode ∷ g.Take t.Bar ∷ g.SerialNode ∷ g.ElseBrief ∷ g.Close k.Conditional ∷ []) else (if c2 then (g.Take t.Bar ∷ g.SerialNode ∷ []) else (([])))) K (l ∷ S)
else_brief_by K l S true c2 h = λ a p e q x r. (refl, refl, h _ (gr.elif_b p q r))
else_brief_by K l S false true h = λ a p. back K l S _ _ (h _ (gr.else_b p))
else_brief_by K l S false false h = stay K l S (h _ gr.no_else_b)

pub else_brief_fits : (K : Shape) (l : Layer) (S : List Layer) (text : List Sym) → fits g.ElseBrief K (l ∷ S) → all_fit (choices.else_brief text) K (l ∷ S)
else_brief_fits K l S text h = else_brief_by K l S (starts (Is t.BarColon) text) (starts (Is t.Bar) text) h

out_case_by : (K : Shape) (l : Layer) (S : List Layer) (c1 c2 : Bool) → fits g.OutCase K (l ∷ S) → all_fit (if c1 then (g.Begin ∷ g.Begin ∷ g.Take t.Ouse ∷ g.EnquiryNode ∷ g.Take t.In ∷ g.Unit ∷ g.Take t.Comma ∷ g.Units ∷ g.OutCase ∷ g.Close k.Case ∷ g.Close k.Out ∷ []) else (if c2 then (g.Take t.Out ∷ g.Begin ∷ g.SerialNode ∷ g.Close k.Out ∷ []) else (([])))) K (l ∷ S)
out_case_by K l S true c2 h = λ a p j u q x r y s. (refl, refl, (refl, refl, h _ (gr.out_again p (gr.two q r) s)))
out_case_by K l S false true h = λ a p. (refl, refl, back K l S _ _ (h _ (gr.out_serial p)))
out_case_by K l S false false h = stay K l S (h _ gr.no_out)

pub out_case_fits : (K : Shape) (l : Layer) (S : List Layer) (text : List Sym) → fits g.OutCase K (l ∷ S) → all_fit (choices.out_case text) K (l ∷ S)
out_case_fits K l S text h = out_case_by K l S (starts (Is t.Ouse) text) (starts (Is t.Out) text) h

out_case_brief_by : (K : Shape) (l : Layer) (S : List Layer) (c1 c2 : Bool) → fits g.OutCaseBrief K (l ∷ S) → all_fit (if c1 then (g.Begin ∷ g.Begin ∷ g.Take t.BarColon ∷ g.EnquiryNode ∷ g.Take t.Bar ∷ g.Unit ∷ g.Take t.Comma ∷ g.Units ∷ g.OutCaseBrief ∷ g.Close k.Case ∷ g.Close k.Out ∷ []) else (if c2 then (g.Take t.Bar ∷ g.Begin ∷ g.SerialNode ∷ g.Close k.Out ∷ []) else (([])))) K (l ∷ S)
out_case_brief_by K l S true c2 h = λ a p j u q x r y s. (refl, refl, (refl, refl, h _ (gr.outbrief_again p (gr.two q r) s)))
out_case_brief_by K l S false true h = λ a p. (refl, refl, back K l S _ _ (h _ (gr.outbrief_serial p)))
out_case_brief_by K l S false false h = stay K l S (h _ gr.no_outbrief)

pub out_case_brief_fits : (K : Shape) (l : Layer) (S : List Layer) (text : List Sym) → fits g.OutCaseBrief K (l ∷ S) → all_fit (choices.out_case_brief text) K (l ∷ S)
out_case_brief_fits K l S text h = out_case_brief_by K l S (starts (Is t.BarColon) text) (starts (Is t.Bar) text) h

out_conformity_by : (K : Shape) (l : Layer) (S : List Layer) (c1 c2 : Bool) → fits g.OutConformity K (l ∷ S) → all_fit (if c1 then (g.Begin ∷ g.Begin ∷ g.Take t.Ouse ∷ g.EnquiryNode ∷ g.Take t.In ∷ g.Choices ∷ g.OutConformity ∷ g.Close k.Conformity ∷ g.Close k.Out ∷ []) else (if c2 then (g.Take t.Out ∷ g.Begin ∷ g.SerialNode ∷ g.Close k.Out ∷ []) else (([])))) K (l ∷ S)
out_conformity_by K l S true c2 h = λ a p x q y r. (refl, refl, (refl, refl, h _ (gr.outc_again p q r)))
out_conformity_by K l S false true h = λ a p. (refl, refl, back K l S _ _ (h _ (gr.outc_serial p)))
out_conformity_by K l S false false h = stay K l S (h _ gr.no_outc)

pub out_conformity_fits : (K : Shape) (l : Layer) (S : List Layer) (text : List Sym) → fits g.OutConformity K (l ∷ S) → all_fit (choices.out_conformity text) K (l ∷ S)
out_conformity_fits K l S text h = out_conformity_by K l S (starts (Is t.Ouse) text) (starts (Is t.Out) text) h

out_conformity_brief_by : (K : Shape) (l : Layer) (S : List Layer) (c1 c2 : Bool) → fits g.OutConformityBrief K (l ∷ S) → all_fit (if c1 then (g.Begin ∷ g.Begin ∷ g.Take t.BarColon ∷ g.EnquiryNode ∷ g.Take t.Bar ∷ g.Choices ∷ g.OutConformityBrief ∷ g.Close k.Conformity ∷ g.Close k.Out ∷ []) else (if c2 then (g.Take t.Bar ∷ g.Begin ∷ g.SerialNode ∷ g.Close k.Out ∷ []) else (([])))) K (l ∷ S)
out_conformity_brief_by K l S true c2 h = λ a p x q y r. (refl, refl, (refl, refl, h _ (gr.outcbrief_again p q r)))
out_conformity_brief_by K l S false true h = λ a p. (refl, refl, back K l S _ _ (h _ (gr.outcbrief_serial p)))
out_conformity_brief_by K l S false false h = stay K l S (h _ gr.no_outcbrief)

pub out_conformity_brief_fits : (K : Shape) (l : Layer) (S : List Layer) (text : List Sym) → fits g.OutConformityBrief K (l ∷ S) → all_fit (choices.out_conformity_brief text) K (l ∷ S)
out_conformity_brief_fits K l S text h = out_conformity_brief_by K l S (starts (Is t.BarColon) text) (starts (Is t.Bar) text) h

loop_from_by : (K : Shape) (l : Layer) (S : List Layer) (c1 : Bool) → fits g.LoopFrom K (l ∷ S) → all_fit (if c1 then (g.Take t.From ∷ g.Begin ∷ g.Unit ∷ g.Close k.From ∷ g.LoopBy ∷ []) else ((g.LoopBy ∷ []))) K (l ∷ S)
loop_from_by K l S true h = λ j u p. (refl, refl, λ x q. back3 K l S _ _ _ (h _ (gr.from_ p q)))
loop_from_by K l S false h = λ x p. h _ (gr.no_from p)

pub loop_from_fits : (K : Shape) (l : Layer) (S : List Layer) (text : List Sym) → fits g.LoopFrom K (l ∷ S) → all_fit (choices.loop_from text) K (l ∷ S)
loop_from_fits K l S text h = loop_from_by K l S (starts (Is t.From) text) h

loop_by_by : (K : Shape) (l : Layer) (S : List Layer) (c1 : Bool) → fits g.LoopBy K (l ∷ S) → all_fit (if c1 then (g.Take t.By ∷ g.Begin ∷ g.Unit ∷ g.Close k.By ∷ g.LoopTo ∷ []) else ((g.LoopTo ∷ []))) K (l ∷ S)
loop_by_by K l S true h = λ j u p. (refl, refl, λ x q. back3 K l S _ _ _ (h _ (gr.by_ p q)))
loop_by_by K l S false h = λ x p. h _ (gr.no_by p)

pub loop_by_fits : (K : Shape) (l : Layer) (S : List Layer) (text : List Sym) → fits g.LoopBy K (l ∷ S) → all_fit (choices.loop_by text) K (l ∷ S)
loop_by_fits K l S text h = loop_by_by K l S (starts (Is t.By) text) h

loop_to_by : (K : Shape) (l : Layer) (S : List Layer) (c1 : Bool) → fits g.LoopTo K (l ∷ S) → all_fit (if c1 then (g.Take t.To ∷ g.Begin ∷ g.Unit ∷ g.Close k.To ∷ g.LoopWhile ∷ []) else ((g.LoopWhile ∷ []))) K (l ∷ S)
loop_to_by K l S true h = λ j u p. (refl, refl, λ x q. back3 K l S _ _ _ (h _ (gr.to_ p q)))
loop_to_by K l S false h = λ x p. h _ (gr.no_to p)

pub loop_to_fits : (K : Shape) (l : Layer) (S : List Layer) (text : List Sym) → fits g.LoopTo K (l ∷ S) → all_fit (choices.loop_to text) K (l ∷ S)
loop_to_fits K l S text h = loop_to_by K l S (starts (Is t.To) text) h

loop_while_by : (K : Shape) (l : Layer) (S : List Layer) (c1 : Bool) → fits g.LoopWhile K (l ∷ S) → all_fit (if c1 then (g.Take t.While ∷ g.Begin ∷ g.EnquiryNode ∷ g.Close k.While ∷ g.Opens b.Do ∷ g.SerialNode ∷ g.Closes b.Do ∷ []) else ((g.Opens b.Do ∷ g.SerialNode ∷ g.Closes b.Do ∷ []))) K (l ∷ S)
loop_while_by K l S true h = λ a p. (refl, refl, λ e q. (refl, back3 K l S _ _ _ (h _ (gr.while_ p q))))
loop_while_by K l S false h = λ e q. (refl, h _ (gr.no_while q))

pub loop_while_fits : (K : Shape) (l : Layer) (S : List Layer) (text : List Sym) → fits g.LoopWhile K (l ∷ S) → all_fit (choices.loop_while text) K (l ∷ S)
loop_while_fits K l S text h = loop_while_by K l S (starts (Is t.While) text) h

pub choices_fits : (K : Shape) (l : Layer) (S : List Layer) → fits g.Choices K (l ∷ S) → all_fit choices.choices K (l ∷ S)
choices_fits K l S h = λ s p. (refl, refl, λ j u q x r. back3 K l S _ _ _ (h _ (forms.choices_from p q r)))

choices_tail_by : (K : Shape) (l : Layer) (S : List Layer) (c1 : Bool) → fits g.ChoicesTail K (l ∷ S) → all_fit (if c1 then (g.Take t.Comma ∷ g.Choices ∷ []) else (([]))) K (l ∷ S)
choices_tail_by K l S true h = λ x p. back K l S _ _ (h _ (m.comma_on p))
choices_tail_by K l S false h = stay K l S (h _ m.comma_end)

pub choices_tail_fits : (K : Shape) (l : Layer) (S : List Layer) (text : List Sym) → fits g.ChoicesTail K (l ∷ S) → all_fit (choices.choices_tail text) K (l ∷ S)
choices_tail_fits K l S text h = choices_tail_by K l S (starts (Is t.Comma) text) h

pub choice_spec_fits : (K : Shape) (l : Layer) (S : List Layer) → fits g.ChoiceSpec K (l ∷ S) → all_fit choices.choice_spec K (l ∷ S)
choice_spec_fits K l S h = λ e p x q. (refl, back K l S _ _ (h _ (forms.spec_from p q)))

spec_tag_by : (K : Shape) (l : Layer) (S : List Layer) (c1 : Bool) → fits g.SpecTag K (l ∷ S) → all_fit (if c1 then (g.Begin ∷ g.Take t.Tag ∷ g.Close k.Parameter ∷ []) else (([]))) K (l ∷ S)
spec_tag_by K l S true h = (refl, refl, h _ m.a_spec_tag)
spec_tag_by K l S false h = stay K l S (h _ m.no_spec_tag)

pub spec_tag_fits : (K : Shape) (l : Layer) (S : List Layer) (text : List Sym) → fits g.SpecTag K (l ∷ S) → all_fit (choices.spec_tag text) K (l ∷ S)
spec_tag_fits K l S text h = spec_tag_by K l S (starts (Is t.Tag) text) h
