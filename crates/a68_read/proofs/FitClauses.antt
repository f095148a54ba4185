-- Where a goal fits, what it is made of fits: closed, collateral and parallel clauses, choices and loops.
use Rattle.std.proofs.Common.{Bool, true, false, List, [], ◌∷◌, refl, subst, if◌then◌else◌}
use Rattle.a68_tree.specs.declared.kind.NodeKind.TheVariants as k
use Rattle.a68_symbols.specs.declared.sym.Token.TheVariants as t
use Rattle.a68_symbols.specs.declared.sym.Bracket.TheVariants as b
use Rattle.a68_symbols.specs.declared.sym.Sym.{Sym}
use Rattle.a68_tree.specs.Forest.{end, mark, part}
use Rattle.a68_tree.specs.Grammar as gr
use Rattle.a68_tree.proofs.Joining.{joined_end}
use Rattle.a68_nodes.specs.Stack.{Layer}
use Rattle.a68_unit_productions.specs.declared.goal.Goal.TheVariants as g
use Rattle.a68_read.specs.Middles as m
use Rattle.a68_read.specs.Fits as f
use Rattle.a68_read.specs.Fits.{Shape, fits, all_fit}
use Rattle.a68_read.proofs.Forms as forms
use Rattle.a68_productions.specs.Clauses as clauses
use Rattle.a68_symbols.specs.declared.sym.Sym.TheVariants.{Opens, Closes, Is}
use Rattle.a68_lookahead.specs.Ahead.{phrase_ahead, spec_ahead}
use Rattle.a68_lookahead.specs.Symbols.{starts, label_ahead}

enclosed_by : (K : Shape) (S : List Layer) (c1 c2 c3 c4 c5 c6 : Bool) → fits g.Enclosed K S → all_fit (if c1 then (g.Opens b.Round ∷ g.Brief ∷ []) else (if c2 then (g.Opens b.Begin ∷ g.Block ∷ []) else (if c3 then (g.Take t.Par ∷ g.Parallel ∷ []) else (if c4 then (g.Opens b.If ∷ g.EnquiryNode ∷ g.Take t.Then ∷ g.SerialNode ∷ g.ElsePart ∷ g.Closes b.If ∷ g.Wrap k.Conditional ∷ []) else (if c5 then (g.Opens b.Case ∷ g.EnquiryNode ∷ g.Take t.In ∷ g.CaseChoice ∷ []) else (if c6 then (g.Take t.For ∷ g.Begin ∷ g.Take t.Tag ∷ g.Close k.For ∷ g.LoopFrom ∷ g.Wrap k.Loop ∷ []) else ((g.LoopFrom ∷ g.Wrap k.Loop ∷ [])))))))) K S
enclosed_by K _ true c2 c3 c4 c5 c6 (f.fresh ends) = f.within ends
enclosed_by K _ false true c3 c4 c5 c6 (f.fresh ends) = f.within ends
enclosed_by K _ false false true c4 c5 c6 (f.fresh ends) = f.within_parallel ends
enclosed_by K _ false false false true c5 c6 (f.fresh ends) = λ a p e q x r. (refl, (refl, refl, ends _ _ (gr.conditional p q r)))
enclosed_by K _ false false false false true c6 (f.fresh ends) = λ a p. f.within_enquiry p ends
enclosed_by K _ false false false false false true (f.fresh ends) = (refl, refl, λ x p. (refl, refl, ends _ _ (gr.loop (gr.for_ p))))
enclosed_by K _ false false false false false false (f.fresh ends) = λ x p. (refl, refl, ends _ _ (gr.loop (gr.no_for p)))

pub enclosed_fits : (K : Shape) (S : List Layer) (text : List Sym) → fits g.Enclosed K S → all_fit (clauses.enclosed text) K S
enclosed_fits K S text h = enclosed_by K S (starts (Opens b.Round) text) (starts (Opens b.Begin) text) (starts (Is t.Par) text) (starts (Opens b.If) text) (starts (Opens b.Case) text) (starts (Is t.For) text) h

brief_by : (K : Shape) (S : List Layer) (c1 c2 c3 : Bool) → fits g.Brief K S → all_fit (if c1 then (g.Closes b.Round ∷ g.Wrap k.Vacuum ∷ []) else (if c2 then (g.Begin ∷ g.Labelled ∷ g.BriefLabelled ∷ []) else (if c3 then (g.Begin ∷ g.Declaration ∷ g.Take t.Semicolon ∷ g.BriefSteps ∷ []) else ((g.Begin ∷ g.Unit ∷ g.BriefUnit ∷ []))))) K S
brief_by K _ true c2 c3 (f.within ends) = (refl, (refl, refl, ends _ _ (gr.vacuum gr.closing_round)))
brief_by K _ false true c3 (f.within ends) = λ a p. f.within_labelled (gr.serial_labelled p) ends
brief_by K _ false false true (f.within ends) = λ e p. f.within_steps (λ a q. forms.declared_serial p q) (λ a q. forms.declared_enquiry p q) ends
brief_by K _ false false false (f.within ends) = λ j u p. f.within_unit p ends

pub brief_fits : (K : Shape) (S : List Layer) (text : List Sym) → fits g.Brief K S → all_fit (clauses.brief text) K S
brief_fits K S text h = brief_by K S (starts (Closes b.Round) text) (label_ahead text) (phrase_ahead text) h

brief_unit_by : (K : Shape) (S : List Layer) (c1 : Bool) → fits g.BriefUnit K S → all_fit (if c1 then (g.Leave ∷ g.Take t.Comma ∷ g.Units ∷ g.Closes b.Round ∷ g.Wrap k.Collateral ∷ []) else ((g.BriefTail ∷ []))) K S
brief_unit_by K _ true (f.within_unit p ends) = (refl, λ x q. (refl, (refl, refl, ends _ _ (gr.collateral gr.closing_round (gr.two p q)))))
brief_unit_by K _ false (f.within_unit p ends) = f.within_steps (λ a q. forms.unit_serial p q) (λ a q. forms.unit_enquiry p q) ends

pub brief_unit_fits : (K : Shape) (S : List Layer) (text : List Sym) → fits g.BriefUnit K S → all_fit (clauses.brief_unit text) K S
brief_unit_fits K S text h = brief_unit_by K S (starts (Is t.Comma) text) h

brief_tail_by : (K : Shape) (S : List Layer) (c1 c2 : Bool) → fits g.BriefTail K S → all_fit (if c1 then (g.Take t.Semicolon ∷ g.BriefSteps ∷ []) else (if c2 then (g.Begin ∷ g.Take t.Exit ∷ g.Close k.Exit ∷ g.Labelled ∷ g.BriefLabelled ∷ []) else ((g.Close k.Serial ∷ g.BriefEnd ∷ [])))) K S
brief_tail_by K _ true c2 (f.within_steps {x = x} serial enquiry ends) =
    f.within_steps (λ a q. forms.behind_one gr.IsSerial x (mark t.Semicolon end) a (serial _ (m.serial_on q))) (λ a q. forms.behind_one gr.IsEnquiry x (mark t.Semicolon end) a (enquiry _ (m.enquiry_on q))) ends
brief_tail_by K _ false true (f.within_steps {x = x} serial enquiry ends) =
    (refl, refl, λ a q. f.within_labelled (forms.behind_one gr.IsSerial x (part k.Exit (mark t.Exit end) end) a (serial _ (m.serial_out q))) ends)
brief_tail_by K _ false false (f.within_steps {x = x} serial enquiry ends) = (refl, refl, f.within_enquiry (subst gr.IsEnquiry (joined_end x) (enquiry _ m.enquiry_end)) ends)

pub brief_tail_fits : (K : Shape) (S : List Layer) (text : List Sym) → fits g.BriefTail K S → all_fit (clauses.brief_tail text) K S
brief_tail_fits K S text h = brief_tail_by K S (starts (Is t.Semicolon) text) (starts (Is t.Exit) text) h

brief_steps_by : (K : Shape) (S : List Layer) (c1 c2 : Bool) → fits g.BriefSteps K S → all_fit (if c1 then (g.Labelled ∷ g.BriefLabelled ∷ []) else (if c2 then (g.Declaration ∷ g.Take t.Semicolon ∷ g.BriefSteps ∷ []) else ((g.Unit ∷ g.BriefTail ∷ [])))) K S
brief_steps_by K _ true c2 (f.within_steps serial enquiry ends) = λ a q. f.within_labelled (serial _ (gr.serial_labelled q)) ends
brief_steps_by K _ false true (f.within_steps {x = x} serial enquiry ends) =
    λ d p. f.within_steps (λ a q. forms.behind_two gr.IsSerial x d (mark t.Semicolon end) a (serial _ (gr.serial_declaration p q)))
    (λ a q. forms.behind_two gr.IsEnquiry x d (mark t.Semicolon end) a (enquiry _ (gr.enquiry_declaration p q))) ends
brief_steps_by K _ false false (f.within_steps {x = x} serial enquiry ends) =
    λ j u p. f.within_steps (λ a q. forms.behind_one gr.IsSerial x (part j u end) a (serial _ (forms.unit_serial p q)))
    (λ a q. forms.behind_one gr.IsEnquiry x (part j u end) a (enquiry _ (forms.unit_enquiry p q))) ends

pub brief_steps_fits : (K : Shape) (S : List Layer) (text : List Sym) → fits g.BriefSteps K S → all_fit (clauses.brief_steps text) K S
brief_steps_fits K S text h = brief_steps_by K S (label_ahead text) (phrase_ahead text) h

pub brief_labelled_fits : (K : Shape) (S : List Layer) → fits g.BriefLabelled K S → all_fit clauses.brief_labelled K S
brief_labelled_fits K _ (f.within_labelled p ends) = (refl, refl, (refl, (refl, refl, ends _ _ (gr.closed gr.closing_round p))))

brief_end_by : (K : Shape) (S : List Layer) (c1 : Bool) → fits g.BriefEnd K S → all_fit (if c1 then (g.Take t.Bar ∷ g.BriefChoice ∷ []) else ((g.Closes b.Round ∷ g.Wrap k.Closed ∷ []))) K S
brief_end_by K _ true (f.within_enquiry p ends) = f.within_enquiry p ends
brief_end_by K _ false (f.within_enquiry p ends) = (refl, (refl, refl, ends _ _ (gr.closed gr.closing_round (forms.as_serial p))))

pub brief_end_fits : (K : Shape) (S : List Layer) (text : List Sym) → fits g.BriefEnd K S → all_fit (clauses.brief_end text) K S
brief_end_fits K S text h = brief_end_by K S (starts (Is t.Bar) text) h

brief_choice_by : (K : Shape) (S : List Layer) (c1 c2 c3 : Bool) → fits g.BriefChoice K S → all_fit (if c1 then (g.Choices ∷ g.OutConformityBrief ∷ g.Closes b.Round ∷ g.Wrap k.Conformity ∷ []) else (if c2 then (g.Begin ∷ g.Labelled ∷ g.Close k.Serial ∷ g.ElseBrief ∷ g.Closes b.Round ∷ g.Wrap k.Conditional ∷ []) else (if c3 then (g.Begin ∷ g.Declaration ∷ g.Take t.Semicolon ∷ g.Serial ∷ g.Close k.Serial ∷ g.ElseBrief ∷ g.Closes b.Round ∷ g.Wrap k.Conditional ∷ []) else ((g.Begin ∷ g.Unit ∷ g.BriefChosen ∷ []))))) K S
brief_choice_by K _ true c2 c3 (f.within_enquiry p ends) = λ x q y r. (refl, (refl, refl, ends _ _ (gr.conformity_brief p q r)))
brief_choice_by K _ false true c3 (f.within_enquiry p ends) = λ a q. (refl, refl, λ y s. (refl, (refl, refl, ends _ _ (gr.conditional_brief p (gr.serial_labelled q) s))))
brief_choice_by K _ false false true (f.within_enquiry p ends) = λ e q a r. (refl, refl, λ y s. (refl, (refl, refl, ends _ _ (gr.conditional_brief p (forms.declared_serial q r) s))))
brief_choice_by K _ false false false (f.within_enquiry p ends) = λ j u q. f.within_chosen p q ends

pub brief_choice_fits : (K : Shape) (S : List Layer) (text : List Sym) → fits g.BriefChoice K S → all_fit (clauses.brief_choice text) K S
brief_choice_fits K S text h = brief_choice_by K S (spec_ahead text) (label_ahead text) (phrase_ahead text) h

brief_chosen_by : (K : Shape) (S : List Layer) (c1 : Bool) → fits g.BriefChosen K S → all_fit (if c1 then (g.Leave ∷ g.Take t.Comma ∷ g.Units ∷ g.OutCaseBrief ∷ g.Closes b.Round ∷ g.Wrap k.Case ∷ []) else ((g.SerialTail ∷ g.Close k.Serial ∷ g.ElseBrief ∷ g.Closes b.Round ∷ g.Wrap k.Conditional ∷ []))) K S
brief_chosen_by K _ true (f.within_chosen p q ends) = (refl, λ x r y s. (refl, (refl, refl, ends _ _ (gr.case_brief p (gr.two q r) s))))
brief_chosen_by K _ false (f.within_chosen p q ends) = λ x r. (refl, refl, λ y s. (refl, (refl, refl, ends _ _ (gr.conditional_brief p (forms.unit_serial q r) s))))

pub brief_chosen_fits : (K : Shape) (S : List Layer) (text : List Sym) → fits g.BriefChosen K S → all_fit (clauses.brief_chosen text) K S
brief_chosen_fits K S text h = brief_chosen_by K S (starts (Is t.Comma) text) h

block_by : (K : Shape) (S : List Layer) (c1 c2 c3 : Bool) → fits g.Block K S → all_fit (if c1 then (g.Closes b.Begin ∷ g.Wrap k.Vacuum ∷ []) else (if c2 then (g.Begin ∷ g.Labelled ∷ g.Close k.Serial ∷ g.Closes b.Begin ∷ g.Wrap k.Closed ∷ []) else (if c3 then (g.Begin ∷ g.Declaration ∷ g.Take t.Semicolon ∷ g.Serial ∷ g.Close k.Serial ∷ g.Closes b.Begin ∷ g.Wrap k.Closed ∷ []) else ((g.Begin ∷ g.Unit ∷ g.BlockUnit ∷ []))))) K S
block_by K _ true c2 c3 (f.within ends) = (refl, (refl, refl, ends _ _ (gr.vacuum gr.closing_begin)))
block_by K _ false true c3 (f.within ends) = λ a q. (refl, refl, (refl, (refl, refl, ends _ _ (gr.closed gr.closing_begin (gr.serial_labelled q)))))
block_by K _ false false true (f.within ends) = λ e p a q. (refl, refl, (refl, (refl, refl, ends _ _ (gr.closed gr.closing_begin (forms.declared_serial p q)))))
block_by K _ false false false (f.within ends) = λ j u p. f.within_unit p ends

pub block_fits : (K : Shape) (S : List Layer) (text : List Sym) → fits g.Block K S → all_fit (clauses.block text) K S
block_fits K S text h = block_by K S (starts (Closes b.Begin) text) (label_ahead text) (phrase_ahead text) h

block_unit_by : (K : Shape) (S : List Layer) (c1 : Bool) → fits g.BlockUnit K S → all_fit (if c1 then (g.Leave ∷ g.Take t.Comma ∷ g.Units ∷ g.Closes b.Begin ∷ g.Wrap k.Collateral ∷ []) else ((g.SerialTail ∷ g.Close k.Serial ∷ g.Closes b.Begin ∷ g.Wrap k.Closed ∷ []))) K S
block_unit_by K _ true (f.within_unit p ends) = (refl, λ x q. (refl, (refl, refl, ends _ _ (gr.collateral gr.closing_begin (gr.two p q)))))
block_unit_by K _ false (f.within_unit p ends) = λ x q. (refl, refl, (refl, (refl, refl, ends _ _ (gr.closed gr.closing_begin (forms.unit_serial p q)))))

pub block_unit_fits : (K : Shape) (S : List Layer) (text : List Sym) → fits g.BlockUnit K S → all_fit (clauses.block_unit text) K S
block_unit_fits K S text h = block_unit_by K S (starts (Is t.Comma) text) h

parallel_by : (K : Shape) (S : List Layer) (c1 : Bool) → fits g.Parallel K S → all_fit (if c1 then (g.Opens b.Round ∷ g.Units ∷ g.Closes b.Round ∷ g.Wrap k.Parallel ∷ []) else ((g.Opens b.Begin ∷ g.Units ∷ g.Closes b.Begin ∷ g.Wrap k.Parallel ∷ []))) K S
parallel_by K _ true (f.within_parallel ends) = λ x p. (refl, (refl, refl, ends _ _ (gr.parallel gr.closing_round p)))
parallel_by K _ false (f.within_parallel ends) = λ x p. (refl, (refl, refl, ends _ _ (gr.parallel gr.closing_begin p)))

pub parallel_fits : (K : Shape) (S : List Layer) (text : List Sym) → fits g.Parallel K S → all_fit (clauses.parallel text) K S
parallel_fits K S text h = parallel_by K S (starts (Opens b.Round) text) h

case_choice_by : (K : Shape) (S : List Layer) (c1 : Bool) → fits g.CaseChoice K S → all_fit (if c1 then (g.Choices ∷ g.OutConformity ∷ g.Closes b.Case ∷ g.Wrap k.Conformity ∷ []) else ((g.Unit ∷ g.Take t.Comma ∷ g.Units ∷ g.OutCase ∷ g.Closes b.Case ∷ g.Wrap k.Case ∷ []))) K S
case_choice_by K _ true (f.within_enquiry p ends) = λ x q y r. (refl, (refl, refl, ends _ _ (gr.conformity p q r)))
case_choice_by K _ false (f.within_enquiry p ends) = λ j u q x r y s. (refl, (refl, refl, ends _ _ (gr.case_ p (gr.two q r) s)))

pub case_choice_fits : (K : Shape) (S : List Layer) (text : List Sym) → fits g.CaseChoice K S → all_fit (clauses.case_choice text) K S
case_choice_fits K S text h = case_choice_by K S (spec_ahead text) h
