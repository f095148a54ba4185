-- Where a goal fits, what it is made of fits: secondaries and primaries.
use Rattle.std.proofs.Common.{Bool, true, false, List, [], ◌∷◌, refl, if◌then◌else◌}
use Rattle.a68_tree.specs.declared.kind.NodeKind.TheVariants as k
use Rattle.a68_symbols.specs.declared.sym.Token.TheVariants as t
use Rattle.a68_symbols.specs.declared.sym.Bracket.TheVariants as b
use Rattle.a68_symbols.specs.declared.sym.Sym.{Sym}
use Rattle.a68_tree.specs.Grammar as gr
use Rattle.a68_nodes.specs.Stack.{Layer}
use Rattle.a68_unit_productions.specs.declared.goal.Goal.TheVariants as g
use Rattle.a68_read.specs.Middles as m
use Rattle.a68_read.specs.Fits as f
use Rattle.a68_read.specs.Fits.{Shape, fits, all_fit}
use Rattle.a68_read.proofs.Joins.{back, back3, stay}
use Rattle.a68_read.proofs.Forms as forms
use Rattle.a68_unit_productions.specs.Primaries as primaries
use Rattle.a68_symbols.specs.declared.sym.Sym.TheVariants.{Opens, Is}
use Rattle.a68_lookahead.specs.Symbols.{starts, starts_pair, is_denotation, is_declarer, ends_trimmer}

secondary_by : (K : Shape) (S : List Layer) (c1 c2 c3 : Bool) → fits g.Secondary K S → all_fit (if c1 then (g.Take t.Tag ∷ g.Take t.Of ∷ g.Begin ∷ g.Secondary ∷ g.Leave ∷ g.Wrap k.Selection ∷ []) else (if c2 then (g.Take t.Loc ∷ g.DeclarerNode ∷ g.Wrap k.Generator ∷ []) else (if c3 then (g.Take t.Heap ∷ g.DeclarerNode ∷ g.Wrap k.Generator ∷ []) else ((g.Base ∷ g.PrimaryTail ∷ []))))) K S
secondary_by K _ true c2 c3 (f.fresh ends) = f.fresh (λ j u p. (refl, (refl, refl, ends _ _ (gr.selection p))))
secondary_by K _ false true c3 (f.fresh ends) = λ e p. (refl, refl, ends _ _ (gr.generator_loc p))
secondary_by K _ false false true (f.fresh ends) = λ e p. (refl, refl, ends _ _ (gr.generator_heap p))
secondary_by K _ false false false (f.fresh ends) = f.fresh (λ j u p. f.tails (forms.base_primary p) (λ i v q. ends _ _ (gr.primary q)))

pub secondary_fits : (K : Shape) (S : List Layer) (text : List Sym) → fits g.Secondary K S → all_fit (primaries.secondary text) K S
secondary_fits K S text h = secondary_by K S (starts_pair (Is t.Tag) (Is t.Of) text) (starts (Is t.Loc) text) (starts (Is t.Heap) text) h

base_by : (K : Shape) (S : List Layer) (c1 c2 c3 c4 c5 c6 : Bool) → fits g.Base K S → all_fit (if c1 then (g.Take t.Tag ∷ g.Wrap k.Tag ∷ []) else (if c2 then (g.Denotation ∷ g.Wrap k.Denotation ∷ []) else (if c3 then (g.Take t.Long ∷ g.Take t.Digit ∷ g.WrapLong ∷ []) else (if c4 then (g.Take t.Long ∷ g.Take t.Number ∷ g.WrapLong ∷ []) else (if c5 then (g.Begin ∷ g.Take t.Void ∷ g.Close k.VoidWord ∷ g.Begin ∷ g.Enclosed ∷ g.Leave ∷ g.Wrap k.Cast ∷ []) else (if c6 then (g.DeclarerNode ∷ g.Begin ∷ g.Enclosed ∷ g.Leave ∷ g.Wrap k.Cast ∷ []) else ((g.Enclosed ∷ [])))))))) K S
base_by K _ true c2 c3 c4 c5 c6 (f.fresh ends) = (refl, refl, ends _ _ m.base_tag)
base_by K _ false true c3 c4 c5 c6 (f.fresh ends) = λ s p. (refl, refl, ends _ _ (m.base_denotation p))
base_by K _ false false true c4 c5 c6 (f.fresh ends) = (refl, f.has_mark, ends _ _ (m.base_long_denotation gr.number_digit))
base_by K _ false false false true c5 c6 (f.fresh ends) = (refl, f.has_mark, ends _ _ (m.base_long_denotation gr.number_other))
base_by K _ false false false false true c6 (f.fresh ends) = (refl, refl, f.fresh (λ j u p. (refl, (refl, refl, ends _ _ (m.base_cast_void p)))))
base_by K _ false false false false false true (f.fresh ends) = λ e p. f.fresh (λ j u q. (refl, (refl, refl, ends _ _ (m.base_cast p q))))
base_by K _ false false false false false false (f.fresh ends) = f.fresh (λ j u p. ends _ _ (m.base_enclosed p))

pub base_fits : (K : Shape) (S : List Layer) (text : List Sym) → fits g.Base K S → all_fit (primaries.base text) K S
base_fits K S text h = base_by K S (starts (Is t.Tag) text) (is_denotation text) (starts_pair (Is t.Long) (Is t.Digit) text) (starts_pair (Is t.Long) (Is t.Number) text) (starts (Is t.Void) text) (is_declarer text) h

primary_tail_by : (K : Shape) (S : List Layer) (c1 c2 : Bool) → fits g.PrimaryTail K S → all_fit (if c1 then (g.Opens b.Square ∷ g.Indexes ∷ g.Closes b.Square ∷ g.Wrap k.Slice ∷ g.PrimaryTail ∷ []) else (if c2 then (g.Opens b.Round ∷ g.Units ∷ g.Closes b.Round ∷ g.Wrap k.Call ∷ g.PrimaryTail ∷ []) else (([])))) K S
primary_tail_by K _ true c2 (f.tails p ends) = λ i q. (refl, (refl, refl, f.tails (gr.slice p q) ends))
primary_tail_by K _ false true (f.tails p ends) = λ x q. (refl, (refl, refl, f.tails (gr.call p q) ends))
primary_tail_by K _ false false (f.tails p ends) = ends _ _ p

pub primary_tail_fits : (K : Shape) (S : List Layer) (text : List Sym) → fits g.PrimaryTail K S → all_fit (primaries.primary_tail text) K S
primary_tail_fits K S text h = primary_tail_by K S (starts (Opens b.Square) text) (starts (Opens b.Round) text) h

pub indexes_fits : (K : Shape) (l : Layer) (S : List Layer) → fits g.Indexes K (l ∷ S) → all_fit primaries.indexes K (l ∷ S)
indexes_fits K l S h = λ x p. (refl, refl, λ y q. back K l S _ _ (h _ (forms.indexes_from p q)))

indexes_tail_by : (K : Shape) (l : Layer) (S : List Layer) (c1 : Bool) → fits g.IndexesTail K (l ∷ S) → all_fit (if c1 then (g.Take t.Comma ∷ g.Indexes ∷ []) else (([]))) K (l ∷ S)
indexes_tail_by K l S true h = λ x p. back K l S _ _ (h _ (m.comma_on p))
indexes_tail_by K l S false h = stay K l S (h _ m.comma_end)

pub indexes_tail_fits : (K : Shape) (l : Layer) (S : List Layer) (text : List Sym) → fits g.IndexesTail K (l ∷ S) → all_fit (primaries.indexes_tail text) K (l ∷ S)
indexes_tail_fits K l S text h = indexes_tail_by K l S (starts (Is t.Comma) text) h

index_by : (K : Shape) (l : Layer) (S : List Layer) (c1 c2 : Bool) → fits g.Index K (l ∷ S) → all_fit (if c1 then (g.Take t.Colon ∷ g.Trimmer ∷ []) else (if c2 then (g.AtPart ∷ []) else ((g.Begin ∷ g.Unit ∷ g.IndexTail ∷ [])))) K (l ∷ S)
index_by K l S true c2 h = λ x p. back K l S _ _ (h _ (gr.index_colon p))
index_by K l S false true h = λ x p. h _ (gr.index_at p)
index_by K l S false false h = λ j u p. f.tails_list p h

pub index_fits : (K : Shape) (l : Layer) (S : List Layer) (text : List Sym) → fits g.Index K (l ∷ S) → all_fit (primaries.index text) K (l ∷ S)
index_fits K l S text h = index_by K l S (starts (Is t.Colon) text) (ends_trimmer text) h

index_tail_by : (K : Shape) (S : List Layer) (c1 : Bool) → fits g.IndexTail K S → all_fit (if c1 then (g.Close k.Lower ∷ g.Take t.Colon ∷ g.Trimmer ∷ []) else ((g.Leave ∷ []))) K S
index_tail_by K _ true (f.tails_list {l = l} {S = S} p h) = (refl, refl, λ x q. back3 K l S _ _ _ (h _ (gr.index_from p q)))
index_tail_by K _ false (f.tails_list {l = l} {S = S} p h) = (refl, h _ (gr.index_unit p))

pub index_tail_fits : (K : Shape) (S : List Layer) (text : List Sym) → fits g.IndexTail K S → all_fit (primaries.index_tail text) K S
index_tail_fits K S text h = index_tail_by K S (starts (Is t.Colon) text) h

trimmer_by : (K : Shape) (l : Layer) (S : List Layer) (c1 : Bool) → fits g.Trimmer K (l ∷ S) → all_fit (if c1 then (g.AtPart ∷ []) else ((g.Begin ∷ g.Unit ∷ g.Close k.Upper ∷ g.AtPart ∷ []))) K (l ∷ S)
trimmer_by K l S true h = λ x p. h _ (gr.trimmer_open p)
trimmer_by K l S false h = λ j u p. (refl, refl, λ x q. back K l S _ _ (h _ (gr.trimmer_upper p q)))

pub trimmer_fits : (K : Shape) (l : Layer) (S : List Layer) (text : List Sym) → fits g.Trimmer K (l ∷ S) → all_fit (primaries.trimmer text) K (l ∷ S)
trimmer_fits K l S text h = trimmer_by K l S (ends_trimmer text) h

at_part_by : (K : Shape) (l : Layer) (S : List Layer) (c1 : Bool) → fits g.AtPart K (l ∷ S) → all_fit (if c1 then (g.Take t.At ∷ g.Begin ∷ g.Unit ∷ g.Close k.At ∷ []) else (([]))) K (l ∷ S)
at_part_by K l S true h = λ j u p. (refl, refl, back K l S _ _ (h _ (gr.at_ p)))
at_part_by K l S false h = stay K l S (h _ gr.no_at)

pub at_part_fits : (K : Shape) (l : Layer) (S : List Layer) (text : List Sym) → fits g.AtPart K (l ∷ S) → all_fit (primaries.at_part text) K (l ∷ S)
at_part_fits K l S text h = at_part_by K l S (starts (Is t.At) text) h
