-- Where a goal stands for what is at the front of a text, so do the goals that it is made of: the parts of choices and loops.
use Rattle.std.proofs.Common.{List, ◌∷◌, refl}
use Rattle.a68_symbols.specs.declared.sym.Token.TheVariants as t
use Rattle.a68_symbols.specs.declared.sym.Sym.{Sym}
use Rattle.a68_symbols.specs.declared.sym.Sym.TheVariants.{Is}
use Rattle.a68_tree.specs.Forest.{Forest, end, joined, spells}
use Rattle.a68_tree.specs.Grammar as gr
use Rattle.a68_nodes.specs.Stack.{Layer, put}
use Rattle.a68_lookahead.specs.Symbols.{Follows, next}
use Rattle.a68_lookahead.specs.Sets as set
use Rattle.a68_lookahead.proofs.Firsts as first
use Rattle.a68_lookahead.proofs.Firsts.{no_first, no_next, no_first_pair, clause_unit, closes_clause, closes_unit, unit_tertiary, tertiary_secondary, secondary_base, definition_unit, declaration_definition}
use Rattle.a68_unit_productions.specs.declared.goal.Goal.TheVariants as g
use Rattle.a68_read.specs.Middles as m
use Rattle.a68_read.specs.Awaits as a
use Rattle.a68_read.specs.Awaits.{Awaited, awaits, all_await}
use Rattle.a68_productions.specs.Choices as choices
use Rattle.a68_read.proofs.Joins as joins
use Rattle.a68_tree.proofs.Joining.{spells_joined}
use Rattle.a68_read.proofs.Behind as behind

-- what is put in pieces, where a text is left
back : (K : Awaited) (r : List Sym) (l : Layer) (S : List Layer) (x y : Forest) → K (put l (joined x y) ∷ S) r → K (put (put l x) y ∷ S) r
back K r l S x y h = joins.back (λ (T : List Layer). K T r) l S x y h

back3 : (K : Awaited) (r : List Sym) (l : Layer) (S : List Layer) (x y z : Forest) → K (put l (joined x (joined y z)) ∷ S) r → K (put (put (put l x) y) z ∷ S) r
back3 K r l S x y z h = joins.back3 (λ (T : List Layer). K T r) l S x y z h

back4 : (K : Awaited) (r : List Sym) (l : Layer) (S : List Layer) (x y z w : Forest) → K (put l (joined x (joined y (joined z w))) ∷ S) r → K (put (put (put (put l x) y) z) w ∷ S) r
back4 K r l S x y z w h = joins.back4 (λ (T : List Layer). K T r) l S x y z w h

stay : (K : Awaited) (r : List Sym) (l : Layer) (S : List Layer) → K (put l end ∷ S) r → K (l ∷ S) r
stay K r l S h = joins.stay (λ (T : List Layer). K T r) l S h

pub else_part_awaits : (K : Awaited) (S : List Layer) (x : List Sym) → awaits g.ElsePart K S x → all_await (choices.else_part x) K S x
else_part_awaits K S x (a.reads {l = l} {S = T} {r = r} gr.no_else o h) = rw (no_next set.closes (Is t.Elif) refl o, no_next set.closes (Is t.Else) refl o) (stay K r l T h)
else_part_awaits K S x (a.reads {l = l} {S = T} {r = r} (gr.else_ p) o h) = a.takes (a.reads_part p (closes_clause o) (back K r l T _ _ h))
else_part_awaits K S x (a.reads {l = l} {S = T} {r = r} (gr.elif p q e) o h) = a.takes (a.reads_part p (next refl) (a.takes (a.reads_part q (behind.else_follows e o) (a.reads e o h))))

pub else_brief_awaits : (K : Awaited) (S : List Layer) (x : List Sym) → awaits g.ElseBrief K S x → all_await (choices.else_brief x) K S x
else_brief_awaits K S x (a.reads {l = l} {S = T} {r = r} gr.no_else_b o h) = rw (no_next set.closes (Is t.BarColon) refl o, no_next set.closes (Is t.Bar) refl o) (stay K r l T h)
else_brief_awaits K S x (a.reads {l = l} {S = T} {r = r} (gr.else_b p) o h) = a.takes (a.reads_part p (closes_clause o) (back K r l T _ _ h))
else_brief_awaits K S x (a.reads {l = l} {S = T} {r = r} (gr.elif_b p q e) o h) = a.takes (a.reads_part p (next refl) (a.takes (a.reads_part q (behind.else_brief_follows e o) (a.reads e o h))))

pub out_case_awaits : (K : Awaited) (S : List Layer) (x : List Sym) → awaits g.OutCase K S x → all_await (choices.out_case x) K S x
out_case_awaits K S x (a.reads {l = l} {S = T} {r = r} gr.no_out o h) = rw (no_next set.closes (Is t.Ouse) refl o, no_next set.closes (Is t.Out) refl o) (stay K r l T h)
out_case_awaits K S x (a.reads {l = l} {S = T} {r = r} (gr.out_serial p) o h) = a.takes (a.reads_part p (closes_clause o) (back K r l T _ _ h))
out_case_awaits K S x (a.reads {l = l} {S = T} {r = r} (gr.out_again {e = y} p (gr.two {f = z} q s) e) o h) = rw (spells_joined z y r) (a.takes (a.reads_part p (next refl) (a.takes (a.reads_node q (next refl) (a.takes (a.reads s (behind.out_follows e o) (a.reads e o h)))))))

pub out_case_brief_awaits : (K : Awaited) (S : List Layer) (x : List Sym) → awaits g.OutCaseBrief K S x → all_await (choices.out_case_brief x) K S x
out_case_brief_awaits K S x (a.reads {l = l} {S = T} {r = r} gr.no_outbrief o h) = rw (no_next set.closes (Is t.BarColon) refl o, no_next set.closes (Is t.Bar) refl o) (stay K r l T h)
out_case_brief_awaits K S x (a.reads {l = l} {S = T} {r = r} (gr.outbrief_serial p) o h) = a.takes (a.reads_part p (closes_clause o) (back K r l T _ _ h))
out_case_brief_awaits K S x (a.reads {l = l} {S = T} {r = r} (gr.outbrief_again {e = y} p (gr.two {f = z} q s) e) o h) = rw (spells_joined z y r) (a.takes (a.reads_part p (next refl) (a.takes (a.reads_node q (next refl) (a.takes (a.reads s (behind.out_brief_follows e o) (a.reads e o h)))))))

pub out_conformity_awaits : (K : Awaited) (S : List Layer) (x : List Sym) → awaits g.OutConformity K S x → all_await (choices.out_conformity x) K S x
out_conformity_awaits K S x (a.reads {l = l} {S = T} {r = r} gr.no_outc o h) = rw (no_next set.closes (Is t.Ouse) refl o, no_next set.closes (Is t.Out) refl o) (stay K r l T h)
out_conformity_awaits K S x (a.reads {l = l} {S = T} {r = r} (gr.outc_serial p) o h) = a.takes (a.reads_part p (closes_clause o) (back K r l T _ _ h))
out_conformity_awaits K S x (a.reads {l = l} {S = T} {r = r} (gr.outc_again {f = z} {e = y} p q e) o h) = rw (spells_joined z y r) (a.takes (a.reads_part p (next refl) (a.takes (a.reads q (behind.outc_follows e o) (a.reads e o h)))))

pub out_conformity_brief_awaits : (K : Awaited) (S : List Layer) (x : List Sym) → awaits g.OutConformityBrief K S x → all_await (choices.out_conformity_brief x) K S x
out_conformity_brief_awaits K S x (a.reads {l = l} {S = T} {r = r} gr.no_outcbrief o h) = rw (no_next set.closes (Is t.BarColon) refl o, no_next set.closes (Is t.Bar) refl o) (stay K r l T h)
out_conformity_brief_awaits K S x (a.reads {l = l} {S = T} {r = r} (gr.outcbrief_serial p) o h) = a.takes (a.reads_part p (closes_clause o) (back K r l T _ _ h))
out_conformity_brief_awaits K S x (a.reads {l = l} {S = T} {r = r} (gr.outcbrief_again {f = z} {e = y} p q e) o h) = rw (spells_joined z y r) (a.takes (a.reads_part p (next refl) (a.takes (a.reads q (behind.outc_brief_follows e o) (a.reads e o h)))))

while_follows : {f : Forest} → gr.IsWhile f → (r : List Sym) → Follows set.ends_unit (spells f r)
while_follows (gr.while_ p q) r = next refl
while_follows (gr.no_while p) r = next refl

to_follows : {f : Forest} → gr.IsTo f → (r : List Sym) → Follows set.ends_unit (spells f r)
to_follows (gr.to_ p q) r = next refl
to_follows (gr.no_to p) r = while_follows p r

by_follows : {f : Forest} → gr.IsBy f → (r : List Sym) → Follows set.ends_unit (spells f r)
by_follows (gr.by_ p q) r = next refl
by_follows (gr.no_by p) r = to_follows p r

pub loop_from_awaits : (K : Awaited) (S : List Layer) (x : List Sym) → awaits g.LoopFrom K S x → all_await (choices.loop_from x) K S x
loop_from_awaits K S x (a.reads_free {l = l} {S = T} {r = r} (gr.from_ p q) h) = a.takes (a.reads_node p (by_follows q r) (a.reads_free q (back3 K r l T _ _ _ h)))
loop_from_awaits K S x (a.reads_free {l = l} {S = T} {r = r} (gr.no_from p) h) = rw (no_first set.begins_by (Is t.From) refl (first.first_by p r)) (a.reads_free p h)

pub loop_by_awaits : (K : Awaited) (S : List Layer) (x : List Sym) → awaits g.LoopBy K S x → all_await (choices.loop_by x) K S x
loop_by_awaits K S x (a.reads_free {l = l} {S = T} {r = r} (gr.by_ p q) h) = a.takes (a.reads_node p (to_follows q r) (a.reads_free q (back3 K r l T _ _ _ h)))
loop_by_awaits K S x (a.reads_free {l = l} {S = T} {r = r} (gr.no_by p) h) = rw (no_first set.begins_to (Is t.By) refl (first.first_to p r)) (a.reads_free p h)

pub loop_to_awaits : (K : Awaited) (S : List Layer) (x : List Sym) → awaits g.LoopTo K S x → all_await (choices.loop_to x) K S x
loop_to_awaits K S x (a.reads_free {l = l} {S = T} {r = r} (gr.to_ p q) h) = a.takes (a.reads_node p (while_follows q r) (a.reads_free q (back3 K r l T _ _ _ h)))
loop_to_awaits K S x (a.reads_free {l = l} {S = T} {r = r} (gr.no_to p) h) = rw (no_first set.begins_while (Is t.To) refl (first.first_while p r)) (a.reads_free p h)

pub loop_while_awaits : (K : Awaited) (S : List Layer) (x : List Sym) → awaits g.LoopWhile K S x → all_await (choices.loop_while x) K S x
loop_while_awaits K S x (a.reads_free {l = l} {S = T} {r = r} (gr.while_ p q) h) = a.takes (a.reads_part p (next refl) (a.opened (a.reads_part q (next refl) (a.closed (back3 K r l T _ _ _ h)))))
loop_while_awaits K S x (a.reads_free {l = l} {S = T} {r = r} (gr.no_while q) h) = a.opened (a.reads_part q (next refl) (a.closed h))

pub choices_awaits : (K : Awaited) (S : List Layer) (x : List Sym) → awaits g.Choices K S x → all_await choices.choices K S x
choices_awaits K S x (a.reads {l = l} {S = T} {r = r} (gr.choice_one p q) o h) = a.reads_free p (a.reads_node q (clause_unit o) (a.reads m.comma_end o (back3 K r l T _ _ _ h)))
choices_awaits K S x (a.reads {l = l} {S = T} {r = r} (gr.choice_more p q s) o h) = a.reads_free p (a.reads_node q (next refl) (a.reads (m.comma_on s) o (back3 K r l T _ _ _ h)))

pub choices_tail_awaits : (K : Awaited) (S : List Layer) (x : List Sym) → awaits g.ChoicesTail K S x → all_await (choices.choices_tail x) K S x
choices_tail_awaits K S x (a.reads {l = l} {S = T} {r = r} m.comma_end o h) = rw (no_next set.ends_clause (Is t.Comma) refl o) (stay K r l T h)
choices_tail_awaits K S x (a.reads {l = l} {S = T} {r = r} (m.comma_on p) o h) = a.takes (a.reads p o (back K r l T _ _ h))

pub choice_spec_awaits : (K : Awaited) (S : List Layer) (x : List Sym) → awaits g.ChoiceSpec K S x → all_await choices.choice_spec K S x
choice_spec_awaits K S x (a.reads_free {l = l} {S = T} {r = r} (gr.spec p) h) = a.opened (a.reads_part_free p (a.reads m.no_spec_tag (next refl) (a.closed (a.takes (back K r l T _ _ h)))))
choice_spec_awaits K S x (a.reads_free {l = l} {S = T} {r = r} (gr.spec_tag p) h) = a.opened (a.reads_part_free p (a.reads m.a_spec_tag (next refl) (a.closed (a.takes (back K r l T _ _ h)))))

pub spec_tag_awaits : (K : Awaited) (S : List Layer) (x : List Sym) → awaits g.SpecTag K S x → all_await (choices.spec_tag x) K S x
spec_tag_awaits K S x (a.reads {l = l} {S = T} {r = r} m.no_spec_tag o h) = rw (no_next set.closes (Is t.Tag) refl o) (stay K r l T h)
spec_tag_awaits K S x (a.reads {l = l} {S = T} {r = r} m.a_spec_tag o h) = a.takes h
