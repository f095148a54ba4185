-- Where a goal stands for what is at the front of a text, so do the goals that it is made of: declarers.
use Rattle.std.proofs.Common.{List, ◌∷◌, refl}
use Rattle.a68_symbols.specs.declared.sym.Token.TheVariants as t
use Rattle.a68_symbols.specs.declared.sym.Bracket.TheVariants as b
use Rattle.a68_symbols.specs.declared.sym.Sym.{Sym}
use Rattle.a68_symbols.specs.declared.sym.Sym.TheVariants.{Closes, Is}
use Rattle.a68_tree.specs.Forest.{spells}
use Rattle.a68_tree.specs.Grammar as gr
use Rattle.a68_nodes.specs.Stack.{Layer}
use Rattle.a68_lookahead.specs.Symbols.{next}
use Rattle.a68_lookahead.specs.Sets as set
use Rattle.a68_lookahead.proofs.Firsts as first
use Rattle.a68_lookahead.proofs.Firsts.{no_first, no_next, no_first_pair, clause_unit, closes_clause, closes_unit, unit_tertiary, tertiary_secondary, secondary_base, definition_unit, declaration_definition}
use Rattle.a68_unit_productions.specs.declared.goal.Goal.TheVariants as g
use Rattle.a68_read.specs.Middles as m
use Rattle.a68_read.specs.Fits as f
use Rattle.a68_read.specs.Fits.{Shape, fits}
use Rattle.a68_read.specs.Awaits as a
use Rattle.a68_read.specs.Awaits.{Awaited, awaits, all_await}
use Rattle.a68_unit_productions.specs.Declarers as declarers
use Rattle.a68_read.proofs.Pieces.{back, back3, stay}
use Rattle.a68_read.proofs.Tests as test

pub declarer_node_awaits : (K : Awaited) (S : List Layer) (x : List Sym) → awaits g.DeclarerNode K S x → all_await declarers.declarer_node K S x
declarer_node_awaits K S x (a.reads_part_free {l = l} {S = T} {r = r} p h) = a.reads_free p h

pub declarer_awaits : (K : Awaited) (S : List Layer) (x : List Sym) → awaits g.Declarer K S x → all_await (declarers.declarer x) K S x
declarer_awaits K S x (a.reads_free {l = l} {S = T} {r = r} (gr.plain gr.plain_int) h) = a.takes_mark gr.plain_int h
declarer_awaits K S x (a.reads_free {l = l} {S = T} {r = r} (gr.plain gr.plain_other) h) = a.takes_mark gr.plain_other h
declarer_awaits K S x (a.reads_free {l = l} {S = T} {r = r} gr.long_int h) = a.takes (a.takes (back K r l T _ _ h))
declarer_awaits K S x (a.reads_free {l = l} {S = T} {r = r} gr.mode_word h) = a.takes h
declarer_awaits K S x (a.reads_free {l = l} {S = T} {r = r} (gr.ref p) h) = a.takes (a.reads_part_free p (back K r l T _ _ h))
declarer_awaits K S x (a.reads_free {l = l} {S = T} {r = r} (gr.rows p q) h) = a.opened (a.reads_square p (a.closed (a.reads_part_free q (back K r l T _ _ h))))
declarer_awaits K S x (a.reads_free {l = l} {S = T} {r = r} (gr.flex p q) h) = a.takes (a.opened (a.reads_square p (a.closed (a.reads_part_free q (back3 K r l T _ _ _ h)))))
declarer_awaits K S x (a.reads_free {l = l} {S = T} {r = r} (gr.struct_ p) h) = a.takes (a.opened (a.reads p (next refl) (a.closed (back K r l T _ _ h))))
declarer_awaits K S x (a.reads_free {l = l} {S = T} {r = r} (gr.union_ p q) h) = a.takes (a.opened (a.reads_part_free p (a.takes (a.reads q (next refl) (a.closed (back K r l T _ _ h))))))
declarer_awaits K S x (a.reads_free {l = l} {S = T} {r = r} (gr.proc p) h) = a.takes (a.reads_free (m.plan_none p) (back K r l T _ _ h))
declarer_awaits K S x (a.reads_free {l = l} {S = T} {r = r} (gr.proc_params p q) h) = a.takes (a.reads_free (m.plan_some p q) (back K r l T _ _ h))

pub procedure_plan_awaits : (K : Awaited) (S : List Layer) (x : List Sym) → awaits g.ProcedurePlan K S x → all_await (declarers.procedure_plan x) K S x
procedure_plan_awaits K S x (a.reads_free {l = l} {S = T} {r = r} (m.plan_none p) h) = rw (test.yield_no_bracket p r) (a.reads_free p h)
procedure_plan_awaits K S x (a.reads_free {l = l} {S = T} {r = r} (m.plan_some p q) h) = a.opened (a.reads p (next refl) (a.closed (a.reads_free q (back K r l T _ _ h))))

pub yields_awaits : (K : Awaited) (S : List Layer) (x : List Sym) → awaits g.Yields K S x → all_await (declarers.yields x) K S x
yields_awaits K S x (a.reads_free {l = l} {S = T} {r = r} (gr.yield_ p) h) = rw (no_first set.begins_declarer (Is t.Void) refl (first.first_declarer p r)) (a.reads_part_free p h)
yields_awaits K S x (a.reads_free {l = l} {S = T} {r = r} gr.yield_void h) = a.takes h

pub declarers_awaits : (K : Awaited) (S : List Layer) (x : List Sym) → awaits g.Declarers K S x → all_await declarers.declarers K S x
declarers_awaits K S x (a.reads {l = l} {S = T} {r = r} (gr.declarer_one p) o h) = a.reads_part_free p (a.reads m.comma_end o (back K r l T _ _ h))
declarers_awaits K S x (a.reads {l = l} {S = T} {r = r} (gr.declarer_more p q) o h) = a.reads_part_free p (a.reads (m.comma_on q) o (back K r l T _ _ h))

pub declarers_tail_awaits : (K : Awaited) (S : List Layer) (x : List Sym) → awaits g.DeclarersTail K S x → all_await (declarers.declarers_tail x) K S x
declarers_tail_awaits K S x (a.reads {l = l} {S = T} {r = r} m.comma_end o h) = rw (no_next set.closes (Is t.Comma) refl o) (stay K r l T h)
declarers_tail_awaits K S x (a.reads {l = l} {S = T} {r = r} (m.comma_on p) o h) = a.takes (a.reads p o (back K r l T _ _ h))

pub bounds_awaits : (K : Awaited) (S : List Layer) (x : List Sym) → awaits g.Bounds K S x → all_await declarers.bounds K S x
bounds_awaits K S x (a.reads_square {l = l} {S = T} {r = r} (gr.bound_one p) h) = a.reads_place p a.place_closes (a.reads_square m.comma_end (back K (Closes b.Square ∷ r) l T _ _ h))
bounds_awaits K S x (a.reads_square {l = l} {S = T} {r = r} (gr.bound_more p q) h) = a.reads_place p a.place_comma (a.reads_square (m.comma_on q) (back K (Closes b.Square ∷ r) l T _ _ h))

pub bounds_tail_awaits : (K : Awaited) (S : List Layer) (x : List Sym) → awaits g.BoundsTail K S x → all_await (declarers.bounds_tail x) K S x
bounds_tail_awaits K S x (a.reads_square {l = l} {S = T} {r = r} m.comma_end h) = stay K (Closes b.Square ∷ r) l T h
bounds_tail_awaits K S x (a.reads_square {l = l} {S = T} {r = r} (m.comma_on q) h) = a.takes (a.reads_square q (back K (Closes b.Square ∷ r) l T _ _ h))

pub bound_awaits : (K : Awaited) (S : List Layer) (x : List Sym) → awaits g.Bound K S x → all_await (declarers.bound x) K S x
bound_awaits K S x (a.reads_place {l = l} {S = T} gr.bound_none (a.place_comma {r = r}) h) = stay K (Is t.Comma ∷ r) l T h
bound_awaits K S x (a.reads_place {l = l} {S = T} gr.bound_none (a.place_closes {r = r}) h) = stay K (Closes b.Square ∷ r) l T h
bound_awaits K S x (a.reads_place {l = l} {S = T} {r = r} gr.bound_colon o h) = a.takes h
bound_awaits K S x (a.reads_place {l = l} {S = T} {r = r} (gr.bound_upper p) o h) = rw (no_first set.begins_unit (Is t.Colon) refl (first.first_unit p r), test.unit_no_bound p r) (a.reads_node p (test.place_unit o) (a.bound_stays o h))
bound_awaits K S x (a.reads_place {l = l} {S = T} {r = r} (gr.bound_both {u = z} p q) o h) = rw (no_first set.begins_unit (Is t.Colon) refl (first.first_unit p (Is t.Colon ∷ spells z r)), test.unit_no_bound p (Is t.Colon ∷ spells z r)) (a.reads_node p (next refl) (a.bound_rests q o h))

pub bound_tail_awaits : (K0 : Shape) (K : Awaited) (S : List Layer) (x : List Sym) → fits g.BoundTail K0 S → awaits g.BoundTail K S x → all_await (declarers.bound_tail x) K S x
bound_tail_awaits K0 K S x (f.tails_list p ends) (a.bound_stays a.place_comma h) = h
bound_tail_awaits K0 K S x (f.tails_list p ends) (a.bound_stays a.place_closes h) = h
bound_tail_awaits K0 K S x (f.tails_list {l = l} {S = T} p ends) (a.bound_rests {r = r} q o h) = a.takes (a.reads_node q (test.place_unit o) (back3 K r l T _ _ _ h))

pub fields_awaits : (K : Awaited) (S : List Layer) (x : List Sym) → awaits g.Fields K S x → all_await declarers.fields K S x
fields_awaits K S x (a.reads {l = l} {S = T} {r = r} (gr.params p q) o h) = a.reads_part_free p (a.reads q o (back K r l T _ _ h))

pub field_tags_awaits : (K : Awaited) (S : List Layer) (x : List Sym) → awaits g.FieldTags K S x → all_await declarers.field_tags K S x
field_tags_awaits K S x (a.reads {l = l} {S = T} {r = r} gr.tags_end o h) = a.takes (a.reads m.comma_end o (back K r l T _ _ h))
field_tags_awaits K S x (a.reads {l = l} {S = T} {r = r} (gr.tags_more p) o h) = a.takes (a.reads (m.comma_on (m.tags_again p)) o (back K r l T _ _ h))
field_tags_awaits K S x (a.reads {l = l} {S = T} {r = r} (gr.tags_next p) o h) = a.takes (a.reads (m.comma_on (m.params_again p)) o (back K r l T _ _ h))

pub field_tail_awaits : (K : Awaited) (S : List Layer) (x : List Sym) → awaits g.FieldTail K S x → all_await (declarers.field_tail x) K S x
field_tail_awaits K S x (a.reads {l = l} {S = T} {r = r} m.comma_end o h) = rw (no_next set.closes (Is t.Comma) refl o) (stay K r l T h)
field_tail_awaits K S x (a.reads {l = l} {S = T} {r = r} (m.comma_on p) o h) = a.takes (a.reads p o (back K r l T _ _ h))

pub field_more_awaits : (K : Awaited) (S : List Layer) (x : List Sym) → awaits g.FieldMore K S x → all_await (declarers.field_more x) K S x
field_more_awaits K S x (a.reads {l = l} {S = T} {r = r} (m.tags_again gr.tags_end) o h) = a.reads gr.tags_end o h
field_more_awaits K S x (a.reads {l = l} {S = T} {r = r} (m.tags_again (gr.tags_more p)) o h) = a.reads (gr.tags_more p) o h
field_more_awaits K S x (a.reads {l = l} {S = T} {r = r} (m.tags_again (gr.tags_next p)) o h) = a.reads (gr.tags_next p) o h
field_more_awaits K S x (a.reads {l = l} {S = T} {r = r} (m.params_again (gr.params {f = z} p q)) o h) = rw (no_first set.begins_declarer (Is t.Tag) refl (first.first_declarer p (spells z r))) (a.reads (gr.params p q) o h)
