-- Where a goal stands for what is at the front of a text, so do the goals that it is made of: declarations.
use Rattle.std.proofs.Common.{List, refl}
use Rattle.a68_symbols.specs.declared.sym.Token.TheVariants as t
use Rattle.a68_symbols.specs.declared.sym.Sym.{Sym}
use Rattle.a68_symbols.specs.declared.sym.Sym.TheVariants.{Is}
use Rattle.a68_tree.specs.Forest.{spells}
use Rattle.a68_tree.specs.Grammar as gr
use Rattle.a68_nodes.specs.Stack.{Layer}
use Rattle.a68_lookahead.specs.Symbols.{next}
use Rattle.a68_lookahead.specs.Sets as set
use Rattle.a68_lookahead.proofs.Firsts as first
use Rattle.a68_lookahead.proofs.Firsts.{no_first, no_next, no_first_pair, clause_unit, closes_clause, closes_unit, unit_tertiary, tertiary_secondary, secondary_base, definition_unit, declaration_definition}
use Rattle.a68_unit_productions.specs.declared.goal.Goal.TheVariants as g
use Rattle.a68_unit_productions.specs.declared.goal.Defining.{Defining}
use Rattle.a68_read.specs.Middles as m
use Rattle.a68_read.specs.Awaits as a
use Rattle.a68_read.specs.Awaits.{Awaited, awaits, all_await}
use Rattle.a68_unit_productions.specs.Declarations as declarations
use Rattle.a68_read.proofs.Pieces.{back, back3, back4, stay}
use Rattle.a68_read.proofs.Tests as test
use Rattle.a68_read.proofs.Behind as behind

pub declaration_awaits : (K : Awaited) (S : List Layer) (x : List Sym) → awaits g.Declaration K S x → all_await declarations.declaration K S x
declaration_awaits K S x (a.reads {l = l} {S = T} {r = r} (gr.single p s) o h) = a.reads (behind.declaring p) o (a.joins_one s h)
declaration_awaits K S x (a.reads {l = l} {S = T} {r = r} (gr.joined_ p s) o h) = a.reads (behind.declaring p) o (a.joins_more s h)

pub definitions_awaits : (K : Awaited) (S : List Layer) (x : List Sym) → awaits g.Definitions K S x → all_await (declarations.definitions x) K S x
definitions_awaits K S x (a.reads {l = l} {S = T} {r = r} (a.declares_modes (m.run p l1)) o h) = a.takes (a.reads_node p (behind.tail_definition l1 o) (a.reads l1 o (back3 K r l T _ _ _ h)))
definitions_awaits K S x (a.reads {l = l} {S = T} {r = r} (a.declares_priorities (m.run p l1)) o h) = a.takes (a.reads_node p (behind.tail_definition l1 o) (a.reads l1 o (back3 K r l T _ _ _ h)))
definitions_awaits K S x (a.reads {l = l} {S = T} {r = r} (a.declares_operators p) o h) = a.takes (a.reads p o (back K r l T _ _ h))
definitions_awaits K S x (a.reads {l = l} {S = T} {r = r} (a.declares_procedures (a.form_procedures (m.run (m.defines_procedure p) l1))) o h) = a.takes (a.reads (a.form_procedures (m.run (m.defines_procedure p) l1)) o (back K r l T _ _ h))
definitions_awaits K S x (a.reads {l = l} {S = T} {r = r} (a.declares_procedures (a.form_procedure_variables (m.run (m.defines_procedure_variable p) l1))) o h) = a.takes (a.reads (a.form_procedure_variables (m.run (m.defines_procedure_variable p) l1)) o (back K r l T _ _ h))
definitions_awaits K S x (a.reads {l = l} {S = T} {r = r} (a.declares_local c (m.run p l1)) o h) = a.takes (a.reads_free c (a.reads_node p (behind.tail_definition l1 o) (a.reads l1 o (back4 K r l T _ _ _ _ h))))
definitions_awaits K S x (a.reads {l = l} {S = T} {r = r} (a.declares_heap c (m.run p l1)) o h) = a.takes (a.reads_free c (a.reads_node p (behind.tail_definition l1 o) (a.reads l1 o (back4 K r l T _ _ _ _ h))))
definitions_awaits K S x (a.reads {l = l} {S = T} {r = r} (a.declares_named {f = z} p q) o h) = rw (no_first set.begins_declarer (Is t.Mode) refl (first.first_declarer p (spells z r)), no_first set.begins_declarer (Is t.Prio) refl (first.first_declarer p (spells z r)), no_first set.begins_declarer (Is t.Op) refl (first.first_declarer p (spells z r)), test.declarer_no_procedure p (spells z r), no_first set.begins_declarer (Is t.Loc) refl (first.first_declarer p (spells z r)), no_first set.begins_declarer (Is t.Heap) refl (first.first_declarer p (spells z r))) (a.reads_free p (a.reads q o (back K r l T _ _ h)))

pub operator_form_awaits : (K : Awaited) (S : List Layer) (x : List Sym) → awaits g.OperatorForm K S x → all_await (declarations.operator_form x) K S x
operator_form_awaits K S x (a.reads {l = l} {S = T} {r = r} (a.form_operators (m.run (m.defines_operator s p) l1)) o h) = a.reads_node (m.defines_operator s p) (behind.tail_definition l1 o) (a.reads l1 o (back K r l T _ _ h))
operator_form_awaits K S x (a.reads {l = l} {S = T} {r = r} (a.form_planned (gr.plan_one c v) (m.run p l1)) o h) = a.reads_free (gr.plan_one c v) (a.reads_node p (behind.tail_definition l1 o) (a.reads l1 o (back3 K r l T _ _ _ h)))
operator_form_awaits K S x (a.reads {l = l} {S = T} {r = r} (a.form_planned (gr.plan_two c e v) (m.run p l1)) o h) = a.reads_free (gr.plan_two c e v) (a.reads_node p (behind.tail_definition l1 o) (a.reads l1 o (back3 K r l T _ _ _ h)))

pub procedure_form_awaits : (K : Awaited) (S : List Layer) (x : List Sym) → awaits g.ProcedureForm K S x → all_await (declarations.procedure_form x) K S x
procedure_form_awaits K S x (a.reads {l = l} {S = T} {r = r} (a.form_procedures (m.run (m.defines_procedure p) l1)) o h) = a.reads_node (m.defines_procedure p) (behind.tail_definition l1 o) (a.reads l1 o (back K r l T _ _ h))
procedure_form_awaits K S x (a.reads {l = l} {S = T} {r = r} (a.form_procedure_variables (m.run (m.defines_procedure_variable p) l1)) o h) = a.reads_node (m.defines_procedure_variable p) (behind.tail_definition l1 o) (a.reads l1 o (back K r l T _ _ h))

pub named_awaits : (K : Awaited) (S : List Layer) (x : List Sym) → awaits g.Named K S x → all_await (declarations.named x) K S x
named_awaits K S x (a.reads {l = l} {S = T} {r = r} (a.named_identities (m.run (m.defines_identity p) l1)) o h) = a.reads_node (m.defines_identity p) (behind.tail_definition l1 o) (a.reads l1 o (back K r l T _ _ h))
named_awaits K S x (a.reads {l = l} {S = T} {r = r} (a.named_variables (m.run (m.defines_variable m.no_initial) m.tail_end)) o h) = rw (no_next set.ends_declaration (Is t.Equals) refl o) (a.reads_node (m.defines_variable m.no_initial) (declaration_definition o) (a.reads m.tail_end o (back K r l T _ _ h)))
named_awaits K S x (a.reads {l = l} {S = T} {r = r} (a.named_variables (m.run (m.defines_variable m.no_initial) (m.tail_on q))) o h) = a.reads_node (m.defines_variable m.no_initial) (next refl) (a.reads (m.tail_on q) o (back K r l T _ _ h))
named_awaits K S x (a.reads {l = l} {S = T} {r = r} (a.named_variables (m.run (m.defines_variable (m.an_initial p)) l1)) o h) = a.reads_node (m.defines_variable (m.an_initial p)) (behind.tail_definition l1 o) (a.reads l1 o (back K r l T _ _ h))

pub plan_awaits : (K : Awaited) (S : List Layer) (x : List Sym) → awaits g.Plan K S x → all_await declarations.plan K S x
plan_awaits K S x (a.reads_free {l = l} {S = T} {r = r} (gr.plan_one p q) h) = a.opened (a.reads_part_free p (a.reads m.plan_end (next refl) (a.closed (a.reads_free q (back K r l T _ _ h)))))
plan_awaits K S x (a.reads_free {l = l} {S = T} {r = r} (gr.plan_two p e q) h) = a.opened (a.reads_part_free p (a.reads (m.plan_on e) (next refl) (a.closed (a.reads_free q (back K r l T _ _ h)))))

pub plan_tail_awaits : (K : Awaited) (S : List Layer) (x : List Sym) → awaits g.PlanTail K S x → all_await (declarations.plan_tail x) K S x
plan_tail_awaits K S x (a.reads {l = l} {S = T} {r = r} m.plan_end o h) = rw (no_next set.closes (Is t.Comma) refl o) (stay K r l T h)
plan_tail_awaits K S x (a.reads {l = l} {S = T} {r = r} (m.plan_on p) o h) = a.takes (a.reads_part_free p (back K r l T _ _ h))

pub initial_awaits : (K : Awaited) (S : List Layer) (x : List Sym) → awaits g.Initial K S x → all_await (declarations.initial x) K S x
initial_awaits K S x (a.reads {l = l} {S = T} {r = r} m.no_initial o h) = rw (no_next set.ends_definition (Is t.Becomes) refl o) (stay K r l T h)
initial_awaits K S x (a.reads {l = l} {S = T} {r = r} (m.an_initial p) o h) = a.takes (a.reads_node p (definition_unit o) (back K r l T _ _ h))

pub definition_awaits : (K : Awaited) (S : List Layer) (y : Defining) (x : List Sym) → awaits (g.Definition y) K S x → all_await (declarations.definition y) K S x
definition_awaits K S y x (a.reads_node (m.defines_mode p) o h) = a.takes (a.takes (a.reads_part_free p h))
definition_awaits K S y x (a.reads_node (m.defines_priority s) o h) = a.takes_mark s (a.takes (a.takes h))
definition_awaits K S y x (a.reads_node (m.defines_operator s p) o h) = a.takes_mark s (a.takes (a.reads p (definition_unit o) h))
definition_awaits K S y x (a.reads_node (m.defines_planned s p) o h) = a.takes_mark s (a.takes (a.reads_node p (definition_unit o) h))
definition_awaits K S y x (a.reads_node (m.defines_identity p) o h) = a.takes (a.takes (a.reads_node p (definition_unit o) h))
definition_awaits K S y x (a.reads_node (m.defines_procedure p) o h) = a.takes (a.takes (a.reads p (definition_unit o) h))
definition_awaits K S y x (a.reads_node (m.defines_procedure_variable p) o h) = a.takes (a.takes (a.reads p (definition_unit o) h))
definition_awaits K S y x (a.reads_node (m.defines_variable p) o h) = a.takes (a.reads p o h)

pub tail_awaits : (K : Awaited) (S : List Layer) (y : Defining) (x : List Sym) → awaits (g.Tail y) K S x → all_await (declarations.tail y x) K S x
tail_awaits K S y x (a.reads {l = l} {S = T} {r = r} m.tail_end o h) = rw (no_next set.ends_declaration (Is t.Comma) refl o) (stay K r l T h)
tail_awaits K S y x (a.reads {l = l} {S = T} {r = r} (m.tail_on p) o h) = a.takes (a.reads p o (back K r l T _ _ h))

pub more_awaits : (K : Awaited) (S : List Layer) (y : Defining) (x : List Sym) → awaits (g.More y) K S x → all_await (declarations.more y x) K S x
more_awaits K S y x (a.reads {l = l} {S = T} {r = r} (m.more_same (m.run {f = z} p l1)) o h) = rw (test.goes_on p (spells z r)) (a.reads_node p (behind.tail_definition l1 o) (a.reads l1 o (back K r l T _ _ h)))
more_awaits K S y x (a.reads {l = l} {S = T} {r = r} (m.more_anew p) o h) = rw (test.anew y (behind.declaring p) r) (a.reads (behind.declaring p) o (back K r l T _ _ h))
