-- Where a goal stands for what is at the front of a text, so do the goals that it is made of: serial clauses, units and formulas.
use Rattle.std.proofs.Common.{List, ◌∷◌, refl}
use Rattle.a68_symbols.specs.declared.sym.Token.TheVariants as t
use Rattle.a68_symbols.specs.declared.sym.Bracket.TheVariants as b
use Rattle.a68_symbols.specs.declared.sym.Sym.{Sym}
use Rattle.a68_symbols.specs.declared.sym.Sym.TheVariants.{Opens, Is}
use Rattle.a68_tree.specs.Forest.{mark, spells}
use Rattle.a68_tree.specs.Grammar as gr
use Rattle.a68_nodes.specs.Stack.{Layer}
use Rattle.a68_lookahead.specs.Symbols.{next}
use Rattle.a68_lookahead.specs.Sets as set
use Rattle.a68_lookahead.proofs.Firsts as first
use Rattle.a68_lookahead.proofs.Firsts.{no_first, no_next, no_first_pair, clause_unit, closes_clause, closes_unit, unit_tertiary, tertiary_secondary, secondary_base, definition_unit, declaration_definition}
use Rattle.a68_lookahead.proofs.Told as told
use Rattle.a68_unit_productions.specs.declared.goal.Goal.TheVariants as g
use Rattle.a68_read.specs.Middles as m
use Rattle.a68_read.specs.Fits as f
use Rattle.a68_read.specs.Fits.{Shape, fits}
use Rattle.a68_read.specs.Awaits as a
use Rattle.a68_read.specs.Awaits.{Awaited, awaits, all_await}
use Rattle.a68_unit_productions.specs.Units as units
use Rattle.a68_read.proofs.Pieces.{back, back3, stay}
use Rattle.a68_read.proofs.Tests as test
use Rattle.a68_tree.proofs.Joining.{spells_joined}
use Rattle.a68_read.proofs.Behind as behind

pub serial_node_awaits : (K : Awaited) (S : List Layer) (x : List Sym) → awaits g.SerialNode K S x → all_await units.serial_node K S x
serial_node_awaits K S x (a.reads_part {l = l} {S = T} {r = r} p o h) = a.reads p o h

pub serial_awaits : (K : Awaited) (S : List Layer) (x : List Sym) → awaits g.Serial K S x → all_await (units.serial x) K S x
serial_awaits K S x (a.reads {l = l} {S = T} {r = r} (gr.serial_one p) o h) = rw (test.unit_unlabelled p r (no_next set.ends_clause (Is t.Colon) refl o), told.unit_undeclared p r (told.untagged (clause_unit o))) (a.reads_node p (clause_unit o) (a.reads m.serial_end o (back K r l T _ _ h)))
serial_awaits K S x (a.reads {l = l} {S = T} {r = r} (gr.serial_unit {f = z} p q) o h) = rw (test.unit_unlabelled p (Is t.Semicolon ∷ spells z r) refl, told.unit_undeclared p (Is t.Semicolon ∷ spells z r) refl) (a.reads_node p (next refl) (a.reads (m.serial_on q) o (back K r l T _ _ h)))
serial_awaits K S x (a.reads {l = l} {S = T} {r = r} (gr.serial_declaration {d = v} {f = z} p q) o h) = rw (spells_joined v (mark t.Semicolon z) r, behind.declaration_unlabelled p (Is t.Semicolon ∷ spells z r), behind.declaration_ahead p (Is t.Semicolon ∷ spells z r)) (a.reads p (next refl) (a.takes (a.reads q o (back3 K r l T _ _ _ h))))
serial_awaits K S x (a.reads {l = l} {S = T} {r = r} (gr.serial_exit {f = z} p q) o h) = rw (test.unit_unlabelled p (Is t.Exit ∷ spells z r) refl, told.unit_undeclared p (Is t.Exit ∷ spells z r) refl) (a.reads_node p (next refl) (a.reads (m.serial_out q) o (back K r l T _ _ h)))
serial_awaits K S x (a.reads {l = l} {S = T} {r = r} (gr.serial_labelled (gr.label q)) o h) = a.reads (gr.label q) o h

pub serial_tail_awaits : (K : Awaited) (S : List Layer) (x : List Sym) → awaits g.SerialTail K S x → all_await (units.serial_tail x) K S x
serial_tail_awaits K S x (a.reads {l = l} {S = T} {r = r} m.serial_end o h) = rw (no_next set.ends_clause (Is t.Semicolon) refl o, no_next set.ends_clause (Is t.Exit) refl o) (stay K r l T h)
serial_tail_awaits K S x (a.reads {l = l} {S = T} {r = r} (m.serial_on p) o h) = a.takes (a.reads p o (back K r l T _ _ h))
serial_tail_awaits K S x (a.reads {l = l} {S = T} {r = r} (m.serial_out p) o h) = a.takes (a.reads p o (back K r l T _ _ h))

pub labelled_awaits : (K : Awaited) (S : List Layer) (x : List Sym) → awaits g.Labelled K S x → all_await units.labelled K S x
labelled_awaits K S x (a.reads {l = l} {S = T} {r = r} (gr.label p) o h) = a.takes (a.takes (a.reads p o (back K r l T _ _ h)))

pub steps_awaits : (K : Awaited) (S : List Layer) (x : List Sym) → awaits g.Steps K S x → all_await (units.steps x) K S x
steps_awaits K S x (a.reads {l = l} {S = T} {r = r} (gr.steps_labelled (gr.label q)) o h) = a.reads (gr.label q) o h
steps_awaits K S x (a.reads {l = l} {S = T} {r = r} (gr.steps_last p) o h) = rw (test.unit_unlabelled p r (no_next set.ends_clause (Is t.Colon) refl o)) (a.reads_node p (clause_unit o) (a.reads m.steps_end o (back K r l T _ _ h)))
steps_awaits K S x (a.reads {l = l} {S = T} {r = r} (gr.steps_unit {f = z} p q) o h) = rw (test.unit_unlabelled p (Is t.Semicolon ∷ spells z r) refl) (a.reads_node p (next refl) (a.reads (m.steps_on q) o (back K r l T _ _ h)))
steps_awaits K S x (a.reads {l = l} {S = T} {r = r} (gr.steps_exit {f = z} p q) o h) = rw (test.unit_unlabelled p (Is t.Exit ∷ spells z r) refl) (a.reads_node p (next refl) (a.reads (m.steps_out q) o (back K r l T _ _ h)))

pub steps_tail_awaits : (K : Awaited) (S : List Layer) (x : List Sym) → awaits g.StepsTail K S x → all_await (units.steps_tail x) K S x
steps_tail_awaits K S x (a.reads {l = l} {S = T} {r = r} m.steps_end o h) = rw (no_next set.ends_clause (Is t.Semicolon) refl o, no_next set.ends_clause (Is t.Exit) refl o) (stay K r l T h)
steps_tail_awaits K S x (a.reads {l = l} {S = T} {r = r} (m.steps_on p) o h) = a.takes (a.reads p o (back K r l T _ _ h))
steps_tail_awaits K S x (a.reads {l = l} {S = T} {r = r} (m.steps_out p) o h) = a.takes (a.reads p o (back K r l T _ _ h))

pub enquiry_node_awaits : (K : Awaited) (S : List Layer) (x : List Sym) → awaits g.EnquiryNode K S x → all_await units.enquiry_node K S x
enquiry_node_awaits K S x (a.reads_part {l = l} {S = T} {r = r} p o h) = a.reads p o h

pub enquiry_awaits : (K : Awaited) (S : List Layer) (x : List Sym) → awaits g.Enquiry K S x → all_await (units.enquiry x) K S x
enquiry_awaits K S x (a.reads {l = l} {S = T} {r = r} (gr.enquiry_one p) o h) = rw (told.unit_undeclared p r (told.untagged (clause_unit o))) (a.reads_node p (clause_unit o) (a.reads m.enquiry_end o (back K r l T _ _ h)))
enquiry_awaits K S x (a.reads {l = l} {S = T} {r = r} (gr.enquiry_unit {f = z} p q) o h) = rw (told.unit_undeclared p (Is t.Semicolon ∷ spells z r) refl) (a.reads_node p (next refl) (a.reads (m.enquiry_on q) o (back K r l T _ _ h)))
enquiry_awaits K S x (a.reads {l = l} {S = T} {r = r} (gr.enquiry_declaration {d = v} {f = z} p q) o h) = rw (spells_joined v (mark t.Semicolon z) r, behind.declaration_ahead p (Is t.Semicolon ∷ spells z r)) (a.reads p (next refl) (a.takes (a.reads q o (back3 K r l T _ _ _ h))))

pub enquiry_tail_awaits : (K : Awaited) (S : List Layer) (x : List Sym) → awaits g.EnquiryTail K S x → all_await (units.enquiry_tail x) K S x
enquiry_tail_awaits K S x (a.reads {l = l} {S = T} {r = r} m.enquiry_end o h) = rw (no_next set.ends_clause (Is t.Semicolon) refl o) (stay K r l T h)
enquiry_tail_awaits K S x (a.reads {l = l} {S = T} {r = r} (m.enquiry_on p) o h) = a.takes (a.reads p o (back K r l T _ _ h))

pub units_awaits : (K : Awaited) (S : List Layer) (x : List Sym) → awaits g.Units K S x → all_await units.units K S x
units_awaits K S x (a.reads {l = l} {S = T} {r = r} (gr.unit_one p) o h) = a.reads_node p (clause_unit o) (a.reads m.comma_end o (back K r l T _ _ h))
units_awaits K S x (a.reads {l = l} {S = T} {r = r} (gr.unit_more p q) o h) = a.reads_node p (next refl) (a.reads (m.comma_on q) o (back K r l T _ _ h))

pub units_tail_awaits : (K : Awaited) (S : List Layer) (x : List Sym) → awaits g.UnitsTail K S x → all_await (units.units_tail x) K S x
units_tail_awaits K S x (a.reads {l = l} {S = T} {r = r} m.comma_end o h) = rw (no_next set.ends_clause (Is t.Comma) refl o) (stay K r l T h)
units_tail_awaits K S x (a.reads {l = l} {S = T} {r = r} (m.comma_on p) o h) = a.takes (a.reads p o (back K r l T _ _ h))

pub unit_awaits : (K : Awaited) (S : List Layer) (x : List Sym) → awaits g.Unit K S x → all_await (units.unit x) K S x
unit_awaits K S x (a.reads_node {l = l} {S = T} {r = r} (gr.assignation {u = z} p q) o h) = rw (no_first set.begins_tertiary (Is t.Skip) refl (first.first_tertiary p (Is t.Becomes ∷ spells z r)), no_first set.begins_tertiary (Is t.Go) refl (first.first_tertiary p (Is t.Becomes ∷ spells z r)), no_first set.begins_tertiary (Is t.Goto) refl (first.first_tertiary p (Is t.Becomes ∷ spells z r)), told.tertiary_unseen p (Is t.Becomes ∷ spells z r)) (a.turns p (next refl) (a.unit_rests (m.rest_becomes q) o h))
unit_awaits K S x (a.reads_node {l = l} {S = T} {r = r} (gr.identity_is {u = z} p q) o h) = rw (no_first set.begins_tertiary (Is t.Skip) refl (first.first_tertiary p (Is t.Is ∷ spells z r)), no_first set.begins_tertiary (Is t.Go) refl (first.first_tertiary p (Is t.Is ∷ spells z r)), no_first set.begins_tertiary (Is t.Goto) refl (first.first_tertiary p (Is t.Is ∷ spells z r)), told.tertiary_unseen p (Is t.Is ∷ spells z r)) (a.turns p (next refl) (a.unit_rests (m.rest_is q) o h))
unit_awaits K S x (a.reads_node {l = l} {S = T} {r = r} (gr.identity_isnt {u = z} p q) o h) = rw (no_first set.begins_tertiary (Is t.Skip) refl (first.first_tertiary p (Is t.Isnt ∷ spells z r)), no_first set.begins_tertiary (Is t.Go) refl (first.first_tertiary p (Is t.Isnt ∷ spells z r)), no_first set.begins_tertiary (Is t.Goto) refl (first.first_tertiary p (Is t.Isnt ∷ spells z r)), told.tertiary_unseen p (Is t.Isnt ∷ spells z r)) (a.turns p (next refl) (a.unit_rests (m.rest_isnt q) o h))
unit_awaits K S x (a.reads_node {l = l} {S = T} {r = r} (gr.routine p) o h) = rw (test.routine_no_skip p r, test.routine_no_go p r, test.routine_no_goto p r, told.routine_seen p r) (a.reads p o h)
unit_awaits K S x (a.reads_node {l = l} {S = T} {r = r} gr.skip o h) = a.takes h
unit_awaits K S x (a.reads_node {l = l} {S = T} {r = r} gr.go_to o h) = a.takes (a.takes (a.takes h))
unit_awaits K S x (a.reads_node {l = l} {S = T} {r = r} gr.goto_ o h) = a.takes (a.takes h)
unit_awaits K S x (a.reads_node {l = l} {S = T} {r = r} (gr.tertiary p) o h) = rw (no_first set.begins_tertiary (Is t.Skip) refl (first.first_tertiary p r), no_first set.begins_tertiary (Is t.Go) refl (first.first_tertiary p r), no_first set.begins_tertiary (Is t.Goto) refl (first.first_tertiary p r), told.tertiary_unseen p r) (a.turns p (unit_tertiary o) (a.unit_stays o h))

pub unit_tail_awaits : (K0 : Shape) (K : Awaited) (S : List Layer) (x : List Sym) → fits g.UnitTail K0 S → awaits g.UnitTail K S x → all_await (units.unit_tail x) K S x
unit_tail_awaits K0 K S x (f.tails p ends) (a.unit_stays o h) = rw (no_next set.ends_unit (Is t.Becomes) refl o, no_next set.ends_unit (Is t.Is) refl o, no_next set.ends_unit (Is t.Isnt) refl o) h
unit_tail_awaits K0 K S x (f.tails p ends) (a.unit_rests (m.rest_becomes q) o h) = a.takes (a.reads_node q o h)
unit_tail_awaits K0 K S x (f.tails p ends) (a.unit_rests (m.rest_is q) o h) = a.takes (a.turns q (unit_tertiary o) h)
unit_tail_awaits K0 K S x (f.tails p ends) (a.unit_rests (m.rest_isnt q) o h) = a.takes (a.turns q (unit_tertiary o) h)

pub routine_awaits : (K : Awaited) (S : List Layer) (x : List Sym) → awaits g.Routine K S x → all_await (units.routine x) K S x
routine_awaits K S x (a.reads {l = l} {S = T} {r = r} (gr.routine_params p q) o h) = a.opened (a.reads p (next refl) (a.closed (a.reads q o (back K r l T _ _ h))))
routine_awaits K S x (a.reads {l = l} {S = T} {r = r} (gr.routine_plain q) o h) = rw (no_first set.begins_result (Opens b.Round) refl (first.first_result q r)) (a.reads q o h)

pub routine_result_awaits : (K : Awaited) (S : List Layer) (x : List Sym) → awaits g.RoutineResult K S x → all_await (units.routine_result x) K S x
routine_result_awaits K S x (a.reads {l = l} {S = T} {r = r} (gr.result {u = z} p q) o h) = rw (no_first set.begins_declarer (Is t.Void) refl (first.first_declarer p (Is t.Colon ∷ spells z r))) (a.reads_part_free p (a.takes (a.reads_node q o (back3 K r l T _ _ _ h))))
routine_result_awaits K S x (a.reads {l = l} {S = T} {r = r} (gr.result_void q) o h) = a.takes (a.takes (a.reads_node q o (back3 K r l T _ _ _ h)))

pub parameters_awaits : (K : Awaited) (S : List Layer) (x : List Sym) → awaits g.Parameters K S x → all_await units.parameters K S x
parameters_awaits K S x (a.reads {l = l} {S = T} {r = r} (gr.params p q) o h) = a.reads_part_free p (a.reads q o (back K r l T _ _ h))

pub parameter_tags_awaits : (K : Awaited) (S : List Layer) (x : List Sym) → awaits g.ParameterTags K S x → all_await units.parameter_tags K S x
parameter_tags_awaits K S x (a.reads {l = l} {S = T} {r = r} gr.tags_end o h) = a.takes (a.reads m.comma_end o (back K r l T _ _ h))
parameter_tags_awaits K S x (a.reads {l = l} {S = T} {r = r} (gr.tags_more p) o h) = a.takes (a.reads (m.comma_on (m.tags_again p)) o (back K r l T _ _ h))
parameter_tags_awaits K S x (a.reads {l = l} {S = T} {r = r} (gr.tags_next p) o h) = a.takes (a.reads (m.comma_on (m.params_again p)) o (back K r l T _ _ h))

pub parameter_tail_awaits : (K : Awaited) (S : List Layer) (x : List Sym) → awaits g.ParameterTail K S x → all_await (units.parameter_tail x) K S x
parameter_tail_awaits K S x (a.reads {l = l} {S = T} {r = r} m.comma_end o h) = rw (no_next set.closes (Is t.Comma) refl o) (stay K r l T h)
parameter_tail_awaits K S x (a.reads {l = l} {S = T} {r = r} (m.comma_on p) o h) = a.takes (a.reads p o (back K r l T _ _ h))

pub parameter_more_awaits : (K : Awaited) (S : List Layer) (x : List Sym) → awaits g.ParameterMore K S x → all_await (units.parameter_more x) K S x
parameter_more_awaits K S x (a.reads {l = l} {S = T} {r = r} (m.tags_again gr.tags_end) o h) = a.reads gr.tags_end o h
parameter_more_awaits K S x (a.reads {l = l} {S = T} {r = r} (m.tags_again (gr.tags_more p)) o h) = a.reads (gr.tags_more p) o h
parameter_more_awaits K S x (a.reads {l = l} {S = T} {r = r} (m.tags_again (gr.tags_next p)) o h) = a.reads (gr.tags_next p) o h
parameter_more_awaits K S x (a.reads {l = l} {S = T} {r = r} (m.params_again (gr.params {f = z} p q)) o h) = rw (no_first set.begins_declarer (Is t.Tag) refl (first.first_declarer p (spells z r))) (a.reads (gr.params p q) o h)

pub tertiary_awaits : (K0 : Shape) (K : Awaited) (S : List Layer) (x : List Sym) → fits g.Tertiary K0 S → awaits g.Tertiary K S x → all_await (units.tertiary x) K S x
tertiary_awaits K0 K S x (f.fresh ends) (a.turns {r = r} gr.nil o h) = a.takes h
tertiary_awaits K0 K S x (f.fresh ends) (a.turns {r = r} (gr.monadic gr.monadic_plus q) o h) = a.takes_sign gr.monadic_plus (a.reads q o h)
tertiary_awaits K0 K S x (f.fresh ends) (a.turns {r = r} (gr.monadic gr.monadic_minus q) o h) = a.takes_sign gr.monadic_minus (a.reads q o h)
tertiary_awaits K0 K S x (f.fresh ends) (a.turns {r = r} (gr.monadic gr.monadic_other q) o h) = a.takes_sign gr.monadic_other (a.reads q o h)
tertiary_awaits K0 K S x (f.fresh ends) (a.turns {r = r} (gr.dyadic {s = v} {f = z} p s q) o h) = rw (no_first set.begins_secondary (Is t.Nil) refl (first.first_secondary p (Is v ∷ spells z r)), test.not_monadic p (Is v ∷ spells z r)) (a.turns p (test.sign_follows s (spells z r)) (a.tertiary_rests s q o h))
tertiary_awaits K0 K S x (f.fresh ends) (a.turns {r = r} (gr.secondary p) o h) = rw (no_first set.begins_secondary (Is t.Nil) refl (first.first_secondary p r), test.not_monadic p r) (a.turns p (tertiary_secondary o) (a.tertiary_stays o h))

pub tertiary_tail_awaits : (K0 : Shape) (K : Awaited) (S : List Layer) (x : List Sym) → fits g.TertiaryTail K0 S → awaits g.TertiaryTail K S x → all_await (units.tertiary_tail x) K S x
tertiary_tail_awaits K0 K S x (f.tails p ends) (a.tertiary_stays o h) = rw (test.not_operator o) h
tertiary_tail_awaits K0 K S x (f.tails p ends) (a.tertiary_rests {f = z} {r = r} s q o h) = rw (test.operator_first s (spells z r)) (a.takes_sign s (a.reads q o h))

pub operands_awaits : (K : Awaited) (S : List Layer) (x : List Sym) → awaits g.Operands K S x → all_await (units.operands x) K S x
operands_awaits K S x (a.reads {l = l} {S = T} {r = r} (gr.operand_sign {f = z} s q) o h) = rw (test.monadic_first s (spells z r)) (a.takes_sign s (a.reads q o (back K r l T _ _ h)))
operands_awaits K S x (a.reads {l = l} {S = T} {r = r} (gr.operand_last p) o h) = rw (test.not_monadic p r) (a.turns p (tertiary_secondary o) (a.reads m.operands_end o (back K r l T _ _ h)))
operands_awaits K S x (a.reads {l = l} {S = T} {r = r} (gr.operand_next {s = v} {f = z} p s q) o h) = rw (test.not_monadic p (Is v ∷ spells z r)) (a.turns p (test.sign_follows s (spells z r)) (a.reads (m.operands_on s q) o (back K r l T _ _ h)))

pub operands_tail_awaits : (K : Awaited) (S : List Layer) (x : List Sym) → awaits g.OperandsTail K S x → all_await (units.operands_tail x) K S x
operands_tail_awaits K S x (a.reads {l = l} {S = T} {r = r} m.operands_end o h) = rw (test.not_operator o) (stay K r l T h)
operands_tail_awaits K S x (a.reads {l = l} {S = T} {r = r} (m.operands_on {f = z} s q) o h) = rw (test.operator_first s (spells z r)) (a.takes_sign s (a.reads q o (back K r l T _ _ h)))
