-- Where a goal stands for what is at the front of a text, so do the goals that it is made of: secondaries and primaries.
use Rattle.std.proofs.Common.{List, [], ◌∷◌, refl}
use Rattle.a68_tree.specs.declared.kind.NodeKind.{NodeKind}
use Rattle.a68_symbols.specs.declared.sym.Token.TheVariants as t
use Rattle.a68_symbols.specs.declared.sym.Bracket.TheVariants as b
use Rattle.a68_symbols.specs.declared.sym.Sym.{Sym}
use Rattle.a68_symbols.specs.declared.sym.Sym.TheVariants.{Opens, Closes, Is}
use Rattle.a68_tree.specs.Forest.{Forest, end, part, spells}
use Rattle.a68_tree.specs.Grammar as gr
use Rattle.a68_nodes.specs.Stack.{Layer, node}
use Rattle.a68_lookahead.specs.Symbols.{Follows, next}
use Rattle.a68_lookahead.specs.Sets as set
use Rattle.a68_lookahead.proofs.Firsts as first
use Rattle.a68_lookahead.proofs.Firsts.{no_first, no_next, no_first_pair, clause_unit, closes_clause, closes_unit, unit_tertiary, tertiary_secondary, secondary_base, definition_unit, declaration_definition}
use Rattle.a68_unit_productions.specs.declared.goal.Goal.TheVariants as g
use Rattle.a68_read.specs.Middles as m
use Rattle.a68_read.specs.Fits as f
use Rattle.a68_read.specs.Fits.{Shape, fits}
use Rattle.a68_read.specs.Awaits as a
use Rattle.a68_read.specs.Awaits.{Awaited, awaits, all_await}
use Rattle.a68_unit_productions.specs.Primaries as primaries
use Rattle.a68_read.proofs.Pieces.{back, back3, stay}
use Rattle.a68_read.proofs.Tests as test

-- a primary by its base, and what stands behind that
unwound : (K : Awaited) (S : List Layer) {j : NodeKind} {u : Forest} → gr.IsPrimary j u → (r : List Sym) → Follows set.ends_base r → a.AwaitsPrimaryTail K (node (part j u end) ∷ S) r
    → a.Turns m.IsBase set.ends_base (all_await (g.PrimaryTail ∷ []) K) (node end ∷ S) (spells u r)
unwound K S (gr.slice {i = i} p l) r o h = unwound K S p (Opens b.Square ∷ spells i (Closes b.Square ∷ r)) (next refl) (a.primary_slice l h)
unwound K S (gr.call {f = y} p l) r o h = unwound K S p (Opens b.Round ∷ spells y (Closes b.Round ∷ r)) (next refl) (a.primary_call l h)
unwound K S (gr.cast p q) r o h = a.turns (m.base_cast p q) o h
unwound K S (gr.cast_void p) r o h = a.turns (m.base_cast_void p) o h
unwound K S gr.tag r o h = a.turns m.base_tag o h
unwound K S (gr.denotation p) r o h = a.turns (m.base_denotation p) o h
unwound K S (gr.long_denotation p) r o h = a.turns (m.base_long_denotation p) o h
unwound K S (gr.enclosed p) r o h = a.turns (m.base_enclosed p) o h

pub secondary_awaits : (K0 : Shape) (K : Awaited) (S : List Layer) (x : List Sym) → fits g.Secondary K0 S → awaits g.Secondary K S x → all_await (primaries.secondary x) K S x
secondary_awaits K0 K S x (f.fresh {S = T} ends) (a.turns {r = r} (gr.selection p) o h) = a.takes (a.takes (a.turns p o h))
secondary_awaits K0 K S x (f.fresh {S = T} ends) (a.turns {r = r} (gr.generator_loc p) o h) = a.takes (a.reads_part_free p h)
secondary_awaits K0 K S x (f.fresh {S = T} ends) (a.turns {r = r} (gr.generator_heap p) o h) = a.takes (a.reads_part_free p h)
secondary_awaits K0 K S x (f.fresh {S = T} ends) (a.turns {r = r} (gr.primary p) o h) = rw (test.no_selection p r (secondary_base o), no_first set.begins_base (Is t.Loc) refl (first.first_primary p r), no_first set.begins_base (Is t.Heap) refl (first.first_primary p r)) (unwound K T p r (secondary_base o) (a.primary_stays o h))

pub base_awaits : (K0 : Shape) (K : Awaited) (S : List Layer) (x : List Sym) → fits g.Base K0 S → awaits g.Base K S x → all_await (primaries.base x) K S x
base_awaits K0 K S x (f.fresh ends) (a.turns {r = r} m.base_tag o h) = a.takes h
base_awaits K0 K S x (f.fresh ends) (a.turns {r = r} (m.base_denotation gr.denotation_digit) o h) = a.takes_mark gr.denotation_digit h
base_awaits K0 K S x (f.fresh ends) (a.turns {r = r} (m.base_denotation gr.denotation_number) o h) = a.takes_mark gr.denotation_number h
base_awaits K0 K S x (f.fresh ends) (a.turns {r = r} (m.base_denotation gr.denotation_bits) o h) = a.takes_mark gr.denotation_bits h
base_awaits K0 K S x (f.fresh ends) (a.turns {r = r} (m.base_denotation gr.denotation_quoted) o h) = a.takes_mark gr.denotation_quoted h
base_awaits K0 K S x (f.fresh ends) (a.turns {r = r} (m.base_denotation gr.denotation_true) o h) = a.takes_mark gr.denotation_true h
base_awaits K0 K S x (f.fresh ends) (a.turns {r = r} (m.base_denotation gr.denotation_false) o h) = a.takes_mark gr.denotation_false h
base_awaits K0 K S x (f.fresh ends) (a.turns {r = r} (m.base_long_denotation gr.number_digit) o h) = a.takes (a.takes h)
base_awaits K0 K S x (f.fresh ends) (a.turns {r = r} (m.base_long_denotation gr.number_other) o h) = a.takes (a.takes h)
base_awaits K0 K S x (f.fresh ends) (a.turns {r = r} (m.base_cast_void p) o h) = a.takes (a.turns_free p h)
base_awaits K0 K S x (f.fresh ends) (a.turns {r = r} (m.base_cast {u = z} p q) o h) = rw (no_first set.begins_declarer (Is t.Tag) refl (first.first_declarer p (spells z r)), test.declarer_no_denotation p (spells z r), test.declarer_no_long p gr.number_digit (spells z r), test.declarer_no_long p gr.number_other (spells z r), no_first set.begins_declarer (Is t.Void) refl (first.first_declarer p (spells z r)), test.declarer_first p (spells z r)) (a.reads_part_free p (a.turns_free q h))
base_awaits K0 K S x (f.fresh ends) (a.turns {r = r} (m.base_enclosed p) o h) = rw (no_first set.begins_enclosed (Is t.Tag) refl (first.first_enclosed p r), test.enclosed_no_denotation p r, test.enclosed_no_long p (Is t.Digit) r, test.enclosed_no_long p (Is t.Number) r, no_first set.begins_enclosed (Is t.Void) refl (first.first_enclosed p r), test.enclosed_no_declarer p r) (a.turns_free p h)

pub primary_tail_awaits : (K0 : Shape) (K : Awaited) (S : List Layer) (x : List Sym) → fits g.PrimaryTail K0 S → awaits g.PrimaryTail K S x → all_await (primaries.primary_tail x) K S x
primary_tail_awaits K0 K S x (f.tails p ends) (a.primary_stays o h) = rw (no_next set.ends_secondary (Opens b.Square) refl o, no_next set.ends_secondary (Opens b.Round) refl o) h
primary_tail_awaits K0 K S x (f.tails p ends) (a.primary_slice l h) = a.opened (a.reads_square l (a.closed h))
primary_tail_awaits K0 K S x (f.tails p ends) (a.primary_call l h) = a.opened (a.reads l (next refl) (a.closed h))

pub indexes_awaits : (K : Awaited) (S : List Layer) (x : List Sym) → awaits g.Indexes K S x → all_await primaries.indexes K S x
indexes_awaits K S x (a.reads_square {l = l} {S = T} {r = r} (gr.index_one p) h) = a.reads_place p a.place_closes (a.reads_square m.comma_end (back K (Closes b.Square ∷ r) l T _ _ h))
indexes_awaits K S x (a.reads_square {l = l} {S = T} {r = r} (gr.index_more p q) h) = a.reads_place p a.place_comma (a.reads_square (m.comma_on q) (back K (Closes b.Square ∷ r) l T _ _ h))

pub indexes_tail_awaits : (K : Awaited) (S : List Layer) (x : List Sym) → awaits g.IndexesTail K S x → all_await (primaries.indexes_tail x) K S x
indexes_tail_awaits K S x (a.reads_square {l = l} {S = T} {r = r} m.comma_end h) = stay K (Closes b.Square ∷ r) l T h
indexes_tail_awaits K S x (a.reads_square {l = l} {S = T} {r = r} (m.comma_on q) h) = a.takes (a.reads_square q (back K (Closes b.Square ∷ r) l T _ _ h))

pub index_awaits : (K : Awaited) (S : List Layer) (x : List Sym) → awaits g.Index K S x → all_await (primaries.index x) K S x
index_awaits K S x (a.reads_place {l = l} {S = T} {r = r} (gr.index_unit p) o h) = rw (no_first set.begins_unit (Is t.Colon) refl (first.first_unit p r), test.unit_no_trimmer p r) (a.reads_node p (test.place_unit o) (a.index_stays o h))
index_awaits K S x (a.reads_place {l = l} {S = T} {r = r} (gr.index_from {f = z} p q) o h) = rw (no_first set.begins_unit (Is t.Colon) refl (first.first_unit p (Is t.Colon ∷ spells z r)), test.unit_no_trimmer p (Is t.Colon ∷ spells z r)) (a.reads_node p (next refl) (a.index_rests q o h))
index_awaits K S x (a.reads_place {l = l} {S = T} {r = r} (gr.index_colon q) o h) = a.takes (a.reads_place q o (back K r l T _ _ h))
index_awaits K S x (a.reads_place {l = l} {S = T} {r = r} (gr.index_at (gr.at_ p)) o h) = a.reads_place (gr.at_ p) o h
index_awaits K S x (a.reads_place {l = l} {S = T} (gr.index_at gr.no_at) a.place_comma h) = a.reads_place gr.no_at a.place_comma h
index_awaits K S x (a.reads_place {l = l} {S = T} (gr.index_at gr.no_at) a.place_closes h) = a.reads_place gr.no_at a.place_closes h

pub index_tail_awaits : (K0 : Shape) (K : Awaited) (S : List Layer) (x : List Sym) → fits g.IndexTail K0 S → awaits g.IndexTail K S x → all_await (primaries.index_tail x) K S x
index_tail_awaits K0 K S x (f.tails_list p ends) (a.index_stays a.place_comma h) = h
index_tail_awaits K0 K S x (f.tails_list p ends) (a.index_stays a.place_closes h) = h
index_tail_awaits K0 K S x (f.tails_list {l = l} {S = T} p ends) (a.index_rests {r = r} q o h) = a.takes (a.reads_place q o (back3 K r l T _ _ _ h))

pub trimmer_awaits : (K : Awaited) (S : List Layer) (x : List Sym) → awaits g.Trimmer K S x → all_await (primaries.trimmer x) K S x
trimmer_awaits K S x (a.reads_place {l = l} {S = T} {r = r} (gr.trimmer_upper {f = z} p q) o h) = rw (test.unit_no_trimmer p (spells z r)) (a.reads_node p (test.at_unit q o) (a.reads_place q o (back K r l T _ _ h)))
trimmer_awaits K S x (a.reads_place {l = l} {S = T} {r = r} (gr.trimmer_open (gr.at_ p)) o h) = a.reads_place (gr.at_ p) o h
trimmer_awaits K S x (a.reads_place {l = l} {S = T} (gr.trimmer_open gr.no_at) a.place_comma h) = a.reads_place gr.no_at a.place_comma h
trimmer_awaits K S x (a.reads_place {l = l} {S = T} (gr.trimmer_open gr.no_at) a.place_closes h) = a.reads_place gr.no_at a.place_closes h

pub at_part_awaits : (K : Awaited) (S : List Layer) (x : List Sym) → awaits g.AtPart K S x → all_await (primaries.at_part x) K S x
at_part_awaits K S x (a.reads_place {l = l} {S = T} {r = r} (gr.at_ p) o h) = a.takes (a.reads_node p (test.place_unit o) (back K r l T _ _ h))
at_part_awaits K S x (a.reads_place {l = l} {S = T} gr.no_at (a.place_comma {r = r}) h) = stay K (Is t.Comma ∷ r) l T h
at_part_awaits K S x (a.reads_place {l = l} {S = T} gr.no_at (a.place_closes {r = r}) h) = stay K (Closes b.Square ∷ r) l T h
