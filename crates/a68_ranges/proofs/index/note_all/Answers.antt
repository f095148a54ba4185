use Rattle.std.proofs.Common.{◌≡◌, ◌∙◌, length, arith, subst, sym, ℕ}
use Rattle.a68_ranges.proofs.Indexing.{indexed_more, late_ranges}
use Rattle.a68_ranges.proofs.Taking.{some_one, is_there, read_is}
use Rattle.a68_ranges.specs.Definitions.{declared_in}
use Rattle.a68_ranges.specs.Indexed.{IsLeast, IsLateIn, IsLateBefore}
use Rattle.a68_ranges.specs.Tables.{at_key, first_named}
use Rattle.a68_ranges.proofs.index.note_all.Goals as goal

pub loop-range-preserved : goal.loop-range-preserved
loop-range-preserved c =
    let tree = c.args.tree.now in
    let sort = c.args.sort in
    let range = c.loop-range.range in
    let late = c.in_ok-note_list.field-0 in
    let declared = c.args.declared.now in
    let list = c.index-declared-range.result in
    let each = c.requires.declared.each range (omega arith) in
    let is : c.items-list.result.now ≡ declared_in tree range =
    c.items-list.ensures ∙ some_one (sym (read_is declared range list list (is_there declared range (declared_in tree range) each) c.index-declared-range.is) ∙ each) in
    record {
      indexed = indexed_more tree sort range c.loop-range.index.entries c.note_list.new.index.entries c.loop-range.invariant.indexed
          (subst (λ list. (name : ℕ) → at_key c.note_list.new.index.entries range name ≡ first_named tree sort name list) is c.in_ok-note_list.ensures.named)
          c.in_ok-note_list.ensures.others;
      least = rw c.earlier-late.ensures (late_ranges tree sort range c.loop-range.late late c.loop-range.invariant.least
          (subst (λ list. IsLeast tree (IsLateIn tree sort list (length list)) late) is c.in_ok-note_list.ensures.late));
    }

pub returns-clause-late : goal.returns-clause-late
returns-clause-late c =
    let all : c.loop-range.range ≡ length c.args.tree.now.nodes = omega arith in
    subst (λ k. IsLeast c.args.tree.now (IsLateBefore c.args.tree.now c.args.sort k) c.loop-range.late) all c.loop-range.invariant.least
