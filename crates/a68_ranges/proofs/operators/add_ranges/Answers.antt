use Rattle.std.proofs.Common.{◌≡◌, ◌∙◌, ℕ, length, sym, subst, arith}
use Rattle.a68_ranges.proofs.Filtering.{operators_more, operators_all}
use Rattle.a68_ranges.proofs.Taking.{some_one, is_there, read_is}
use Rattle.a68_ranges.specs.Definitions.{declared_in}
use Rattle.a68_ranges.specs.Tables.{at_sign, operators_named}
use Rattle.a68_ranges.proofs.operators.add_ranges.Goals as goal

pub loop-range-preserved : goal.loop-range-preserved
loop-range-preserved c =
    let tree = c.args.tree.now in
    let range = c.loop-range.range in
    let declared = c.args.declared.now in
    let list = c.index-declared-range.result in
    let each = c.requires.declared.each range (omega arith) in
    let is : c.items.result.now ≡ declared_in tree range =
    c.items.ensures ∙ some_one (sym (read_is declared range list list (is_there declared range (declared_in tree range) each) c.index-declared-range.is) ∙ each) in
    operators_more tree range c.loop-range.index.entries c.add_operators.new.index.entries c.loop-range.invariant
    (subst (λ list. (sign : ℕ) → at_sign c.add_operators.new.index.entries range sign ≡ operators_named tree sign list) is c.in_ok-add_operators.ensures.own)
    c.in_ok-add_operators.ensures.others

pub returns : goal.returns
returns c =
    let all : c.loop-range.range ≡ length c.args.tree.now.nodes = omega arith in
    operators_all c.args.tree.now c.loop-range.index.entries c.loop-range.range all c.loop-range.invariant
