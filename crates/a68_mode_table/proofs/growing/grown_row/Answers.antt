use Rattle.std.proofs.Common.{◌≡◌, ◌<◌, ◌∙◌, false, length, get_or, sym, subst, arith}
use Rattle.std.proofs.lemmas.List.{get_or_default}
use Rattle.a68_declare.specs.Clean.{IsNode}
use Rattle.a68_equiv.specs.Related.{without_flex}
use Rattle.a68_mode_table.proofs.Joining.{row_itself, row_twin, row_within}
use Rattle.a68_mode_table.proofs.Once.{node_kept, shape_keeps}
use Rattle.a68_modes.specs.declared.shape.Shape.TheVariants.{Rows}
use Rattle.a68_mode_table.proofs.growing.grown_row.Goals as goal

pub grown-requires-clause-twin : goal.grown-requires-clause-twin
grown-requires-clause-twin c =
    let long = c.requires.table.fixed_are.long in
    let lt : c.args.of < length c.args.fixed.now.items = omega arith in
    let is : c.index-of_fixed.result.now ≡ get_or c.args.fixed.now.items c.args.of 0 = c.index-of_fixed.ensures ∙ get_or_default c.args.fixed.now.items c.args.of _ 0 lt in
    let element = subst (IsNode c.args.modes.now (without_flex c.args.of)) (sym is) (c.requires.table.fixed_are.each c.args.of c.requires.of) in
    rw c.len-count.ensures.length (row_itself c.args.modes.now c.requires.table.sound c.args.dims c.args.of c.index-of_fixed.result.now c.requires.of element)

pub grown-requires-2-clause-twin : goal.grown-requires-2-clause-twin
grown-requires-2-clause-twin c =
    let long = c.requires.table.fixed_are.long in
    let lt : c.args.of < length c.args.fixed.now.items = omega arith in
    let plain = c.index-of_fixed.result.now in
    let is : plain ≡ get_or c.args.fixed.now.items c.args.of 0 = c.index-of_fixed.ensures ∙ get_or_default c.args.fixed.now.items c.args.of _ 0 lt in
    let element = subst (IsNode c.args.modes.now (without_flex c.args.of)) (sym is) (c.requires.table.fixed_are.each c.args.of c.requires.of) in
    let keeps = shape_keeps c.args.modes.now c.grown.new.modes (Rows c.args.dims false plain) c.in_ok-twin.twin c.in_ok-twin.ensures.interned in
    let longer = keeps.longer in
    let there : c.args.of < length c.grown.new.modes = omega arith in
    let stays = node_kept c.args.modes.now c.grown.new.modes (Rows c.args.dims false plain) c.in_ok-twin.twin c.requires.table.sound (row_within c.args.modes.now c.requires.table.sound c.args.dims false plain element.there) tt c.in_ok-twin.ensures.interned
    (without_flex c.args.of) plain c.requires.of element in
    row_twin c.grown.new.modes c.in_ok-twin.ensures.table.sound c.args.dims c.args.flex c.args.of plain c.in_ok-twin.twin there stays keeps.there keeps.is

pub returns-clause-interned : goal.returns-clause-interned
returns-clause-interned c =
    let long = c.requires.table.fixed_are.long in
    let lt : c.args.of < length c.args.fixed.now.items = omega arith in
    let is : c.index-of_fixed.result.now ≡ get_or c.args.fixed.now.items c.args.of 0 = c.index-of_fixed.ensures ∙ get_or_default c.args.fixed.now.items c.args.of _ 0 lt in
    record {
      fixed_element = c.index-of_fixed.result.now;
      element_is = subst (IsNode c.args.modes.now (without_flex c.args.of)) (sym is) (c.requires.table.fixed_are.each c.args.of c.requires.of);
      between = c.grown.new.modes;
      fixed = c.in_ok-twin.twin;
      fixed_is = c.in_ok-twin.ensures.interned;
      is = c.in_ok-row.ensures.interned;
    }
