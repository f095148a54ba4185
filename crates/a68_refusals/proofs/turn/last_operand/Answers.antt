use Rattle.std.proofs.Common.{◌≡◌, ◌∙◌, ◌-◌, ◌+◌, ap, sym, length, arith}
use Rattle.a68_refusals.proofs.Descending.{ends, stays, step}
use Rattle.a68_definitions.specs.Defined.{part_from_end}
use Rattle.a68_refusals.specs.Order.{is_formula, last_operand}
use Rattle.a68_refusals.proofs.turn.last_operand.Goals as goal

-- src/turn.rt:35:5
pub loop-init : goal.loop-init
loop-init c = let e : c.len-end.result - 0 ≡ length c.args.tree.now.nodes = (let w = c.len-end.ensures in omega arith) in ap (λ d. last_operand c.args.tree.now d c.args.node) e

-- src/turn.rt:37:13
pub returns-then-not-is_formula : goal.returns-then-not-is_formula
returns-then-not-is_formula c =
    sym (stays c.args.tree.now (c.len-end.result - c.loop.counter) c.loop.at (sym (ap is_formula c.kind_of.ensures) ∙ sym c.is_formula.ensures ∙ c.if-not-is_formula.true)) ∙ c.loop.invariant

-- src/turn.rt:35:5
pub loop-preserved : goal.loop-preserved
loop-preserved c =
    ap (last_operand c.args.tree.now (c.len-end.result - (c.loop.counter + 1))) (c.part_from_end-at.ensures ∙ ap (λ ps. part_from_end ps 1) c.parts_of.ensures.is)
    ∙ step c.args.tree.now c.len-end.result c.loop.counter c.loop.at c.loop-test.true (sym (ap is_formula c.kind_of.ensures) ∙ sym c.is_formula.ensures ∙ c.if-not-is_formula.false)
    ∙ c.loop.invariant

-- src/turn.rt:31:1
pub returns : goal.returns
returns c =
    let a = c.loop.auto.counter-end in
    let b = c.loop-test.false in
    let e : c.len-end.result ≡ c.loop.counter = omega arith in
    sym (ends c.args.tree.now c.len-end.result c.loop.counter c.loop.at e) ∙ c.loop.invariant
