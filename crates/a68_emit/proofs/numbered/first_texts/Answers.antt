use Rattle.std.proofs.Common.{◌≡◌, ◌-◌, ◌+◌, ℕ, Some, arith, sym, ◌∙◌, subst}
use Rattle.a68_emit.proofs.Ordered.{all-before, firsts_more, firsts_same, set-long}
use Rattle.a68_emit.specs.Texts.{AreFirsts}
use Rattle.a68_emit.proofs.numbered.first_texts.Goals as goal

pub index_mut-requires : goal.index_mut-requires
index_mut-requires c =
    let less = all-before c.args.program.now.tree.nodes (c.loop-left.left - 1) c.node-node.result.now c.node-node.ensures.is in
    omega (arith, less, c.loop-left.invariant.0.long, c.loop-left.table.ok)

pub loop-left-preserved-then-is_routine_text : goal.loop-left-preserved-then-is_routine_text
loop-left-preserved-then-is_routine_text c =
    let a = c.args.program.now in
    let i = c.loop-left.left - 1 in
    let n = c.node-node.result.now in
    let table = c.loop-left.table.items in
    let next : c.loop-left.left ≡ i + 1 = omega (arith, c.loop-left-test.true) in
    let before : AreFirsts a (i + 1) table = subst (λ (k : ℕ). AreFirsts a k table) next c.loop-left.invariant.0 in
    let long = set-long table n.span.from (Some i) in
    (firsts_more a table i n c.node-node.ensures.is (sym c.is_routine_text.ensures ∙ c.if-is_routine_text.true) before, omega (arith, long, c.loop-left.invariant.1), omega (arith, c.loop-left.invariant.2))

pub loop-left-preserved : goal.loop-left-preserved
loop-left-preserved c =
    let a = c.args.program.now in
    let i = c.loop-left.left - 1 in
    let table = c.loop-left.table.items in
    let next : c.loop-left.left ≡ i + 1 = omega (arith, c.loop-left-test.true) in
    let before : AreFirsts a (i + 1) table = subst (λ (k : ℕ). AreFirsts a k table) next c.loop-left.invariant.0 in
    (firsts_same a table i c.node-node.result.now c.node-node.ensures.is (sym c.is_routine_text.ensures ∙ c.if-is_routine_text.false) before, c.loop-left.invariant.1, omega (arith, c.loop-left.invariant.2))
