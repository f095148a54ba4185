use Rattle.std.proofs.Common.{◌≡◌, ◌-◌, ◌+◌, ℕ, drop, length, get_or, Some, slice_get, arith, subst}
use Rattle.a68_emit.proofs.Entering.{get-index}
use Rattle.a68_emit.proofs.Ordered.{all-before, units_more}
use Rattle.a68_emit.proofs.numbered.note_all.Goals as goal
use Rattle.a68_emit.specs.Texts.{AreFirstUnits}
use Rattle.a68_parts.proofs.Between.{between-each}

pub node-requires : goal.node-requires
node-requires c =
    (between-each c.args.id (length c.args.program.now.tree.nodes) (c.loop-left.left - 1) c.args.parts.now c.requires.between (omega (arith, c.loop-left.invariant.1, c.loop-left-test.true))).1

pub bounds-table-from : goal.bounds-table-from
bounds-table-from c =
    let p = get_or c.args.parts.now (c.loop-left.left - 1) 0 in
    let less = all-before c.args.program.now.tree.nodes p c.node.result.now c.node.ensures.is in
    omega (arith, less, c.loop-left.invariant.0.long)

pub loop-left-preserved : goal.loop-left-preserved
loop-left-preserved c =
    let a = c.args.program.now in
    let parts = c.args.parts.now in
    let j = c.loop-left.left - 1 in
    let p = get_or parts j 0 in
    let next : c.loop-left.left ≡ j + 1 = omega (arith, c.loop-left-test.true) in
    let there : slice_get parts j ≡ Some p = get-index parts j (omega (arith, c.loop-left.invariant.1, c.loop-left-test.true)) in
    let before : AreFirstUnits a c.args.place (drop (j + 1) parts) (c.args.id + 1) c.loop-left.table =
    subst (λ (k : ℕ). AreFirstUnits a c.args.place (drop k parts) (c.args.id + 1) c.loop-left.table) next c.loop-left.invariant.0 in
    (units_more a c.args.place (c.args.id + 1) j p parts c.node.result.now c.loop-left.table c.node.ensures.is there before, omega (arith, c.loop-left.invariant.1))
