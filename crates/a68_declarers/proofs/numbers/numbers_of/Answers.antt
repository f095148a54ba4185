use Rattle.std.proofs.Common.{◌≡◌, ◌∙◌, length, arith, sym, true, false}
use Rattle.a68_declarers.proofs.Counting.{numbers_more, numbers_all, declarers_grow}
use Rattle.a68_declarers.proofs.numbers.numbers_of.Goals as goal
use Rattle.a68_declarers.proofs.numbers.numbers_of.Goals.{then-is_declarer, else-is_declarer}

pub overflow_add-next : goal.overflow_add-next
overflow_add-next c =
    let tree = c.args.tree.now in
    let few = c.requires in
    let grow = declarers_grow tree c.loop-id.id (length tree.nodes) (omega arith) in
    let is = c.loop-id.invariant.next_is in
    omega arith

pub loop-id-preserved : goal.loop-id-preserved
loop-id-preserved c =
    let tree = c.args.tree.now in
    let i = c.loop-id.id in
    let inv = c.loop-id.invariant in
    let grow = declarers_grow tree i (length tree.nodes) (omega arith) in
    let few = c.requires in
    elim c.if-is_declarer.branch [
      | then-is_declarer w ↦
          let m = numbers_more tree c.loop-id.items.items i c.loop-id.next c.if-is_declarer.number c.if-is_declarer.next true (sym c.is_declarer.ensures ∙ w.if-is_declarer.true) inv.long inv.next_is inv.each inv.small (omega arith) w.number-is w.next-is in
          rw c.in_ok-push.ensures.items (record { long = m.long; next_is = m.next_is; each = m.each; small = m.small })
      | else-is_declarer w ↦
          let m = numbers_more tree c.loop-id.items.items i c.loop-id.next c.if-is_declarer.number c.if-is_declarer.next false (sym c.is_declarer.ensures ∙ w.if-is_declarer.false) inv.long inv.next_is inv.each inv.small (omega arith) w.number-is w.next-is in
          rw c.in_ok-push.ensures.items (record { long = m.long; next_is = m.next_is; each = m.each; small = m.small })
    ]

pub returns : goal.returns
returns c =
    let all : c.loop-id.id ≡ length c.args.tree.now.nodes = omega arith in
    numbers_all c.args.tree.now c.loop-id.items.items (c.loop-id.invariant.long ∙ all) (λ d h. c.loop-id.invariant.each d (omega arith))
