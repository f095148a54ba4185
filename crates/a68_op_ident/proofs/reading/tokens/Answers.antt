use Rattle.std.proofs.Common.{◌+◌, ◌≤◌, arith, length}
use Rattle.std.proofs.lemmas.Option.{slice_get-get_or}
use Rattle.a68_op_ident.proofs.Parts.{read_first, read_more, read_stop, read_all, token_low}
use Rattle.a68_op_ident.proofs.reading.tokens.Goals as goal

pub loop-i-init : goal.loop-i-init
loop-i-init c = rw c.new-tokens.ensures.items (read_first c.args.nodes.now c.args.ranges.now c.args.parts.now c.args.formula c.requires.there)

pub loop-i-preserved : goal.loop-i-preserved
loop-i-preserved c =
    let at = slice_get-get_or c.args.parts.now c.loop-i.i 0 c.loop-i-test.true in
    rw (c.signs_of-from.ensures, c.is_operand-after_operand.ensures)
    (read_more c.loop-i.invariant _ c.in-Some.token c.push.new.self.items at c.in-Some.ensures.is c.in-Some.ensures.ranked c.in_ok-push.ensures.items)

pub overflow_add-from-in-loop-i : goal.overflow_add-from-in-loop-i
overflow_add-from-in-loop-i c =
    let low = token_low c.args.nodes.now c.loop-i.from c.loop-i.after_operand _ c.in-Some.token c.in-Some.ensures.is c.loop-i.invariant.low in
    let fits : c.loop-i.from + c.signs_of-from.result ≤ length c.args.nodes.now = rw c.signs_of-from.ensures low in
    omega (arith, c.requires.few)

pub returns-in_default-clause-none : goal.returns-in_default-clause-none
returns-in_default-clause-none c =
    read_stop c.loop-i.invariant _ (slice_get-get_or c.args.parts.now c.loop-i.i 0 c.loop-i-test.true) c.in_default.ensures.none

pub returns-then-after_operand-clause-reads : goal.returns-then-after_operand-clause-reads
returns-then-after_operand-clause-reads c = read_all c.loop-i.invariant (omega (arith, c.loop-i-test.false, c.loop-i.auto.i-end)) c.if-after_operand.true
