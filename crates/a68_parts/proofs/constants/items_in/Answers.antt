use Rattle.std.proofs.Common.{arith, eq-eqb, ne_eqb}
use Rattle.a68_parts.proofs.Quoting.{ended, past_quote, past_byte}
use Rattle.a68_parts.proofs.constants.items_in.Goals as goal
use Rattle.a68_parts.proofs.constants.items_in.Goals.{then-byte-eq34, else-byte-eq34}

pub loop-at-preserved : goal.loop-at-preserved
loop-at-preserved c =
    let text = c.args.text.now in
    let read = c.loop-at.items.items in
    let at = c.loop-at.at in
    elim c.if-byte-eq34.branch [
      | then-byte-eq34 w ↦ rw (w.at-is, c.in_ok-push.ensures.items) (omega arith, past_quote text read at c.loop-at.invariant.1 c.loop-at-test.true (eq-eqb _ _ w.if-byte-eq34.true))
      | else-byte-eq34 w ↦ rw (w.at-is, c.in_ok-push.ensures.items) (omega arith, past_byte text read at c.loop-at.invariant.1 c.loop-at-test.true (ne_eqb _ _ w.if-byte-eq34.false))
    ]

pub returns : goal.returns
returns c = ended c.args.text.now c.loop-at.items.items c.loop-at.at c.loop-at.invariant.1 c.loop-at-test.false
