use Rattle.std.proofs.Common.{arith}
use Rattle.a68_emit.proofs.Seating.{all_labels, before_more, before_none}
use Rattle.a68_emit.proofs.labels.clause_labels.Goals as goal

pub loop-id-init : goal.loop-id-init
loop-id-init c = before_none c.args.program.now _ c.new-known.ensures.empty

pub loop-id-preserved : goal.loop-id-preserved
loop-id-preserved c = before_more c.args.program.now c.loop-id.id c.parts.result.now c.loop-id.known.keys _ c.parts.ensures.is c.loop-id.invariant c.in_ok-note_labels.ensures

pub returns : goal.returns
returns c = all_labels c.args.program.now c.loop-id.id c.loop-id.known.keys (omega arith) c.loop-id.invariant
