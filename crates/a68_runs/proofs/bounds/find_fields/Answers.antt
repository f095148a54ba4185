use Rattle.std.proofs.Common.{refl, arith}
use Rattle.a68_runs.proofs.Opening.{field_step, look_step}
use Rattle.a68_runs.proofs.bounds.find_fields.Goals as goal

pub loop-part-preserved : goal.loop-part-preserved
loop-part-preserved c =
    let a = c.args.program.now in (
      field_step a c.args.depth c.args.frames c.args.parts.now c.loop-part.part-index _ (omega arith) refl c.loop-part.last c.loop-part.found.items _ _ _ refl c.in_ok-add_last.ensures c.next_last-last.ensures c.loop-part.invariant.0,
      look_step a c.args.depth c.args.frames c.args.parts.now c.loop-part.part-index _ (omega arith) refl c.loop-part.last c.loop-part.found.items _ _ _ refl c.in_ok-add_last.ensures c.next_last-last.ensures c.loop-part.invariant.1,
    )
