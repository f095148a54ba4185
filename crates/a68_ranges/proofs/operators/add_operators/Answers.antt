use Rattle.std.proofs.Common.{◌∙◌, arith}
use Rattle.a68_ranges.proofs.Filtering.{added_more}
use Rattle.a68_ranges.proofs.Taking.{read}
use Rattle.a68_ranges.proofs.operators.add_operators.Goals as goal

pub loop-id-preserved : goal.loop-id-preserved
loop-id-preserved c =
    let i = c.loop-id.id-index in
    let step = added_more c.args.tree.now c.args.range c.args.list.now i _ c.loop-id.index.entries c.add_operator.new.index.entries (read c.args.list.now i 0 (omega arith)) c.loop-id.invariant.own c.in_ok-add_operator.ensures in
    record {
      own = step.own;
      others = λ r sign apart. step.others r sign apart ∙ c.loop-id.invariant.others r sign apart;
    }
