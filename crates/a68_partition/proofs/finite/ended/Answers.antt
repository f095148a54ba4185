use Rattle.a68_partition.proofs.Ending.{none_settled}
use Rattle.a68_partition.proofs.finite.ended.Goals as goal

pub walk_all-requires-clause-ended : goal.walk_all-requires-clause-ended
walk_all-requires-clause-ended c = none_settled c.args.heads.now c.args.rows.now c.new-table.result.entries c.in_ok-classes.classes.items c.new-table.ensures.empty (c.in_ok-classes.ensures.items_if_clones_equal (λ y e. cc))

pub returns : goal.returns
returns c = (c.walk_all.new.table.entries, c.in_ok-walk_all.ensures)
