use Rattle.std.proofs.Common.{refl, length}
use Rattle.a68_partition.specs.Rounds.{HasRowKey}
use Rattle.a68_partition.proofs.RowKeys.{one}
use Rattle.a68_partition.proofs.Numbering.{complete}
use Rattle.a68_partition.proofs.rounds.round.Goals as goal

pub returns : goal.returns
returns c =
    let n = length c.args.rows.now in
    complete (HasRowKey c.args.rows.now c.args.classes.now) c.number_rows.new.table.entries c.number_rows.new.next.items n n (one c.args.rows.now c.args.classes.now) refl c.in_ok-number_rows.ensures
