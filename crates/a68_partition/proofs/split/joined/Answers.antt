use Rattle.std.proofs.Common.{refl, length}
use Rattle.a68_partition.proofs.Numbering.{complete}
use Rattle.a68_partition.proofs.Splitting.{PairKey, one_pair}
use Rattle.a68_partition.proofs.split.joined.Goals as goal

pub returns : goal.returns
returns c =
    let n = length c.args.heads.now in
    complete (PairKey c.args.heads.now c.args.classes.now) c.number_pairs.new.table.entries c.number_pairs.new.next.items n n (one_pair c.args.heads.now c.args.classes.now) refl c.in_ok-number_pairs.ensures
