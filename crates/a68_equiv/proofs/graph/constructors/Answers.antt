use Rattle.std.proofs.Common.{◌*◌, refl, length}
use Rattle.a68_equiv.specs.Graph.{HasCode}
use Rattle.a68_partition.proofs.Numbering.{complete}
use Rattle.a68_equiv.proofs.Graphing.{one_code}
use Rattle.a68_equiv.proofs.graph.constructors.Goals as goal

pub returns : goal.returns
returns c =
    let n = 2 * length c.args.modes.now in
    complete (HasCode c.args.modes.now) c.number_constructors.new.table.entries c.number_constructors.new.heads.items n n (one_code c.args.modes.now) refl c.in_ok-number_constructors.ensures
