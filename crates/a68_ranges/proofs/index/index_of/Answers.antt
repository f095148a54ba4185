use Rattle.a68_ranges.proofs.Indexing.{indexed_all}
use Rattle.a68_ranges.proofs.index.index_of.Goals as goal

pub returns-clause-first : goal.returns-clause-first
returns-clause-first c = indexed_all c.args.tree.now c.args.sort c.note_all.new.index.entries c.in_ok-late.ensures.indexed
