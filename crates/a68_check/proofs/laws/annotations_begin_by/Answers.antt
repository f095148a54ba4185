use Rattle.a68_check.proofs.Beginning.{refused_by, annotated_by}
use Rattle.a68_check.proofs.laws.annotations_begin_by.Goals as goal

pub returns : goal.returns
returns c = record {
  refused = refused_by c.meanings_begin_by.ensures c.shaped_trees_begin_alike.ensures;
  nodes = annotated_by c.meanings_begin_by.ensures c.shaped_trees_begin_alike.ensures;
}
