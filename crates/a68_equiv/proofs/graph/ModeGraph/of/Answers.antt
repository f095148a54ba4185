use Rattle.a68_equiv.proofs.Graphing.{graph, wired}
use Rattle.a68_equiv.proofs.graph.ModeGraph.of.Goals as goal

pub returns : goal.returns
returns c = record {
  graph = graph c.args.modes.now c.in_ok-heads.heads.items c.in_ok-rows.rows.items c.in_ok-heads.ensures c.in_ok-rows.ensures.rows;
  behind = c.in_ok-behind.ensures;
  wired = wired c.args.modes.now c.in_ok-heads.heads.items c.in_ok-rows.rows.items c.in_ok-heads.ensures c.in_ok-rows.ensures.rows;
  few = c.in_ok-rows.ensures.few;
}
