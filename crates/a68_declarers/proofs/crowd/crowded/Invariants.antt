use Rattle.std.proofs.Common.{◌<◌, ◌≤◌, ◌-◌, ◌^◌, length}
use Rattle.a68_declarers.specs.Words.{declarers_before}
use Rattle.a68_declarers.proofs.crowd.crowded.Given as goal

abbrev pub invariant-halves : goal.invariant-halves
invariant-halves l = record {
  order : l.low < l.high;
  most : l.high ≤ 2 ^ 32;
  before : declarers_before l.tree l.low (length l.tree.nodes) ≤ 4096;
  behind : 4096 < declarers_before l.tree l.high (length l.tree.nodes);
}

abbrev pub decreases-halves : goal.decreases-halves
decreases-halves l = l.high - l.low
