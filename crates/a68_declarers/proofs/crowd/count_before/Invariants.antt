use Rattle.std.proofs.Common.{◌≡◌, ◌≤◌}
use Rattle.a68_declarers.specs.Words.{declarers_before}
use Rattle.a68_declarers.proofs.crowd.count_before.Given as goal

abbrev pub invariant-loop-id : goal.invariant-loop-id
invariant-loop-id l = record {
  is : l.count ≡ declarers_before l.tree l.byte l.id;
  few : l.count ≤ l.id;
}
