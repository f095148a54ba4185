use Rattle.std.proofs.Common.{◌≡◌, ◌≤◌, ◌^◌}
use Rattle.a68_declarers.specs.Numbers.{declarers}
use Rattle.a68_declarers.specs.Words.{declarers_before}
use Rattle.a68_declarers.proofs.crowd.count.Given as goal

abbrev pub invariant-loop-id : goal.invariant-loop-id
invariant-loop-id l = record {
  is : l.count ≡ declarers l.tree l.id;
  within : declarers_before l.tree (2 ^ 32) l.id ≡ l.count;
  few : l.count ≤ l.id;
}
