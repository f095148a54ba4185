use Rattle.std.proofs.Common.{◌≡◌, ◌+◌, ◌-◌, ◌^◌, ◌≤◌, min, drop}
use Rattle.a68_acts.specs.Store.{all_parts}
use Rattle.a68_values.specs.Content.{contents_of}
use Rattle.a68_store.proofs.weight.+weight.Given as goal

abbrev pub invariant-weight_of_all-loop-part : goal.invariant-weight_of_all-loop-part
invariant-weight_of_all-loop-part l = record {
  fits : l.all ≤ 2 ^ 64 - 1;
  sum : min (l.all + all_parts (contents_of (drop l.part-index l.part-items))) (2 ^ 64 - 1) ≡ min (all_parts (contents_of l.part-items)) (2 ^ 64 - 1);
}
