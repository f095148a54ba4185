use Rattle.std.proofs.Common.{◌≡◌, ◌≤◌, length, take}
use Rattle.std.specs.Vec.{vec_capacity}
use Rattle.a68_values.proofs.value.+copy.Given as goal

abbrev pub invariant-Values::copy-loop-part : goal.invariant-Values::copy-loop-part
invariant-Values::copy-loop-part l = record {
  copied : l.items.items ≡ take l.part-index l.part-items;
  room : length l.part-items ≤ vec_capacity l.items;
}

abbrev pub invariant-add_structure-loop-part : goal.invariant-add_structure-loop-part
invariant-add_structure-loop-part l = record {
  copied : l.items.items ≡ take l.part-index l.part-items;
  room : length l.part-items ≤ vec_capacity l.items;
}
