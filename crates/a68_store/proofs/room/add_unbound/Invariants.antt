use Rattle.std.proofs.Common.{◌≡◌, ◌++◌, ◌+◌, ◌≤◌}
use Rattle.std.specs.Prelude.{None, replicate}
use Rattle.std.specs.Vec.{vec_len, vec_capacity}
use Rattle.a68_store.proofs.room.add_unbound.Given as goal

abbrev pub invariant-loop : goal.invariant-loop
invariant-loop l = record {
  items : l.bound.items ≡ l.fn.bound.items ++ replicate l.counter None;
  room : vec_len l.bound + l.slots ≤ vec_capacity l.bound + l.counter;
}
