use Rattle.std.proofs.Common.{◌≡◌, ◌+◌, ◌≤◌, length, take, drop}
use Rattle.std.specs.Vec.{vec_len, vec_capacity}
use Rattle.a68_store.proofs.room.move_values.Given as goal

abbrev pub invariant-loop-i : goal.invariant-loop-i
invariant-loop-i l = record {
  moved : l.kept.items ≡ take l.i (drop l.first l.fn.bound);
  rest : drop (l.first + l.i) l.bound ≡ drop (l.first + l.i) l.fn.bound;
  long : length l.bound ≡ length l.fn.bound;
  count : vec_len l.kept ≡ l.i;
  room : l.count ≤ vec_capacity l.kept;
}
